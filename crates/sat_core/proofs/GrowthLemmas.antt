-- How propagation grows a trail.
use Rattle.std.proofs.Common.{◌≡◌, ℕ, List, [], ◌∷◌, ◌++◌, sym, ap, subst, ◌∙◌, append_assoc}
use Rattle.std.proofs.lemmas.List.{append-nil}
use Rattle.sat_cnf.specs.declared.lit.Lit.{Lit}
use Rattle.sat_proof.specs.Refutations.{held_with}
use Rattle.sat_core.specs.declared.entry.Entry.{Entry}
use Rattle.sat_core.specs.Searching.{ArePropagated, State, held_in}
use Rattle.sat_core.specs.Walking.{Grows, Waits}

-- what is propagated one after the other

pub propagated-append : (held : List (List Lit)) (before more behind : List Entry)
    → ArePropagated held before more → ArePropagated held (before ++ more) behind → ArePropagated held before (more ++ behind)
propagated-append held before [] behind p q = subst (λ l. ArePropagated held l behind) (append-nil before) q
propagated-append held before (entry ∷ more) behind p q =
    (p.0, p.1, propagated-append held (before ++ entry ∷ []) more behind p.2 (subst (λ l. ArePropagated held l behind) (sym (append_assoc before (entry ∷ []) more)) q))

pub held-same : (old new : State) → Grows old new → held_in new ≡ held_in old
held-same old new g = λ i. held_with (g.clauses_same i) (g.steps_same i)

pub grows-then : (a b c : State) → Grows a b → Grows b c → Grows a c
grows-then a b c g h = record {
  vars_same = h.vars_same ∙ g.vars_same;
  clauses_same = h.clauses_same ∙ g.clauses_same;
  steps_same = h.steps_same ∙ g.steps_same;
  more = g.more ++ h.more;
  trail_is = h.trail_is ∙ ap (λ l. l ++ h.more) g.trail_is ∙ append_assoc a.trail g.more h.more;
  propagated = propagated-append (held_in a) a.trail g.more h.more g.propagated
      (subst (λ held. ArePropagated held (a.trail ++ g.more) h.more) (held-same a b g) (subst (λ l. ArePropagated (held_in b) l h.more) g.trail_is h.propagated));
}

pub waits-then : (a b c : State) → Waits a b → Waits b c → Waits a c
waits-then a b c g h = record {
  gone_same = h.gone_same ∙ g.gone_same;
  begun_same = h.begun_same ∙ g.begun_same;
  phase_same = h.phase_same ∙ g.phase_same;
}

pub grows-gone : (old new : State) (gone : ℕ) → Grows old new → Grows old (record new { gone = gone })
grows-gone old new gone g = record {
  vars_same = g.vars_same;
  clauses_same = g.clauses_same;
  steps_same = g.steps_same;
  more = g.more;
  trail_is = g.trail_is;
  propagated = g.propagated;
}
