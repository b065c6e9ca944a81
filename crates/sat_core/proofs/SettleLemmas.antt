-- Clauses of one literal, before anything was decided.
use Rattle.std.proofs.Common.{◌≡◌, ◌≢◌, ℕ, ◌+◌, ◌<◌, Bool, true, false, List, [], ◌∷◌, ◌++◌, length, get_or, Some, None, Contains, MatchBool, refl, sym, ap, subst, ◌∙◌, inl, ⊎_elim, arith}
use Rattle.std.proofs.lemmas.Bool.{cases_lt}
use Rattle.std.proofs.lemmas.List.Elements.{Contains-get_or, Contains-push}
use Rattle.sat_cnf.specs.declared.lit.Lit.{Lit}
use Rattle.sat_proof.specs.Propagation.{IsFalse, IsUnit}
use Rattle.sat_proof.specs.Refutations.{hinted}
use Rattle.sat_core.specs.declared.entry.Entry.{Entry}
use Rattle.sat_core.specs.Trails.{IsValueOf, lits_of}
use Rattle.sat_core.specs.Watching.{IsPairOf}
use Rattle.sat_core.specs.Searching.{IsSearch, IsSettled, State, held_in}
use Rattle.sat_core.specs.Walking.{Grows, IsStruck}
use Rattle.sat_core.proofs.KnownLemmas.{undecided-from_none}
use Rattle.sat_core.proofs.TrailLemmas.{IsTrueUnder-append}
use Rattle.sat_core.proofs.EntryLemmas.{true-under-none}
use Rattle.sat_core.proofs.GrowthLemmas.{held-same}
use Rattle.sat_core.proofs.PropagationLemmas.{implied}

-- a clause of one literal, before anything was decided
module _ (s : State) (is : IsSearch s) (begun : s.begun ≡ false) (number : ℕ) (below : number < length (held_in s)) (single : get_or s.pairs number None ≡ None) where
  all-one : (lit other : Lit) → Contains (hinted (held_in s) number) lit → Contains (hinted (held_in s) number) other → lit ≡ other
  all-one = subst (IsPairOf (hinted (held_in s) number)) single (is.watched.two number below)

  pub settled-by : (lit : Lit) → Contains (hinted (held_in s) number) lit → (value : Bool) → IsValueOf (lits_of s.trail) lit (Some value)
      → MatchBool value (IsSettled s.trail (hinted (held_in s) number)) (IsStruck s number)
  settled-by lit has true v = (lit, has, true-under-none s.trail lit (is.waiting begun) (v.when_true.0 refl))
  settled-by lit has false v = (
    below,
    (λ k d h. subst (IsFalse (lits_of s.trail)) (all-one lit (get_or (hinted (held_in s) number) k d) has (Contains-get_or (hinted (held_in s) number) k d h)) (v.when_false.0 refl), λ some. absurd (omega (arith, is.waiting begun))),
  )

  pub settled-unit : (lit : Lit) → Contains (hinted (held_in s) number) lit → IsValueOf (lits_of s.trail) lit None → IsUnit (lits_of s.trail) (hinted (held_in s) number) lit
  settled-unit lit has v = record {
    stands = has;
    undecided = undecided-from_none (lits_of s.trail) lit v;
    alone = λ k d h. inl (all-one (get_or (hinted (held_in s) number) k d) lit (Contains-get_or (hinted (held_in s) number) k d h) has);
  }

  pub settled-put : (lit : Lit) → Contains (hinted (held_in s) number) lit → (trail : List Entry) → trail ≡ s.trail ++ implied s.trail lit number ∷ []
      → IsSettled trail (hinted (held_in s) number)
  settled-put lit has trail e =
      subst (λ t. IsSettled t (hinted (held_in s) number)) (sym e)
      (lit, has, (implied s.trail lit number, Contains-push s.trail (implied s.trail lit number), refl, is.waiting begun))

-- the clauses of one literal so far are settled

abbrev pub AreSettled : State → ℕ → Type 0
AreSettled s place = (number : ℕ) → number < place → get_or s.pairs number None ≡ None → IsSettled s.trail (hinted (held_in s) number)

settled-later : (old new : State) (number : ℕ) → Grows old new → IsSettled old.trail (hinted (held_in old) number) → IsSettled new.trail (hinted (held_in new) number)
settled-later old new number g t =
    subst (λ trail. IsSettled trail (hinted (held_in new) number)) (sym g.trail_is)
    (subst (λ held. IsSettled (old.trail ++ g.more) (hinted held number)) (sym (held-same old new g)) (t.0, t.1, IsTrueUnder-append old.trail g.more t.0 0 t.2))

pub settled-then : (old new : State) (place : ℕ) → Grows old new → new.pairs ≡ old.pairs → AreSettled old place → IsSettled new.trail (hinted (held_in new) place) → AreSettled new (place + 1)
settled-then old new place g pairs all here number h none =
    ⊎_elim
    (λ below. settled-later old new number g (all number below (sym (ap (λ ps. get_or ps number None) pairs) ∙ none)))
    (λ past. let e : place ≡ number = omega arith in subst (λ n. IsSettled new.trail (hinted (held_in new) n)) e here)
    (cases_lt number place)

pub settled-skip : (s : State) (place : ℕ) → AreSettled s place → get_or s.pairs place None ≢ None → AreSettled s (place + 1)
settled-skip s place all some number h none =
    ⊎_elim
    (λ below. all number below none)
    (λ past. let e : number ≡ place = omega arith in absurd (some (sym (ap (λ n. get_or s.pairs n None) e) ∙ none)))
    (cases_lt number place)
