-- What is found of a conflict as the entries of the trail are looked at, from the last on.
use Rattle.std.proofs.Common.{◌≡◌, ◌≢◌, ℕ, ◌+◌, ◌<◌, ◌≤◌, max, Bool, true, false, List, [], ◌∷◌, ◌++◌, length, map, set, take, Some, slice_get, All, Contains, refl, sym, ap, subst, ◌∙◌, ◌⊎◌, inl, inr, ⊎_elim, arith}
use Rattle.std.proofs.lemmas.Bool.{cases_eq}
use Rattle.std.proofs.lemmas.List.{reverse-append}
use Rattle.std.proofs.lemmas.List.Elements.{All-contains, All-push, All-weaker, Contains-append_left, Contains-push, Contains-push_cases}
use Rattle.std.proofs.lemmas.Option.{same_Some, slice_get_within}
use Rattle.sat_cnf.specs.declared.lit.Lit.{Lit}
use Rattle.sat_cnf.specs.Lits.{negation_of}
use Rattle.sat_proof.specs.Propagation.{IsFalse, IsUndecided, IsUnit, Refutes}
use Rattle.sat_proof.specs.Refutations.{hinted}
use Rattle.sat_core.specs.declared.entry.Entry.{Entry}
use Rattle.sat_core.specs.Analysing.{DeniesAt, Found, IsAnalysed, IsCounted, IsDeniedFrom, IsFalseUpTo, IsGround, IsMarked, IsSearched, weight_of}
use Rattle.sat_core.specs.Trails.{IsFalseUnder, IsReason, IsTrail, lits_of}
use Rattle.sat_core.proofs.LiteralLemmas.{negation-negation}
use Rattle.sat_core.proofs.PlaceLemmas.{Contains-at}
use Rattle.sat_core.proofs.TrailLemmas.{decision-le}
use Rattle.sat_core.proofs.ConflictTrailLemmas.{All-of, before-later, before-lit, lit-before, negation-same, rising, same-at, unique}
use Rattle.sat_core.proofs.ConflictCountLemmas.{marked-positive, marked-some, weight-none, weight-one}
use Rattle.sat_core.proofs.ConflictMarkLemmas.{unset-marked, marked-unset}

pub zero-or : (n : ℕ) → (n ≡ 0) ⊎ (0 < n)
zero-or n = grind arith

either-max : (n a b : ℕ) → n ≡ max a b → (n ≡ a) ⊎ (n ≡ b)
either-max n a b e = grind arith

denied-down : (entries : List Entry) (place lower : ℕ) (clause : List Lit) → lower ≤ place → All (IsDeniedFrom entries place) clause → All (IsDeniedFrom entries lower) clause
denied-down entries place lower clause le h =
    All-weaker (IsDeniedFrom entries place) (IsDeniedFrom entries lower) (λ lit d. (d.0, omega (arith, d.1, le), d.2)) clause h

denied-lower : (entries : List Entry) (place : ℕ) (clause : List Lit) → All (IsDeniedFrom entries (place + 1)) clause → All (IsDeniedFrom entries place) clause
denied-lower entries place clause h = denied-down entries (place + 1) place clause (omega arith) h

-- no entry is marked that is still ahead
pub analysed-end : (held : List (List Lit)) (entries : List Entry) (place : ℕ) (f : Found) → IsAnalysed held entries place f → place ≤ f.lowest → IsAnalysed held entries 0 f
analysed-end held entries place f h le = record {
  last = h.last;
  counted = h.counted;
  before = λ other m. absurd (omega (arith, le, h.before other m, h.counted.above other m));
  known = h.known;
  refuted = λ lits g. h.refuted lits (record {
    marked = g.marked;
    denied = g.denied;
    only = λ lit c. ⊎_elim (λ b. inl (before-later entries 0 place lit (omega arith) b)) (λ d. inr d) (g.only lit c);
  });
  denied = denied-down entries place 0 f.clause (omega arith) h.denied;
  none = h.none;
  searched = h.searched;
  earlier = h.earlier;
  greatest = h.greatest;
}

module _ (vars : ℕ) (held : List (List Lit)) (entries : List Entry) (trail : IsTrail vars held entries) (place : ℕ) (f : Found)
    (h : IsAnalysed held entries (place + 1) f) where
  -- an entry that isn't marked
  pub analysed-skip : ¬ IsMarked f.marks place → IsAnalysed held entries place f
  analysed-skip unmarked = record {
    last = h.last;
    counted = h.counted;
    before = λ other m. ⊎_elim (λ e. absurd (unmarked (subst (IsMarked f.marks) e m))) (λ ne. omega (arith, ne, h.before other m)) (cases_eq other place);
    known = h.known;
    refuted = λ lits g. h.refuted lits (record {
      marked = g.marked;
      denied = g.denied;
      only = λ lit c. ⊎_elim (λ b. inl (before-later entries place (place + 1) lit (omega arith) b)) (λ d. inr d) (g.only lit c);
    });
    denied = denied-lower entries place f.clause h.denied;
    none = h.none;
    searched = h.searched;
    earlier = h.earlier;
    greatest = h.greatest;
  }

  module _ (entry : Entry) (found : slice_get entries place ≡ Some entry) (marked : IsMarked f.marks place) (rest : ℕ)
      (taken : f.pending ≡ rest + weight_of f.last entry true) where
    within_marks : place < length f.marks
    within_marks = omega (arith, h.counted.each, slice_get_within entries place entry found)

    -- a literal of an entry is undecided where those of the entries before it are true and the clause is false
    undecided : (lits : List Lit) → ((lit : Lit) → Contains lits lit → Contains (lits_of (take place entries)) lit ⊎ Contains f.clause (negation_of lit)) → IsUndecided lits entry.lit
    undecided lits only = (
      λ c.
          ⊎_elim (trail place entry found).undecided.0
          (λ n.
          let (q, later, (other, there, e)) = All-contains (IsDeniedFrom entries (place + 1)) f.clause (negation_of entry.lit) h.denied n in
          let same : entry.lit ≡ other.lit = sym (negation-negation entry.lit) ∙ sym e in
          (trail q other there).undecided.0 (subst (Contains (lits_of (take q entries))) same (lit-before entries q place entry found (omega (arith, later)))))
          (only entry.lit c),
      λ c.
          ⊎_elim (trail place entry found).undecided.1
          (λ n.
          let (q, later, (other, there, e)) = All-contains (IsDeniedFrom entries (place + 1)) f.clause (negation_of (negation_of entry.lit)) h.denied n in
          let same : entry.lit ≡ negation_of other.lit
          = sym (negation-negation entry.lit) ∙ ap negation_of (sym (negation-negation (negation_of entry.lit)) ∙ sym e) in
          (trail q other there).undecided.1 (subst (Contains (lits_of (take q entries))) same (lit-before entries q place entry found (omega (arith, later)))))
          (only (negation_of entry.lit) c),
    )

    -- an entry that its reason takes the place of
    module _ (reason : ℕ) (is : IsReason held (take place entries) entry.lit entry.decision (Some reason)) (marks : List Bool) (pending lowest : ℕ)
        (counted : IsCounted entries (record f { marks = marks; pending = pending; lowest = lowest })) (more : rest ≤ pending)
        (stay : (other : ℕ) → other ≢ place → IsMarked f.marks other → IsMarked marks other)
        (only : (other : ℕ) → IsMarked marks other → (IsMarked f.marks other × (other ≢ place))
        ⊎ ((lit : Lit) × Contains (hinted held reason) lit × ¬ (Some entry.lit ≡ Some lit) × DeniesAt entries other lit))
        (all : (lit : Lit) → Contains (hinted held reason) lit → (Some entry.lit ≡ Some lit) ⊎ ((other : ℕ) × DeniesAt entries other lit × IsMarked marks other)) where
      -- what a reason makes false stands before its entry
      new-before : (other : ℕ) → (lit : Lit) × Contains (hinted held reason) lit × ¬ (Some entry.lit ≡ Some lit) × DeniesAt entries other lit → other < place
      new-before other (lit, c, ne, (denier, there, denies)) =
          ⊎_elim (λ e. absurd (ne (ap (λ l. Some l) (sym e))))
          (λ b.
          let (q, twin, below, at, e) = before-lit entries place (negation_of lit) b in
          omega (arith, below, unique vars held entries trail other q denier twin there at (denies ∙ sym e)))
          (All-contains (λ l. (l ≡ entry.lit) ⊎ IsFalse (lits_of (take place entries)) l) (hinted held reason) lit is.2.alone c)

      all-before : (other : ℕ) → IsMarked marks other → other < place
      all-before other m = ⊎_elim (λ was. omega (arith, was.1, h.before other was.0)) (new-before other) (only other m)

      ground : (lits : List Lit) → IsGround entries place marks f.clause lits → IsGround entries (place + 1) f.marks f.clause (lits ++ entry.lit ∷ [])
      ground lits g = record {
        marked = λ other denier there m.
            ⊎_elim
            (λ e. subst (λ (x : Entry). Contains (lits ++ entry.lit ∷ []) x.lit) (same-at entries place other entry denier found there (sym e)) (Contains-push lits entry.lit))
            (λ ne. Contains-append_left lits (entry.lit ∷ []) denier.lit (g.marked other denier there (stay other ne m)))
            (cases_eq other place);
        denied = λ lit c. Contains-append_left lits (entry.lit ∷ []) (negation_of lit) (g.denied lit c);
        only = λ lit c.
            ⊎_elim
            (λ there. ⊎_elim (λ b. inl (before-later entries place (place + 1) lit (omega arith) b)) (λ d. inr d) (g.only lit there))
            (λ e. inl (subst (Contains (lits_of (take (place + 1) entries))) e (lit-before entries (place + 1) place entry found (omega arith))))
            (Contains-push_cases lits entry.lit lit c);
      }

      unit : (lits : List Lit) → IsGround entries place marks f.clause lits → IsUnit lits (hinted held reason) entry.lit
      unit lits g = record {
        stands = is.2.stands;
        undecided = undecided lits g.only;
        alone = All-of (λ l. (l ≡ entry.lit) ⊎ IsFalse lits l) (hinted held reason)
            (λ l c.
            ⊎_elim (λ e. inl (sym (same_Some entry.lit l e)))
            (λ (other, (denier, there, denies), m). inr (subst (Contains lits) denies (g.marked other denier there m)))
            (all l c));
      }

      -- under earlier decisions none becomes pending
      nothing : f.pending ≡ 0 → entry.decision < f.last → pending ≡ 0
      nothing none low =
          ⊎_elim (λ z. z)
          (λ positive.
          let (other, denier, there, m, under) = marked-some f.last entries marks (omega (arith, positive, counted.count)) in
          ⊎_elim
          (λ was. absurd (omega (arith, none, h.counted.count, marked-positive f.last entries f.marks other denier there was.0 under)))
          (λ n. absurd (omega (arith, low, under, rising vars held entries trail other place denier entry there found (new-before other n))))
          (only other m))
          (zero-or pending)

      pub analysed-resolve : (entry.decision ≡ 0) ⊎ ((entry.decision < f.last) ⊎ ((entry.decision ≡ f.last) × (0 < rest)))
          → IsAnalysed held entries place (record f { marks = marks; pending = pending; lowest = lowest; hints = f.hints ++ reason ∷ [] })
      analysed-resolve resolves = record {
        last = h.last;
        counted = record { each = counted.each; count = counted.count; above = counted.above };
        before = all-before;
        known = All-push (λ hint. hint < length held) f.hints reason h.known is.1;
        refuted = λ lits g.
            subst (λ rs. Refutes lits (map (hinted held) rs)) (sym (reverse-append f.hints (reason ∷ [])))
            (inr (entry.lit, unit lits g, h.refuted (lits ++ entry.lit ∷ []) (ground lits g)));
        denied = denied-lower entries place f.clause h.denied;
        none = h.none;
        searched = λ some.
            let earlier : (entry.decision < f.last) ⊎ ((entry.decision ≡ f.last) × (0 < rest)) = ⊎_elim (λ z. inl (omega (arith, z, some))) (λ r. r) resolves in
            ⊎_elim
            (λ p. inl (⊎_elim (λ low. omega (arith, more, taken, p.0, weight-none f.last entry (λ e. omega (arith, e, low)))) (λ q. omega (arith, more, q.1)) earlier, p.1))
            (λ p.
            let low : entry.decision < f.last = ⊎_elim (λ low. low) (λ q. absurd (omega (arith, taken, p.0, weight-one f.last entry q.0))) earlier in
            inr (nothing p.0 low, p.1))
            (h.searched some);
        earlier = h.earlier;
        greatest = h.greatest;
      }

    -- an entry whose negation goes into the clause
    module _ (back : ℕ) (counted : IsCounted entries (record f { marks = set f.marks place false; pending = rest })) (some : 0 < entry.decision)
        (alone : entry.decision ≡ f.last → rest ≡ 0)
        (next : ((entry.decision < f.last) × (back ≡ max f.back entry.decision)) ⊎ ((entry.decision ≡ f.last) × (back ≡ f.back))) where
      kept-ground : (lits : List Lit) → IsGround entries place (set f.marks place false) (f.clause ++ negation_of entry.lit ∷ []) lits
          → IsGround entries (place + 1) f.marks f.clause lits
      kept-ground lits g = record {
        marked = λ other denier there m.
            ⊎_elim
            (λ e. subst (λ (x : Entry). Contains lits x.lit) (same-at entries place other entry denier found there (sym e))
            (subst (Contains lits) (negation-negation entry.lit) (g.denied (negation_of entry.lit) (Contains-push f.clause (negation_of entry.lit)))))
            (λ ne. g.marked other denier there (unset-marked f.marks place other ne m))
            (cases_eq other place);
        denied = λ lit c. g.denied lit (Contains-append_left f.clause (negation_of entry.lit ∷ []) lit c);
        only = λ lit c.
            ⊎_elim (λ b. inl (before-later entries place (place + 1) lit (omega arith) b))
            (λ n. ⊎_elim (λ was. inr was)
            (λ e. inl (subst (Contains (lits_of (take (place + 1) entries))) (negation-same entry.lit lit e) (lit-before entries (place + 1) place entry found (omega arith))))
            (Contains-push_cases f.clause (negation_of entry.lit) (negation_of lit) n))
            (g.only lit c);
      }

      -- the negation of the entry is false under its decision
      false-there : IsFalseUnder entries (negation_of entry.lit) entry.decision
      false-there = (entry, Contains-at entries place entry found, sym (negation-negation entry.lit), refl)

      higher : f.back ≤ back
      higher = ⊎_elim (λ p. omega (arith, p.1)) (λ p. omega (arith, p.1)) next

      raised : (clause : List Lit) → All (IsFalseUpTo entries f.back) clause → All (IsFalseUpTo entries back) clause
      raised clause all = All-weaker (IsFalseUpTo entries f.back) (IsFalseUpTo entries back) (λ lit d. (d.0, d.1, omega (arith, d.2, higher))) clause all

      keeps-searching : 0 < f.last → IsSearched entries f
          → IsSearched entries (record f { marks = set f.marks place false; pending = rest; clause = f.clause ++ negation_of entry.lit ∷ []; back = back })
      keeps-searching last searched =
          ⊎_elim
          (λ p.
          ⊎_elim
          (λ q. inl (
            omega (arith, p.0, taken, weight-none f.last entry (λ e. omega (arith, e, q.0))),
            All-push (IsFalseUpTo entries back) f.clause (negation_of entry.lit) (raised f.clause p.1) (entry.decision, false-there, omega (arith, q.1)),
          ))
          (λ q. inr (
            alone q.0,
            (
              negation_of entry.lit,
              Contains-push f.clause (negation_of entry.lit),
              subst (IsFalseUnder entries (negation_of entry.lit)) q.0 false-there,
              All-push (λ other. (other ≡ negation_of entry.lit) ⊎ IsFalseUpTo entries back other) f.clause (negation_of entry.lit)
                  (All-weaker (IsFalseUpTo entries back) (λ other. (other ≡ negation_of entry.lit) ⊎ IsFalseUpTo entries back other) (λ other d. inr d) f.clause (raised f.clause p.1))
                  (inl refl),
            ),
          ))
          next)
          (λ p.
          let (lit, stands, last_false, others) = p.1 in
          ⊎_elim
          (λ q. inr (
            omega (arith, p.0, taken),
            (
              lit,
              Contains-append_left f.clause (negation_of entry.lit ∷ []) lit stands,
              last_false,
              All-push (λ other. (other ≡ lit) ⊎ IsFalseUpTo entries back other) f.clause (negation_of entry.lit)
                  (All-weaker (λ other. (other ≡ lit) ⊎ IsFalseUpTo entries f.back other) (λ other. (other ≡ lit) ⊎ IsFalseUpTo entries back other)
                  (λ other. ⊎_elim (λ e. inl e) (λ d. inr (d.0, d.1, omega (arith, d.2, higher)))) f.clause others)
                  (inr (entry.decision, false-there, omega (arith, q.1))),
            ),
          ))
          (λ q. absurd (omega (arith, p.0, taken, weight-one f.last entry q.0)))
          next)
          searched

      most : entry.decision ≤ f.last
      most = omega (arith, h.last, decision-le entries entry (Contains-at entries place entry found))

      pub analysed-keep : IsAnalysed held entries place (record f { marks = set f.marks place false; pending = rest; clause = f.clause ++ negation_of entry.lit ∷ []; back = back })
      analysed-keep = record {
        last = h.last;
        counted = record { each = counted.each; count = counted.count; above = counted.above };
        before = λ other m. let was = marked-unset f.marks place other within_marks m in omega (arith, was.1, h.before other was.0);
        known = h.known;
        refuted = λ lits g. h.refuted lits (kept-ground lits g);
        denied = All-push (IsDeniedFrom entries place) f.clause (negation_of entry.lit) (denied-lower entries place f.clause h.denied)
            (place, omega arith, (entry, found, sym (negation-negation entry.lit)));
        none = λ e. absurd (omega (arith, e, some, most));
        searched = λ last. keeps-searching last (h.searched last);
        earlier = λ last. ⊎_elim (λ q. omega (arith, q.0, q.1, h.earlier last)) (λ q. omega (arith, q.1, h.earlier last)) next;
        greatest =
            let was : back ≡ f.back → (back ≡ 0) ⊎ ((other : Lit) × Contains (f.clause ++ negation_of entry.lit ∷ []) other × IsFalseUnder entries other back)
            = λ e. ⊎_elim (λ z. inl (e ∙ z))
            (λ g. inr (g.0, Contains-append_left f.clause (negation_of entry.lit ∷ []) g.0 g.1, subst (IsFalseUnder entries g.0) (sym e) g.2)) h.greatest in
            ⊎_elim
            (λ q. ⊎_elim was
            (λ e. inr (negation_of entry.lit, Contains-push f.clause (negation_of entry.lit), subst (IsFalseUnder entries (negation_of entry.lit)) (sym e) false-there))
            (either-max back f.back entry.decision q.1))
            (λ q. was q.1)
            next;
      }
