-- What is learned from a conflict asserts its literal once the decisions behind the greatest of the others are taken back.
use Rattle.std.proofs.Common.{◌≡◌, ℕ, ◌≤◌, List, [], ◌∷◌, All, Contains, refl, sym, subst, ◌∙◌, ◌⊎◌, inl, inr, ⊎_elim, arith}
use Rattle.std.proofs.lemmas.List.Elements.{All-cons, All-head, All-nil, All-tail, All-weaker, Contains-append_right}
use Rattle.sat_cnf.specs.declared.lit.Lit.{Lit}
use Rattle.sat_cnf.specs.Lits.{negation_of}
use Rattle.sat_proof.specs.Propagation.{IsFalse}
use Rattle.sat_core.specs.declared.entry.Entry.{Entry}
use Rattle.sat_core.specs.Analysis.{IsAssertion}
use Rattle.sat_core.specs.Assigning.{AreInOrder}
use Rattle.sat_core.specs.Searching.{IsAsserting}
use Rattle.sat_core.specs.Trails.{IsFalseUnder, IsTrail, decisions_of, lits_of, under}
use Rattle.sat_core.proofs.TrailLemmas.{IsTrueUnder-under, decisions_of-under, in-order, never-both, one-decision, true-from_under, under-IsTrueUnder, under-from_true}

-- all elements are of one kind, or one is of the other
all-or-one : {X : Type 0} (P Q : X → Type 0) (xs : List X) → All (λ x. P x ⊎ Q x) xs → All P xs ⊎ ((x : X) × Contains xs x × Q x)
all-or-one P Q [] h = inl (All-nil P)
all-or-one P Q (x ∷ xs) h =
    ⊎_elim
    (λ p. ⊎_elim (λ all. inl (All-cons P x xs p all)) (λ (y, c, q). inr (y, Contains-append_right (x ∷ []) xs y c, q))
    (all-or-one P Q xs (All-tail (λ y. P y ⊎ Q y) x xs h)))
    (λ q. inr (x, (0, omega arith, refl), q))
    (All-head (λ y. P y ⊎ Q y) x xs h)

module _ (vars : ℕ) (held : List (List Lit)) (entries : List Entry) (trail : IsTrail vars held entries) (clause : List Lit) (back : ℕ)
    (h : IsAssertion entries clause back) where
  order : AreInOrder vars entries
  order = in-order vars held entries trail

  -- the literal is false under the last decision alone
  not-earlier : (decision : ℕ) → IsFalseUnder entries h.lit decision → decision ≤ back → ⊥
  not-earlier decision f le = omega (arith, le, h.earlier, one-decision vars entries order (negation_of h.lit) decision (decisions_of entries) f h.last)

  last-decision : decisions_of (under back entries) ≡ back
  last-decision = decisions_of-under vars back entries order (omega (arith, h.earlier))

  false-under : (other : Lit) (decision : ℕ) → IsFalseUnder entries other decision → decision ≤ back → IsFalseUnder (under back entries) other decision
  false-under other decision f le = IsTrueUnder-under back entries (negation_of other) decision f le

  another : (other : Lit) → Contains clause other → IsFalseUnder entries other back
      → (x : Lit) × Contains clause x × (x ≡ h.lit → ⊥) × IsFalseUnder (under back entries) x (decisions_of (under back entries))
  another other c f = (
    other,
    c,
    λ e. not-earlier back (subst (λ l. IsFalseUnder entries l back) e f) (omega arith),
    subst (IsFalseUnder (under back entries) other) (sym last-decision) (false-under other back f (omega arith)),
  )

  pub asserting-under : IsAsserting (under back entries) clause h.lit
  asserting-under = record {
    unit = record {
      stands = h.stands;
      undecided = (
        λ c.
            let (decision, t, le) = under-from_true (under back entries) h.lit c in
            never-both vars entries order h.lit (true-from_under entries h.lit decision (under-IsTrueUnder back entries h.lit decision t).0)
            (true-from_under entries (negation_of h.lit) (decisions_of entries) h.last),
        λ c.
            let (decision, t, le) = under-from_true (under back entries) (negation_of h.lit) c in
            let was = under-IsTrueUnder back entries (negation_of h.lit) decision t in
            not-earlier decision was.0 was.1,
      );
      alone = All-weaker (λ other. (other ≡ h.lit) ⊎ ((decision : ℕ) × IsFalseUnder entries other decision × (decision ≤ back)))
          (λ other. (other ≡ h.lit) ⊎ IsFalse (lits_of (under back entries)) other)
          (λ other. ⊎_elim (λ e. inl e)
          (λ (decision, f, le). inr (true-from_under (under back entries) (negation_of other) decision (false-under other decision f le)))) clause h.others;
    };
    last =
        ⊎_elim
        (λ all. ⊎_elim (λ z. inl (all, last-decision ∙ z)) (λ (other, c, f). inr (another other c f)) h.greatest)
        (λ (other, c, (decision, f, le)).
        ⊎_elim (λ z. let same : decision ≡ back = omega (arith, z, le) in inr (another other c (subst (IsFalseUnder entries other) same f)))
        (λ (x, stands, g). inr (another x stands g)) h.greatest)
        (all-or-one (λ other. other ≡ h.lit) (λ other. (decision : ℕ) × IsFalseUnder entries other decision × (decision ≤ back)) clause h.others);
  }
