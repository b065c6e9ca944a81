-- What stands on a trail before a place, and how the entries of a trail differ.
use Rattle.std.proofs.Common.{◌≡◌, ℕ, ◌+◌, ◌-◌, ◌<◌, ◌≤◌, List, length, reverse, take, Option, Some, None, slice_get, slice_index_or, All, Contains, sym, ap, subst, ◌∙◌, arith}
use Rattle.std.proofs.lemmas.List.{get_or-reverse, length-reverse}
use Rattle.std.proofs.lemmas.List.Elements.{Contains-get_or}
use Rattle.std.proofs.lemmas.Option.{same_Some}
use Rattle.sat_cnf.specs.declared.lit.Lit.{Lit}
use Rattle.sat_cnf.specs.Lits.{negation_of, variable_of}
use Rattle.sat_core.specs.declared.entry.Entry.{Entry}
use Rattle.sat_core.specs.Trails.{IsReason, IsTrail, decisions_of, lits_of}
use Rattle.sat_core.proofs.LiteralLemmas.{negation-negation}
use Rattle.sat_core.proofs.PlaceLemmas.{Contains-at, Contains-before, before-place}
use Rattle.sat_core.proofs.TrailLemmas.{entry-of, in-order, lit-of, never-both, one-place, rises}

pub negation-same : (a b : Lit) → negation_of a ≡ negation_of b → a ≡ b
negation-same a b e = sym (negation-negation a) ∙ ap negation_of e ∙ negation-negation b

-- what holds of each element of a list holds of all
pub All-of : {X : Type 0} (P : X → Type 0) (xs : List X) → ((x : X) → Contains xs x → P x) → All P xs
All-of P xs h = λ k d below. h (slice_index_or xs k d) (Contains-get_or xs k d below)

pub All-reverse : {X : Type 0} (P : X → Type 0) (xs : List X) → All P xs → All P (reverse xs)
All-reverse P xs h =
    λ k d below.
    let within : k < length xs = omega (arith, length-reverse xs, below) in
    subst P (sym (get_or-reverse xs k d within)) (h (length xs - 1 - k) d (omega (arith, within)))

pub same-at : {X : Type 0} (xs : List X) (p q : ℕ) (x y : X) → slice_get xs p ≡ Some x → slice_get xs q ≡ Some y → p ≡ q → x ≡ y
same-at xs p q x y a b e = same_Some x y (sym a ∙ ap (slice_get xs) e ∙ b)

module _ (held : List (List Lit)) (before : List Entry) (lit : Lit) (decision : ℕ) where
  pub decided-above : (reason : Option ℕ) → reason ≡ None → IsReason held before lit decision reason → decision ≡ decisions_of before + 1
  decided-above None e h = h
  decided-above (Some number) e h = absurd (cc)

module _ (entries : List Entry) where
  pub lit-before : (p q : ℕ) (entry : Entry) → slice_get entries q ≡ Some entry → q < p → Contains (lits_of (take p entries)) entry.lit
  lit-before p q entry e h = lit-of (take p entries) entry (Contains-before entries q p entry h e)

  pub before-lit : (p : ℕ) (lit : Lit) → Contains (lits_of (take p entries)) lit
      → (q : ℕ) × (entry : Entry) × (q < p) × (slice_get entries q ≡ Some entry) × (entry.lit ≡ lit)
  before-lit p lit c =
      let (entry, there, e) = entry-of (take p entries) lit c in
      let (q, below, found) = before-place entries p entry there in
      (q, entry, below, found, e)

  pub before-later : (p q : ℕ) (lit : Lit) → p ≤ q → Contains (lits_of (take p entries)) lit → Contains (lits_of (take q entries)) lit
  before-later p q lit h c =
      let (r, entry, below, found, e) = before-lit p lit c in
      subst (Contains (lits_of (take q entries))) e (lit-before q r entry found (omega (arith, below, h)))

  pub before-all : (p : ℕ) (lit : Lit) → Contains (lits_of (take p entries)) lit → Contains (lits_of entries) lit
  before-all p lit c =
      let (r, entry, below, found, e) = before-lit p lit c in
      subst (Contains (lits_of entries)) e (lit-of entries entry (Contains-at entries r entry found))

module _ (vars : ℕ) (held : List (List Lit)) (entries : List Entry) (trail : IsTrail vars held entries) where
  -- a literal stands once
  pub unique : (p q : ℕ) (a b : Entry) → slice_get entries p ≡ Some a → slice_get entries q ≡ Some b → a.lit ≡ b.lit → p ≡ q
  unique p q a b ha hb e = one-place vars entries (in-order vars held entries trail) p q a b ha hb (ap variable_of e)

  -- and not beside its negation
  pub apart : (p q : ℕ) (a b : Entry) → slice_get entries p ≡ Some a → slice_get entries q ≡ Some b → a.lit ≡ negation_of b.lit → ⊥
  apart p q a b ha hb e =
      never-both vars entries (in-order vars held entries trail) b.lit (lit-of entries b (Contains-at entries q b hb))
      (subst (Contains (lits_of entries)) e (lit-of entries a (Contains-at entries p a ha)))

  pub rising : (p q : ℕ) (a b : Entry) → slice_get entries p ≡ Some a → slice_get entries q ≡ Some b → p < q → a.decision ≤ b.decision
  rising p q a b ha hb h = rises vars entries (in-order vars held entries trail) p q a b (omega (arith, h)) ha hb
