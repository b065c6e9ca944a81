-- Literals of a trail.
use Rattle.std.proofs.Common.{◌≡◌, ◌≢◌, ℕ, zero, suc, ◌<◌, List, [], ◌∷◌, ◌++◌, length, Contains, sym, ap, ◌∙◌, ◌⊎◌, inl, inr, ⊎_elim, refl, arith}
use Rattle.std.specs.Prelude.{slice_get}
use Rattle.std.proofs.lemmas.Bool.{cases_eq}
use Rattle.std.proofs.lemmas.List.Elements.{Contains-append_left}
use Rattle.sat_cnf.specs.declared.lit.Lit.{Lit}
use Rattle.sat_cnf.specs.Lits.{negation_of}
use Rattle.sat_core.specs.declared.entry.Entry.{Entry}
use Rattle.sat_core.specs.Trails.{IsTrueUnder, decisions_of, lits_of}
use Rattle.sat_core.proofs.LiteralLemmas.{negation-negation, same-lit}
use Rattle.sat_core.proofs.TrailLemmas.{decision-le, decisions_of-push, entry-of, lits_of-append}

-- the negations of two literals are the same where the literals are
pub negation-same : (a b : Lit) → negation_of a ≡ negation_of b → a ≡ b
negation-same a b e = sym (negation-negation a) ∙ ap negation_of e ∙ negation-negation b

pub slice_get-left : {X : Type 0} (xs ys : List X) (place : ℕ) → place < length xs → slice_get (xs ++ ys) place ≡ slice_get xs place
slice_get-left [] ys place h = absurd (omega arith)
slice_get-left (x ∷ xs) ys zero h = refl
slice_get-left (x ∷ xs) ys (suc place) h = slice_get-left xs ys place (omega arith)

-- an entry under the last decision makes no new one
pub decisions-same : (entries : List Entry) (e : Entry) → e.decision ≡ decisions_of entries → decisions_of (entries ++ e ∷ []) ≡ decisions_of entries
decisions-same entries e same = omega (arith, decisions_of-push entries e)

pub true-more : (entries more : List Entry) (lit : Lit) → Contains (lits_of entries) lit → Contains (lits_of (entries ++ more)) lit
true-more entries more lit c = rw (lits_of-append entries more) (Contains-append_left (lits_of entries) (lits_of more) lit c)

-- where no decision was made, all stands under none
pub true-under-none : (entries : List Entry) (lit : Lit) → decisions_of entries ≡ 0 → Contains (lits_of entries) lit → IsTrueUnder entries lit 0
true-under-none entries lit none c =
    let found = entry-of entries lit c in
    (found.0, found.1, found.2, omega (arith, decision-le entries found.0 found.1, none))

later : (known : List Lit) (lit other : Lit) → other.0 ≢ lit.0 → ¬ Contains known lit → Contains (other ∷ known) lit → ⊥
later known lit other ne none (zero, h, same) = ne (ap (λ l. l.0) same)
later known lit other ne none (suc k, h, same) = none (k, omega (arith, h), same)

-- a literal is true or isn't
pub is-true : (known : List Lit) (lit : Lit) → Contains known lit ⊎ ¬ Contains known lit
is-true [] lit = inr (λ c. omega (arith, c.1))
is-true (other ∷ known) lit =
    ⊎_elim
    (λ same. inl (0, omega arith, same-lit other lit same))
    (λ ne.
    ⊎_elim
    (λ c. inl (suc c.0, omega (arith, c.1), c.2))
    (λ none. inr (λ c. later known lit other ne none c))
    (is-true known lit))
    (cases_eq other.0 lit.0)
