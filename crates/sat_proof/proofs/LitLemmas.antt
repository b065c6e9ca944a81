-- Literals and their negations.
use Rattle.std.proofs.Common.{◌≡◌, ℕ, ◌+◌, ◌*◌, ◌/◌, ◌%◌, ◌<◌, Bool, true, false, not, List, refl, sym, ap, ◌⊎◌, inl, inr, ⊎_elim, arith}
use Rattle.std.proofs.lemmas.Bool.Decides.{eqb_tells}
use Rattle.sat_cnf.specs.declared.lit.Lit.{Lit}
use Rattle.sat_cnf.specs.Lits.{is_negated, negation_of}
use Rattle.sat_cnf.specs.Models.{lit_value}

lit_of : ℕ → Lit
lit_of n = record { 0 = n }

-- a literal is its number
pub same-lit : (a b : Lit) → a.0 ≡ b.0 → a ≡ b
unfolding lit_of
same-lit a b e = ap lit_of e

abbrev IsAbove : Lit → Type 0
IsAbove lit = (is_negated lit ≡ true) × (lit.0 % 2 ≡ 1) × ((negation_of lit).0 + 1 ≡ lit.0)

abbrev IsUnder : Lit → Type 0
IsUnder lit = (is_negated lit ≡ false) × (lit.0 % 2 ≡ 0) × ((negation_of lit).0 ≡ lit.0 + 1)

-- a literal stands right above or right under its negation
above_or_under : (lit : Lit) → IsAbove lit ⊎ IsUnder lit
above_or_under lit =
    ⊎_elim (λ p. inl (p.0, p.1, rw p.0 (omega arith))) (λ p. inr (p.0, omega (arith, p.1), rw p.0 refl)) (eqb_tells (lit.0 % 2) 1)

pub negation-negation : (lit : Lit) → negation_of (negation_of lit) ≡ lit
negation-negation lit =
    same-lit (negation_of (negation_of lit)) lit (
    ⊎_elim (λ p. ⊎_elim (λ q. omega (arith, p, q)) (λ q. omega (arith, p, q)) (above_or_under (negation_of lit)))
    (λ p. ⊎_elim (λ q. omega (arith, p, q)) (λ q. omega (arith, p, q)) (above_or_under (negation_of lit)))
    (above_or_under lit)
    )

pub negation-differs : (lit : Lit) → negation_of lit ≡ lit → ⊥
negation-differs lit e =
    let same : (negation_of lit).0 ≡ lit.0 = ap (λ l. l.0) e in
    ⊎_elim (λ p. omega (arith, p, same)) (λ p. omega (arith, p, same)) (above_or_under lit)

pub negation-within : (lit : Lit) (vars : ℕ) → lit.0 < 2 * vars → (negation_of lit).0 < 2 * vars
negation-within lit vars h = ⊎_elim (λ p. omega (arith, p, h)) (λ p. omega (arith, p, h)) (above_or_under lit)

not-not : (a b : Bool) → a ≡ not b → b ≡ not a
not-not a true e = ap not (sym e)
not-not a false e = ap not (sym e)

value-next : (set : List Bool) (low high : Lit) → low.0 % 2 ≡ 0 → high.0 ≡ low.0 + 1 → lit_value set high ≡ not (lit_value set low)
value-next set low high even next =
    let unlike : is_negated low ≡ false = ⊎_elim (λ p. absurd (omega (arith, p.1, even))) (λ p. p.0) (eqb_tells (low.0 % 2) 1) in
    let like : is_negated high ≡ true =
    ⊎_elim (λ p. p.0) (λ p. absurd (p.1 (omega (arith, even, next)))) (eqb_tells (high.0 % 2) 1) in
    let same : high.0 / 2 ≡ low.0 / 2 = omega (arith, even, next) in
    rw (unlike, like, same) refl

pub value-negation : (set : List Bool) (lit : Lit) → lit_value set (negation_of lit) ≡ not (lit_value set lit)
value-negation set lit =
    ⊎_elim
    (λ p. not-not (lit_value set lit) (lit_value set (negation_of lit)) (value-next set (negation_of lit) lit (omega (arith, p)) (omega (arith, p))))
    (λ p. value-next set lit (negation_of lit) p.1 p.2)
    (above_or_under lit)
