-- Literals, their negations and their variables.
use Rattle.std.proofs.Common.{◌≡◌, ℕ, ◌+◌, ◌%◌, ◌<◌, true, false, ap, ◌⊎◌, inl, inr, ⊎_elim, refl, arith}
use Rattle.std.proofs.lemmas.Bool.{cases_eq}
use Rattle.std.proofs.lemmas.Bool.Decides.{eqb_tells}
use Rattle.sat_cnf.specs.declared.lit.Lit.{Lit}
use Rattle.sat_cnf.specs.Clauses.{IsWithin}
use Rattle.sat_cnf.specs.Lits.{is_negated, negation_of, variable_of}

lit_of : ℕ → Lit
lit_of n = record { 0 = n }

-- a literal is its number
pub same-lit : (a b : Lit) → a.0 ≡ b.0 → a ≡ b
unfolding lit_of
same-lit a b e = ap lit_of e

abbrev pub IsAbove : Lit → Type 0
IsAbove lit = (is_negated lit ≡ true) × (lit.0 % 2 ≡ 1) × ((negation_of lit).0 + 1 ≡ lit.0)

abbrev pub IsUnder : Lit → Type 0
IsUnder lit = (is_negated lit ≡ false) × (lit.0 % 2 ≡ 0) × ((negation_of lit).0 ≡ lit.0 + 1)

-- a literal stands right above or right under its negation
pub above_or_under : (lit : Lit) → IsAbove lit ⊎ IsUnder lit
above_or_under lit =
    ⊎_elim (λ p. inl (p.0, p.1, rw p.0 (omega arith))) (λ p. inr (p.0, omega (arith, p.1), rw p.0 refl)) (eqb_tells (lit.0 % 2) 1)

pub negation-negation : (lit : Lit) → negation_of (negation_of lit) ≡ lit
negation-negation lit =
    same-lit (negation_of (negation_of lit)) lit (
    ⊎_elim (λ p. ⊎_elim (λ q. omega (arith, p, q)) (λ q. omega (arith, p, q)) (above_or_under (negation_of lit)))
    (λ p. ⊎_elim (λ q. omega (arith, p, q)) (λ q. omega (arith, p, q)) (above_or_under (negation_of lit)))
    (above_or_under lit)
    )

pub negation-differs : (lit : Lit) → lit ≡ negation_of lit → ⊥
negation-differs lit e =
    let same : lit.0 ≡ (negation_of lit).0 = ap (λ l. l.0) e in
    ⊎_elim (λ p. omega (arith, p, same)) (λ p. omega (arith, p, same)) (above_or_under lit)

pub negation-within : (vars : ℕ) (lit : Lit) → IsWithin vars lit → IsWithin vars (negation_of lit)
negation-within vars lit h = ⊎_elim (λ p. omega (arith, p, h)) (λ p. omega (arith, p, h)) (above_or_under lit)

pub variable-negation : (lit : Lit) → variable_of (negation_of lit) ≡ variable_of lit
variable-negation lit = ⊎_elim (λ p. omega (arith, p)) (λ p. omega (arith, p)) (above_or_under lit)

pub variable-within : (vars : ℕ) (lit : Lit) → IsWithin vars lit → variable_of lit < vars
variable-within vars lit h = omega (arith, h)

-- a variable has two literals
pub same-variable : (a b : Lit) → variable_of a ≡ variable_of b → (a ≡ b) ⊎ (a ≡ negation_of b)
same-variable a b e =
    ⊎_elim (λ same. inl (same-lit a b same))
    (λ other. inr (same-lit a (negation_of b) (⊎_elim (λ p. omega (arith, p, e, other)) (λ p. omega (arith, p, e, other)) (above_or_under b))))
    (cases_eq a.0 b.0)
