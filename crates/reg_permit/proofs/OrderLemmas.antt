-- The order of the numbers of features.
use Rattle.std.proofs.Common.{◌≡◌, ◌⊎◌, ℕ, zero, suc, ◌<◌, inl, inr, ⊎_elim, List, [], ◌∷◌, length, Some, slice_get, refl, sym, ap, subst, ◌∙◌, arith}
use Rattle.std.proofs.lemmas.Bool.{cases_order}
use Rattle.std.proofs.lemmas.Option.{same_Some}
use Rattle.reg_registry.specs.declared.registry.OptionRow.{OptionRow}
use Rattle.reg_permit.specs.Permitted.{IsFeature, IsLower}

pub lower-itself : (v : ℕ × ℕ) → IsLower v v → ⊥
lower-itself v l = ⊎_elim (λ (a : v.0 < v.0). omega arith) (λ (a : (v.0 ≡ v.0) × (v.1 < v.1)). omega (arith, a.1)) l

-- of two numbers the one is lower, or they are one
pub order : (v w : ℕ × ℕ) → (v ≡ w) ⊎ (IsLower v w ⊎ IsLower w v)
order v w =
    ⊎_elim
    (λ (a : v.0 ≡ w.0). ⊎_elim
    (λ (b : v.1 ≡ w.1). inl (λ i. (a i, b i)))
    (λ (b : (v.1 < w.1) ⊎ (w.1 < v.1)). inr (⊎_elim (λ (d : v.1 < w.1). inl (inr (a, d))) (λ (d : w.1 < v.1). inr (inr (sym a, d))) b))
    (cases_order v.1 w.1))
    (λ (a : (v.0 < w.0) ⊎ (w.0 < v.0)). inr (⊎_elim (λ (d : v.0 < w.0). inl (inl d)) (λ (d : w.0 < v.0). inr (inl d)) a))
    (cases_order v.0 w.0)

pub lower-lower : (u v w : ℕ × ℕ) → IsLower u v → IsLower v w → IsLower u w
lower-lower u v w a b =
    ⊎_elim
    (λ (c : u.0 < v.0). ⊎_elim (λ (d : v.0 < w.0). inl (omega (arith, c, d))) (λ (d : (v.0 ≡ w.0) × (v.1 < w.1)). inl (omega (arith, c, d.0))) b)
    (λ (c : (u.0 ≡ v.0) × (u.1 < v.1)). ⊎_elim
    (λ (d : v.0 < w.0). inl (omega (arith, c.0, d)))
    (λ (d : (v.0 ≡ w.0) × (v.1 < w.1)). inr (c.0 ∙ d.0, omega (arith, c.1, d.1))) b)
    a

-- a third number is above the lower or below the other
pub lower-split : (u v w : ℕ × ℕ) → IsLower u w → IsLower u v ⊎ IsLower v w
lower-split u v w l =
    ⊎_elim
    (λ (e : u ≡ v). inr (subst (λ (x : ℕ × ℕ). IsLower x w) e l))
    (λ (o : IsLower u v ⊎ IsLower v u). ⊎_elim (λ (a : IsLower u v). inl a) (λ (a : IsLower v u). inr (lower-lower v u w a l)) o)
    (order u v)

-- an option has one number
pub one-number : (options : List OptionRow) (place : ℕ) (o : OptionRow) (v : ℕ × ℕ) → slice_get options place ≡ Some o → IsFeature options place v → o.version ≡ Some v
one-number options place o v e f = ap (λ (x : OptionRow). x.version) (same_Some o f.0 (sym e ∙ f.1)) ∙ f.2

pub option-at : (options : List OptionRow) (place : ℕ) → place < length options → (o : OptionRow) × (slice_get options place ≡ Some o)
option-at [] place l = absurd (omega (arith, l))
option-at (o ∷ options) zero l = (o, refl)
option-at (o ∷ options) (suc place) l = option-at options place (omega (arith, l))
