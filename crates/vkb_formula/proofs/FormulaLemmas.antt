-- The equations of a formula's value and sizes, one for each form.
use Rattle.std.proofs.Common.{◌≡◌, ℕ, ◌+◌, ◌<◌, ◌≤◌, Bool, ◌&&◌, ◌||◌, List, [], ◌∷◌, length, map, get_or, sum, sum_by, zero, suc, refl, sym, ap, ◌∙◌, arith}
use Rattle.std.specs.List.{list_all, list_any}
use Rattle.std.proofs.lemmas.List.{length-map}
use Rattle.std.proofs.lemmas.List.Sums.{sum-map}
use Rattle.vkb_formula.specs.Formulas.{value_of, node_value, reach_of, node_reach, greatest, size_of, node_size, variables_of, node_variables, clauses_of, node_clauses}
use Rattle.vkb_formula.specs.declared.formula.Formula.{Formula, Formula-F, fold-Formula, fold-roll-Formula}
use Rattle.vkb_formula.specs.declared.formula.Formula.TheVariants.{Always, Never, Var, Not, All, Any, rolls-Always, rolls-Never, rolls-Var, rolls-Not, rolls-All, rolls-Any}

list_all-map : {X Y : Type 0} (p : Y → Bool) (f : X → Y) (xs : List X) → list_all p (map f xs) ≡ list_all (λ x. p (f x)) xs
list_all-map p f [] = refl
list_all-map p f (x ∷ xs) = ap (λ b. p (f x) && b) (list_all-map p f xs)

list_any-map : {X Y : Type 0} (p : Y → Bool) (f : X → Y) (xs : List X) → list_any p (map f xs) ≡ list_any (λ x. p (f x)) xs
list_any-map p f [] = refl
list_any-map p f (x ∷ xs) = ap (λ b. p (f x) || b) (list_any-map p f xs)

module _ {A : Type 0} (step : Formula-F A → A) where
  pub fold-Always : fold-Formula A step Always ≡ step Formula-F.Always
  fold-Always = ap (fold-Formula A step) (sym rolls-Always) ∙ fold-roll-Formula A step Formula-F.Always

  pub fold-Never : fold-Formula A step Never ≡ step Formula-F.Never
  fold-Never = ap (fold-Formula A step) (sym rolls-Never) ∙ fold-roll-Formula A step Formula-F.Never

  pub fold-Var : (variable : ℕ) → fold-Formula A step (Var variable) ≡ step (Formula-F.Var variable)
  fold-Var variable = ap (fold-Formula A step) (sym (rolls-Var variable)) ∙ fold-roll-Formula A step (Formula-F.Var variable)

  pub fold-Not : (part : Formula) → fold-Formula A step (Not part) ≡ step (Formula-F.Not (fold-Formula A step part))
  fold-Not part = ap (fold-Formula A step) (sym (rolls-Not part)) ∙ fold-roll-Formula A step (Formula-F.Not part)

pub value-All : (set : List Bool) (parts : List Formula) → value_of set (All parts) ≡ list_all (value_of set) parts
value-All set parts =
    ap (value_of set) (sym (rolls-All parts)) ∙ fold-roll-Formula Bool (node_value set) (Formula-F.All parts) ∙ list_all-map (λ part. part) (value_of set) parts

pub value-Any : (set : List Bool) (parts : List Formula) → value_of set (Any parts) ≡ list_any (value_of set) parts
value-Any set parts =
    ap (value_of set) (sym (rolls-Any parts)) ∙ fold-roll-Formula Bool (node_value set) (Formula-F.Any parts) ∙ list_any-map (λ part. part) (value_of set) parts

pub size-All : (parts : List Formula) → size_of (All parts) ≡ 1 + sum_by size_of parts
size-All parts =
    ap size_of (sym (rolls-All parts)) ∙ fold-roll-Formula ℕ node_size (Formula-F.All parts) ∙ ap (λ n. 1 + n) (sum-map size_of parts)

pub size-Any : (parts : List Formula) → size_of (Any parts) ≡ 1 + sum_by size_of parts
size-Any parts =
    ap size_of (sym (rolls-Any parts)) ∙ fold-roll-Formula ℕ node_size (Formula-F.Any parts) ∙ ap (λ n. 1 + n) (sum-map size_of parts)

pub variables-All : (parts : List Formula) → variables_of (All parts) ≡ 1 + sum_by variables_of parts
variables-All parts =
    ap variables_of (sym (rolls-All parts)) ∙ fold-roll-Formula ℕ node_variables (Formula-F.All parts) ∙ ap (λ n. 1 + n) (sum-map variables_of parts)

pub variables-Any : (parts : List Formula) → variables_of (Any parts) ≡ 1 + sum_by variables_of parts
variables-Any parts =
    ap variables_of (sym (rolls-Any parts)) ∙ fold-roll-Formula ℕ node_variables (Formula-F.Any parts) ∙ ap (λ n. 1 + n) (sum-map variables_of parts)

pub clauses-All : (parts : List Formula) → clauses_of (All parts) ≡ length parts + 1 + sum_by clauses_of parts
clauses-All parts =
    ap clauses_of (sym (rolls-All parts)) ∙ fold-roll-Formula ℕ node_clauses (Formula-F.All parts)
    ∙ (let step : length (map clauses_of parts) + 1 + sum (map clauses_of parts) ≡ length parts + 1 + sum_by clauses_of parts = omega (arith, length-map parts clauses_of, sum-map clauses_of parts) in step)

pub clauses-Any : (parts : List Formula) → clauses_of (Any parts) ≡ length parts + 1 + sum_by clauses_of parts
clauses-Any parts =
    ap clauses_of (sym (rolls-Any parts)) ∙ fold-roll-Formula ℕ node_clauses (Formula-F.Any parts)
    ∙ (let step : length (map clauses_of parts) + 1 + sum (map clauses_of parts) ≡ length parts + 1 + sum_by clauses_of parts = omega (arith, length-map parts clauses_of, sum-map clauses_of parts) in step)

pub reach-All : (parts : List Formula) → reach_of (All parts) ≡ greatest (map reach_of parts)
reach-All parts = ap reach_of (sym (rolls-All parts)) ∙ fold-roll-Formula ℕ node_reach (Formula-F.All parts)

pub reach-Any : (parts : List Formula) → reach_of (Any parts) ≡ greatest (map reach_of parts)
reach-Any parts = ap reach_of (sym (rolls-Any parts)) ∙ fold-roll-Formula ℕ node_reach (Formula-F.Any parts)

pub reach-Never : reach_of Never ≡ 0
reach-Never = fold-Never node_reach

-- a part reaches no further than all of them
pub reach-part : (parts : List Formula) (i : ℕ) (d : Formula) → i < length parts → reach_of (get_or parts i d) ≤ greatest (map reach_of parts)
reach-part [] i d h = absurd (omega arith)
reach-part (f ∷ fs) zero d h = omega arith
reach-part (f ∷ fs) (suc i) d h = omega (arith, reach-part fs i d (omega arith))

pub ruleset formula_facts = (value-All, value-Any, size-All, size-Any, variables-All, variables-Any, clauses-All, clauses-Any, reach-Never)

-- an item of the parts reaches no further than all of them
pub reach-item : (parts : List Formula) (i : ℕ) (part : Formula) (n : ℕ) → part ≡ get_or parts i part → i < length parts → greatest (map reach_of parts) ≤ n → reach_of part ≤ n
reach-item parts i part n is h le = omega (arith, ap reach_of is, reach-part parts i part h)
