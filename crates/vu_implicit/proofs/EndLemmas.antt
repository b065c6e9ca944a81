-- A chain of aliases that ends has no more steps than there are names: the places on it differ.
use Rattle.std.proofs.Common.{◌≡◌, ℕ, zero, suc, ◌<◌, ◌≤◌, Bool, true, false, ◌||◌, List, [], ◌∷◌, length, Option, Some, None, slice_get, eqb, refl, sym, ap, subst, ◌∙◌, arith}
use Rattle.std.specs.List.{AllByRecursion, IsDistinct, list_any}
use Rattle.std.specs.Option.{option_and_then, option_map_or}
use Rattle.std.proofs.lemmas.Map.Steps.{length-le_from_distinct_below}
use Rattle.std.proofs.lemmas.Option.{none-some, same_Some, slice_get_within}
use Rattle.vkb_formula.specs.declared.name_table.NameId.{NameId}
use Rattle.reg_registry.specs.Rows.{id_at}
use Rattle.reg_registry.specs.declared.registry.Row.{Row}
use Rattle.std.proofs.lemmas.Bool.{eqb-true, false_from_ne_true}
use Rattle.vu_implicit.specs.Laws.{ChainsEnd}
use Rattle.vu_implicit.specs.Types.{alias_of, end_of, end_within}
use Rattle.vu_implicit.proofs.TypeLemmas.{stops}

module _ (rows : List Row) where
  -- the chain of a name ends after exactly so many steps
  abbrev EndsIn : ℕ → NameId → Type 0
  EndsIn zero name = alias_of rows name ≡ None
  EndsIn (suc steps) name = (next : NameId) × (alias_of rows name ≡ Some next) × EndsIn steps next

  -- one step more, where a name is an alias
  onward : (steps : ℕ) (name next : NameId) → alias_of rows name ≡ Some next → end_within (suc steps) rows name ≡ end_within steps rows next
  onward steps name next e = ap (λ (o : Option NameId). option_map_or (end_within steps rows) o name) e

  one_number : (steps other : ℕ) (name : NameId) → EndsIn steps name → EndsIn other name → steps ≡ other
  one_number zero zero name e f = refl
  one_number zero (suc other) name e f = absurd (none-some f.0 (sym e ∙ f.1))
  one_number (suc steps) zero name e f = absurd (none-some e.0 (sym f ∙ e.1))
  one_number (suc steps) (suc other) name e f =
      let same : e.0 ≡ f.0 = same_Some e.0 f.0 (sym e.1 ∙ f.1) in
      ap (λ (n : ℕ). suc n) (one_number steps other f.0 (subst (EndsIn steps) same e.2) f.2)

  -- more steps lead no further
  no_further : (steps most : ℕ) (name : NameId) → EndsIn steps name → steps ≤ most → end_within most rows name ≡ end_within steps rows name
  no_further zero most name e h = stops most rows name e
  no_further (suc steps) zero name e h = absurd (omega arith)
  no_further (suc steps) (suc most) name e h = onward most name e.0 e.1 ∙ no_further steps most e.0 e.2 (omega arith) ∙ sym (onward steps name e.0 e.1)

  -- the places before the end
  abbrev places : (steps : ℕ) (name : NameId) → EndsIn steps name → List ℕ
  places zero name e = []
  places (suc steps) name e = name.0 ∷ places steps e.0 e.2

  places-count : (steps : ℕ) (name : NameId) (e : EndsIn steps name) → length (places steps name e) ≡ steps
  places-count zero name e = refl
  places-count (suc steps) name e = ap (λ (n : ℕ). suc n) (places-count steps e.0 e.2)

  held-by : (name next : NameId) (o : Option Row) → slice_get rows name.0 ≡ o → option_and_then (λ row. row.alias) o ≡ Some next → name.0 < length rows
  held-by name next None at e = absurd (none-some next e)
  held-by name next (Some row) at e = slice_get_within rows name.0 row at

  -- they are places of rows
  within-by : (b : Bool) (q place : ℕ) (rest : List ℕ) → eqb q place ≡ b → place < length rows → (list_any (eqb q) rest ≡ true → q < length rows) → (b || list_any (eqb q) rest) ≡ true
      → q < length rows
  within-by true q place rest e h more f = let same : q ≡ place = eqb-true q place e in omega arith
  within-by false q place rest e h more f = more f

  places-within : (steps : ℕ) (name : NameId) (e : EndsIn steps name) (q : ℕ) → list_any (eqb q) (places steps name e) ≡ true → q < length rows
  places-within zero name e q f = absurd (cc)
  places-within (suc steps) name e q f =
      within-by (eqb q name.0) q name.0 (places steps e.0 e.2) refl (held-by name e.0 (slice_get rows name.0) refl e.1) (places-within steps e.0 e.2 q) f

  -- from which chains of fewer steps begin than the first, so none is the first again
  apart-by : (steps other : ℕ) (name first : NameId) → EndsIn steps name → EndsIn other first → steps < other → eqb first.0 name.0 ≡ true → ⊥
  apart-by steps other name first e f h same =
      let one : first ≡ name = ap id_at (eqb-true first.0 name.0 same) in
      omega (arith, one_number steps other name e (subst (EndsIn other) one f))

  apart : (steps other : ℕ) (name first : NameId) (e : EndsIn steps name) → EndsIn other first → steps < other → AllByRecursion (λ q. eqb first.0 q ≡ false) (places steps name e)
  apart zero other name first e f h = tt
  apart (suc steps) other name first e f h =
      (false_from_ne_true (eqb first.0 name.0) (apart-by (suc steps) other name first e f h), apart steps other e.0 first e.2 f (omega arith))

  differ : (steps : ℕ) (name : NameId) (e : EndsIn steps name) → IsDistinct eqb (places steps name e)
  unfolding IsDistinct
  differ zero name e = tt
  differ (suc steps) name e = (apart steps (suc steps) e.0 name e.2 e (omega arith), differ steps e.0 e.2)

  few : (steps : ℕ) (name : NameId) → EndsIn steps name → steps ≤ length rows
  few steps name e = omega (arith, places-count steps name e, length-le_from_distinct_below (places steps name e) (length rows) (differ steps name e) (places-within steps name e))

  -- how many steps a chain has that ends within some
  counted : (steps : ℕ) (name : NameId) (o : Option NameId) → alias_of rows name ≡ o → alias_of rows (end_within steps rows name) ≡ None → (n : ℕ) × (n ≤ steps) × EndsIn n name
  counted zero name o at e = (0, omega arith, e)
  counted (suc steps) name None at e = (0, omega arith, at)
  counted (suc steps) name (Some next) at e =
      let rest = counted steps next (alias_of rows next) refl (sym (ap (alias_of rows) (onward steps name next at)) ∙ e) in
      (suc rest.0, omega arith, (next, at, rest.2))

  ends : (name : NameId) (steps : ℕ) → alias_of rows (end_within steps rows name) ≡ None → end_of rows name ≡ end_within steps rows name
  ends name steps e =
      let chain = counted steps name (alias_of rows name) refl e in
      no_further chain.0 (length rows) name chain.2 (few chain.0 name chain.2) ∙ sym (no_further chain.0 steps name chain.2 chain.1)

pub chains-end : ChainsEnd
chains-end rows name steps e = ends rows name steps e
