-- Places of names lie within the names, and formulas reach no further than the options.
use Rattle.std.proofs.Common.{◌≡◌, ◌≤◌, ◌<◌, ◌+◌, ℕ, List, [], ◌∷◌, length, map, slice_get, All, Option, Some, None, refl, sym, ap, ◌∙◌, arith}
use Rattle.std.specs.Prelude.{option_map}
use Rattle.std.specs.Option.{IfSome, option_and_then, option_map_or, unwrap_or}
use Rattle.std.proofs.lemmas.List.Elements.{All-map}
use Rattle.vkb_formula.specs.Expressions.{Atom, Expression, Name, Group, Single, Both, Either, formula_of, formula_of_atom, formula_of_place}
use Rattle.vkb_formula.specs.Formulas.{greatest, node_reach, reach_of}
use Rattle.vkb_formula.specs.Names.{place_of}
use Rattle.vkb_formula.specs.declared.formula.Formula.{Formula, Formula-F, fold-roll-Formula}
use Rattle.vkb_formula.specs.declared.formula.Formula.TheVariants.{Always, Never, Var, All as Conjunction, Any as Disjunction, rolls-All, rolls-Always, rolls-Any, rolls-Never, rolls-Var}
use Rattle.vkb_formula.specs.declared.name_table.NameId.{NameId}
use Rattle.reg_registry.specs.Rows.{id_at, id_of}
use Rattle.reg_forms.specs.declared.forms.DependsText.{DependsText}
use Rattle.reg_tables.specs.Bits.{Readings}
use Rattle.reg_rows.specs.Lists.{each_number}
use Rattle.reg_rows.specs.Rows.{formula_at, formula_in, id_of_known}
use Rattle.reg_rows.proofs.ListLemmas.{all-numbers}
use Rattle.reg_rows.proofs.PlaceLemmas.{place_of-within}

module _ (names : List (List ℕ)) where
  -- the name at a place is there
  abbrev pub IsThere : NameId → Type 0
  IsThere id = id.0 < length names

  module _ (name : List ℕ) where
    place-there : (o : Option ℕ) → place_of name names ≡ o → IfSome o (λ place. place < length names)
    place-there None e = tt
    place-there (Some place) e = place_of-within name names place e

    id-there : (o : Option ℕ) → IfSome o (λ place. place < length names) → IfSome (option_map id_at o) IsThere
    id-there None h = tt
    id-there (Some place) h = h

    known-there : (o : Option ℕ) → 0 < length names → IfSome o (λ place. place < length names) → IsThere (unwrap_or (option_map id_at o) (id_at 0))
    known-there None some h = some
    known-there (Some place) some h = h

  pub place-within : (name : List ℕ) → IfSome (place_of name names) (λ place. place < length names)
  place-within name = place-there name (place_of name names) refl

  pub id-within : (name : List ℕ) → IfSome (id_of names name) IsThere
  id-within name = id-there name (place_of name names) (place-within name)

  pub known-within : (name : List ℕ) → 0 < length names → IsThere (id_of_known names name)
  known-within name some = known-there name (place_of name names) some (place-within name)

  pub named-by : (o : Option (List ℕ)) → IfSome (option_and_then (id_of names) o) IsThere
  named-by None = tt
  named-by (Some name) = id-within name

  pub numbers-there : (places : List ℕ) → All (λ place. place < length names) places → All IsThere (map id_at (each_number places))
  numbers-there places h = All-map IsThere id_at (each_number places) (all-numbers (λ place. place < length names) places h)

reach-Always : reach_of Always ≡ 0
reach-Always = ap reach_of (sym rolls-Always) ∙ fold-roll-Formula ℕ node_reach Formula-F.Always

reach-Never : reach_of Never ≡ 0
reach-Never = ap reach_of (sym rolls-Never) ∙ fold-roll-Formula ℕ node_reach Formula-F.Never

reach-Var : (variable : ℕ) → reach_of (Var variable) ≡ variable + 1
reach-Var variable = ap reach_of (sym (rolls-Var variable)) ∙ fold-roll-Formula ℕ node_reach (Formula-F.Var variable)

reach-All : (parts : List Formula) → reach_of (Conjunction parts) ≡ greatest (map reach_of parts)
reach-All parts = ap reach_of (sym (rolls-All parts)) ∙ fold-roll-Formula ℕ node_reach (Formula-F.All parts)

reach-Any : (parts : List Formula) → reach_of (Disjunction parts) ≡ greatest (map reach_of parts)
reach-Any parts = ap reach_of (sym (rolls-Any parts)) ∙ fold-roll-Formula ℕ node_reach (Formula-F.Any parts)

-- what is always true reaches nothing
pub always-within : (n : ℕ) → reach_of Always ≤ n
always-within n = omega (arith, reach-Always)

module _ (options : List (List ℕ)) where
  name-reach : (name : List ℕ) (o : Option ℕ) → place_of name options ≡ o → reach_of (formula_of_place o) ≤ length options
  name-reach name None e = omega (arith, reach-Never)
  name-reach name (Some place) e = omega (arith, reach-Var place, place_of-within name options place e)

  mutual
    atom-reach : (a : Atom) → reach_of (formula_of_atom options a) ≤ length options
    atom-reach (Name name) = name-reach name (place_of name options) refl
    atom-reach (Group inner) = expression-reach inner

    expression-reach : (e : Expression) → reach_of (formula_of options e) ≤ length options
    expression-reach (Single atom) = atom-reach atom
    expression-reach (Both left atom) = omega (arith, reach-All (formula_of options left ∷ formula_of_atom options atom ∷ []), expression-reach left, atom-reach atom)
    expression-reach (Either left atom) = omega (arith, reach-Any (formula_of options left ∷ formula_of_atom options atom ∷ []), expression-reach left, atom-reach atom)

  text-reach : (reading : Option Expression) → reach_of (formula_in options reading) ≤ length options
  text-reach None = always-within (length options)
  text-reach (Some e) = expression-reach e

  some-reach : (o : Option (DependsText × Option Expression)) → reach_of (option_map_or (λ reading. formula_in options reading.1) o Always) ≤ length options
  some-reach None = always-within (length options)
  some-reach (Some reading) = text-reach reading.1

  -- a formula of a text has no variable past the options
  pub formula-within : (readings : Readings) (place : Option ℕ) → reach_of (formula_at options readings place) ≤ length options
  formula-within readings place = some-reach (option_and_then (slice_get readings) place)
