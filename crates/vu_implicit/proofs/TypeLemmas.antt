-- Chains of aliases step by step, and the structs that extend a struct, row by row.
use Rattle.std.proofs.Common.{◌≡◌, ℕ, zero, suc, ◌+◌, ◌-◌, ◌<◌, Bool, false, cond, List, [], ◌∷◌, ◌++◌, filter, map, Option, Some, None, slice_get, refl, ap, ◌∙◌, arith}
use Rattle.std.specs.List.{range_with_len}
use Rattle.std.specs.Option.{option_and_then, option_map_or}
use Rattle.std.proofs.lemmas.List.FromFn.{filter_of_map_range_with_len_more}
use Rattle.vkb_formula.specs.declared.name_table.NameId.{NameId}
use Rattle.reg_registry.specs.Rows.{id_at}
use Rattle.reg_registry.specs.declared.registry.Row.{Row}
use Rattle.vu_implicit.specs.Types.{alias_of, end_within, extends}

pub alias-is : (rows : List Row) (name : NameId) (row : Row) → slice_get rows name.0 ≡ Some row → alias_of rows name ≡ row.alias
alias-is rows name row e = ap (λ (o : Option Row). option_and_then (λ r. r.alias) o) e

-- what is no alias is where its chain ends
pub stops : (steps : ℕ) (rows : List Row) (name : NameId) → alias_of rows name ≡ None → end_within steps rows name ≡ name
stops zero rows name e = refl
stops (suc steps) rows name e = ap (λ (o : Option NameId). option_map_or (end_within steps rows) o name) e

-- one step of a chain
pub goes : (most step : ℕ) (rows : List Row) (name next : NameId) → step < most → alias_of rows name ≡ Some next
    → end_within (most - step) rows name ≡ end_within (most - (step + 1)) rows next
goes most step rows name next h e =
    let left : most - step ≡ suc (most - (step + 1)) = omega arith in
    ap (λ (n : ℕ). end_within n rows name) left ∙ ap (λ (o : Option NameId). option_map_or (end_within (most - (step + 1)) rows) o name) e

-- those before a place
abbrev pub found : List Row → NameId → ℕ → List NameId
found rows owner place = filter (λ id. option_map_or (extends owner) (slice_get rows id.0) false) (map id_at (range_with_len 0 place))

-- one place more
pub found-more : (rows : List Row) (owner : NameId) (place : ℕ) (row : Row) (b : Bool) → slice_get rows place ≡ Some row → extends owner row ≡ b
    → found rows owner (place + 1) ≡ found rows owner place ++ cond b (id_at place ∷ []) []
found-more rows owner place row b at e =
    filter_of_map_range_with_len_more (λ id. option_map_or (extends owner) (slice_get rows id.0) false) id_at 0 place place (omega arith)
    ∙ ap (λ (passes : Bool). found rows owner place ++ cond passes (id_at place ∷ []) []) (ap (λ (o : Option Row). option_map_or (extends owner) o false) at ∙ e)
