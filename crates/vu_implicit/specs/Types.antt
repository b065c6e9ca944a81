-- The type of a member, and the structs that extend a struct.
use Rattle.std.specs.Prelude.{ℕ, zero, suc, Bool, true, false, ◌&&◌, ◌==◌, List, length, map, filter, slice_get, Option, is_none}
use Rattle.std.specs.List.{list_any, range_with_len}
use Rattle.std.specs.Option.{option_and_then, option_map_or}
use Rattle.vkb_formula.specs.declared.name_table.NameId.{NameId}
use Rattle.reg_registry.specs.Rows.{id_at}
use Rattle.reg_registry.specs.declared.kinds.Kind.{Kind}
use Rattle.reg_registry.specs.declared.kinds.Kind.TheVariants as kind
use Rattle.reg_registry.specs.declared.registry.Member.{Member}
use Rattle.reg_registry.specs.declared.registry.Row.{Row}

abbrev pub is_struct : Kind → Bool
is_struct kind.Struct = true
is_struct _ = false

-- the name that a name is an alias of
abbrev pub alias_of : List Row → NameId → Option NameId
alias_of rows name = option_and_then (λ row. row.alias) (slice_get rows name.0)

-- where a chain of aliases ends, or how far it comes in so many steps
abbrev pub end_within : ℕ → List Row → NameId → NameId
end_within zero rows name = name
end_within (suc steps) rows name = option_map_or (end_within steps rows) (alias_of rows name) name

-- where the chain of aliases of a name ends: a chain that ends has no more steps than there are names
abbrev pub end_of : List Row → NameId → NameId
end_of rows name = end_within (length rows) rows name

-- What the type of a member is: what is declared where the type's chain of aliases ends.
abbrev pub type_of : List Row → Member → Option Row
type_of rows m = slice_get rows (end_of rows m.base).0

-- the row is a struct that is no alias, and it extends the struct of this name
abbrev pub extends : NameId → Row → Bool
extends owner row = is_struct row.kind && is_none row.alias && list_any (λ id. id.0 == owner.0) row.extends

-- the structs that extend a struct, in the order of the registry
abbrev pub extending : List Row → NameId → List NameId
extending rows owner = filter (λ id. option_map_or (extends owner) (slice_get rows id.0) false) (map id_at (range_with_len 0 (length rows)))
