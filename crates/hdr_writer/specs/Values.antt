-- Which values of an enum type stand at a choice, and in which order. What `require` and `remove` blocks do is of the Vulkan registry manual; the
-- order, and that an alias brings the end of its chain with it, are this tool's own rules.
use Rattle.std.specs.Prelude.{ℕ, Bool, false, not, ◌&&◌, ◌||◌, List, ◌++◌, filter, map, slice_index_or, is_some}
use Rattle.std.specs.List.{list_any}
use Rattle.std.specs.Option.{option_map_or}
use Rattle.vkb_formula.specs.Names.{is_same_name}
use Rattle.reg_registry.specs.declared.registry.Block.{Block}
use Rattle.reg_registry.specs.declared.registry.Enumerant.{Enumerant}
use Rattle.reg_closure.specs.Closure.{is_active}

-- for each block whether it is active at a choice
abbrev pub active_blocks : List Block → List Bool → List Bool
active_blocks blocks chosen = map (is_active chosen) blocks

-- the block at a place is active
abbrev pub is_active_at : List Bool → ℕ → Bool
is_active_at active place = slice_index_or active place false

-- a value that stands in the block of its type or that an active block requires, and that none removes
abbrev pub is_left : List Bool → Enumerant → Bool
is_left active e = (e.always || list_any (is_active_at active) e.required) && not (list_any (is_active_at active) e.removed)

abbrev pub is_alias : Enumerant → Bool
is_alias e = is_some e.end

-- the value's chain of aliases ends at this name
abbrev pub ends_at : List ℕ → Enumerant → Bool
ends_at name e = option_map_or (is_same_name name) e.end false

-- an alias that is left ends at this name
abbrev pub is_end : List Bool → List Enumerant → List ℕ → Bool
is_end active values name = list_any (λ e. is_left active e && ends_at name e) values

-- no alias, and left itself or the end of one that is left
abbrev pub stands : List Bool → List Enumerant → Enumerant → Bool
stands active values e = not (is_alias e) && (is_left active e || is_end active values e.name)

-- an alias that is left
abbrev pub stands_as_alias : List Bool → Enumerant → Bool
stands_as_alias active e = is_alias e && is_left active e

-- of the values of a type those that stand: first the ones that are no aliases, then the aliases
abbrev pub values_at : List Bool → List Enumerant → List Enumerant
values_at active values = filter (stands active values) values ++ filter (stands_as_alias active) values
