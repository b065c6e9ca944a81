-- The valid usage statements of a declared name that follow from the registry, by twelve rules. The rules and the words are this tool's own, after
-- those of the Vulkan specification's implicit valid usage.
use Rattle.std.specs.Prelude.{ℕ, Bool, true, false, not, ◌&&◌, ◌||◌, List, [], ◌++◌, slice_get, is_none, if◌then◌else◌}
use Rattle.std.specs.List.{flat_map}
use Rattle.std.specs.Option.{option_map_or}
use Rattle.vkb_formula.specs.declared.name_table.NameId.{NameId}
use Rattle.reg_registry.specs.Rows.{Rows}
use Rattle.reg_registry.specs.declared.kinds.Kind.{Kind}
use Rattle.reg_registry.specs.declared.kinds.Kind.TheVariants as kind
use Rattle.reg_registry.specs.declared.registry.Member.{Member}
use Rattle.reg_registry.specs.declared.registry.Row.{Row}
use Rattle.vu_implicit.specs.declared.statement.Statement.{Statement}
use Rattle.vu_implicit.specs.Chains.{is_pnext, is_stype, pnext_statements, type_value}
use Rattle.vu_implicit.specs.Parameters.{enum_value, flags, function, handle, required_flags, structure, zero_flags}
use Rattle.vu_implicit.specs.Pointers.{array_length, pointer}
use Rattle.vu_implicit.specs.Types.{extending, is_struct, type_of}
use Rattle.vu_implicit.specs.Wording.{name_of}

-- structs and commands have statements, aliases have none
abbrev pub has_statements_kind : Kind → Bool
has_statements_kind kind.Struct = true
has_statements_kind kind.Command = true
has_statements_kind _ = false

abbrev pub has_statements : Row → Bool
has_statements row = has_statements_kind row.kind && is_none row.alias

-- the rules for the members `sType` and `pNext` of a struct
abbrev pub chain_statements : Rows → NameId → Member → List Statement
chain_statements r owner m =
    type_value (name_of r owner) m ++ (if is_pnext m then pnext_statements r (name_of r owner) (extending r.rows owner) else [])

-- the rules for other members and for parameters, by what the type is
abbrev pub typed_statements : Rows → List ℕ → List Member → Member → Row → List Statement
typed_statements r owner members m declared =
    handle r owner declared m
    ++ enum_value r owner declared m
    ++ flags r owner declared m
    ++ required_flags owner declared m
    ++ zero_flags owner declared m
    ++ pointer r owner members declared m
    ++ structure r owner declared m
    ++ function r owner declared m
    ++ array_length owner members m

-- In a struct `sType` and `pNext` have rules of their own. The others ask nothing of silent members, nor of what is only returned.
abbrev pub is_asked : Row → Member → Bool
is_asked row m = not row.returned && not m.silent && not (is_struct row.kind && (is_stype m || is_pnext m))

-- all that is said of a member or parameter, in the order of the rules
abbrev pub member_statements : Rows → NameId → Row → Member → List Statement
member_statements r owner row m =
    (if is_struct row.kind then chain_statements r owner m else [])
    ++ (if is_asked row m then option_map_or (typed_statements r (name_of r owner) row.members m) (type_of r.rows m) [] else [])

abbrev pub row_statements : Rows → NameId → Row → List Statement
row_statements r owner row = if has_statements row then flat_map (member_statements r owner row) row.members else []

-- The statements of a declared name. The number of each is its place, from 1.
abbrev pub statements_of : Rows → NameId → List Statement
statements_of r owner = option_map_or (row_statements r owner) (slice_get r.rows owner.0) []
