-- What is said of members and parameters that have no star: the rules 5 to 9, and 11. What is declared at the end of the member's type is given; in
-- the text the type has the name that is written.
use Rattle.std.specs.Prelude.{ℕ, Bool, true, false, not, ◌&&◌, ◌==◌, List, [], ◌∷◌, ◌++◌, codes, Option, None, is_some, is_none, if◌then◌else◌}
use Rattle.std.specs.Option.{option_map_or}
use Rattle.vkb_formula.specs.declared.name_table.NameId.{NameId}
use Rattle.reg_registry.specs.Rows.{Rows}
use Rattle.reg_registry.specs.declared.kinds.Kind.{Kind}
use Rattle.reg_registry.specs.declared.kinds.Kind.TheVariants as kind
use Rattle.reg_registry.specs.declared.registry.Member.{Member}
use Rattle.reg_registry.specs.declared.registry.Row.{Row}
use Rattle.vu_implicit.specs.declared.statement.Statement.{Statement}
use Rattle.vu_implicit.specs.Wording.{name_of, says, where_so}

abbrev pub is_handle : Kind → Bool
is_handle kind.Handle = true
is_handle _ = false

abbrev pub is_enum : Kind → Bool
is_enum kind.EnumType = true
is_enum _ = false

abbrev pub is_bitmask : Kind → Bool
is_bitmask kind.Bitmask = true
is_bitmask _ = false

abbrev pub is_structure : Kind → Bool
is_structure kind.Struct = true
is_structure kind.Union = true
is_structure _ = false

abbrev pub is_function : Kind → Bool
is_function kind.FuncPointer = true
is_function _ = false

abbrev pub is_plain : Member → Bool
is_plain m = m.stars == 0

abbrev pub handle_text : Bool → List ℕ → List ℕ → List ℕ
handle_text optional name type =
    if optional then codes "If pname:" ++ name ++ codes " is not `VK_NULL_HANDLE`, it must: be a valid slink:" ++ type ++ codes " handle"
    else codes "pname:" ++ name ++ codes " must: be a valid slink:" ++ type ++ codes " handle"

-- 5. A handle.
abbrev pub handle : Rows → List ℕ → Row → Member → List Statement
handle r owner declared m =
    where_so (is_plain m && is_handle declared.kind) (says owner m.name (codes "parameter") (handle_text m.optional m.name (name_of r m.base)))

-- 6. An enum type.
abbrev pub enum_value : Rows → List ℕ → Row → Member → List Statement
enum_value r owner declared m =
    where_so (is_plain m && is_enum declared.kind)
    (says owner m.name (codes "parameter") (codes "pname:" ++ m.name ++ codes " must: be a valid elink:" ++ name_of r m.base ++ codes " value"))

-- the type of the bits, where the member is a bitmask that has one
abbrev pub bits_of : Row → Member → Option NameId
bits_of declared m = if is_plain m && is_bitmask declared.kind then declared.bits else None

-- 7. A bitmask with bits, optional or not.
abbrev pub flags : Rows → List ℕ → Row → Member → List Statement
flags r owner declared m =
    option_map_or
    (λ bits. says owner m.name (codes "parameter")
    (codes "pname:" ++ m.name ++ codes " must: be a valid combination of elink:" ++ name_of r bits ++ codes " values") ∷ [])
    (bits_of declared m) []

-- 8. A bitmask with bits that isn't optional.
abbrev pub required_flags : List ℕ → Row → Member → List Statement
required_flags owner declared m =
    where_so (is_some (bits_of declared m) && not m.optional)
    (says owner m.name (codes "requiredbitmask") (codes "pname:" ++ m.name ++ codes " must: not be `0`"))

-- 9. A bitmask without bits.
abbrev pub zero_flags : List ℕ → Row → Member → List Statement
zero_flags owner declared m =
    where_so (is_plain m && is_bitmask declared.kind && is_none declared.bits)
    (says owner m.name (codes "zerobitmask") (codes "pname:" ++ m.name ++ codes " must: be `0`"))

-- 11. A struct or a union; and a function pointer.
abbrev pub structure : Rows → List ℕ → Row → Member → List Statement
structure r owner declared m =
    where_so (is_plain m && is_structure declared.kind)
    (says owner m.name (codes "parameter") (codes "pname:" ++ m.name ++ codes " must: be a valid slink:" ++ name_of r m.base ++ codes " structure"))

abbrev pub function : Rows → List ℕ → Row → Member → List Statement
function r owner declared m =
    where_so (is_plain m && is_function declared.kind)
    (says owner m.name (codes "parameter") (codes "pname:" ++ m.name ++ codes " must: be a valid tlink:" ++ name_of r m.base ++ codes " pointer"))
