-- What is said of pointers, and of members that tell the length of others: the rules 10 and 12. All members of the owner are given: no two have one
-- name, so another member is one of another name.
use Rattle.std.specs.Prelude.{ℕ, Bool, not, ◌&&◌, nat_lt, List, [], ◌++◌, codes, if◌then◌else◌}
use Rattle.std.specs.List.{list_any}
use Rattle.std.specs.Str.{bytes_eq}
use Rattle.reg_registry.specs.Rows.{Rows}
use Rattle.reg_registry.specs.declared.registry.Member.{Member}
use Rattle.reg_registry.specs.declared.registry.Row.{Row}
use Rattle.vu_implicit.specs.declared.statement.Statement.{Statement}
use Rattle.vu_implicit.specs.Wording.{link, name_of, says, where_so}
use Rattle.vu_implicit.specs.Parameters.{is_plain}

-- the `len` of the member is the name of another
abbrev pub has_length : List Member → Member → Bool
has_length members m = list_any (λ other. bytes_eq m.len other.name && not (bytes_eq m.name other.name)) members

-- an array with as many elements as another member says
abbrev pub array_text : List ℕ → List ℕ → List ℕ → List ℕ
array_text name len link = codes "pname:" ++ name ++ codes " must: be a valid pointer to an array of pname:" ++ len ++ codes " " ++ link

-- what the member points to
abbrev pub points_to : Rows → List Member → Row → Member → List ℕ
points_to r members declared m =
    if bytes_eq m.len (codes "null-terminated") then codes "pname:" ++ m.name ++ codes " must: be a null-terminated string"
    else if has_length members m then array_text m.name m.len (link declared.kind (name_of r m.base))
    else codes "pname:" ++ m.name ++ codes " must: be a valid pointer to " ++ link declared.kind (name_of r m.base)

-- what a statement on an optional pointer begins with
abbrev pub unless_null : Member → List ℕ
unless_null m = if m.optional then codes "If pname:" ++ m.name ++ codes " is not `NULL`, " else []

-- 10. A pointer: one star or more.
abbrev pub pointer : Rows → List ℕ → List Member → Row → Member → List Statement
pointer r owner members declared m =
    where_so (nat_lt 0 m.stars) (says owner m.name (codes "parameter") (unless_null m ++ points_to r members declared m))

-- the member is the `len` of another that is neither optional nor silent
abbrev pub is_length : List Member → Member → Bool
is_length members m =
    list_any (λ other. not other.optional && not other.silent && not (bytes_eq m.name other.name) && bytes_eq m.name other.len) members

-- 12. No star and not optional, and the length of another member.
abbrev pub array_length : List ℕ → List Member → Member → List Statement
array_length owner members m =
    where_so (is_plain m && not m.optional && is_length members m)
    (says owner m.name (codes "arraylength") (codes "pname:" ++ m.name ++ codes " must: be greater than `0`"))
