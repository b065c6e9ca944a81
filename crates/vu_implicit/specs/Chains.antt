-- What is said of the members `sType` and `pNext` of a struct: the rules 1 to 4. The rules 2 to 4 are asked of `pNext` alone, with the structs that
-- extend the owner.
use Rattle.std.specs.Prelude.{ℕ, Bool, ◌&&◌, nat_eq, nat_lt, List, [], ◌∷◌, ◌++◌, length, map, codes, Some, if◌then◌else◌}
use Rattle.std.specs.List.{list_all}
use Rattle.std.specs.Str.{bytes_eq}
use Rattle.vkb_bytes.specs.Bytes.{is_word_byte}
use Rattle.vkb_formula.specs.declared.name_table.NameId.{NameId}
use Rattle.reg_registry.specs.Rows.{Rows}
use Rattle.reg_registry.specs.declared.registry.Member.{Member}
use Rattle.vu_implicit.specs.declared.statement.Statement.{Statement}
use Rattle.vu_implicit.specs.Wording.{name_of, says, tag_of, where_so}

abbrev pub is_stype : Member → Bool
is_stype m = bytes_eq m.name (codes "sType")

abbrev pub is_pnext : Member → Bool
is_pnext m = bytes_eq m.name (codes "pNext")

-- one word byte or more, and nothing else
abbrev pub is_word : List ℕ → Bool
is_word text = nat_lt 0 (length text) && list_all is_word_byte text

-- 1. The member is `sType`, and its values are one word.
abbrev pub type_value : List ℕ → Member → List Statement
type_value owner m =
    where_so (is_stype m && is_word m.values) (says owner (codes "sType") (codes "sType") (codes "pname:sType must: be ename:" ++ m.values))

-- 2. No struct extends the owner.
abbrev pub no_chain : List ℕ → List NameId → List Statement
no_chain owner extending =
    where_so (nat_eq (length extending) 0) (says owner (codes "pNext") (codes "pNext") (codes "pname:pNext must: be `NULL`"))

-- a struct that extends the owner may stand in the chain, which needs that this struct is there
abbrev pub included : List ℕ → List ℕ → NameId → Statement
included owner name e = record {
  tag = tag_of owner (codes "pNext") name;
  text = codes "The pname:pNext chain can: include slink:" ++ name;
  needs = Some e;
}

abbrev pub may_include : Rows → List ℕ → NameId → Statement
may_include r owner e = included owner (name_of r e) e

-- 3. Structs extend the owner: one statement for the chain, and one for each of them, in the order of the registry.
abbrev pub chain : Rows → List ℕ → List NameId → List Statement
chain r owner extending =
    if nat_lt 0 (length extending)
    then says owner (codes "pNext") (codes "pNext") (codes "Each pname:pNext pointer must: be `NULL` or point to a structure of the next statements")
    ∷ map (may_include r owner) extending
    else []

-- 4. Structs extend the owner.
abbrev pub unique_types : List ℕ → List NameId → List Statement
unique_types owner extending =
    where_so (nat_lt 0 (length extending))
    (says owner (codes "sType") (codes "unique") (codes "Each pname:sType value in the pname:pNext chain must: be unique"))

-- what is said of `pNext`, where these structs extend the owner
abbrev pub pnext_statements : Rows → List ℕ → List NameId → List Statement
pnext_statements r owner extending = no_chain owner extending ++ chain r owner extending ++ unique_types owner extending
