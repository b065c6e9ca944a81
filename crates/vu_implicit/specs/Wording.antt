-- How statements are worded and tagged.
use Rattle.std.specs.Prelude.{ℕ, Bool, List, [], ◌∷◌, ◌++◌, codes, slice_index_or, None, if◌then◌else◌}
use Rattle.vkb_formula.specs.declared.name_table.NameId.{NameId}
use Rattle.reg_registry.specs.Rows.{Rows}
use Rattle.reg_registry.specs.declared.kinds.Kind.{Kind}
use Rattle.reg_registry.specs.declared.kinds.Kind.TheVariants as kind
use Rattle.vu_implicit.specs.declared.statement.Statement.{Statement}

-- the declared name at a place
abbrev pub name_of : Rows → NameId → List ℕ
name_of r id = slice_index_or r.names id.0 []

-- the tag of a statement on an owner: what the statement is on, and how it ends
abbrev pub tag_of : List ℕ → List ℕ → List ℕ → List ℕ
tag_of owner on end = codes "VUID-" ++ owner ++ codes "-" ++ on ++ codes "-" ++ end

-- a statement that needs no name
abbrev pub says : List ℕ → List ℕ → List ℕ → List ℕ → Statement
says owner on end text = record { tag = tag_of owner on end; text = text; needs = None }

-- the statement, where a rule applies
abbrev pub where_so : Bool → Statement → List Statement
where_so applies statement = if applies then statement ∷ [] else []

-- a link to a type of this kind: to a struct, an enum type or another type that the specification has a page of, else its name between backquotes
abbrev pub link : Kind → List ℕ → List ℕ
link kind.Struct name = codes "slink:" ++ name
link kind.Union name = codes "slink:" ++ name
link kind.Handle name = codes "slink:" ++ name
link kind.EnumType name = codes "elink:" ++ name
link kind.Bitmask name = codes "tlink:" ++ name
link kind.FuncPointer name = codes "tlink:" ++ name
link _ name = codes "`" ++ name ++ codes "`"
