-- What is true of each header that is written: a law of this crate.
use Rattle.std.specs.Prelude.{◌≡◌, ℕ, Bool, not, List, [], ◌∷◌, ◌++◌, codes, filter, map, Contains}
use Rattle.std.specs.List.{flat_map}
use Rattle.vkb_outside.specs.Shelf.{Files}
use Rattle.vkb_formula.specs.declared.name_table.NameId.{NameId}
use Rattle.reg_registry.specs.Naming.{Names, NoneTwice}
use Rattle.reg_registry.specs.Rows.{Rows}
use Rattle.reg_closure.specs.Closure.{IsInClosure}
use Rattle.hdr_writer.specs.Declarations.{declaration}
use Rattle.hdr_writer.specs.Headers.{defines, header, is_command, prologue}
use Rattle.hdr_writer.specs.Lines.{line}
use Rattle.vkb_tool.specs.Outcome.{IsDeclared}

-- names in the order in which they are written: first those that are no commands
abbrev pub written_order : Rows → List NameId → List NameId
written_order r order = filter (λ id. not (is_command r id)) order ++ filter (is_command r) order

-- the one name stands before the other
abbrev pub StandsBefore : List NameId → NameId → NameId → Type 0
StandsBefore order first second = (front middle back : List NameId) × (order ≡ front ++ first ∷ (middle ++ second ∷ back))

-- The header has a declaration of each name of the closure, each once, and of no other. Each name stands behind all that it names.
pub record IsWholeHeader (r : Rows) (chosen : List Bool) (order : List NameId) : Type 0 where
  pub text : header r chosen order ≡ prologue ++ defines r chosen ++ flat_map (declaration r chosen) (written_order r order) ++ line (codes "#endif" ∷ [])
  pub only : (id : NameId) → Contains (written_order r order) id → IsInClosure r chosen id.0
  pub all : (id : NameId) → IsInClosure r chosen id.0 → Contains (written_order r order) id
  pub once : NoneTwice (map (λ id. id.0) (written_order r order))
  pub behind : (id other : NameId) → Contains (written_order r order) id → Names r.rows id.0 other.0 → StandsBefore (written_order r order) other id

abbrev pub HeadersAreWhole : Type 0
HeadersAreWhole =
    (files : Files) (registry api : List ℕ) (names : List (List ℕ)) (r : Rows) (chosen : List Bool) (order : List NameId)
    → IsDeclared files registry api names r chosen order → IsWholeHeader r chosen order
