use Rattle.std.proofs.Common.{◌≡◌, ◌&&◌, ℕ, List, is_some, take}
use Rattle.std.specs.List.{list_any}
use Rattle.std.specs.Str.{bytes_eq}
use Rattle.vkb_formula.specs.Names.{place_of}
use Rattle.reg_tables.specs.Tables.{is_sort, sort_of}
use Rattle.reg_tables.proofs.tables.names_of_sort.Given as goal

abbrev pub invariant-loop-declaration : goal.invariant-loop-declaration
invariant-loop-declaration l =
    (name : List ℕ) → is_some (place_of name l.names) ≡ list_any (λ d. is_sort l.sort (sort_of d.kind) && bytes_eq name d.name) (take l.declaration-index l.forms.declarations)
