-- The chapter of a sample: for each item a part with the anchor of its struct, a link to its first parent, and an anchor that
-- stands once at every choice, with a link to it.
use Rattle.std.specs.Prelude.{ℕ, List, [], ◌∷◌, ◌++◌, codes, decimal}
use Rattle.std.specs.List.{concat, flat_map}
use Rattle.vkb_gen.specs.Items.{items_of}
use Rattle.vkb_gen.specs.Lines.{line, option_name, struct_name}
use Rattle.vkb_gen.specs.declared.items.Item.{Item}
use Rattle.vkb_gen.specs.declared.items.Parents.{Parents}
use Rattle.vkb_gen.specs.declared.items.Parents.TheVariants.{Nobody, One, Two}

-- the line that opens or closes what is kept with an extension, or without it
unfoldable pub conditional_line : List ℕ → ℕ → List ℕ
conditional_line word number = line (word ∷ codes "::" ∷ option_name number ∷ codes "[]" ∷ [])

abbrev pub ifdef_line : ℕ → List ℕ
ifdef_line number = conditional_line (codes "ifdef") number

abbrev pub ifndef_line : ℕ → List ℕ
ifndef_line number = conditional_line (codes "ifndef") number

abbrev pub endif_line : ℕ → List ℕ
endif_line number = conditional_line (codes "endif") number

-- an anchor of an item
unfoldable pub anchor_line : List ℕ → ℕ → List ℕ
anchor_line kind number = line (codes "[[" ∷ kind ∷ codes "-" ∷ decimal number ∷ codes "]]" ∷ [])

-- the anchor that goes with its struct, and the one that stands at every choice
abbrev pub struct_anchor : ℕ → List ℕ
struct_anchor number = anchor_line (codes "gen") number

abbrev pub constant_anchor : ℕ → List ℕ
constant_anchor number = anchor_line (codes "alt") number

-- the line that includes the generated page of a struct
unfoldable pub include_line : ℕ → List ℕ
include_line number = line (codes "include::{generated}/api/structs/" ∷ struct_name number ∷ codes ".adoc[]" ∷ [])

-- the lines with links: to the struct of a parent, and to the anchor that stands at every choice
unfoldable pub parent_link : ℕ → List ℕ
parent_link parent = line (codes "See <<gen-" ∷ decimal parent ∷ codes ">> and slink:" ∷ struct_name parent ∷ codes "." ∷ [])

unfoldable pub constant_link : ℕ → List ℕ
constant_link number = line (codes "See <<alt-" ∷ decimal number ∷ codes ">>." ∷ [])

-- the link to the first parent, where an item has one; where it has two, within what is kept with that one
abbrev pub parent_lines : Parents → List (List ℕ)
parent_lines Nobody = []
parent_lines (One parent) = parent_link parent ∷ []
parent_lines (Two parent other) = ifdef_line parent ∷ parent_link parent ∷ endif_line parent ∷ []

-- what is kept with an extension: the anchor and the page of its struct, and the link to its parent
abbrev pub struct_lines : Item → List (List ℕ)
struct_lines item =
    ifdef_line item.number ∷ struct_anchor item.number ∷ include_line item.number
    ∷ (parent_lines item.parents ++ endif_line item.number ∷ [])

-- one anchor that is kept with an extension, the same that is kept without it, and a link to it
abbrev pub constant_lines : ℕ → List (List ℕ)
constant_lines number =
    ifdef_line number ∷ constant_anchor number ∷ endif_line number
    ∷ ifndef_line number ∷ constant_anchor number ∷ endif_line number
    ∷ constant_link number ∷ []

-- the part of an item
unfoldable pub part_of : Item → List ℕ
part_of item = concat (struct_lines item ++ constant_lines item.number)

abbrev pub chapter_with : List Item → List ℕ
chapter_with items = flat_map part_of items

-- the chapter of a seed and a size
abbrev pub chapter_of : ℕ → ℕ → List ℕ
chapter_of seed size = chapter_with (items_of seed size)
