-- The lines that the includes of generated pages give. A page of a declared name gives its anchor with its declaration in C, or its statements of
-- valid usage, and nothing where the closure lacks the name. That such pages are included is of the style guide "Vulkan Documentation and
-- Extensions: Procedures and Conventions"; what stands in them is this tool's own rule.
use Rattle.std.specs.Prelude.{ℕ, Bool, true, false, List, [], ◌∷◌, ◌++◌, codes, map, filter, slice_index_or, if◌then◌else◌}
use Rattle.std.specs.List.{concat, enumerate_from}
use Rattle.std.specs.Option.{option_map_or}
use Rattle.vkb_formula.specs.declared.name_table.NameId.{NameId}
use Rattle.vkb_text.specs.Lines.{lines_of}
use Rattle.reg_registry.specs.Rows.{Rows, id_of}
use Rattle.hdr_writer.specs.Declarations.{declaration}
use Rattle.vu_implicit.specs.Statements.{statements_of}
use Rattle.vu_implicit.specs.declared.statement.Statement.{Statement}
use Rattle.doc_cond.specs.declared.LineKind.{LineKind}
use Rattle.doc_cond.specs.declared.LineKind.TheVariants.{Api, Validity}
use Rattle.doc_build.specs.Choices.{PageLine}

-- a line in which no marks are read
abbrev pub silent_line : List ℕ → PageLine
silent_line bytes = record { statement = 0; marked = false; bytes = bytes }

-- ---- a declaration

-- the anchor of a page, which has the page's name
abbrev pub anchor_line : List ℕ → PageLine
anchor_line name = record { statement = 0; marked = true; bytes = concat (codes "[[" ∷ name ∷ codes "," ∷ name ∷ codes "]]" ∷ []) }

-- the lines before and behind C in a listing
abbrev pub fence : PageLine
fence = silent_line (codes "----")

-- a declaration in a listing, behind the anchor
abbrev pub listing : List ℕ → List ℕ → List PageLine
listing name text = anchor_line name ∷ silent_line (codes "[source,c++]") ∷ fence ∷ (map silent_line (lines_of text) ++ fence ∷ [])

-- ---- statements of valid usage

-- the line of a statement, with its number
abbrev pub statement_line : ℕ × Statement → PageLine
statement_line p = record { statement = p.0; marked = true; bytes = concat (codes "  * [[" ∷ p.1.tag ∷ codes "]] " ∷ p.1.text ∷ []) }

-- the statements of a name with their numbers, from 1
abbrev pub numbered : Rows → NameId → List (ℕ × Statement)
numbered r id = enumerate_from 1 (statements_of r id)

-- the closure has the name
abbrev pub has : List Bool → NameId → Bool
has set id = slice_index_or set id.0 false

-- a statement stands where the closure has the name that it needs; one that needs none always stands
abbrev pub stands : List Bool → Statement → Bool
stands set statement = option_map_or (has set) statement.needs true

-- lines of statements in a block of their own; where there are none, nothing
abbrev pub block : List PageLine → List PageLine
block [] = []
block (line ∷ lines) = silent_line (codes ".Valid Usage (Implicit)") ∷ silent_line (codes "****") ∷ line ∷ (lines ++ silent_line (codes "****") ∷ [])

-- the statements of a name that stand, each with the number that it has among all
abbrev pub usage : Rows → List Bool → NameId → List PageLine
usage r set id = block (map statement_line (filter (λ p. stands set p.1) (numbered r id)))

-- ---- by the kind of a line

-- what the page of a name gives, where the closure has the name
abbrev pub page_of : Rows → List Bool → (NameId → List PageLine) → List ℕ → List PageLine
page_of r set page name = option_map_or (λ id. if has set id then page id else []) (id_of r.names name) []

-- what a line includes at a choice whose closure has this set
abbrev pub lines_given : Rows → List Bool → List Bool → LineKind → List PageLine
lines_given r chosen set (Api name) = page_of r set (λ id. listing name (declaration r chosen id)) name
lines_given r chosen set (Validity name) = page_of r set (usage r set) name
lines_given r chosen set _ = []

-- the lines with marks that a line includes at some choice or other
abbrev pub lines_marked : Rows → LineKind → List PageLine
lines_marked r (Api name) = option_map_or (λ id. anchor_line name ∷ []) (id_of r.names name) []
lines_marked r (Validity name) = option_map_or (λ id. map statement_line (numbered r id)) (id_of r.names name) []
lines_marked r _ = []
