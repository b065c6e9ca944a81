-- What the loops over the lines of a file keep, which no public contract names: what is known of the lines so far, and what
-- each definition says of the lines ahead from that alone.
use Rattle.std.specs.Prelude.{ℕ, ◌+◌, Bool, not, ◌&&◌, if◌then◌else◌, List, [], ◌∷◌, ◌++◌, length, Option, None, Some, unwrap_or}
use Rattle.std.specs.List.{concat}
use Rattle.doc_cond.specs.declared.LineKind.{LineKind}
use Rattle.doc_cond.specs.declared.LineKind.TheVariants.{Api}
use Rattle.vu_tags.specs.Lines.{is_bullet, is_fence, is_title, unfed}
use Rattle.vu_tags.specs.Statements.{follows_title, further_lines, in_block, lacks_tag}
use Rattle.vu_tags.specs.Tagged.{Names, parameter_of, piece_of, with_piece}
use Rattle.vu_tags.specs.declared.blocks.Block.{Block}
use Rattle.vu_tags.specs.declared.Usage.{Usage}

-- what is known behind these lines, the nearest first
abbrev pub block_behind : List (List ℕ) → Block
block_behind before = record { inside = in_block before; titled = follows_title before }

-- what is known behind one line more
abbrev pub block_after : Block → List ℕ → Block
block_after block line = record { inside = if is_fence line then block.titled && not block.inside else block.inside; titled = is_title line }

-- a statement without a tag begins with the line
abbrev pub is_untagged_in : Block → List ℕ → Bool
is_untagged_in block line = block.inside && is_bullet line && lacks_tag line

-- the statement that begins with the line, if one does
abbrev pub usage_in : Block → ℕ → List ℕ → List (List ℕ) → List Usage
usage_in block number line after = if block.inside && is_bullet line then record { first = number; last = number + length (further_lines after) } ∷ [] else []

-- the statements ahead
abbrev pub usages_ahead : Block → ℕ → List (List ℕ) → List Usage
usages_ahead block number [] = []
usages_ahead block number (line ∷ after) = usage_in block number line after ++ usages_ahead (block_after block line) (number + 1) after

-- how many of them have no tag
abbrev pub untagged_ahead : Block → List (List ℕ) → ℕ
untagged_ahead block [] = 0
untagged_ahead block (line ∷ after) = (if is_untagged_in block line then 1 else 0) + untagged_ahead (block_after block line) after

-- the page that a line of that kind includes
abbrev pub api_of : LineKind → Option (List ℕ)
api_of (Api name) = Some name
api_of _ = None

-- the page behind one line more
abbrev pub page_after : Names → List ℕ → List ℕ → List ℕ
page_after names page line = unwrap_or (names (unfed line)) page

-- the line with its new tag, if it needs one
abbrev pub line_in : Block → List ℕ → ℕ → List ℕ → List (List ℕ) → List ℕ
line_in block page number line after =
    if is_untagged_in block line then with_piece line (piece_of page (parameter_of (concat (line ∷ further_lines after))) number) else line

-- the number behind the line
abbrev pub number_after : Block → ℕ → List ℕ → ℕ
number_after block number line = if is_untagged_in block line then number + 1 else number

-- the lines ahead with their new tags
abbrev pub tagged_ahead : Names → Block → List ℕ → ℕ → List (List ℕ) → List ℕ
tagged_ahead names block page number [] = []
tagged_ahead names block page number (line ∷ after) =
    line_in block page number line after ++ tagged_ahead names (block_after block line) (page_after names page line) (number_after block number line) after
