-- The statements of valid usage of a file: what of it lies in blocks, where each statement begins and ends, and which have no tag.
use Rattle.std.specs.Prelude.{ℕ, ◌+◌, Bool, false, not, ◌&&◌, ◌||◌, if◌then◌else◌, List, [], ◌∷◌, ◌++◌, length, map, filter, codes, count_by}
use Rattle.std.specs.List.{concat, sum_by}
use Rattle.vkb_bytes.specs.Bytes.{begins}
use Rattle.vu_tags.specs.Lines.{bullet, is_bullet, is_fence, is_title, lines_of}
use Rattle.vu_tags.specs.declared.Usage.{Usage}

-- a line of a file, with the lines before it, the nearest first, and those after it
pub record Place : Type 0 where
  pub before : List (List ℕ)
  pub line : List ℕ
  pub after : List (List ℕ)

abbrev pub places_from : List (List ℕ) → List (List ℕ) → List Place
places_from before [] = []
places_from before (line ∷ after) = record { before = before; line = line; after = after } ∷ places_from (line ∷ before) after

-- all lines of a file in order
abbrev pub places_of : List ℕ → List Place
places_of file = places_from [] (lines_of file)

-- the nearest line before is a title
abbrev pub follows_title : List (List ℕ) → Bool
follows_title [] = false
follows_title (line ∷ before) = is_title line

-- What follows these lines, the nearest first, lies in a block. Outside a block a fence directly behind a title opens one, and
-- in a block the next fence ends it.
abbrev pub in_block : List (List ℕ) → Bool
in_block [] = false
in_block (line ∷ before) = if is_fence line then follows_title before && not (in_block before) else in_block before

abbrev pub begins_statement : Place → Bool
begins_statement place = in_block place.before && is_bullet place.line

-- the lines of a statement after its first: those up to the next bullet or the block's end
abbrev pub further_lines : List (List ℕ) → List (List ℕ)
further_lines [] = []
further_lines (line ∷ after) = if is_bullet line || is_fence line then [] else line ∷ further_lines after

-- all bytes of the statement that begins there
abbrev pub statement_of : Place → List ℕ
statement_of place = concat (place.line ∷ further_lines place.after)

-- the first and the last line of the statement that begins there, counted from 0
abbrev pub usage_at : Place → Usage
usage_at place = record { first = length place.before; last = length place.before + length (further_lines place.after) }

-- all statements of a file, in order
unfoldable pub usages_of : List ℕ → List Usage
usages_of file = map usage_at (filter begins_statement (places_of file))

-- what a tag begins with
abbrev pub tag_front : List ℕ
tag_front = codes "[[VUID-"

-- the bullet has no tag directly behind it
unfoldable pub lacks_tag : List ℕ → Bool
lacks_tag line = not (begins line (bullet ++ tag_front))

-- a statement without a tag begins there
abbrev pub is_untagged : Place → Bool
is_untagged place = begins_statement place && lacks_tag place.line

-- how many statements of a file have no tag
unfoldable pub untagged_in : List ℕ → ℕ
untagged_in file = count_by is_untagged (places_of file)

-- how many statements of all files have none
unfoldable pub needed_of : List (List ℕ) → ℕ
needed_of files = sum_by untagged_in files
