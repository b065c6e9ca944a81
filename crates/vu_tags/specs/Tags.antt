-- Tags (VUIDs) of valid usage statements, their numbers, and what is malformed. The form of a tag is that of the style guide
-- "Vulkan Documentation and Extensions: Procedures and Conventions".
use Rattle.std.specs.Prelude.{◌≡◌, ℕ, ◌+◌, ◌-◌, ◌<◌, Bool, true, false, not, ◌&&◌, ◌||◌, ◌==◌, if◌then◌else◌, List, [], ◌∷◌, length, take, drop, codes, max, count_by, Option, None, Some, slice_index_or}
use Rattle.std.specs.List.{filter_map, flat_map, fold, list_any, prefix_len, suffix_len}
use Rattle.vkb_bytes.specs.Bytes.{begins, is_word_byte}
use Rattle.vkb_bytes.specs.Numbers.{is_numeral, numeral_of}
use Rattle.vu_tags.specs.Lines.{is_line_feed}
use Rattle.vu_tags.specs.Statements.{tag_front}

-- what stands in a text from each of its bytes on
abbrev pub tails : List ℕ → List (List ℕ)
tails [] = []
tails (byte ∷ bytes) = (byte ∷ bytes) ∷ tails bytes

-- a letter, a digit, `_`, `-`, `:`, `.`, `{` or `}`
abbrev pub is_tag_byte : ℕ → Bool
is_tag_byte b = is_word_byte b || b == 45 || b == 58 || b == 46 || b == 123 || b == 125

-- the longest run of such bytes that stands in front
abbrev pub tag_run : List ℕ → List ℕ
tag_run bytes = take (prefix_len is_tag_byte bytes) bytes

-- what stands between `[[VUID-` and `]]`, in the tag that the bytes begin with: one or more of these bytes
unfoldable pub tag_at : List ℕ → Option (List ℕ)
tag_at bytes =
    let behind = drop (length tag_front) bytes in
    let run = tag_run behind in
    if begins bytes tag_front && not (length run == 0) && begins (drop (length run) behind) (codes "]]") then Some run else None

-- what stands behind the last `-` of a tag, whose `[[VUID-` has one
abbrev pub last_part : List ℕ → List ℕ
last_part text = drop (length text - suffix_len (λ b. not (b == 45)) text) text

-- the number of a tag: its last part, where that is five digits
unfoldable pub number_of : List ℕ → Option ℕ
number_of text = if length (last_part text) == 5 then numeral_of 10 (last_part text) else None

-- the last part is one or more digits, but not five of them
unfoldable pub is_misnumbered : List ℕ → Bool
is_misnumbered text = is_numeral 10 (last_part text) && not (length (last_part text) == 5)

-- the number of the tag that the bytes begin with
abbrev pub number_in_tag : Option (List ℕ) → Option ℕ
number_in_tag None = None
number_in_tag (Some text) = number_of text

unfoldable pub number_at : List ℕ → Option ℕ
number_at bytes = number_in_tag (tag_at bytes)

abbrev pub is_wrong : Option (List ℕ) → Bool
is_wrong None = true
is_wrong (Some text) = is_misnumbered text

-- the bytes begin with `[[VUID-` and with no tag, or with one whose last part is digits but not five
unfoldable pub is_malformed : List ℕ → Bool
is_malformed bytes = begins bytes tag_front && is_wrong (tag_at bytes)

-- all tags of a text in order, by what stands between their brackets
unfoldable pub tags_of : List ℕ → List (List ℕ)
tags_of text = filter_map tag_at (tails text)

-- the numbers of all tags of a text
unfoldable pub numbers_of : List ℕ → List ℕ
numbers_of text = filter_map number_at (tails text)

-- a malformed tag stands in the text
unfoldable pub has_malformed : List ℕ → Bool
has_malformed text = list_any is_malformed (tails text)

-- the greater of a start and one more than a number
abbrev pub past : ℕ → ℕ → ℕ
past start number = max start (number + 1)

-- the number that new tags begin with: the greater of `first` and one more than the greatest number of all tags
unfoldable pub start_of : ℕ → List (List ℕ) → ℕ
start_of first files = fold past first (flat_map numbers_of files)

-- that file; what stands past the end is empty
abbrev pub file_at : List (List ℕ) → ℕ → List ℕ
file_at files file = slice_index_or files file []

-- the first malformed tag of a text stands at this place
pub record IsFirstMalformed (text : List ℕ) (place : ℕ) : Type 0 where
  pub here : is_malformed (drop place text) ≡ true
  pub none_before : (before : ℕ) → before < place → is_malformed (drop before text) ≡ false

-- the first malformed tag of all files stands in this file, counted from 0, and this line of it, counted from 1
pub record IsFirstBad (files : List (List ℕ)) (file line : ℕ) : Type 0 where
  pub place : ℕ
  pub first : IsFirstMalformed (file_at files file) place
  pub line_is : line ≡ count_by is_line_feed (take place (file_at files file)) + 1
  pub none_before : (before : ℕ) → before < file → has_malformed (file_at files before) ≡ false
