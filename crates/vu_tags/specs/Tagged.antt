-- Files whose untagged statements have new tags, and what stands in the way of that. The parts of a tag, its page, parameter
-- and number, are those of the style guide "Vulkan Documentation and Extensions: Procedures and Conventions".
use Rattle.std.specs.Prelude.{◌≡◌, ◌↔◌, ℕ, ◌+◌, ◌-◌, ◌/◌, ◌%◌, ◌<◌, ◌≤◌, false, not, ◌&&◌, ◌==◌, if◌then◌else◌, List, [], ◌∷◌, ◌++◌, length, take, drop, codes, Option, None, Some, unwrap_or}
use Rattle.std.specs.List.{filter_map, list_any, prefix_len}
use Rattle.vkb_bytes.specs.Bytes.{begins, is_word_byte}
use Rattle.vkb_bytes.specs.First.{first_of}
use Rattle.doc_cond.specs.Lines.{IsKind}
use Rattle.doc_cond.specs.declared.LineKind.TheVariants.{Api}
use Rattle.vu_tags.specs.Lines.{bullet, unfed}
use Rattle.vu_tags.specs.Statements.{Place, is_untagged, needed_of, places_of, statement_of, tag_front, untagged_in}
use Rattle.vu_tags.specs.Tags.{IsFirstBad, has_malformed, start_of, tails}
use Rattle.vu_tags.specs.declared.TagFault.{TagFault}
use Rattle.vu_tags.specs.declared.TagFault.TheVariants.{BadTag, NoNumber, Memory}
use Rattle.vu_tags.specs.declared.Tagged.{Tagged}

-- a name for some of all lines
abbrev pub Names : Type 0
Names = List ℕ → Option (List ℕ)

-- each line that includes the generated page of a name has that name, and no other line has one
pub record TellsPages (names : Names) : Type 0 where
  pub each : (line name : List ℕ) → (names line ≡ Some name) ↔ IsKind line (Api name)

-- the page of what follows these lines, the nearest first: the last that they include, else the attribute `{refpage}`
abbrev pub page_of : Names → List (List ℕ) → List ℕ
page_of names [] = codes "{refpage}"
page_of names (line ∷ before) = unwrap_or (names (unfed line)) (page_of names before)

-- the run of letters, digits and `_` that stands in front
abbrev pub word_run : List ℕ → List ℕ
word_run bytes = take (prefix_len is_word_byte bytes) bytes

-- what the parameter macro is written with
abbrev pub parameter_front : List ℕ
parameter_front = codes "pname:"

-- the parameter that the bytes begin with: `pname:` and a run that isn't empty
unfoldable pub parameter_at : List ℕ → Option (List ℕ)
parameter_at bytes =
    let run = word_run (drop (length parameter_front) bytes) in
    if begins bytes parameter_front && not (length run == 0) then Some run else None

-- the first parameter of a statement, else `None`
unfoldable pub parameter_of : List ℕ → List ℕ
parameter_of statement = unwrap_or (first_of (filter_map parameter_at (tails statement))) (codes "None")

-- the digit of a number that counts the power of ten
abbrev pub digit_of : ℕ → ℕ → ℕ
digit_of number power = 48 + number / power % 10

-- a number below 100,000 in five digits
unfoldable pub five_digits : ℕ → List ℕ
five_digits number =
    digit_of number 10000 ∷ digit_of number 1000 ∷ digit_of number 100 ∷ digit_of number 10 ∷ digit_of number 1 ∷ []

-- what stands between `[[VUID-` and `]]` in a new tag
abbrev pub new_tag : List ℕ → List ℕ → ℕ → List ℕ
new_tag page parameter number = page ++ (codes "-" ++ (parameter ++ (codes "-" ++ five_digits number)))

-- what is put in for a new tag: the tag, a line feed, and the spaces that the statement goes on behind
unfoldable pub piece_of : List ℕ → List ℕ → ℕ → List ℕ
piece_of page parameter number = tag_front ++ (new_tag page parameter number ++ (codes "]]" ++ 10 ∷ codes "    "))

-- a line with a piece behind its bullet
abbrev pub with_piece : List ℕ → List ℕ → List ℕ
with_piece line piece = take (length bullet) line ++ (piece ++ drop (length bullet) line)

-- the line there with its new tag
abbrev pub tagged_line : Names → ℕ → Place → List ℕ
tagged_line names number place = with_piece place.line (piece_of (page_of names place.before) (parameter_of (statement_of place)) number)

-- the lines there, each untagged statement with the next number
abbrev pub tagged_lines : Names → ℕ → List Place → List ℕ
tagged_lines names number [] = []
tagged_lines names number (place ∷ places) =
    if is_untagged place then tagged_line names number place ++ tagged_lines names (number + 1) places else place.line ++ tagged_lines names number places

unfoldable pub tagged_file : Names → ℕ → List ℕ → List ℕ
tagged_file names number file = tagged_lines names number (places_of file)

-- the files, the numbers of each going on behind those of the one before it
abbrev pub tagged_from : Names → ℕ → List (List ℕ) → List (List ℕ)
tagged_from names number [] = []
tagged_from names number (file ∷ files) = tagged_file names number file ∷ tagged_from names (number + untagged_in file) files

abbrev pub tagged_of : Names → ℕ → List (List ℕ) → List (List ℕ)
tagged_of names first files = tagged_from names (start_of first files) files

-- how many numbers of five digits are left
abbrev pub left_of : ℕ → List (List ℕ) → ℕ
left_of first files = 100000 - start_of first files

-- no tag is malformed, and the numbers suffice
pub record CanTag (first : ℕ) (files : List (List ℕ)) : Type 0 where
  pub well : list_any has_malformed files ≡ false
  pub enough : needed_of files ≤ left_of first files

-- no tag is malformed, and the numbers don't suffice
pub record HasTooFew (first : ℕ) (files : List (List ℕ)) : Type 0 where
  pub well : list_any has_malformed files ≡ false
  pub too_few : left_of first files < needed_of files

-- what is answered where new tags can be given
pub record AreTagged (first : ℕ) (files : List (List ℕ)) (tagged : Tagged) : Type 0 where
  pub can : CanTag first files
  pub files_are : (names : Names) → TellsPages names → tagged.files ≡ tagged_of names first files
  pub count_is : tagged.count ≡ needed_of files

-- what is answered where they can't, or want of memory
abbrev pub IsTagFault : ℕ → List (List ℕ) → TagFault → Type 0
IsTagFault first files (BadTag file line) = IsFirstBad files file line
IsTagFault first files (NoNumber needed left) = HasTooFew first files × (needed ≡ needed_of files) × (left ≡ left_of first files)
IsTagFault first files Memory = Unit {0}
