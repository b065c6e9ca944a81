-- The marks of a line of a specification's AsciiDoc: its anchors, and its links by brackets and by macros.
use Rattle.std.specs.Prelude.{ℕ, ◌+◌, ◌-◌, ◌<◌, ◌≤◌, Bool, true, false, ◌||◌, ◌&&◌, ◌==◌, nat_lt, List, [], ◌∷◌, length, drop, slice_index, codes, Option, None, Some, option_map, unwrap_or, if◌then◌else◌}
use Rattle.std.specs.List.{filter_map, find, prefix_len, range_with_len}
use Rattle.vkb_bytes.specs.Bytes.{begins, is_word_byte}
use Rattle.doc_marks.specs.declared.Mark.{Mark}
use Rattle.doc_marks.specs.Ids.{id_len}

-- a byte that passes stands directly before the place
abbrev pub comes_after : (ℕ → Bool) → List ℕ → ℕ → Bool
comes_after passes line place = nat_lt 0 place && passes (slice_index line (place - 1))

-- the byte `\`, after which no mark begins
abbrev pub is_backslash : ℕ → Bool
is_backslash b = b == 92

-- the link macros of the style guide, for functions, structures, enumerations, defines, other types, pages and extensions
abbrev pub macro_names : List (List ℕ)
macro_names =
    codes "flink:" ∷ codes "slink:" ∷ codes "elink:" ∷ codes "dlink:" ∷ codes "tlink:" ∷ codes "reflink:" ∷ codes "apiext:" ∷ []

-- the length of the macro's name that the bytes begin with: 0 where there is none
unfoldable pub macro_len : List ℕ → ℕ
macro_len bytes = unwrap_or (option_map length (find (begins bytes) macro_names)) 0

-- the length of the id that the bytes begin with, if a comma or the closing text follows it: else 0
unfoldable pub closed_id_len : List ℕ → List ℕ → ℕ
closed_id_len close bytes =
    let after = drop (id_len bytes) bytes in
    if begins after close || begins after (codes ",") then id_len bytes else 0

-- the mark at a place whose id has `len` bytes from `from` on: none where it has no byte
unfoldable pub mark_with : Bool → ℕ → ℕ → ℕ → Option Mark
mark_with anchor place from len =
    if len == 0 then None else Some (record { anchor = anchor; at = place; from = from; to = from + len })

-- the mark that begins at the place
unfoldable pub mark_at : List ℕ → ℕ → Option Mark
mark_at line place =
    let here = drop place line in
    if comes_after is_backslash line place then None
    else (if begins here (codes "[[") then mark_with true place (place + 2) (closed_id_len (codes "]]") (drop 2 here))
    else (if begins here (codes "<<") then mark_with false place (place + 2) (closed_id_len (codes ">>") (drop 2 here))
    else (if comes_after is_word_byte line place || macro_len here == 0 then None
    else mark_with false place (place + macro_len here) (prefix_len is_word_byte (drop (macro_len here) here)))))

-- the mark's place lies before its id, which has bytes, and the id in the line
abbrev pub IsWithin : List ℕ → Mark → Type 0
IsWithin line mark = (mark.at < mark.from) × (mark.from < mark.to) × (mark.to ≤ length line)

-- the marks that begin at the place or after it
unfoldable pub marks_from : List ℕ → ℕ → List Mark
marks_from line place = filter_map (mark_at line) (range_with_len place (length line - place))

-- all marks of a line, in order of place
unfoldable pub marks_of : List ℕ → List Mark
marks_of line = marks_from line 0

-- the marks of a line that are still to come
pub record Pending : Type 0 where
  pub line : List ℕ
  pub left : List Mark
