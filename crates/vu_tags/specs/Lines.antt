-- The lines of a file, each with its line feed, and the lines that blocks of valid usage are told by. These are the title and
-- the fence of AsciiDoc's example blocks and the bullet of its lists, as the Vulkan sources write them.
use Rattle.std.specs.Prelude.{ℕ, ◌-◌, Bool, ◌==◌, if◌then◌else◌, List, [], ◌∷◌, length, take, codes}
use Rattle.std.specs.List.{onto_first, suffix_len}
use Rattle.std.specs.Str.{bytes_eq}
use Rattle.vkb_bytes.specs.Bytes.{begins}
use Rattle.doc_cond.specs.Lines.{bare}

-- the byte ends a line
abbrev pub is_line_feed : ℕ → Bool
is_line_feed byte = byte == 10

-- the lines, each with its line feed where it has one: joined, they are the file
abbrev pub lines_of : List ℕ → List (List ℕ)
lines_of [] = []
lines_of (byte ∷ bytes) = if is_line_feed byte then (byte ∷ []) ∷ lines_of bytes else onto_first byte (lines_of bytes)

-- the line without its line feed
unfoldable pub unfed : List ℕ → List ℕ
unfed line = take (length line - suffix_len is_line_feed line) line

-- the line is the text, if spaces, tabs and carriage returns at its end don't count
abbrev pub is_text : List ℕ → List ℕ → Bool
is_text text line = bytes_eq (bare (unfed line)) text

-- the title of a block
unfoldable pub is_title : List ℕ → Bool
is_title line = is_text (codes ".Valid Usage") line

-- what a block begins with behind its title, and ends with
unfoldable pub is_fence : List ℕ → Bool
is_fence line = is_text (codes "****") line

-- what a statement begins with
abbrev pub bullet : List ℕ
bullet = codes "  * "

unfoldable pub is_bullet : List ℕ → Bool
is_bullet line = begins line bullet
