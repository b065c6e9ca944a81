-- The lines of a chapter.
use Rattle.std.specs.Prelude.{ℕ, Bool, true, ◌==◌, List, [], ◌∷◌, if◌then◌else◌}
use Rattle.std.specs.List.{onto_first}

-- the byte ends a line
abbrev pub is_line_feed : ℕ → Bool
is_line_feed byte = byte == 10

-- what stands between line feeds; a last piece that none ends is a line if it isn't empty
abbrev pub lines_of : List ℕ → List (List ℕ)
lines_of [] = []
lines_of (byte ∷ bytes) = if is_line_feed byte then [] ∷ lines_of bytes else onto_first byte (lines_of bytes)

-- the text is empty or ends in a line feed
abbrev pub ends_a_line : List ℕ → Bool
ends_a_line [] = true
ends_a_line (byte ∷ []) = is_line_feed byte
ends_a_line (byte ∷ next ∷ bytes) = ends_a_line (next ∷ bytes)
