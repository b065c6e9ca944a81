-- The ids of anchors and links, as they are written in a line.
use Rattle.std.specs.Prelude.{ℕ, zero, suc, ◌+◌, Bool, false, ◌||◌, ◌==◌, List, [], ◌∷◌, length, drop, codes, if◌then◌else◌}
use Rattle.vkb_bytes.specs.Bytes.{begins, is_word_byte}

-- the attribute in whose place an id has the name of a page
abbrev pub refpage : List ℕ
refpage = codes "{refpage}"

-- a byte that is a piece of an id in any place: a letter, a digit, `_` or `:`
abbrev pub is_id_start : ℕ → Bool
is_id_start b = is_word_byte b || b == 58

-- a byte that is a piece of an id after the first: one of these, `-` or `.`
abbrev pub is_id_byte : ℕ → Bool
is_id_byte b = is_id_start b || b == 45 || b == 46

-- there is a first byte, and it passes
abbrev pub first_passes : (ℕ → Bool) → List ℕ → Bool
first_passes passes [] = false
first_passes passes (b ∷ rest) = passes b

-- the length of the piece that the bytes begin with, a byte that passes or the attribute: 0 where there is none
unfoldable pub piece_len : (ℕ → Bool) → List ℕ → ℕ
piece_len passes bytes = if first_passes passes bytes then 1 else (if begins bytes refpage then length refpage else 0)

-- the length of the pieces of an id after its first that the bytes begin with, at most n of them
unfoldable pub pieces_len : ℕ → List ℕ → ℕ
pieces_len zero bytes = 0
pieces_len (suc n) bytes =
    let len = piece_len is_id_byte bytes in
    if len == 0 then 0 else len + pieces_len n (drop len bytes)

-- the length of the longest id that the bytes begin with: 0 where there is none
unfoldable pub id_len : List ℕ → ℕ
id_len bytes =
    let len = piece_len is_id_start bytes in
    if len == 0 then 0 else len + pieces_len (length bytes) (drop len bytes)
