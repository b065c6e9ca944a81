-- Texts without needless white bytes.
use Rattle.std.specs.Prelude.{ℕ, ◌-◌, Bool, false, List, [], ◌∷◌, length, take, drop, if◌then◌else◌}
use Rattle.std.specs.List.{prefix_len, suffix_len}
use Rattle.vkb_bytes.specs.Bytes.{is_white}

abbrev pub trim_start : List ℕ → List ℕ
trim_start text = drop (prefix_len is_white text) text

abbrev pub trim_end : List ℕ → List ℕ
trim_end text = take (length text - suffix_len is_white text) text

-- the text without the white bytes at both ends
abbrev pub trim : List ℕ → List ℕ
trim text = trim_end (trim_start text)

-- the text begins with a white byte
abbrev pub begins_white : List ℕ → Bool
begins_white [] = false
begins_white (b ∷ rest) = is_white b

-- one space for each run of white bytes: the last byte of a run becomes it, and those before it go
abbrev pub spaced : List ℕ → List ℕ
spaced [] = []
spaced (b ∷ rest) = if is_white b then (if begins_white rest then spaced rest else 32 ∷ spaced rest) else b ∷ spaced rest

-- the text with one space for each run of white bytes, and then none at its ends
abbrev pub collapse : List ℕ → List ℕ
collapse text = trim (spaced text)
