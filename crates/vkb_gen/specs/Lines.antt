-- How a sample's lines are written: each is made of pieces and ends in a line feed, and numbers are decimal.
use Rattle.std.specs.Prelude.{ℕ, List, [], ◌∷◌, ◌++◌, codes, decimal}
use Rattle.std.specs.List.{flat_map}

-- the line that pieces make
abbrev pub line : List (List ℕ) → List ℕ
line [] = 10 ∷ []
line (piece ∷ pieces) = piece ++ line pieces

-- the lines of texts, one for each
abbrev pub lines : List (List ℕ) → List ℕ
lines texts = flat_map (λ text. line (text ∷ [])) texts

-- the name of the extension of this number, which is its option too
abbrev pub option_name : ℕ → List ℕ
option_name number = codes "VK_GEN_e" ++ decimal number

-- the name of the struct of this number
abbrev pub struct_name : ℕ → List ℕ
struct_name number = codes "VkGen" ++ decimal number
