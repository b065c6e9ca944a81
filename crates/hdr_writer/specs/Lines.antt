-- Lines of a text.
use Rattle.std.specs.Prelude.{ℕ, List, [], ◌∷◌, ◌++◌}
use Rattle.std.specs.List.{concat}

-- the line of these parts, with its end
abbrev pub line : List (List ℕ) → List ℕ
line parts = concat parts ++ 10 ∷ []
