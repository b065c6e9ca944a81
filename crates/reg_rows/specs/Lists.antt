-- Lists of numbers, in which one may stand more than once.
use Rattle.std.specs.Prelude.{ℕ, not, List, [], ◌∷◌, ◌==◌}
use Rattle.std.specs.List.{filter}

-- numbers, each where it stands first
abbrev pub each_number : List ℕ → List ℕ
each_number [] = []
each_number (n ∷ ns) = n ∷ filter (λ other. not (other == n)) (each_number ns)
