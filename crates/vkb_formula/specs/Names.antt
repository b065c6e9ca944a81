-- Tables of names, seen as the list of the names in the order of first sight.
use Rattle.std.specs.Prelude.{◌≡◌, ℕ, ◌+◌, Bool, nat_eq, List, [], ◌∷◌, ◌++◌, Option, Some, None, option_map, is_some, slice_get, if◌then◌else◌}
use Rattle.std.specs.Cmp.Lexicographic.{pointwise}

-- the most names that a table with a limit holds
abbrev pub most_names : ℕ
most_names = 1048576

-- two names have the same bytes
abbrev pub is_same_name : List ℕ → List ℕ → Bool
is_same_name = pointwise nat_eq

-- where a name stands in a table
abbrev pub place_of : List ℕ → List (List ℕ) → Option ℕ
place_of name [] = None
place_of name (first ∷ names) = if is_same_name name first then Some 0 else option_map (λ place. place + 1) (place_of name names)

-- a table after a name was put in: the name stands last where it is new
abbrev pub with_name : List ℕ → List (List ℕ) → List (List ℕ)
with_name name names = if is_some (place_of name names) then names else names ++ name ∷ []

-- no name stands at two places
abbrev pub AreDifferent : List (List ℕ) → Type 0
AreDifferent names = (i j : ℕ) (name : List ℕ) → slice_get names i ≡ Some name → slice_get names j ≡ Some name → i ≡ j
