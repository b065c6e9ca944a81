-- Lists of things with names, in which a name may stand more than once.
use Rattle.std.specs.Prelude.{ℕ, Bool, List, [], ◌∷◌, if◌then◌else◌}
use Rattle.std.specs.List.{list_any}
use Rattle.std.specs.Str.{bytes_eq}

-- the name is one of these, byte for byte
abbrev pub is_among : List (List ℕ) → List ℕ → Bool
is_among names name = list_any (bytes_eq name) names

-- things with names, each that is the first of its name behind names that were seen
abbrev pub firsts_behind : {A : Type 0} → (A → List ℕ) → List (List ℕ) → List A → List A
firsts_behind name_of seen [] = []
firsts_behind name_of seen (thing ∷ more) =
    if is_among seen (name_of thing) then firsts_behind name_of seen more
    else thing ∷ firsts_behind name_of (name_of thing ∷ seen) more

-- things with names, each that is the first of its name
abbrev pub firsts : {A : Type 0} → (A → List ℕ) → List A → List A
firsts name_of things = firsts_behind name_of [] things

-- names, each where it stands first
abbrev pub each_name : List (List ℕ) → List (List ℕ)
each_name names = firsts (λ name. name) names
