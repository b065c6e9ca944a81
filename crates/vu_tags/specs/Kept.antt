-- What stays of files that are tagged: their bytes, and their tags.
use Rattle.std.specs.Prelude.{◌≡◌, ◌⊎◌, ℕ, ◌+◌, List, [], ◌∷◌, ◌++◌, All, Some}
use Rattle.std.specs.List.{flat_map}
use Rattle.vu_tags.specs.Tags.{number_of}
use Rattle.vu_tags.specs.Tagged.{piece_of}

-- bytes that were there, and what is put in behind them
pub record Part : Type 0 where
  pub kept : List ℕ
  pub put : List ℕ

-- nothing, or the piece for some new tag
abbrev pub IsPut : List ℕ → Type 0
IsPut put = (put ≡ []) ⊎ ((page : List ℕ) × (parameter : List ℕ) × (number : ℕ) × (put ≡ piece_of page parameter number))

-- the new file is the old one with pieces put in: without them it is the old one
pub record Keeps (old new : List ℕ) : Type 0 where
  pub parts : List Part
  pub new_is : new ≡ flat_map (λ part. part.kept ++ part.put) parts
  pub old_is : old ≡ flat_map (λ part. part.kept) parts
  pub puts_are : All (λ part. IsPut part.put) parts

-- The new list has all tags of the old one, in their order, and more, which are numbered from one number to before another:
-- each has a number that is one more than that of the one before it.
pub data Adds : ℕ → List (List ℕ) → List (List ℕ) → ℕ → Type 0 where
  nothing : {number : ℕ} → Adds number [] [] number
  stays : {number end : ℕ} {old new : List (List ℕ)} (tag : List ℕ) → Adds number old new end → Adds number (tag ∷ old) (tag ∷ new) end
  comes : {number end : ℕ} {old new : List (List ℕ)} (tag : List ℕ) → number_of tag ≡ Some number → Adds (number + 1) old new end → Adds number old (tag ∷ new) end
