-- Which closer closes which opener, by counting the openers and closers before a line, and what is wrong with a list of
-- lines. How conditionals nest, and that a closer repeats its opener's names or has none, is of the AsciiDoc language
-- documentation; that at most 64 are open at once is this tool's own rule. Lines are places in the list, from 0.
use Rattle.std.specs.Prelude.{◌≡◌, ◌⊎◌, ℕ, ◌+◌, ◌<◌, ◌≤◌, Bool, true, false, List, [], ◌∷◌, length, map, take, filter, count_by, slice_index_or, IsTrue, All}
use Rattle.std.specs.List.{range_with_len}
use Rattle.doc_cond.specs.declared.CondFault.{CondFault}
use Rattle.doc_cond.specs.declared.CondFault.TheVariants.{BadCondition, Unbalanced, CondDepth, Memory}
use Rattle.doc_cond.specs.declared.LineKind.{LineKind}
use Rattle.doc_cond.specs.declared.LineKind.TheVariants.{Plain, Begin, Close}

abbrev pub is_opener : LineKind → Bool
is_opener (Begin negated any names) = true
is_opener _ = false

abbrev pub is_closer : LineKind → Bool
is_closer (Close any names) = true
is_closer _ = false

-- the kind of a line; what stands past the end is plain
abbrev pub kind_at : List LineKind → ℕ → LineKind
kind_at kinds line = slice_index_or kinds line Plain

abbrev pub opens_at : List LineKind → ℕ → Bool
opens_at kinds line = is_opener (kind_at kinds line)

abbrev pub closes_at : List LineKind → ℕ → Bool
closes_at kinds line = is_closer (kind_at kinds line)

abbrev pub openers_before : List LineKind → ℕ → ℕ
openers_before kinds line = count_by is_opener (take line kinds)

abbrev pub closers_before : List LineKind → ℕ → ℕ
closers_before kinds line = count_by is_closer (take line kinds)

-- The depth at a line is how many openers stand before it, less how many closers. It is the same at both lines.
abbrev pub IsSameDepth : List LineKind → ℕ → ℕ → Type 0
IsSameDepth kinds line other = openers_before kinds line + closers_before kinds other ≡ openers_before kinds other + closers_before kinds line

-- The first closer behind an opener after which the depth is that before the opener.
pub record IsCloserOf (kinds : List LineKind) (opener closer : ℕ) : Type 0 where
  pub opens : IsTrue (opens_at kinds opener)
  pub closes : IsTrue (closes_at kinds closer)
  pub later : opener < closer
  pub back : IsSameDepth kinds (closer + 1) opener
  pub first : (line : ℕ) → opener < line → line < closer → IsTrue (closes_at kinds line) → ¬ IsSameDepth kinds (line + 1) opener

-- the closer has no names, or the opener's with the opener's separator
abbrev pub Repeats : LineKind → LineKind → Type 0
Repeats (Begin negated any names) (Close closed []) = Unit {0}
Repeats (Begin negated any names) (Close closed (name ∷ more)) = (closed ≡ any) × (name ∷ more ≡ names)
Repeats opener closer = ⊥

-- a closer that has no opener, or other names
pub record IsLoose (kinds : List LineKind) (line : ℕ) : Type 0 where
  pub closes : IsTrue (closes_at kinds line)
  pub unmatched : (opener : ℕ) → IsCloserOf kinds opener line → ¬ Repeats (kind_at kinds opener) (kind_at kinds line)

-- an opener at a depth of 64 or more
pub record IsTooDeep (kinds : List LineKind) (line : ℕ) : Type 0 where
  pub opens : IsTrue (opens_at kinds line)
  pub deep : closers_before kinds line + 64 ≤ openers_before kinds line

-- an opener that nothing closes
pub record IsLeftOpen (kinds : List LineKind) (line : ℕ) : Type 0 where
  pub opens : IsTrue (opens_at kinds line)
  pub unclosed : (closer : ℕ) → ¬ IsCloserOf kinds line closer

abbrev pub IsFaulty : List LineKind → ℕ → Type 0
IsFaulty kinds line = IsLoose kinds line ⊎ IsTooDeep kinds line

-- no line before that one is faulty
abbrev pub NoneFaulty : List LineKind → ℕ → Type 0
NoneFaulty kinds end = (line : ℕ) → line < end → ¬ IsFaulty kinds line

-- the first opener that is left open, where no line is faulty
pub record IsFirstLeftOpen (kinds : List LineKind) (line : ℕ) : Type 0 where
  pub faultless : NoneFaulty kinds (length kinds)
  pub left : IsLeftOpen kinds line
  pub first : (before : ℕ) → before < line → ¬ IsLeftOpen kinds before

-- the first of all faults
abbrev pub IsFirstFault : List LineKind → CondFault → Type 0
IsFirstFault kinds (Unbalanced line) = (IsLoose kinds line × NoneFaulty kinds line) ⊎ IsFirstLeftOpen kinds line
IsFirstFault kinds (CondDepth line) = IsTooDeep kinds line × NoneFaulty kinds line
IsFirstFault kinds Memory = Unit {0}
IsFirstFault kinds BadCondition = ⊥

-- the places of all openers, in order
abbrev pub openers_of : List LineKind → List ℕ
openers_of kinds = filter (opens_at kinds) (range_with_len 0 (length kinds))

-- the later pair lies behind the earlier one, or within it
abbrev pub LieApartOrWithin : ℕ × ℕ → ℕ × ℕ → Type 0
LieApartOrWithin earlier later = (earlier.1 < later.0) ⊎ (later.1 < earlier.1)

-- each opener, in order, with its closer, and each closer in a pair
pub record ArePairs (kinds : List LineKind) (pairs : List (ℕ × ℕ)) : Type 0 where
  pub openers : map (λ pair. pair.0) pairs ≡ openers_of kinds
  pub closers : All (λ pair. IsCloserOf kinds pair.0 pair.1) pairs
  pub repeated : All (λ pair. Repeats (kind_at kinds pair.0) (kind_at kinds pair.1)) pairs
  pub within : All (λ pair. (pair.0 < pair.1) × (pair.1 < length kinds)) pairs
  pub used : (line : ℕ) → IsTrue (closes_at kinds line) → (slot : ℕ) × (slot < length pairs) × ((slice_index_or pairs slot (0, 0)).1 ≡ line)
  pub shallow : All (λ pair. openers_before kinds pair.0 < closers_before kinds pair.0 + 64) pairs
  pub nested : All (λ earlier. All (λ later. earlier.0 < later.0 → LieApartOrWithin earlier later) pairs) pairs
  pub faultless : NoneFaulty kinds (length kinds)
