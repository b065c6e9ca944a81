-- What the loop over the lines keeps, which no public contract names: the openers so far, and which of them are open.
use Rattle.std.specs.Prelude.{◌≡◌, ◌⊎◌, ℕ, ◌+◌, ◌<◌, ◌≤◌, List, length, map, filter, slice_index, slice_index_or, IsTrue}
use Rattle.std.specs.List.{range_with_len}
use Rattle.doc_cond.specs.declared.LineKind.{LineKind}
use Rattle.doc_cond.specs.Nesting.{IsCloserOf, NoneFaulty, Repeats, closers_before, closes_at, kind_at, openers_before, opens_at}

abbrev pub pair_at : List (ℕ × ℕ) → ℕ → ℕ × ℕ
pair_at pairs slot = slice_index_or pairs slot (0, 0)

-- the opener stands at that depth, and each place behind it is deeper, up to the line
pub record IsOpen (kinds : List LineKind) (line level opener : ℕ) : Type 0 where
  pub opens : IsTrue (opens_at kinds opener)
  pub before : opener < line
  pub depth : openers_before kinds opener ≡ closers_before kinds opener + level
  pub deeper : (place : ℕ) → opener < place → place ≤ line → closers_before kinds place + level < openers_before kinds place

-- the pair is closed before the line
pub record IsClosed (kinds : List LineKind) (line : ℕ) (pair : ℕ × ℕ) : Type 0 where
  pub closer : IsCloserOf kinds pair.0 pair.1
  pub repeated : Repeats (kind_at kinds pair.0) (kind_at kinds pair.1)
  pub before : pair.1 < line

-- the slot is one of those that are open
abbrev pub IsWaiting : List ℕ → ℕ → Type 0
IsWaiting waiting slot = (level : ℕ) × (level < length waiting) × (slice_index waiting level ≡ slot)

-- the openers before the line, and the slots of those that are open, outermost first
pub record Nests (kinds : List LineKind) (line : ℕ) (pairs : List (ℕ × ℕ)) (waiting : List ℕ) : Type 0 where
  pub count : openers_before kinds line ≡ closers_before kinds line + length waiting
  pub openers : map (λ pair. pair.0) pairs ≡ filter (opens_at kinds) (range_with_len 0 line)
  pub slots : (level : ℕ) → level < length waiting → slice_index waiting level < length pairs
  pub levels : (level : ℕ) → level < length waiting → IsOpen kinds line level (pair_at pairs (slice_index waiting level)).0
  pub settled : (slot : ℕ) → slot < length pairs → IsWaiting waiting slot ⊎ IsClosed kinds line (pair_at pairs slot)
  pub each : (opener : ℕ) → opener < line → IsTrue (opens_at kinds opener) → (slot : ℕ) × (slot < length pairs) × ((pair_at pairs slot).0 ≡ opener)
  pub used : (closer : ℕ) → closer < line → IsTrue (closes_at kinds closer) → (slot : ℕ) × (slot < length pairs) × IsClosed kinds line (pair_at pairs slot) × ((pair_at pairs slot).1 ≡ closer)
  pub faultless : NoneFaulty kinds line
