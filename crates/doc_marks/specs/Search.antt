-- The bytes by which marks are found.
use Rattle.std.specs.Prelude.{ℕ, ◌<◌, ◌≤◌, Bool, List, length}
use Rattle.memchr.specs.Find.{Nowhere, Passes, is_byte3}

-- `[`, `<` or `:`: a mark has one at its place or, if a macro, at the end of its name
abbrev pub is_mark_byte : ℕ → Bool
is_mark_byte b = is_byte3 91 60 58 b

abbrev pub HasMarkByte : List ℕ → ℕ → Type 0
HasMarkByte line place = Passes is_mark_byte line place

-- the place is the first from `scan` on that has one of these bytes
pub record IsNextMarkByte (line : List ℕ) (scan place : ℕ) : Type 0 where
  pub from_scan : scan ≤ place
  pub in_line : place < length line
  pub none_before : Nowhere (HasMarkByte line) scan place
  pub found : HasMarkByte line place
