-- The buffer in which all texts of a call lie.
use Rattle.std.specs.Prelude.{ℕ, List}

-- the bytes of all texts, one behind the other, and how many there may be
pub record Buffer : Type 0 where
  pub bytes : List ℕ
  pub most : ℕ
