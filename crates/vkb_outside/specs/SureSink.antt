-- A sink in memory that never fails.
use Rattle.std.specs.Prelude.{ℕ, ◌-◌, List, ◌++◌, length}

-- what was written, and how much more there is room for
pub record Output : Type 0 where
  pub bytes : List ℕ
  pub spare : ℕ

-- after a write
abbrev pub after_write : Output → List ℕ → Output
after_write sink more = record { bytes = sink.bytes ++ more; spare = sink.spare - length more }
