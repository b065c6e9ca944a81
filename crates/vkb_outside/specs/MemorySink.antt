-- A sink in memory of which some writes fail.
use Rattle.std.specs.Prelude.{ℕ, ◌+◌, ◌-◌, ◌==◌, List, ◌++◌, length, take, Option, is_some, if◌then◌else◌}
use Rattle.std.specs.Map.{lookup}
use Rattle.std.specs.Option.{option_map_or}
use Rattle.vkb_outside.specs.MemoryShelf.{next_number}

-- what was written and how much more there is room for, the numbers of the writes that fail, each with how many bytes it takes,
-- how many writes there were, and how many of them failed
pub record FailingOutput : Type 0 where
  pub bytes : List ℕ
  pub spare : ℕ
  pub failing : List (ℕ × ℕ)
  pub writes : ℕ
  pub faults : ℕ

-- how many bytes the next write takes before it fails, where it fails: the first pair of its number says it
abbrev pub fault_of : FailingOutput → Option ℕ
fault_of sink = lookup (λ number. number == next_number sink.writes) sink.failing

-- what the next write takes of these bytes
abbrev pub taken : FailingOutput → List ℕ → List ℕ
taken sink bytes = option_map_or (λ count. take count bytes) (fault_of sink) bytes

-- after a write: what it took is at the end, and there is one write more, and one fault more where it failed
abbrev pub after_write : FailingOutput → List ℕ → FailingOutput
after_write sink bytes = record sink {
  bytes = sink.bytes ++ taken sink bytes;
  spare = sink.spare - length (taken sink bytes);
  writes = next_number sink.writes;
  faults = if is_some (fault_of sink) then sink.faults + 1 else sink.faults;
}
