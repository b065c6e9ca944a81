-- How often the system failed.
use Rattle.std.specs.Prelude.{ℕ, ◌+◌, ◌-◌, ◌^◌, min, Option, Result, Ok, Err, Vec}
use Rattle.std.specs.declared.alloc.Global.{Global}
use Rattle.vkb_outside.specs.declared.shelf.PutTrouble.{PutTrouble}
use Rattle.vkb_outside.specs.declared.shelf.ReadTrouble.{ReadTrouble}
use Rattle.vkb_outside.specs.declared.shelf.ReadTrouble.TheVariants.{TooLong, Failed, Memory}
use Rattle.vkb_outside.specs.declared.sink.SinkTrouble.{SinkTrouble}

-- how often it failed to read and to store a file
pub record Faults : Type 0 where
  pub reads : ℕ
  pub puts : ℕ

-- one fault more, up to the end of 64 bits
abbrev pub one_more : ℕ → ℕ
one_more faults = min (faults + 1) (2 ^ 64 - 1)

-- after an answer of `read`: one more where it was a fault
abbrev pub after_read : Faults → Result (Option (Vec ℕ Global)) ReadTrouble → Faults
after_read faults (Err Failed) = record faults { reads = one_more faults.reads }
after_read faults (Err TooLong) = faults
after_read faults (Err Memory) = faults
after_read faults (Ok found) = faults

-- after an answer of `put`
abbrev pub after_put : Faults → Result (Unit {0}) PutTrouble → Faults
after_put faults (Ok done) = faults
after_put faults (Err trouble) = record faults { puts = one_more faults.puts }

-- after an answer of `write`
abbrev pub after_write : ℕ → Result (Unit {0}) SinkTrouble → ℕ
after_write faults (Ok done) = faults
after_write faults (Err trouble) = one_more faults
