use Rattle.std.proofs.Common.{◌≡◌, ◌-◌, ◌≤◌, length}
use Rattle.reg_reader.specs.Machine.{Next, run}
use Rattle.reg_reader.specs.Reading.{state_of}
use Rattle.reg_reader.proofs.reading.read.Given as goal

-- the reader stands where the run over the bytes so far does
abbrev pub invariant-loop-n : goal.invariant-loop-n
invariant-loop-n l = record {
  within : l.n ≤ length l.bytes;
  at : run 32 l.bytes l.n ≡ Next (state_of l.reader);
}

abbrev pub decreases-loop-n : goal.decreases-loop-n
decreases-loop-n l = length l.bytes - l.n
