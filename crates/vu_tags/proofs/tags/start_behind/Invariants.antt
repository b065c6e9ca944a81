use Rattle.std.proofs.Common.{◌≡◌, ◌≤◌, ◌<◌, ◌-◌, ◌^◌, ℕ, false, length, drop}
use Rattle.std.specs.List.{fold}
use Rattle.vu_tags.specs.Tags.{is_malformed, numbers_of, past}
use Rattle.vu_tags.proofs.tags.start_behind.Given as goal

-- no malformed tag was passed, and what the tags ahead make of the start is what all make of the first
abbrev pub invariant-loop-step : goal.invariant-loop-step
invariant-loop-step l = record {
  in_file : l.at ≤ length l.file;
  small : l.start < 2 ^ 31;
  well : (k : ℕ) → k < l.at → is_malformed (drop k l.file) ≡ false;
  numbers : fold past l.start (numbers_of (drop l.at l.file)) ≡ fold past l.first (numbers_of l.file);
}

abbrev pub decreases-loop-step : goal.decreases-loop-step
decreases-loop-step l = length l.file - l.at
