use Rattle.std.proofs.Common.{◌≡◌, ◌++◌, drop, []}
use Rattle.reg_rows.specs.Faults.{offered_twice}
use Rattle.reg_rows.proofs.duplicates.put_offered_twice.Given as goal

-- what was put, and what the options ahead come to, is all
abbrev pub invariant-loop-option : goal.invariant-loop-option
invariant-loop-option l =
    l.faults.items ++ offered_twice l.seen (drop l.option-index l.options) ≡ l.initial.faults.items ++ offered_twice [] l.options
