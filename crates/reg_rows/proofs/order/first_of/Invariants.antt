use Rattle.std.proofs.Common.{◌≡◌, [], MatchOption}
use Rattle.reg_rows.specs.Faults.{IsFirst}
use Rattle.reg_rows.proofs.order.first_of.Given as goal

abbrev pub invariant-loop-fault : goal.invariant-loop-fault
invariant-loop-fault l = MatchOption l.first (l.yielded ≡ []) (IsFirst l.yielded)
