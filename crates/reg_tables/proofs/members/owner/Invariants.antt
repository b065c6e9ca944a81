use Rattle.std.proofs.Common.{◌≡◌, ◌++◌, take, drop}
use Rattle.reg_tables.specs.Bits.{owner_in}
use Rattle.reg_tables.proofs.members.owner.Given as goal

abbrev pub invariant-loop-at : goal.invariant-loop-at
invariant-loop-at l = take l.at l.name ++ owner_in (drop l.at l.name) ≡ owner_in l.name
