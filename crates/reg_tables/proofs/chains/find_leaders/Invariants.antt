use Rattle.reg_tables.specs.Chains.{AreLeaders}
use Rattle.reg_tables.proofs.chains.find_leaders.Given as goal

abbrev pub invariant-loop-place : goal.invariant-loop-place
invariant-loop-place l = AreLeaders l.next l.place l.greatest.items l.smaller.items
