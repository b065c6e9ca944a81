use Rattle.reg_tables.specs.Chains.{AreEndsReached, AreReached}
use Rattle.reg_tables.proofs.chains.reach_ends.Given as goal

abbrev pub invariant-loop-place : goal.invariant-loop-place
invariant-loop-place l = record {
  reached : AreReached l.next l.lasts.items l.order.items;
  ends : AreEndsReached l.next l.place l.lasts.items;
}
