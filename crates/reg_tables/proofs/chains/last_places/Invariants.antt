use Rattle.std.proofs.Common.{length}
use Rattle.reg_tables.specs.Chains.{AreEndsReached, AreReached}
use Rattle.reg_tables.proofs.EndLemmas.{AreLedBack}
use Rattle.reg_tables.proofs.chains.last_places.Given as goal

abbrev pub invariant-loop-at : goal.invariant-loop-at
invariant-loop-at l = record {
  reached : AreReached l.next l.lasts.items l.order.items;
  ends : AreEndsReached l.next (length l.next) l.lasts.items;
  back : AreLedBack l.next l.lasts.items l.order.items l.at;
}
