use Rattle.reg_tables.specs.Chains.{up_to}
use Rattle.reg_tables.proofs.BackLemmas.{IsGoingBack}
use Rattle.reg_tables.proofs.chains.reach_leaders.Given as goal

abbrev pub invariant-loop-leader : goal.invariant-loop-leader
invariant-loop-leader l = IsGoingBack l.leaders.next.now l.place l.fn.lasts.items l.fn.order.items l.lasts.items l.order.items l.leader

abbrev pub decreases-loop-leader : goal.decreases-loop-leader
decreases-loop-leader l = up_to l.leader
