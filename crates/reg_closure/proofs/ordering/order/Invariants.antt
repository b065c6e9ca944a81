use Rattle.std.proofs.Common.{◌-◌, length, map}
use Rattle.vkb_formula.specs.declared.name_table.NameId.{NameId}
use Rattle.reg_closure.specs.Waiting.{ArePlaced, IsWaiting}
use Rattle.reg_closure.proofs.ordering.order.Given as goal

abbrev pub invariant-loop-name : goal.invariant-loop-name
invariant-loop-name l = record {
  placed : ArePlaced l.r.rows l.set (map (λ (id : NameId). id.0) l.order.items);
  waiting : IsWaiting l.r.rows l.set (map (λ (id : NameId). id.0) l.order.items) l.waiting;
}

abbrev pub decreases-loop-name : goal.decreases-loop-name
decreases-loop-name l = length l.set - length l.order.items
