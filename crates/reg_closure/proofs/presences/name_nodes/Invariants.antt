use Rattle.std.proofs.Common.{◌≤◌, drop, length, map}
use Rattle.reg_closure.specs.Made.{AreNamed, Grows, Keeps, name_raise}
use Rattle.reg_closure.proofs.presences.name_nodes.Given as goal

-- the names from here on have their nodes
abbrev pub invariant-loop-left : goal.invariant-loop-left
invariant-loop-left l = record {
  upto : l.left ≤ length l.order;
  keeps : Keeps l.initial.pool l.pool;
  named : AreNamed l.pool l.roots l.ids.items (map (λ list. list.items) l.table) (drop l.left (map (λ id. id.0) l.order));
  grows : Grows l.initial.pool l.pool (name_raise (map (λ list. list.items) l.table) (drop l.left (map (λ id. id.0) l.order))) 0;
}

abbrev pub decreases-loop-left : goal.decreases-loop-left
decreases-loop-left l = l.left
