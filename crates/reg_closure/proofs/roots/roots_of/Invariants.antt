use Rattle.std.proofs.Common.{◌+◌, ◌*◌, length, map, sum_by, take}
use Rattle.reg_closure.specs.Closure.{is_root}
use Rattle.reg_closure.specs.Made.{AreMade, Grows, Keeps, root_cost}
use Rattle.reg_closure.proofs.roots.roots_of.Given as goal

-- the names so far have their roots' nodes
abbrev pub invariant-loop-name : goal.invariant-loop-name
invariant-loop-name l = record {
  keeps : Keeps l.initial.pool l.pool;
  made : AreMade l.name l.pool l.ids.items (λ name chosen. is_root l.r.blocks chosen name) (root_cost l.r.blocks);
  grows : Grows l.initial.pool l.pool (7 * l.name + (sum_by length (take l.name (map (λ list. list.items) l.requirers)) + sum_by length (take l.name (map (λ list. list.items) l.removers)))) 0;
}
