use Rattle.std.proofs.Common.{length, sum_by, take}
use Rattle.reg_closure.specs.Made.{AreMade, Grows, Keeps, block_is, block_raise, cost_at}
use Rattle.reg_closure.proofs.roots.block_nodes.Given as goal

-- the blocks so far have their nodes
abbrev pub invariant-loop-block : goal.invariant-loop-block
invariant-loop-block l = record {
  keeps : Keeps l.initial.pool l.pool;
  made : AreMade l.block-index l.pool l.ids.items (block_is l.blocks) (cost_at l.blocks);
  grows : Grows l.initial.pool l.pool (sum_by block_raise (take l.block-index l.blocks)) (length l.options);
}
