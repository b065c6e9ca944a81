use Rattle.std.proofs.Common.{◌+◌, ◌<◌, List, length, subst, sym, arith}
use Rattle.vkb_formula.specs.declared.pool.NodeId.{NodeId}
use Rattle.reg_closure.specs.Made.{AreMade, block_is, cost_at, free, option_is}
use Rattle.reg_closure.proofs.MadeLemmas.{AreMade-keeps, AreMade-more, Keeps-then, block-grows, block-here}
use Rattle.reg_closure.proofs.roots.block_nodes.Goals as goal

pub block_node-requires-clause-options : goal.block_node-requires-clause-options
block_node-requires-clause-options c =
    AreMade-keeps (length c.args.options.now) c.args.pool.now c.loop-block.pool c.args.options.now option_is free c.loop-block.invariant.keeps c.requires.options

pub returns-in_err-id-clause-keeps : goal.returns-in_err-id-clause-keeps
returns-in_err-id-clause-keeps c = Keeps-then c.args.pool.now c.loop-block.pool c.block_node.new.pool c.loop-block.invariant.keeps c.block_node.ensures.keeps

pub returns-in_err-push-clause-keeps : goal.returns-in_err-push-clause-keeps
returns-in_err-push-clause-keeps c = Keeps-then c.args.pool.now c.loop-block.pool c.block_node.new.pool c.loop-block.invariant.keeps c.block_node.ensures.keeps

pub loop-block-preserved : goal.loop-block-preserved
loop-block-preserved c =
    let blocks = c.args.blocks.now in
    let first = c.args.pool.now in
    let old = c.loop-block.pool in
    let new = c.block_node.new.pool in
    let i = c.loop-block.block-index in
    let block = c.block-item.result in
    let id = c.in_ok-id.id in
    let before = c.loop-block.invariant in
    let below : i < length blocks = omega arith in
    record {
      keeps = Keeps-then first old new before.keeps c.block_node.ensures.keeps;
      made = subst (λ (ids : List NodeId). AreMade (i + 1) new ids (block_is blocks) (cost_at blocks)) (sym c.in_ok-push.ensures.items)
          (AreMade-more i old new c.loop-block.ids.items id (block_is blocks) (cost_at blocks) c.block_node.ensures.keeps before.made (block-here new id blocks i block c.block-item.is below c.in_ok-id.ensures.made));
      grows = block-grows first old new blocks i block (length c.args.options.now) c.block-item.is below before.grows c.in_ok-id.ensures.grows;
    }
