use Rattle.std.proofs.Common.{◌∙◌, ◌<◌, ap, get_or, length, map, arith}
use Rattle.reg_closure.specs.Listed.{block_lists, block_pairs}
use Rattle.reg_closure.proofs.ListedLemmas.{listed-more}
use Rattle.reg_closure.proofs.listed.listing_blocks.Goals as goal

pub loop-place-preserved : goal.loop-place-preserved
loop-place-preserved c =
    let blocks = c.args.r.now.blocks in
    let i = c.loop-place.place in
    let block = c.block-item.result in
    let same = c.blocks-block-items.ensures.blocks in
    let below : i < length blocks = omega (arith, ap length same) in
    listed-more (block_lists c.args.adds) (block_pairs c.args.adds) (length c.args.r.now.names) blocks i block (map (λ list. list.items) c.loop-place.table.items) (map (λ list. list.items) c.put_block.new.table.items)
    (c.block-item.is ∙ ap (λ bs. get_or bs i block) same) below c.loop-place.invariant c.in_ok-put_block.ensures
