use Rattle.std.proofs.Common.{length, map, take}
use Rattle.reg_closure.specs.Listed.{AreListed, block_lists, block_pairs}
use Rattle.reg_closure.proofs.listed.listing_blocks.Given as goal

-- the blocks so far are listed
abbrev pub invariant-loop-place : goal.invariant-loop-place
invariant-loop-place l = AreListed (block_lists l.adds) (block_pairs l.adds) (length l.r.names) (take l.place l.r.blocks) (map (λ list. list.items) l.table.items)
