use Rattle.std.proofs.Common.{◌≡◌, map, take}
use Rattle.reg_closure.specs.Closure.{is_active}
use Rattle.hdr_writer.proofs.values.active_blocks.Given as goal

abbrev pub invariant-loop-block : goal.invariant-loop-block
invariant-loop-block l = l.active.items ≡ map (is_active l.chosen) (take l.block-index l.block-items)
