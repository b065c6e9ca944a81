use Rattle.std.proofs.Common.{sym, ◌∙◌, zero-add, arith}
use Rattle.vu_tags.proofs.AheadLemmas.{untagged_in-ahead}
use Rattle.vu_tags.proofs.blocks.untagged_in.Goals as goal

pub loop-at-init : goal.loop-at-init
loop-at-init c = record {
  in_file = omega arith;
  few = omega arith;
  are_all = rw c.outside-block.ensures (zero-add _ ∙ sym (untagged_in-ahead c.args.file.now));
}
