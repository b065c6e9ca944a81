use Rattle.std.proofs.Common.{sym, arith}
use Rattle.vu_tags.proofs.AheadLemmas.{usages_of-ahead}
use Rattle.vu_tags.proofs.usages.Goals as goal

pub loop-at-init : goal.loop-at-init
loop-at-init c = record {
  in_file = omega arith;
  few = omega arith;
  are_all = rw (c.new-usages.ensures.items, c.outside-block.ensures) (sym (usages_of-ahead c.args.file.now));
}
