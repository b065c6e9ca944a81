use Rattle.std.proofs.Common.{◌-◌}
use Rattle.vkb_text.proofs.PlacedLemmas.{AreLinesBefore}
use Rattle.vkb_text.proofs.placed.lines.Given as goal

abbrev pub invariant-loop-from : goal.invariant-loop-from
invariant-loop-from l = AreLinesBefore l.text.bytes l.whole l.file l.from l.lines.items

abbrev pub decreases-loop-from : goal.decreases-loop-from
decreases-loop-from l = l.whole.to - l.from
