use Rattle.std.proofs.Common.{◌≡◌, length, arith}
use Rattle.vkb_text.proofs.PlacedLemmas.{all_placed, place_line}
use Rattle.vkb_text.proofs.placed.lines.Goals as goal

pub loop-from-preserved : goal.loop-from-preserved
loop-from-preserved c =
    let first = rw c.slice-rest.ensures.bytes at c.line_len.ensures.first in
    let number : c.len.result ≡ length c.loop-from.lines.items = omega arith in
    rw (c.in_ok-push.ensures.items, number)
    (place_line c.args.text.now.bytes c.args.whole c.args.file c.loop-from.from c.line_len.result c.loop-from.lines.items c.loop-from.invariant (omega arith) first)

pub returns : goal.returns
returns c = all_placed c.args.text.now.bytes c.args.whole c.args.file c.loop-from.from c.loop-from.lines.items c.requires.order c.loop-from-test.false c.loop-from.invariant
