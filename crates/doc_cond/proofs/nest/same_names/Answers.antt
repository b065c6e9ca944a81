use Rattle.std.proofs.Common.{◌∙◌, ◌<◌, sym, [], length, arith}
use Rattle.std.proofs.lemmas.List.{take_more_same, get_or_read}
use Rattle.doc_cond.proofs.nest.same_names.Goals as goal

pub loop-place-preserved : goal.loop-place-preserved
loop-place-preserved c =
    let left = c.args.left.now in
    let right = c.args.right.now in
    let place = c.loop-place.place in
    let in_left : place < length left = omega arith in
    let in_right : place < length right = omega arith in
    let alike = sym c.as_slice.ensures ∙ (c.same.ensures.0 c.if-not-same.false ∙ c.as_slice-in-loop-place.ensures) in
    take_more_same left right place [] in_left in_right c.loop-place.invariant
    (sym (get_or_read left place _ in_left c.index-left-place.is []) ∙ (alike ∙ get_or_read right place _ in_right c.index-right-place.is []))
