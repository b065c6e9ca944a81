use Rattle.std.proofs.Common.{◌≡◌, ◌∙◌, true, false, sym}
use Rattle.doc_build.specs.Keeping.{line_met}
use Rattle.doc_build.specs.Pages.{lines_given}
use Rattle.doc_build.proofs.LinesLemmas.{kept-next, left-next}
use Rattle.doc_build.proofs.building.kept_pieces.Goals as goal
use Rattle.doc_build.proofs.building.kept_pieces.Goals.{then-is_kept+in_ok-put_pieces, else-is_kept}

pub loop-number-preserved : goal.loop-number-preserved
loop-number-preserved c =
    let pages = lines_given c.args.r.now c.args.c.now.chosen.items c.args.set.now in
    let text = c.args.text.now.bytes in
    let made = c.args.made.now in
    let lines = c.args.lines.now in
    let number = c.loop-number.number in
    let line = c.index-lines-number.result in
    let within = c.loop-number-test.true in
    let is = c.index-lines-number.is in
    let old = c.loop-number.pieces.items in
    elim c.if-is_kept.branch [
      | then-is_kept+in_ok-put_pieces w ↦
          let kept : line_met made line ≡ true = sym c.is_kept.ensures ∙ w.if-is_kept.true in
          rw w.pieces-is (kept-next pages text made lines number line w.slice-bytes.result.now old w.put_pieces.new.pieces.items _ within is w.slice-bytes.ensures.bytes kept w.in_ok-put_pieces.ensures c.loop-number.invariant)
      | else-is_kept w ↦
          let left : line_met made line ≡ false = sym c.is_kept.ensures ∙ w.if-is_kept.false in
          rw w.pieces-is (left-next pages text made lines number line old _ within is left c.loop-number.invariant)
    ]
