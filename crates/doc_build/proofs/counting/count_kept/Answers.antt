use Rattle.std.proofs.Common.{◌≡◌, ◌∙◌, ◌+◌, ◌++◌, List, Option, ℕ, None, true, false, ap, drop, min, subst, sym}
use Rattle.std.specs.Option.{option_copied}
use Rattle.std.proofs.Math.ListN.{drop_of_length-le}
use Rattle.doc_tree.specs.declared.DocLine.{DocLine}
use Rattle.doc_build.specs.declared.Piece.{Piece}
use Rattle.doc_build.specs.Counting.{lines_count, most, page_behind, pieces_count}
use Rattle.doc_build.specs.Keeping.{line_met}
use Rattle.doc_build.specs.Lines.{line_pieces}
use Rattle.doc_build.specs.Pages.{lines_given}
use Rattle.doc_build.specs.Pieces.{pieces_at}
use Rattle.doc_build.proofs.CountLemmas.{Counts, count-left, count-next, counts-all, counts-more}
use Rattle.doc_build.proofs.counting.count_kept.Goals as goal
use Rattle.doc_build.proofs.counting.count_kept.Goals.{then-is_kept+in_ok-put_pieces+in_ok-count_in, else-is_kept}

pub loop-number-preserved : goal.loop-number-preserved
loop-number-preserved c =
    let pages = lines_given c.args.r.now c.args.c.now.chosen.items c.args.set.now in
    let text = c.args.text.now.bytes in
    let made = c.args.made.now in
    let id = c.args.id.now in
    let lines = c.args.lines.now in
    let number = c.loop-number.number in
    let line = c.index-lines-number.result in
    let page = option_copied c.loop-number.page in
    let within = c.loop-number-test.true in
    let is = c.index-lines-number.is in
    let count = c.loop-number.count in
    let ahead = lines_count pages text made id page number (drop number lines) in
    let all = lines_count pages text made id None 0 lines in
    elim c.if-is_kept.branch [
      | then-is_kept+in_ok-put_pieces+in_ok-count_in w ↦
          let kept : line_met made line ≡ true = sym c.is_kept.ensures ∙ w.if-is_kept.true in
          let given : w.as_slice.result.now ≡ line_pieces pages text (number, line) =
          w.as_slice.ensures.value ∙ w.in_ok-put_pieces.ensures ∙ ap (λ (ps : List Piece). ps ++ pieces_at pages number w.slice-bytes.result.now line.kind) w.new-given.ensures.items
          ∙ ap (λ (bs : List ℕ). pieces_at pages number bs line.kind) w.slice-bytes.ensures.bytes in
          let part : w.in_ok-count_in.field-0 ≡ min (pieces_count page id (line_pieces pages text (number, line))) most =
          w.in_ok-count_in.ensures ∙ ap (λ (ps : List Piece). min (pieces_count page id ps) most) given in
          let later : Counts w.saturating_add-count.result (lines_count pages text made id (page_behind page line.kind) (number + 1) (drop (number + 1) lines)) all =
          counts-more count w.saturating_add-count.result (pieces_count page id (line_pieces pages text (number, line))) w.in_ok-count_in.field-0 ahead _ all c.loop-number.invariant part w.saturating_add-count.ensures
          (count-next pages text made id lines number line page within is kept) in
          rw (w.page-is, w.count-is)
          (subst (λ (p : Option (List ℕ)). Counts w.saturating_add-count.result (lines_count pages text made id p (number + 1) (drop (number + 1) lines)) all) (sym w.page_behind-page.ensures) later)
      | else-is_kept w ↦
          let left : line_met made line ≡ false = sym c.is_kept.ensures ∙ w.if-is_kept.false in
          rw (w.page-is, w.count-is) (subst (λ (n : ℕ). Counts count n all) (count-left pages text made id lines number line page within is left) c.loop-number.invariant)
    ]

pub returns : goal.returns
returns c =
    let pages = lines_given c.args.r.now c.args.c.now.chosen.items c.args.set.now in
    let count = c.loop-number.count in
    let all = lines_count pages c.args.text.now.bytes c.args.made.now c.args.id.now None 0 c.args.lines.now in
    counts-all count all
    (subst (λ (ls : List DocLine). Counts count (lines_count pages c.args.text.now.bytes c.args.made.now c.args.id.now (option_copied c.loop-number.page) c.loop-number.number ls) all)
    (drop_of_length-le c.args.lines.now c.loop-number-test.false) c.loop-number.invariant)
