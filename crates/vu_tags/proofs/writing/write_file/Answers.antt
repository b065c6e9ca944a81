use Rattle.std.proofs.Common.{◌+◌, ℕ, length-drop, take, drop, sym, ap, arith}
use Rattle.std.proofs.lemmas.List.{drop-drop, take_rest}
use Rattle.vu_tags.specs.Lines.{lines_of}
use Rattle.vu_tags.specs.Statements.{untagged_in}
use Rattle.vu_tags.specs.Tagged.{tagged_file}
use Rattle.vu_tags.proofs.AheadLemmas.{tagged_file-ahead, untagged_in-ahead}
use Rattle.vu_tags.proofs.WritingLemmas.{tagged_on, untagged_on}
use Rattle.vu_tags.proofs.writing.write_file.Goals as goal

pub loop-at-init : goal.loop-at-init
loop-at-init c = record {
  in_file = omega arith;
  count = rw c.outside-block.ensures (ap (λ (n : ℕ). c.args.first + n) (sym (untagged_in-ahead c.args.file.now)));
  are_all = λ names tells. rw (c.in_ok-text.ensures.items, c.outside-block.ensures, c.in_ok-page.ensures) (sym (tagged_file-ahead names c.args.first c.args.file.now));
}

pub loop-at-preserved : goal.loop-at-preserved
loop-at-preserved c =
    let file = c.args.file.now in
    let at = c.loop-at.at in
    let len = c.line_len-len.result in
    let within = rw take_rest at c.line_len-len.ensures.within in
    let first = rw take_rest at c.line_len-len.ensures.first in
    let line = take len (drop at file) in
    let lines = lines_of (drop at file) in
    let after = lines_of (drop len (drop at file)) in
    let behind = drop-drop len at file in
    let next = rw take_rest at c.in_ok-number.ensures.next in
    let put = rw (take_rest, c.as_slice.ensures) at c.in_ok-number.ensures.line in
    let page = rw take_rest at c.in_ok-page-2.ensures in
    let block = rw take_rest at c.after-block.ensures in
    record {
      in_file = omega (arith, within, length-drop at file);
      count = rw (next, block, sym behind) (untagged_on c.loop-at.block c.loop-at.number line lines after first (c.args.first + untagged_in file) c.loop-at.invariant.count);
      are_all = λ names tells.
          rw (put, next, block, page names tells, sym behind)
          (tagged_on c.loop-at.block c.loop-at.number line lines after first names c.loop-at.page c.loop-at.text.items (tagged_file names c.args.first file) (c.loop-at.invariant.are_all names tells));
    }
