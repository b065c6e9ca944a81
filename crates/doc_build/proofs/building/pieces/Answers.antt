use Rattle.std.proofs.Common.{◌∙◌, Bool, List, ap}
use Rattle.doc_tree.specs.declared.DocLine.{DocLine}
use Rattle.doc_tree.specs.Loaded.{flat_of}
use Rattle.doc_build.specs.Built.{choice_pieces, set_names}
use Rattle.doc_build.specs.Lines.{pieces_kept}
use Rattle.doc_build.specs.Pages.{lines_given}
use Rattle.doc_build.specs.Pieces.{kept_lines, pieces_among}
use Rattle.doc_build.proofs.LinesLemmas.{pieces-kept}
use Rattle.doc_build.proofs.building.pieces.Goals as goal

pub returns : goal.returns
returns c = λ set closed.
    let d = c.args.d.now in
    let r = c.args.r.now in
    let always = c.args.always.now in
    let text = c.args.text.now.bytes in
    let chosen = c.args.c.now.chosen.items in
    let own = c.in_ok-set.set in
    let pages = lines_given r chosen own in
    let made = c.in_ok-made.made.items in
    let flat = flat_of text d in
    c.in_ok-given.ensures
    ∙ ap (λ (ls : List DocLine). pieces_kept pages text c.as_slice-3.result.now ls) c.as_slice-2.ensures
    ∙ ap (λ (bs : List Bool). pieces_kept pages text bs d.lines) c.as_slice-3.ensures.value
    ∙ pieces-kept pages text made d (set_names always r c.as_slice.result.now) (c.in_ok-made.ensures text c.requires.loaded)
    ∙ ap (λ (bs : List Bool). pieces_among pages (kept_lines (set_names always r bs) flat)) c.as_slice.ensures.value
    ∙ ap (λ (s : List Bool). choice_pieces always r chosen s flat) (c.one_closure.ensures r chosen own set c.in_ok-set.ensures closed)
