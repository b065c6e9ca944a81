use Rattle.std.proofs.Common.{◌≡◌, ◌∙◌, ◌+◌, ◌++◌, ◌∷◌, [], List, ℕ, drop, length, map, take, ap, subst, sym, arith}
use Rattle.std.proofs.Math.ListN.{drop_of_length-le}
use Rattle.std.proofs.lemmas.List.{append-nil, length-drop}
use Rattle.vkb_text.specs.Lines.{lines_of}
use Rattle.doc_build.specs.Pages.{silent_line}
use Rattle.doc_build.specs.Pieces.{page_piece}
use Rattle.doc_build.proofs.JoinLemmas.{rest-is}
use Rattle.doc_build.proofs.UsageLemmas.{line-next}
use Rattle.doc_build.proofs.pages.put_lines.Goals as goal

pub loop-start-preserved : goal.loop-start-preserved
loop-start-preserved c =
    let text = c.args.text.now in
    let start = c.loop-start.start in
    let end = c.line_len-end.result in
    let rest = rest-is text start in
    let old = c.loop-start.pieces.items in
    let new = c.put_silent.new.pieces.items in (
      omega (arith, c.line_len-end.ensures.within, ap length rest, length-drop start text),
      line-next c.args.number text start end old new _
          (subst (λ (r : List ℕ). lines_of r ≡ take end r ∷ lines_of (drop (end + 1) r)) rest c.line_len-end.ensures.first)
          (subst (λ (r : List ℕ). new ≡ old ++ page_piece c.args.number (silent_line (take end r)) ∷ []) rest c.in_ok-put_silent.ensures)
          c.loop-start.invariant.1,
    )

pub returns : goal.returns
returns c =
    let text = c.args.text.now in
    let items = c.loop-start.pieces.items in
    sym (append-nil items)
    ∙ ap (λ (rest : List ℕ). items ++ map (page_piece c.args.number) (map silent_line (lines_of rest))) (sym (drop_of_length-le text c.loop-start-test.false))
    ∙ c.loop-start.invariant.1
