use Rattle.std.proofs.Common.{◌∙◌, List, ap, min}
use Rattle.std.specs.Option.{option_copied}
use Rattle.std.proofs.lemmas.List.{take_all}
use Rattle.doc_build.specs.declared.Piece.{Piece}
use Rattle.doc_build.specs.Counting.{most, pieces_count}
use Rattle.doc_build.proofs.CountLemmas.{pieces-more}
use Rattle.doc_build.proofs.counting.count_in.Goals as goal

pub loop-piece-preserved : goal.loop-piece-preserved
loop-piece-preserved c =
    pieces-more (option_copied c.args.page) c.args.id.now c.args.pieces.now c.loop-piece.piece-index c.piece-item.result c.loop-piece.count c.in_ok-count_of.field-0 c.saturating_add-count.result
    c.loop-piece-test.true c.piece-item.is c.loop-piece.invariant c.in_ok-count_of.ensures c.saturating_add-count.ensures

pub returns : goal.returns
returns c =
    c.loop-piece.invariant
    ∙ ap (λ (ps : List Piece). min (pieces_count (option_copied c.args.page) c.args.id.now ps) most) (take_all c.loop-piece.piece-index c.args.pieces.now c.loop-piece-test.false)
