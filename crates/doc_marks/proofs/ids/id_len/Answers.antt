use Rattle.std.proofs.Common.{◌+◌, ◌∙◌, arith, length-drop}
use Rattle.std.proofs.lemmas.List.{take_rest}
use Rattle.doc_marks.proofs.IdLemmas.{id_rest_start, id_rest_step}
use Rattle.doc_marks.proofs.ids.id_len.Goals as goal

pub loop-piece-init : goal.loop-piece-init
loop-piece-init c = record {
  in_range = omega arith;
  counted = id_rest_start c.args.bytes.now _ c.first_piece_len-piece.ensures.value;
}

pub loop-piece-preserved : goal.loop-piece-preserved
loop-piece-preserved c =
    let found = rw take_rest at c.later_piece_len-piece.ensures.value in
    let within = rw take_rest at c.later_piece_len-piece.ensures.within in
    record {
      in_range = omega (arith, within, length-drop (c.loop-piece.len + c.loop-piece.piece) c.args.bytes.now);
      counted =
          id_rest_step c.args.bytes.now c.loop-piece.len c.loop-piece.piece _ (omega arith) found ∙ c.loop-piece.invariant.counted;
    }
