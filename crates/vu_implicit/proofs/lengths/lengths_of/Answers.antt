use Rattle.std.proofs.Common.{◌≡◌, sym, ap, ◌∙◌, is_some, arith}
use Rattle.vkb_formula.specs.Names.{place_of, with_name}
use Rattle.vu_implicit.specs.Lengths.{asks_for_length}
use Rattle.vu_implicit.proofs.LengthLemmas.{passed-more, failed-more}
use Rattle.vu_implicit.proofs.lengths.lengths_of.Goals as goal
use Rattle.vu_implicit.proofs.lengths.lengths_of.Goals.{then-asks_for_length+in_ok-intern, else-asks_for_length}

pub loop-m-preserved : goal.loop-m-preserved
loop-m-preserved c = λ name.
    let thing = c.m-item.result in
    let asks : asks_for_length thing ≡ c.asks_for_length.result = sym c.asks_for_length.ensures in
    elim c.if-asks_for_length.branch [
      | then-asks_for_length+in_ok-intern w ↦
          ap (λ names. is_some (place_of name names)) (w.lengths-is ∙ w.in_ok-intern.ensures.table ∙ ap (λ n. with_name n c.loop-m.lengths) w.as_slice.ensures)
          ∙ passed-more (λ m. m.len) asks_for_length c.args.members.now c.loop-m.m-index thing (omega arith) c.m-item.is name c.loop-m.lengths (c.loop-m.invariant name) (asks ∙ w.if-asks_for_length.true)
      | else-asks_for_length w ↦
          ap (λ names. is_some (place_of name names)) w.lengths-is
          ∙ failed-more (λ m. m.len) asks_for_length c.args.members.now c.loop-m.m-index thing (omega arith) c.m-item.is name _ (c.loop-m.invariant name) (asks ∙ w.if-asks_for_length.false)
    ]
