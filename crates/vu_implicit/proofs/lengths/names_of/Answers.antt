use Rattle.std.proofs.Common.{true, refl, ap, ◌∙◌, is_some, arith}
use Rattle.vkb_formula.specs.Names.{place_of, with_name}
use Rattle.vu_implicit.proofs.LengthLemmas.{passed-more}
use Rattle.vu_implicit.proofs.lengths.names_of.Goals as goal

pub loop-m-preserved : goal.loop-m-preserved
loop-m-preserved c = λ name.
    ap (λ names. is_some (place_of name names)) (c.in_ok-intern.ensures.table ∙ ap (λ n. with_name n c.loop-m.names) c.as_slice.ensures)
    ∙ passed-more (λ m. m.name) (λ m. true) c.args.members.now c.loop-m.m-index c.m-item.result (omega arith) c.m-item.is name c.loop-m.names (c.loop-m.invariant name) refl
