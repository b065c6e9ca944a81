use Rattle.std.proofs.Common.{◌∙◌, ap, sym}
use Rattle.reg_rows.specs.Faults.{is_less}
use Rattle.reg_rows.proofs.OrderLemmas.{by-word, byte_words}
use Rattle.reg_rows.proofs.order.stands_before.Goals as goal

pub returns : goal.returns
returns c =
    by-word c.args.a.now c.args.b.now c.if-a-b.false (sym c.rank-rank.ensures ∙ c.if-rank-other.false ∙ c.rank-other.ensures) c.lt.result
    (c.lt.ensures ∙ byte_words c.as_slice.result.now c.as_slice-2.result.now ∙ ap (λ word. is_less word c.as_slice-2.result.now) c.as_slice.ensures ∙ ap (is_less c.args.a.now.word) c.as_slice-2.ensures)
