use Rattle.std.proofs.Common.{◌∙◌}
use Rattle.lift_nodes.proofs.PlainLemmas.{plain-told}
use Rattle.lift_nodes.proofs.ids.is_plain.Goals as goal

pub returns : goal.returns
returns c = plain-told c.eq.result c.as_slice.result.now c.args.written.now c.eq.ensures (c.as_slice.ensures.value ∙ c.in_ok-bare.ensures)
