use Rattle.std.proofs.Common.{◌<◌, ℕ, All, subst, arith}
use Rattle.std.proofs.lemmas.List.{take_all}
use Rattle.std.proofs.lemmas.List.Elements.{All-more}
use Rattle.vkb_formula.specs.declared.name_table.NameId.{NameId}
use Rattle.read_registry.proofs.are_below.Goals as goal

pub loop-id-preserved : goal.loop-id-preserved
loop-id-preserved c = All-more (λ (id : NameId). id.0 < c.args.end) c.args.ids.now c.loop-id.id-index (record { 0 = 0 }) (omega arith) c.loop-id.invariant (omega (arith, c.if-id-end.false))

pub returns : goal.returns
returns c = λ yes. subst (All (λ (id : NameId). id.0 < c.args.end)) (take_all c.loop-id.id-index c.args.ids.now (omega arith)) c.loop-id.invariant
