use Rattle.std.proofs.Common.{◌-◌, length, IfSome, ap, subst, ◌<◌, sym, ◌∙◌, arith}
use Rattle.vu_implicit.proofs.TypeLemmas.{alias-is, goes, stops}
use Rattle.vu_implicit.proofs.types.end_of.Goals as goal

pub returns-in-None-clause-end : goal.returns-in-None-clause-end
returns-in-None-clause-end c =
    let rows = c.args.r.now.rows in
    let end = c.loop-step.end in
    sym (stops (length rows - c.loop-step.step) rows end (alias-is rows end c.row.result.now c.row.ensures.row ∙ c.in-None.is)) ∙ c.loop-step.invariant.ahead

pub loop-step-preserved : goal.loop-step-preserved
loop-step-preserved c =
    let rows = c.args.r.now.rows in
    let end = c.loop-step.end in
    record {
      held = subst (λ alias. IfSome alias (λ id. id.0 < length c.args.r.now.names)) c.in-Some.is c.row.ensures.sound.alias;
      ahead = sym (goes (length rows) c.loop-step.step rows end c.in-Some.next (omega (arith, ap length c.names.ensures)) (alias-is rows end c.row.result.now c.row.ensures.row ∙ c.in-Some.is)) ∙ c.loop-step.invariant.ahead;
    }
