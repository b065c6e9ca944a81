use Rattle.std.proofs.Common.{sym, Option, subst}
use Rattle.std.proofs.lemmas.Result.{IfOk-weaker}
use Rattle.vkb_formula.specs.declared.name_table.NameId.{NameId}
use Rattle.lift_survey.specs.Growth.{IsBoth, IsNeeded}
use Rattle.lift_survey.proofs.KeepLemmas.{need-absent, need-there}
use Rattle.lift_survey.proofs.lines.put_need.Goals as goal

pub returns-then-id-names-clause-node : goal.returns-then-id-names-clause-node
returns-then-id-names-clause-node c =
    let pool = c.args.pool.now in
    subst (λ (needs : Option NameId). IsNeeded pool pool c.args.standing needs c.args.names.now c.args.constants.never) (sym c.in-Some.is)
    (need-absent pool c.args.standing c.in-Some.id c.args.names.now c.args.constants c.requires.constants c.if-id-names.true)

pub returns-clause-node : goal.returns-clause-node
returns-clause-node c =
    let pool = c.args.pool.now in
    let new = c.put_both.new.pool in
    IfOk-weaker c.put_both.result (IsBoth pool new c.args.standing _) (IsNeeded pool new c.args.standing c.args.needs c.args.names.now)
    (λ node both. subst (λ (needs : Option NameId). IsNeeded pool new c.args.standing needs c.args.names.now node) (sym c.in-Some.is)
    (need-there pool new c.args.standing c.in-Some.id c.args.names.now node c.if-id-names.false both))
    c.put_both.ensures.node
