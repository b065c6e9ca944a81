use Rattle.std.proofs.Common.{sym, ap, length, ◌∙◌}
use Rattle.std.proofs.lemmas.Bool.{eqb-true}
use Rattle.sat_proof.proofs.SoundLemmas.{ends-empty, judged, judged-sound}
use Rattle.sat_proof.proofs.check.Goals as goal

pub returns-in-Some-clause-exact : goal.returns-in-Some-clause-exact
returns-in-Some-clause-exact c =
    judged c.args.clauses.now.list c.args.steps.now c.all_good.result
    (ends-empty c.args.steps.now c.in-Some.last.now (sym c.in-Some.ensures.value)
    (sym (ap length c.as_slice.ensures) ∙ eqb-true _ 0 (sym c.is_empty.ensures ∙ c.if-is_empty.true)))
    c.all_good.ensures

pub returns-in-Some-clause-sound : goal.returns-in-Some-clause-sound
returns-in-Some-clause-sound c =
    judged-sound c.args.clauses.now.list c.args.steps.now c.all_good.result (
    judged c.args.clauses.now.list c.args.steps.now c.all_good.result
    (ends-empty c.args.steps.now c.in-Some.last.now (sym c.in-Some.ensures.value)
    (sym (ap length c.as_slice.ensures) ∙ eqb-true _ 0 (sym c.is_empty.ensures ∙ c.if-is_empty.true)))
    c.all_good.ensures
    )
