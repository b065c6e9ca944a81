use Rattle.std.proofs.Common.{◌<◌, Some, None, length, slice_index_or, refl, subst, ◌∙◌, arith}
use Rattle.std.proofs.lemmas.Option.{slice_get-get_or}
use Rattle.sat_cnf.specs.declared.lit.Lit.{Lit}
use Rattle.sat_cnf.specs.Clauses.{Cnf}
use Rattle.sat_core.specs.Asking.{IsAnswer}
use Rattle.sat_ask.proofs.MeetingLemmas.{first-here, never-all, never-more, never-none}
use Rattle.sat_ask.proofs.meeting.ask_each.Goals as goal

pub loop-question-init : goal.loop-question-init
loop-question-init c = (refl, never-none c.args.asker.now c.args.lits.now)

pub loop-question-preserved : goal.loop-question-preserved
loop-question-preserved c =
    let cnf = c.args.asker.now in
    let lits = c.args.lits.now in
    let question = c.loop-question.question in
    let lit : Lit = slice_index_or lits question (record { 0 = 0 }) in
    let below : question < length lits = omega (arith, c.loop-question-test.true, c.loop-question.auto.question-end) in
    let answer : IsAnswer cnf lit None =
    subst (λ (of_these : Cnf). IsAnswer of_these lit None) c.loop-question.invariant.0
    (subst (IsAnswer c.loop-question.asker lit) c.in_default.is c.in_ok-values.ensures.answer) in (
      c.in_ok-values.ensures.same ∙ c.loop-question.invariant.0,
      never-more cnf lits question lit c.loop-question.invariant.1 (slice_get-get_or lits question (record { 0 = 0 }) below) below answer,
    )

pub returns-in-Some : goal.returns-in-Some
returns-in-Some c =
    let cnf = c.args.asker.now in
    let lits = c.args.lits.now in
    let question = c.loop-question.question in
    let lit : Lit = slice_index_or lits question (record { 0 = 0 }) in
    let below : question < length lits = omega (arith, c.loop-question-test.true, c.loop-question.auto.question-end) in
    let answer : IsAnswer cnf lit (Some c.in-Some.values) =
    subst (λ (of_these : Cnf). IsAnswer of_these lit (Some c.in-Some.values)) c.loop-question.invariant.0
    (subst (IsAnswer c.loop-question.asker lit) c.in-Some.is c.in_ok-values.ensures.answer) in
    first-here cnf lits c.args.vars question lit c.in-Some.values c.first_values-set.result c.loop-question.invariant.1 (slice_get-get_or lits question (record { 0 = 0 }) below)
    c.requires.vars answer c.first_values-set.ensures

pub returns : goal.returns
returns c =
    never-all c.args.asker.now c.args.lits.now c.loop-question.question (omega (arith, c.loop-question-test.false, c.loop-question.auto.question-end)) c.loop-question.invariant.1
