use Rattle.std.proofs.Common.{◌-◌, ◌/◌, List, drop, length, subst, take, arith}
use Rattle.std.proofs.lemmas.List.{length-drop}
use Rattle.std.proofs.lemmas.Option.{slice_get_within}
use Rattle.vkb_formula.specs.declared.pool.NodeId.{NodeId}
use Rattle.sat_ask.specs.Meeting.{AreNeverMet, IsFirstMet, IsFirstOf}
use Rattle.lift_ask.proofs.AskLemmas.{met-first, met-second, never-both, second-half}
use Rattle.lift_ask.proofs.asking.+asking.Goals as goal

pub first_in_halves-returns-in-Some : goal.first_in_halves-returns-in-Some
first_in_halves-returns-in-Some t c =
    let pool = c.args.pool.now in
    let questions = c.args.questions.now in
    let half = length questions / 2 in
    met-first pool c.args.rule.0 questions c.args.vars half c.in-Some.met
    (subst (IsFirstOf pool c.args.rule.0 (take half questions) c.args.vars) c.in-Some.is c.in_ok-first.ensures)

pub first_in_halves-overflow_add-result : goal.first_in_halves-overflow_add-result
first_in_halves-overflow_add-result t c =
    let pool = c.args.pool.now in
    let questions = c.args.questions.now in
    let half = length questions / 2 in
    let met : IsFirstMet pool c.args.rule.0 (drop half questions) c.args.vars c.in-Some-second.met =
    subst (λ (qs : List NodeId). IsFirstMet pool c.args.rule.0 qs c.args.vars c.in-Some-second.met) (second-half half questions)
    (subst (IsFirstOf pool c.args.rule.0 (take (length questions - half) (drop half questions)) c.args.vars) c.in-Some-second.is c.in_ok-second.ensures) in
    omega (arith, slice_get_within (drop half questions) c.in-Some-second.met.question met.holds.0 met.holds.1, length-drop half questions)

pub first_in_halves-returns-in-None : goal.first_in_halves-returns-in-None
first_in_halves-returns-in-None t c =
    let pool = c.args.pool.now in
    let questions = c.args.questions.now in
    let half = length questions / 2 in
    never-both pool c.args.rule.0 questions c.args.vars half
    (subst (IsFirstOf pool c.args.rule.0 (take half questions) c.args.vars) c.in_default.is c.in_ok-first.ensures)
    (subst (λ (qs : List NodeId). AreNeverMet pool c.args.rule.0 qs c.args.vars) (second-half half questions)
    (subst (IsFirstOf pool c.args.rule.0 (take (length questions - half) (drop half questions)) c.args.vars) c.in-None.is c.in_ok-second.ensures))

pub first_in_halves-returns-in-Some-second : goal.first_in_halves-returns-in-Some-second
first_in_halves-returns-in-Some-second t c =
    let pool = c.args.pool.now in
    let questions = c.args.questions.now in
    let half = length questions / 2 in
    met-second pool c.args.rule.0 questions c.args.vars half c.in-Some-second.met
    (subst (IsFirstOf pool c.args.rule.0 (take half questions) c.args.vars) c.in_default.is c.in_ok-first.ensures)
    (subst (λ (qs : List NodeId). IsFirstMet pool c.args.rule.0 qs c.args.vars c.in-Some-second.met) (second-half half questions)
    (subst (IsFirstOf pool c.args.rule.0 (take (length questions - half) (drop half questions)) c.args.vars) c.in-Some-second.is c.in_ok-second.ensures))
