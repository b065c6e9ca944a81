use Rattle.std.proofs.Common.{◌≡◌, Some, All, ⊎_elim, ap, refl, subst, sym, ◌∙◌, arith}
use Rattle.sat_cnf.specs.Clauses.{Cnf}
use Rattle.sat_core.specs.Searching.{IsOpen, State, held_in}
use Rattle.sat_core.specs.Solving.{IsDecided}
use Rattle.sat_core.specs.Trails.{lits_of}
use Rattle.sat_core.proofs.AskingLemmas.{fresh-after, fresh-phase, further-cnf, leads-grown, leads-none, propagated-cnf}
use Rattle.sat_core.proofs.SolvingLemmas.{round-ends, round-within}
use Rattle.sat_core.proofs.asking.answer.Goals as goal

pub loop-conflict-init : goal.loop-conflict-init
loop-conflict-init c =
    let s = c.args.search.now in
    (refl, ⊎_elim (λ fresh. fresh) (λ some. absurd (omega (arith, some, c.requires.none))) c.if-has_no_model.ensures, leads-none s.vars (held_in s) s.trail c.trail-trail.ensures.trail c.requires.none c.args.lit)

pub loop-conflict-smaller-in_ok-end_run-in-Some : goal.loop-conflict-smaller-in_ok-end_run-in-Some
loop-conflict-smaller-in_ok-end_run-in-Some c =
    let same : c.loop-conflict.search.vars ≡ c.vars-vars.result = ap (λ (cnf : Cnf). cnf.vars) c.loop-conflict.invariant.0 ∙ sym c.vars-vars.ensures.vars in
    round-ends c.vars-vars.result c.loop-conflict.search c.propagate.new.self c.jump_back.new.search c.end_run.new.search _ _ _ same c.propagate.ensures
    c.in_ok-jump_back-in-Some.ensures.further c.in_ok-end_run-in-Some.ensures.ends

pub loop-conflict-preserved-in_ok-end_run-in-Some : goal.loop-conflict-preserved-in_ok-end_run-in-Some
loop-conflict-preserved-in_ok-end_run-in-Some c = (
  c.in_ok-end_run-in-Some.ensures.cnf ∙ c.in_ok-jump_back-in-Some.ensures.cnf ∙ propagated-cnf _ _ _ c.propagate.ensures ∙ c.loop-conflict.invariant.0,
  fresh-after _ _ c.in_ok-jump_back-in-Some.ensures.further.phase_is c.in_ok-end_run-in-Some.ensures.ends.phase_is,
  c.in_ok-end_run-in-Some.ensures.leads c.args.lit
      (c.in_ok-jump_back-in-Some.ensures.leads c.args.lit (leads-grown _ _ _ c.propagate.ensures c.args.lit c.loop-conflict.invariant.2)),
)

pub loop-conflict-smaller-in-None-value : goal.loop-conflict-smaller-in-None-value
loop-conflict-smaller-in-None-value c =
    let same : c.loop-conflict.search.vars ≡ c.vars-vars.result = ap (λ (cnf : Cnf). cnf.vars) c.loop-conflict.invariant.0 ∙ sym c.vars-vars.ensures.vars in
    round-within _ c.loop-conflict.runs.left c.loop-conflict.search c.propagate.new.self c.decide_first.new.search _ same c.propagate.ensures c.decide_first.ensures.further

pub loop-conflict-preserved-in-None-value : goal.loop-conflict-preserved-in-None-value
loop-conflict-preserved-in-None-value c = (
  further-cnf _ _ c.decide_first.ensures.further ∙ propagated-cnf _ _ _ c.propagate.ensures ∙ c.loop-conflict.invariant.0,
  fresh-phase _ c.decide_first.ensures.further.phase_is,
  c.decide_first.ensures.leads (leads-grown _ _ _ c.propagate.ensures c.args.lit c.loop-conflict.invariant.2),
)

pub values-requires-clause-decided : goal.values-requires-clause-decided
values-requires-clause-decided c = subst IsDecided (sym c.if-not-decides.ensures.decides.0) c.if-not-decides.ensures.decides.1

pub values-requires-clause-open : goal.values-requires-clause-open
values-requires-clause-open c =
    let P : State → Type 0 = λ s. All (IsOpen (lits_of s.trail)) (held_in s) in
    subst P (sym c.if-not-decides.ensures.decides.0) c.in-None.ensures.found_is.1

pub loop-conflict-smaller : goal.loop-conflict-smaller
loop-conflict-smaller c =
    let same : c.loop-conflict.search.vars ≡ c.vars-vars.result = ap (λ (cnf : Cnf). cnf.vars) c.loop-conflict.invariant.0 ∙ sym c.vars-vars.ensures.vars in
    round-within _ c.loop-conflict.runs.left c.loop-conflict.search c.propagate.new.self c.decides.new.search _ same c.propagate.ensures c.if-not-decides.ensures.decides

pub loop-conflict-preserved : goal.loop-conflict-preserved
loop-conflict-preserved c = (
  further-cnf _ _ c.if-not-decides.ensures.decides ∙ propagated-cnf _ _ _ c.propagate.ensures ∙ c.loop-conflict.invariant.0,
  fresh-phase _ c.if-not-decides.ensures.decides.phase_is,
  c.if-not-decides.ensures.leads c.args.lit (c.in-Some-true.ensures.when_true.0 (ap Some c.in-Some-true.field-0-test)) (leads-grown _ _ _ c.propagate.ensures c.args.lit c.loop-conflict.invariant.2),
)

pub no_set_has-requires-clause-leads : goal.no_set_has-requires-clause-leads
no_set_has-requires-clause-leads c = leads-grown _ _ _ c.propagate.ensures c.args.lit c.loop-conflict.invariant.2
