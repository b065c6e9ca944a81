use Rattle.std.proofs.Common.{ℕ, Option, IfSome, Contains, sym, subst}
use Rattle.sat_cnf.specs.declared.lit.Lit.{Lit}
use Rattle.sat_core.specs.Trails.{IsFalseUnder}
use Rattle.sat_core.proofs.LearnLemmas.{alone-pair, read-alone, read-false, read-lit, read-none, read-other, read-pair, read-undecided}
use Rattle.sat_core.proofs.learning.asserted_by.Goals as goal
use Rattle.sat_core.proofs.learning.asserted_by.Goals.{in-None, in-Some+then-decision_of-last, in-Some+else-decision_of-last}

pub loop-literal-init : goal.loop-literal-init
loop-literal-init c = read-none c.args.trail.now.entries c.args.clause.now c.decisions-last.result _

pub loop-literal-preserved : goal.loop-literal-preserved
loop-literal-preserved c =
    let d : Lit = record { 0 = 0 } in
    elim c.match-value.branch [
      | in-None w ↦ rw (w.lit-is, w.other-is) (
          read-undecided c.args.trail.now.entries c.args.clause.now c.decisions-last.result c.loop-literal.literal-index c.loop-literal.lit c.loop-literal.other d
          c.loop-literal-test.true c.loop-literal.invariant (rw w.in-None.is at c.value.ensures)
          )
      | in-Some+then-decision_of-last w ↦ rw (w.lit-is, w.other-is) (
          read-false c.args.trail.now.entries c.args.clause.now c.decisions-last.result c.loop-literal.literal-index c.loop-literal.lit c.loop-literal.other d
          c.loop-literal-test.true c.loop-literal.invariant (rw w.if-decision_of-last.true at w.decision_of.ensures.stands)
          )
      | in-Some+else-decision_of-last w ↦ rw (w.lit-is, w.other-is) (
          read-other c.args.trail.now.entries c.args.clause.now c.decisions-last.result c.loop-literal.literal-index c.loop-literal.lit c.loop-literal.other d
          c.loop-literal-test.true c.loop-literal.invariant w.decision_of.result w.decision_of.ensures.stands
          (λ f. w.if-decision_of-last.false (sym (w.decision_of.ensures.alone c.decisions-last.result f)))
          )
    ]

pub returns-in-Some-other-clause-lit : goal.returns-in-Some-other-clause-lit
returns-in-Some-other-clause-lit c =
    read-lit c.args.trail.now.entries c.args.clause.now c.loop-literal.literal-index c.loop-literal.lit c.loop-literal-test.false c.decisions-last.result c.loop-literal.other
    c.loop-literal.invariant c.requires.asserts

pub returns-in-Some-other-clause-pair : goal.returns-in-Some-other-clause-pair
returns-in-Some-other-clause-pair c =
    let asserts = read-lit c.args.trail.now.entries c.args.clause.now c.loop-literal.literal-index c.loop-literal.lit c.loop-literal-test.false c.decisions-last.result
    c.loop-literal.other c.loop-literal.invariant c.requires.asserts in
    let some = subst (λ (o : Option Lit). IfSome o (λ second. Contains c.args.clause.now second × IsFalseUnder c.args.trail.now.entries second c.decisions-last.result))
    c.in-Some-other.is c.loop-literal.invariant.some in
    read-pair c.args.trail.now.entries c.args.clause.now c.loop-literal.literal-index c.loop-literal.lit c.loop-literal-test.false c.in-Some-other.second asserts some.0
    (subst (λ (n : ℕ). IsFalseUnder c.args.trail.now.entries c.in-Some-other.second n) c.decisions-last.ensures some.1)

pub returns-in-None-other-clause-lit : goal.returns-in-None-other-clause-lit
returns-in-None-other-clause-lit c =
    read-lit c.args.trail.now.entries c.args.clause.now c.loop-literal.literal-index c.loop-literal.lit c.loop-literal-test.false c.decisions-last.result c.loop-literal.other
    c.loop-literal.invariant c.requires.asserts

pub returns-in-None-other-clause-pair : goal.returns-in-None-other-clause-pair
returns-in-None-other-clause-pair c =
    let asserts = read-lit c.args.trail.now.entries c.args.clause.now c.loop-literal.literal-index c.loop-literal.lit c.loop-literal-test.false c.decisions-last.result
    c.loop-literal.other c.loop-literal.invariant c.requires.asserts in
    alone-pair c.args.clause.now c.loop-literal.lit (
    read-alone c.args.trail.now.entries c.args.clause.now c.loop-literal.literal-index c.loop-literal.lit c.loop-literal-test.false asserts
    (rw (c.in-None-other.is, c.decisions-last.ensures) at c.loop-literal.invariant)
    )

pub returns-in-None-other-clause-learned : goal.returns-in-None-other-clause-learned
returns-in-None-other-clause-learned c =
    let asserts = read-lit c.args.trail.now.entries c.args.clause.now c.loop-literal.literal-index c.loop-literal.lit c.loop-literal-test.false c.decisions-last.result
    c.loop-literal.other c.loop-literal.invariant c.requires.asserts in
    read-alone c.args.trail.now.entries c.args.clause.now c.loop-literal.literal-index c.loop-literal.lit c.loop-literal-test.false asserts
    (rw (c.in-None-other.is, c.decisions-last.ensures) at c.loop-literal.invariant)
