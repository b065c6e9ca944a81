use Rattle.std.proofs.Common.{◌≡◌, Option, Some, None, All, ◌⊎◌, sym, ap, subst, arith}
use Rattle.sat_cnf.specs.declared.lit.Lit.{Lit}
use Rattle.sat_proof.specs.Propagation.{IsFalse}
use Rattle.sat_proof.specs.Refutations.{held_with}
use Rattle.sat_core.specs.Analysing.{Found, Marks}
use Rattle.sat_core.specs.Trails.{lits_of}
use Rattle.sat_core.proofs.ConflictLemmas.{analysed-end}
use Rattle.sat_core.proofs.ConflictEndLemmas.{begin-step, conflict-denied, learned-by, new-counted}
use Rattle.sat_core.proofs.conflict.learn_from.Goals as goal

pub resolve-requires-clause-counted : goal.resolve-requires-clause-counted
resolve-requires-clause-counted c =
    new-counted c.args.trail.now.vars (held_with c.args.clauses.now.list c.args.steps.now) c.args.trail.now.entries c.requires.trail c.in_ok-analysis.analysis
    c.in_ok-analysis.ensures.empty c.in_ok-analysis.ensures.each c.in_ok-analysis.ensures.none

pub resolve-requires-clause-denied : goal.resolve-requires-clause-denied
resolve-requires-clause-denied c =
    subst (All (λ lit. ◌≡◌ {A = Option Lit} None (Some lit) ⊎ IsFalse (lits_of c.args.trail.now.entries) lit)) (sym c.held_clause.ensures.clause)
    (conflict-denied c.args.trail.now.entries _ c.requires.conflict)

pub loop-analysis-init : goal.loop-analysis-init
loop-analysis-init c =
    let entries = c.args.trail.now.entries in
    let held = held_with c.args.clauses.now.list c.args.steps.now in
    let (m, marks, new) = c.in_ok-resolve.ensures in
    rw (c.entries-place.ensures.entries, new) (record {
      within = omega arith;
      analysed = begin-step c.args.trail.now.vars held entries c.requires.trail c.in_ok-analysis.analysis
          c.in_ok-analysis.ensures.empty c.in_ok-analysis.ensures.each c.in_ok-analysis.ensures.none c.args.conflict c.requires.known c.requires.conflict m
          (subst (λ clause. Marks entries clause None c.in_ok-analysis.analysis m) c.held_clause.ensures.clause marks);
    })

pub returns : goal.returns
returns c =
    let entries = c.args.trail.now.entries in
    let held = held_with c.args.clauses.now.list c.args.steps.now in
    rw c.finish.ensures (
    learned-by c.args.trail.now.vars held entries c.requires.trail c.loop-analysis.analysis
    (analysed-end held entries c.loop-analysis.place c.loop-analysis.analysis c.loop-analysis.invariant.analysed (omega (arith, c.loop-analysis-test.false, ap (λ (f : Found). f.lowest) c.analysis-in-loop-analysis.view_is)))
    )
