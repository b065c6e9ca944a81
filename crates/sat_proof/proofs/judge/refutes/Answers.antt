use Rattle.std.proofs.Common.{◌+◌, drop, map, subst, sym, refl, ap, ◌∙◌, inl, ⊎_elim}
use Rattle.sat_cnf.specs.declared.lit.Lit.{Lit}
use Rattle.sat_proof.specs.Propagation.{Refutes, IsFalsified, IsUnit}
use Rattle.sat_proof.specs.Refutations.{held_with, hinted}
use Rattle.sat_proof.proofs.JudgeLemmas.{next-hinted, refutes-unit}
use Rattle.sat_proof.proofs.judge.refutes.Goals as goal

pub returns-in-Falsified-clause-exact : goal.returns-in-Falsified-clause-exact
returns-in-Falsified-clause-exact c =
    let next = next-hinted (held_with c.args.clauses.now.list c.args.earlier.now) c.args.hints.now c.loop-hint.hint-index c.loop-hint-test.true in (
      λ _.
          c.loop-hint.invariant.rest.1
          (subst (Refutes c.loop-hint.trail.known) (sym next) (inl (subst (IsFalsified c.loop-hint.trail.known) c.clause_at.ensures.clause c.in-Falsified.ensures))),
      λ _. refl,
    )

pub returns-in-Neither-clause-exact : goal.returns-in-Neither-clause-exact
returns-in-Neither-clause-exact c =
    let next = next-hinted (held_with c.args.clauses.now.list c.args.earlier.now) c.args.hints.now c.loop-hint.hint-index c.loop-hint-test.true in
    let neither =
    subst (λ clause. ¬ IsFalsified c.loop-hint.trail.known clause × ((lit : Lit) → ¬ IsUnit c.loop-hint.trail.known clause lit))
    c.clause_at.ensures.clause c.in-Neither.ensures in (
      λ e. absurd (cc),
      λ r. absurd (⊎_elim neither.0 (λ u. neither.1 u.0 u.1) (subst (Refutes c.loop-hint.trail.known) next (c.loop-hint.invariant.rest.0 r))),
    )

pub loop-hint-preserved : goal.loop-hint-preserved
loop-hint-preserved c =
    let next = next-hinted (held_with c.args.clauses.now.list c.args.earlier.now) c.args.hints.now c.loop-hint.hint-index c.loop-hint-test.true in
    let unit = subst (λ clause. IsUnit c.loop-hint.trail.known clause c.in-Unit.lit) c.clause_at.ensures.clause c.in-Unit.ensures in
    let rest = map (hinted (held_with c.args.clauses.now.list c.args.earlier.now)) (drop (c.loop-hint.hint-index + 1) c.args.hints.now) in
    let step = refutes-unit c.loop-hint.trail.known _ c.in-Unit.lit rest unit in
    let known = ap (λ t. t.known) c.put.ensures in
    record {
      limit = ap (λ t. t.limit) c.put.ensures ∙ c.loop-hint.invariant.limit;
      rest = (
        λ r. subst (λ k. Refutes k rest) (sym known) (step.0 (subst (Refutes c.loop-hint.trail.known) next (c.loop-hint.invariant.rest.0 r))),
        λ r. c.loop-hint.invariant.rest.1 (subst (Refutes c.loop-hint.trail.known) (sym next) (step.1 (subst (λ k. Refutes k rest) known r))),
      );
    }
