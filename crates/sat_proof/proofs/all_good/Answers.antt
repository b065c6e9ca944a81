use Rattle.std.proofs.Common.{◌≡◌, true, subst, sym, refl, ◌∙◌, arith, below_more}
use Rattle.sat_proof.specs.Refutations.{IsGoodStep}
use Rattle.sat_proof.proofs.all_good.Goals as goal

pub returns-then-not-accepts : goal.returns-then-not-accepts
returns-then-not-accepts c =
    let e = c.loop-step.invariant.same ∙ c.in_ok-checker.ensures in (
      λ t. absurd (cc),
      λ good.
          let t : c.accepts.result ≡ true =
          c.accepts.ensures.exact.1 (subst (λ k. IsGoodStep k.clauses k.steps c.loop-step.step) (sym e) (good c.loop-step.step c.loop-step-test.true)) in
          absurd (cc),
    )

pub loop-step-preserved : goal.loop-step-preserved
loop-step-preserved c =
    let e = c.loop-step.invariant.same ∙ c.in_ok-checker.ensures in
    record {
      same = c.accepts.ensures.same ∙ c.loop-step.invariant.same;
      good = below_more (IsGoodStep c.args.clauses.now.list c.args.steps.now) c.loop-step.step c.loop-step.invariant.good
          (subst (λ k. IsGoodStep k.clauses k.steps c.loop-step.step) e (c.accepts.ensures.exact.0 c.if-not-accepts.false));
    }

pub returns : goal.returns
returns c = (λ _ place h. c.loop-step.invariant.good place (omega (arith, h, c.loop-step-test.false)), λ _. refl)
