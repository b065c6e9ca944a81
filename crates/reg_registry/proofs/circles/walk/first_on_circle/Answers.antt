use Rattle.std.proofs.Common.{ℕ, Ok, MatchOption, sym, ap, subst}
use Rattle.vkb_bytes.specs.First.{IsFirst}
use Rattle.reg_registry.specs.Naming.{IsOnCircle}
use Rattle.reg_registry.specs.Walks.{Walked}
use Rattle.reg_registry.proofs.WalkEnterLemmas.{walk-end}
use Rattle.reg_registry.proofs.circles.walk.first_on_circle.Goals as goal

pub returns : goal.returns
returns c =
    subst (λ (x : Walked). MatchOption x.first ((place : ℕ) → IsOnCircle c.args.rows.now place → ⊥) (IsFirst (IsOnCircle c.args.rows.now))) (sym c.walk.view_is)
    (walk-end c.args.rows.now c.step.new.self c.in_ok-step.ensures.walk (c.in_ok-step.ensures.over (ap Ok c.if-branch.false)))
