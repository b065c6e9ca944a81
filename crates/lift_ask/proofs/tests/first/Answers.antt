use Rattle.std.proofs.Common.{ℕ, All, subst, sym}
use Rattle.lift_survey.specs.Survey.{AreHeld}
use Rattle.lift_ask.proofs.tests.first.Goals as goal

pub first_broken-requires-clause-anchors : goal.first_broken-requires-clause-anchors
first_broken-requires-clause-anchors c =
    subst (λ (n : ℕ). All (AreHeld n 3) c.as_slice.result.now) (sym c.in_ok-pool.ensures.count) (subst (All (AreHeld 6 3)) (sym c.as_slice.ensures.value) c.in_ok-anchors.ensures)

pub first_broken-requires-clause-links : goal.first_broken-requires-clause-links
first_broken-requires-clause-links c =
    subst (λ (n : ℕ). All (AreHeld n 3) c.as_slice-2.result.now) (sym c.in_ok-pool.ensures.count) (subst (All (AreHeld 6 3)) (sym c.as_slice-2.ensures.value) c.in_ok-links.ensures)
