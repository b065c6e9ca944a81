use Rattle.std.proofs.Common.{All, subst, sym}
use Rattle.std.proofs.lemmas.List.Elements.{All-push}
use Rattle.lift_survey.specs.Survey.{AreHeld}
use Rattle.lift_ask.proofs.tests.marks_of.Goals as goal

pub loop-word-preserved : goal.loop-word-preserved
loop-word-preserved c =
    subst (All (AreHeld 6 3)) (sym c.in_ok-push.ensures.items) (All-push (AreHeld 6 3) c.loop-word.marks.items c.in_ok-mark.mark c.loop-word.invariant c.in_ok-mark.ensures)
