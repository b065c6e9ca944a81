use Rattle.std.proofs.Common.{All}
use Rattle.lift_survey.specs.Survey.{AreHeld}
use Rattle.lift_ask.proofs.tests.marks_of.Given as goal

-- the cases of each mark are of nodes and ids that are there
abbrev pub invariant-loop-word : goal.invariant-loop-word
invariant-loop-word l = All (AreHeld 6 3) l.marks.items
