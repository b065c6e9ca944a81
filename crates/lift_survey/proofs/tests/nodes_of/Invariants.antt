use Rattle.std.proofs.Common.{◌<◌, All}
use Rattle.lift_survey.proofs.tests.nodes_of.Given as goal

abbrev pub invariant-loop-name : goal.invariant-loop-name
invariant-loop-name l = All (λ node. node.0 < 4) l.nodes.items
