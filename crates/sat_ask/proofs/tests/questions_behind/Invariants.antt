use Rattle.std.proofs.Common.{◌+◌, ◌<◌, All}
use Rattle.vkb_formula.specs.declared.pool.NodeId.{NodeId}
use Rattle.sat_ask.proofs.tests.questions_behind.Given as goal

abbrev pub invariant-loop-place : goal.invariant-loop-place
invariant-loop-place l = All (λ (question : NodeId). question.0 < l.count + 3) l.questions.items
