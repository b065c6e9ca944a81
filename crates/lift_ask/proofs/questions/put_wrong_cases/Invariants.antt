use Rattle.std.proofs.Common.{take}
use Rattle.lift_ask.specs.Questions.{SayEach, is_wrong_by}
use Rattle.lift_ask.proofs.questions.put_wrong_cases.Given as goal

-- the cases so far have nodes
abbrev pub invariant-loop-case : goal.invariant-loop-case
invariant-loop-case l = SayEach l.fn.pool l.pool (λ case set. is_wrong_by l.fn.pool l.wrong set case) (take l.case-index l.cases) l.nodes.items
