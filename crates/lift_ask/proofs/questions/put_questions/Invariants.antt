use Rattle.std.proofs.Common.{take}
use Rattle.std.specs.List.{list_any}
use Rattle.lift_ask.specs.Questions.{SayEach, is_wrong_by}
use Rattle.lift_ask.proofs.questions.put_questions.Given as goal

-- the links so far have nodes
abbrev pub invariant-loop-link : goal.invariant-loop-link
invariant-loop-link l = SayEach l.fn.pool l.pool (λ link set. list_any (is_wrong_by l.fn.pool l.wrong set) link.cases) (take l.link-index l.links) l.questions.items
