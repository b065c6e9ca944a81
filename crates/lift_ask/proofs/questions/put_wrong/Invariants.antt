use Rattle.std.proofs.Common.{map, take}
use Rattle.lift_ask.specs.Questions.{SayEach, isnt_one}
use Rattle.lift_ask.proofs.questions.put_wrong.Given as goal

-- the lists so far have nodes
abbrev pub invariant-loop-list : goal.invariant-loop-list
invariant-loop-list l = SayEach l.fn.pool l.pool (isnt_one l.fn.pool) (take l.list-index (map (λ list. list.items) l.table)) l.wrong.items
