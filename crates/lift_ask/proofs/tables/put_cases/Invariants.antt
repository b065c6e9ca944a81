use Rattle.std.proofs.Common.{map, take}
use Rattle.lift_ask.specs.Tables.{PutsCases}
use Rattle.lift_ask.proofs.tables.put_cases.Given as goal

-- the cases so far are put
abbrev pub invariant-loop-case : goal.invariant-loop-case
invariant-loop-case l = PutsCases (take l.case-index l.cases) (map (λ list. list.items) l.initial.table.items) (map (λ list. list.items) l.table.items)
