use Rattle.std.proofs.Common.{◌≡◌, [], map, replicate}
use Rattle.reg_closure.proofs.listed.empty_table.Given as goal

abbrev pub invariant-loop : goal.invariant-loop
invariant-loop l = map (λ list. list.items) l.table.items ≡ replicate l.counter []
