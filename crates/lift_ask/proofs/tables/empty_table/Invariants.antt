use Rattle.std.proofs.Common.{◌≡◌, [], map, replicate}
use Rattle.lift_ask.proofs.tables.empty_table.Given as goal

abbrev pub invariant-loop : goal.invariant-loop
invariant-loop l = map (λ list. list.items) l.table.items ≡ replicate l.counter []
