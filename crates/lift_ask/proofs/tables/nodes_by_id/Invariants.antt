use Rattle.std.proofs.Common.{[], map, replicate, take}
use Rattle.lift_ask.specs.Tables.{PutsCases, all_cases}
use Rattle.lift_ask.proofs.tables.nodes_by_id.Given as goal

-- the cases of the anchors so far are put
abbrev pub invariant-loop-anchor : goal.invariant-loop-anchor
invariant-loop-anchor l = PutsCases (all_cases (take l.anchor-index l.anchors)) (replicate l.ids []) (map (λ list. list.items) l.table.items)
