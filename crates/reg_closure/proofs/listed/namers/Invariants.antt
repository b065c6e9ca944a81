use Rattle.std.proofs.Common.{length, map, take}
use Rattle.reg_closure.specs.Listed.{AreListed, row_lists, row_pairs}
use Rattle.reg_closure.proofs.listed.namers.Given as goal

-- the rows so far are listed
abbrev pub invariant-loop-name : goal.invariant-loop-name
invariant-loop-name l = AreListed row_lists row_pairs (length l.r.names) (take l.name l.r.rows) (map (λ list. list.items) l.table.items)
