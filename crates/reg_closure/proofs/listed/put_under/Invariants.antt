use Rattle.std.proofs.Common.{map, take}
use Rattle.reg_closure.specs.Closure.{has_name}
use Rattle.reg_closure.specs.Listed.{PutsUnder}
use Rattle.reg_closure.proofs.listed.put_under.Given as goal

-- the place stands under the names so far
abbrev pub invariant-loop-id : goal.invariant-loop-id
invariant-loop-id l =
    PutsUnder l.place (has_name (take l.id-index l.ids)) l.id-index (map (λ list. list.items) l.initial.table.items) (map (λ list. list.items) l.table.items)
