use Rattle.std.proofs.Common.{take, Contains}
use Rattle.reg_registry.specs.Rows.{id_at}
use Rattle.reg_closure.specs.Marking.{Marks}
use Rattle.reg_closure.proofs.closing.Marking.mark_named.Given as goal

abbrev pub invariant-loop-id : goal.invariant-loop-id
invariant-loop-id l = Marks (λ place. Contains (take l.id-index l.id-items) (id_at place)) l.fn.self l.self
