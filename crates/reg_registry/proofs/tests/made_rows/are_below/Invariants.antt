use Rattle.std.proofs.Common.{◌<◌, All, take}
use Rattle.reg_registry.proofs.tests.made_rows.are_below.Given as goal

abbrev pub invariant-loop-id : goal.invariant-loop-id
invariant-loop-id l = All (λ id. id.0 < l.end) (take l.id-index l.ids)
