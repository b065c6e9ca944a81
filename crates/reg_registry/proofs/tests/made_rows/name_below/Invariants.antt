use Rattle.std.proofs.Common.{◌<◌, All, take}
use Rattle.reg_registry.proofs.tests.made_rows.name_below.Given as goal

abbrev pub invariant-loop-row : goal.invariant-loop-row
invariant-loop-row l = All (λ row. All (λ id. id.0 < l.end) row.named) (take l.row-index l.rows)
