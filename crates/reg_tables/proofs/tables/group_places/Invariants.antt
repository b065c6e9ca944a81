use Rattle.std.proofs.Common.{map, take}
use Rattle.reg_tables.specs.TableContents.{AreOf}
use Rattle.reg_tables.proofs.tables.group_places.Given as goal

abbrev pub invariant-loop-place : goal.invariant-loop-place
invariant-loop-place l = AreOf l.table (map (λ g. g.name) (take l.place l.groups))
