use Rattle.std.proofs.Common.{◌≡◌, map, take}
use Rattle.reg_rows.specs.Rows.{member_row}
use Rattle.reg_rows.proofs.building.declared.members.Given as goal

abbrev pub invariant-loop-form : goal.invariant-loop-form
invariant-loop-form l = l.made.items ≡ map (member_row l.names) (take l.form-index l.forms)
