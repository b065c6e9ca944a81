use Rattle.std.proofs.Common.{◌≡◌, ◌++◌, take}
use Rattle.std.specs.List.{flat_map}
use Rattle.reg_rows.specs.Faults.{unknown}
use Rattle.reg_rows.proofs.unknowns.put_unknown_entries.Given as goal

abbrev pub invariant-loop-entry : goal.invariant-loop-entry
invariant-loop-entry l = l.faults.items ≡ l.initial.faults.items ++ flat_map (λ entry. unknown l.tables entry.mention) (take l.entry-index l.entries)
