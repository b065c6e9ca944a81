use Rattle.std.proofs.Common.{◌≡◌, ◌++◌, take}
use Rattle.std.specs.List.{flat_map}
use Rattle.reg_rows.specs.Faults.{unknown}
use Rattle.reg_rows.proofs.unknowns.put_unknown_mentions.Given as goal

abbrev pub invariant-loop-mention : goal.invariant-loop-mention
invariant-loop-mention l = l.faults.items ≡ l.initial.faults.items ++ flat_map (unknown l.tables) (take l.mention-index l.mentions)
