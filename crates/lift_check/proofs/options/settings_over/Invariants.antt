use Rattle.std.proofs.Common.{take}
use Rattle.lift_check.specs.Options.{AreSettings}
use Rattle.lift_check.proofs.options.settings_over.Given as goal

-- the names so far have their settings
abbrev pub invariant-loop-id : goal.invariant-loop-id
invariant-loop-id l = AreSettings l.fixed l.options (take l.id l.names) l.settings.items
