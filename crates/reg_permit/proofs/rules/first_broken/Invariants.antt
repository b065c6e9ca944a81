use Rattle.std.proofs.Common.{◌≡◌, ℕ, ◌<◌, Some, slice_get}
use Rattle.reg_registry.specs.declared.registry.OptionRow.{OptionRow}
use Rattle.reg_permit.specs.Permitted.{KeepsRule}
use Rattle.reg_permit.proofs.rules.first_broken.Given as goal

-- the options so far keep their rules
abbrev pub invariant-loop-place : goal.invariant-loop-place
invariant-loop-place l = (before : ℕ) (o : OptionRow) → before < l.place → slice_get l.r.option_rows before ≡ Some o → KeepsRule l.r l.chosen before o
