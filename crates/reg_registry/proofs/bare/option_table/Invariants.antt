use Rattle.std.proofs.Common.{◌≡◌, take}
use Rattle.reg_registry.proofs.bare.option_table.Given as goal

-- the names so far
abbrev pub invariant-loop-option : goal.invariant-loop-option
invariant-loop-option l = l.names ≡ take l.option-index l.options
