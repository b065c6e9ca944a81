use Rattle.std.proofs.Common.{◌≡◌, map, take}
use Rattle.reg_registry.specs.Rows.{free_option}
use Rattle.reg_registry.proofs.bare.free_options.Given as goal

abbrev pub invariant-loop : goal.invariant-loop
invariant-loop l = l.rows.items ≡ map (λ name. free_option) (take l.index l.options)
