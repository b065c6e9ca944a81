use Rattle.std.proofs.Common.{◌≡◌, All, take, true}
use Rattle.reg_registry.specs.Words.{is_name}
use Rattle.reg_registry.proofs.tests.bare_options.are_names.Given as goal

abbrev pub invariant-loop-text : goal.invariant-loop-text
invariant-loop-text l = All (λ name. is_name name ≡ true) (take l.text-index l.texts)
