use Rattle.std.proofs.Common.{All}
use Rattle.lift_check.proofs.NameLemmas.{IsNamed}
use Rattle.lift_check.proofs.options.tests.named.Given as goal

abbrev pub invariant-loop-id : goal.invariant-loop-id
invariant-loop-id l = All IsNamed l.kept
