use Rattle.std.proofs.Common.{◌<◌, All}
use Rattle.lift_nodes.proofs.tests.sources_of.Given as goal

abbrev pub invariant-loop-word : goal.invariant-loop-word
invariant-loop-word l = All (λ source. source.line.0 < 4) l.sources.items
