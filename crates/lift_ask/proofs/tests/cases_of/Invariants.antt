use Rattle.std.proofs.Common.{◌<◌, All}
use Rattle.lift_ask.proofs.tests.cases_of.Given as goal

-- each case is of a node and an id that are there
abbrev pub invariant-loop-pair : goal.invariant-loop-pair
invariant-loop-pair l = All (λ case. (case.node.0 < 6) × (case.id.0 < 3)) l.cases.items
