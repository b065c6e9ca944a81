use Rattle.std.proofs.Common.{◌≡◌, map, take, ◌∷◌}
use Rattle.sat_cnf.specs.Lits.{negation_of}
use Rattle.sat_cnf.proofs.gates.with_negations.Given as goal

abbrev pub invariant-loop-input : goal.invariant-loop-input
invariant-loop-input l = l.clause.items ≡ l.fn.head ∷ map negation_of (take l.input-index l.inputs)
