use Rattle.std.proofs.Common.{◌≡◌, map, take}
use Rattle.vkb_formula.specs.declared.pool.NodeId.{NodeId}
use Rattle.sat_cnf.specs.Lits.{negation_of}
use Rattle.sat_cnf.specs.Coding.{lit_in}
use Rattle.sat_cnf.proofs.gates.negations_of.Given as goal

abbrev pub invariant-loop-part : goal.invariant-loop-part
invariant-loop-part l = l.lits.items ≡ map (λ (part : NodeId). negation_of (lit_in l.table part.0)) (take l.part-index l.parts)
