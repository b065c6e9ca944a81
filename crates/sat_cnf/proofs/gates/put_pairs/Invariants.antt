use Rattle.std.proofs.Common.{◌≡◌, map, take, ◌++◌, ◌∷◌, []}
use Rattle.sat_cnf.specs.declared.lit.Lit.{Lit}
use Rattle.sat_cnf.specs.Lits.{negation_of}
use Rattle.sat_cnf.proofs.gates.put_pairs.Given as goal

abbrev pub invariant-loop-input : goal.invariant-loop-input
invariant-loop-input l = l.clauses ≡ record l.fn.clauses { list = l.fn.clauses.list ++ map (λ (input : Lit). negation_of l.head ∷ input ∷ []) (take l.input-index l.inputs) }
