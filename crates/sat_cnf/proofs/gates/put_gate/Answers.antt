use Rattle.std.proofs.Common.{ap}
use Rattle.sat_cnf.specs.Clauses.{Cnf}
use Rattle.sat_cnf.proofs.NodeLemmas.{clause-within}
use Rattle.sat_cnf.proofs.gates.put_gate.Goals as goal

pub push-requires : goal.push-requires
push-requires c =
    clause-within c.args.clauses.now.vars c.put_pairs.new.clauses.vars c.args.head c.args.inputs.now c.in_ok-last.last.items c.as_slice.result.now
    (ap (λ (k : Cnf). k.vars) c.in_ok-put_pairs.ensures) c.as_slice.ensures.value c.in_ok-last.ensures c.requires.head c.requires.inputs
