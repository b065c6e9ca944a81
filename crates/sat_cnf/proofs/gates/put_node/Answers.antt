use Rattle.sat_cnf.specs.Coding.{lit_in}
use Rattle.sat_cnf.proofs.NodeLemmas.{all-within, any-within, all-list, any-list}
use Rattle.sat_cnf.proofs.gates.put_node.Goals as goal

pub put_gate-requires-in-All-clause-inputs : goal.put_gate-requires-in-All-clause-inputs
put_gate-requires-in-All-clause-inputs c =
    all-within c.args.clauses.now.vars c.args.next (lit_in c.args.table.now) c.args.node.now c.in-All.parts c.as_slice.result.now c.in_ok-inputs-in-All.inputs.items c.as_slice-in-All.result.now
    c.in-All.is c.as_slice.ensures c.in_ok-inputs-in-All.ensures c.as_slice-in-All.ensures.value c.requires.parts

pub put_gate-requires-in-Any-clause-inputs : goal.put_gate-requires-in-Any-clause-inputs
put_gate-requires-in-Any-clause-inputs c =
    any-within c.args.clauses.now.vars c.args.next (lit_in c.args.table.now) c.args.node.now c.in-Any.parts c.as_slice-in-Any.result.now c.in_ok-inputs-in-Any.inputs.items c.as_slice-in-Any-2.result.now
    c.in-Any.is c.as_slice-in-Any.ensures c.in_ok-inputs-in-Any.ensures c.as_slice-in-Any-2.ensures.value c.requires.parts

pub returns-in_ok-put_gate-in-All-clause-list : goal.returns-in_ok-put_gate-in-All-clause-list
returns-in_ok-put_gate-in-All-clause-list c =
    all-list c.args.clauses.now.vars c.args.next (lit_in c.args.table.now) c.args.node.now c.in-All.parts c.as_slice.result.now c.in_ok-inputs-in-All.inputs.items c.as_slice-in-All.result.now
    c.args.clauses.now c.put_gate-in-All.new.clauses c.in-All.is c.as_slice.ensures c.in_ok-inputs-in-All.ensures c.as_slice-in-All.ensures.value c.in_ok-put_gate-in-All.ensures

pub returns-in_ok-put_gate-in-Any-clause-list : goal.returns-in_ok-put_gate-in-Any-clause-list
returns-in_ok-put_gate-in-Any-clause-list c =
    any-list c.args.clauses.now.vars c.args.next (lit_in c.args.table.now) c.args.node.now c.in-Any.parts c.as_slice-in-Any.result.now c.in_ok-inputs-in-Any.inputs.items c.as_slice-in-Any-2.result.now
    c.args.clauses.now c.put_gate-in-Any.new.clauses c.in-Any.is c.as_slice-in-Any.ensures c.in_ok-inputs-in-Any.ensures c.as_slice-in-Any-2.ensures.value c.in_ok-put_gate-in-Any.ensures
