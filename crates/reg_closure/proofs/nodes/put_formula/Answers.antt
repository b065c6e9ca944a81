use Rattle.reg_closure.proofs.MadeLemmas.{Keeps-extends, tree-made}
use Rattle.reg_closure.proofs.nodes.put_formula.Goals as goal

pub returns-clause-keeps : goal.returns-clause-keeps
returns-clause-keeps c =
    let law = c.nodes_keep_their_meaning.ensures in
    Keeps-extends law.formulas law.count law.sums law.shared c.args.pool.now c.put_tree.new.self c.put_tree.ensures.before

pub returns-clause-made : goal.returns-clause-made
returns-clause-made c =
    tree-made c.put_tree.result c.put_tree.new.self c.args.f.now c.put_tree.ensures.unfolds c.put_tree.ensures.held c.put_tree.ensures.clauses
