use Rattle.std.proofs.lemmas.Result.{IfOk-weaker}
use Rattle.vkb_formula.specs.Pools.{node_variables, node_clauses}
use Rattle.vkb_formula.proofs.TreeLemmas.{tree-unfolds, tree-reach, tree-size, tree-reached}
use Rattle.vkb_formula.proofs.pool.Pool.put_tree.Goals as goal

pub returns-clause-unfolds : goal.returns-clause-unfolds
returns-clause-unfolds c = IfOk-weaker c.put_nodes.result _ _ (λ id tree. tree-unfolds _ _ _ _ tree) c.put_nodes.ensures.tree

pub returns-clause-reach : goal.returns-clause-reach
returns-clause-reach c = IfOk-weaker c.put_nodes.result _ _ (λ id tree. tree-reach _ _ _ _ tree) c.put_nodes.ensures.tree

pub returns-clause-size : goal.returns-clause-size
returns-clause-size c = IfOk-weaker c.put_nodes.result _ _ (λ id tree. tree-size _ _ _ _ tree) c.put_nodes.ensures.tree

pub returns-clause-variables : goal.returns-clause-variables
returns-clause-variables c = IfOk-weaker c.put_nodes.result _ _ (λ id tree. tree-reached node_variables _ _ _ _ _ tree tree.variables) c.put_nodes.ensures.tree

pub returns-clause-clauses : goal.returns-clause-clauses
returns-clause-clauses c = IfOk-weaker c.put_nodes.result _ _ (λ id tree. tree-reached node_clauses _ _ _ _ _ tree tree.clauses) c.put_nodes.ensures.tree
