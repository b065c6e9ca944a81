use Rattle.std.proofs.Common.{◌∙◌, ap, refl, sym, arith, take, ◌++◌, [], ◌∷◌}
use Rattle.std.proofs.lemmas.List.{take_more}
use Rattle.vkb_formula.specs.declared.formula.Formula.TheVariants as formula
use Rattle.vkb_formula.specs.declared.pool.PoolNode.TheVariants as node
use Rattle.vkb_formula.proofs.TreeLemmas.{always-tree, never-tree, var-tree, not-tree, all-tree, any-tree, held-parts, more-trees, put-tree, trees-of}
use Rattle.vkb_formula.proofs.pool.+put_nodes.Goals as goal

pub put_parts-loop-part-preserved : goal.put_parts-loop-part-preserved
put_parts-loop-part-preserved t c =
    trees-of
    (take_more c.args.parts.now c.loop-part.part-index c.part-item.result (omega arith) ∙ ap (λ part. take c.loop-part.part-index c.args.parts.now ++ part ∷ []) (sym c.part-item.is))
    c.in_ok-push.ensures.items
    (more-trees _ _ _ _ _ _ _ c.loop-part.invariant c.in_ok-root.ensures.tree)

pub put_nodes-put-requires-in-All : goal.put_nodes-put-requires-in-All
put_nodes-put-requires-in-All t c = held-parts _ _ _ _ c.in_ok-roots-in-All.ensures.trees (node.All c.in_ok-roots-in-All.roots) refl

pub put_nodes-put-requires-in-Any : goal.put_nodes-put-requires-in-Any
put_nodes-put-requires-in-Any t c = held-parts _ _ _ _ c.in_ok-roots-in-Any.ensures.trees (node.Any c.in_ok-roots-in-Any.roots) refl

pub put_nodes-returns-in-Always-clause-tree : goal.put_nodes-returns-in-Always-clause-tree
put_nodes-returns-in-Always-clause-tree t c =
    put-tree c.args.pool.now c.args.pool.now c.put.new.self node.Always c.args.f.now _ c.put.result c.in-Always.is c.put.ensures.ok c.put.ensures.place (always-tree c.args.pool.now)

pub put_nodes-returns-in-Never-clause-tree : goal.put_nodes-returns-in-Never-clause-tree
put_nodes-returns-in-Never-clause-tree t c =
    put-tree c.args.pool.now c.args.pool.now c.put-in-Never.new.self node.Never c.args.f.now _ c.put-in-Never.result c.in-Never.is c.put-in-Never.ensures.ok c.put-in-Never.ensures.place (never-tree c.args.pool.now)

pub put_nodes-returns-in-Var-clause-tree : goal.put_nodes-returns-in-Var-clause-tree
put_nodes-returns-in-Var-clause-tree t c =
    put-tree c.args.pool.now c.args.pool.now c.put-in-Var.new.self (node.Var _) c.args.f.now _ c.put-in-Var.result c.in-Var.is c.put-in-Var.ensures.ok c.put-in-Var.ensures.place (var-tree c.args.pool.now _)

pub put_nodes-returns-in_ok-root-in-Not-clause-tree : goal.put_nodes-returns-in_ok-root-in-Not-clause-tree
put_nodes-returns-in_ok-root-in-Not-clause-tree t c =
    put-tree c.args.pool.now c.put_nodes.new.pool c.put-in-Not.new.self (node.Not c.in_ok-root-in-Not.root) c.args.f.now (formula.Not c.get.result.now) c.put-in-Not.result (cc) c.put-in-Not.ensures.ok c.put-in-Not.ensures.place
    (not-tree c.args.pool.now c.put_nodes.new.pool c.get.result.now c.in_ok-root-in-Not.root c.in_ok-root-in-Not.ensures.tree)

pub put_nodes-returns-in_ok-roots-in-All-clause-tree : goal.put_nodes-returns-in_ok-roots-in-All-clause-tree
put_nodes-returns-in_ok-roots-in-All-clause-tree t c =
    put-tree c.args.pool.now c.put_parts.new.pool c.put-in-All.new.self (node.All c.in_ok-roots-in-All.roots) c.args.f.now (formula.All c.as_slice.result.now) c.put-in-All.result (cc) c.put-in-All.ensures.ok c.put-in-All.ensures.place
    (all-tree _ _ c.as_slice.result.now _ c.in_ok-roots-in-All.ensures.trees)

pub put_nodes-returns-in_ok-roots-in-Any-clause-tree : goal.put_nodes-returns-in_ok-roots-in-Any-clause-tree
put_nodes-returns-in_ok-roots-in-Any-clause-tree t c =
    put-tree c.args.pool.now c.put_parts-in-Any.new.pool c.put-in-Any.new.self (node.Any c.in_ok-roots-in-Any.roots) c.args.f.now (formula.Any c.as_slice-in-Any.result.now) c.put-in-Any.result (cc) c.put-in-Any.ensures.ok c.put-in-Any.ensures.place
    (any-tree _ _ c.as_slice-in-Any.result.now _ c.in_ok-roots-in-Any.ensures.trees)
