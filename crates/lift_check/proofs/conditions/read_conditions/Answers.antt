use Rattle.std.proofs.Common.{[], sym, subst, List, ℕ}
use Rattle.vkb_formula.specs.declared.pool.NodeId.{NodeId}
use Rattle.doc_tree.specs.declared.Cond.{Cond}
use Rattle.doc_build.specs.Choices.{pageless_setting}
use Rattle.lift_check.specs.Keeping.{KeepsLines}
use Rattle.doc_build.specs.Keeping.{met_from}
use Rattle.lift_check.specs.Nodes.{AreNodes, HoldsOptions, meets}
use Rattle.lift_check.proofs.LineLemmas.{keeps-lines}
use Rattle.lift_check.proofs.NodesLemmas.{HoldsOptions-constant, HoldsOptions-keeps}
use Rattle.lift_check.proofs.conditions.read_conditions.Goals as goal

pub returns-clause-constants : goal.returns-clause-constants
returns-clause-constants c =
    let options = c.args.options.now in
    let holds : HoldsOptions options.count c.in_ok-pool.pool = subst (λ (n : ℕ). HoldsOptions n c.in_ok-pool.pool) c.len.ensures c.in_ok-pool.ensures in
    HoldsOptions-constant options.count c.cond_nodes.new.pool (HoldsOptions-keeps options.count c.in_ok-pool.pool c.cond_nodes.new.pool holds c.in_ok-nodes.ensures.keeps)

pub returns-clause-lines : goal.returns-clause-lines
returns-clause-lines c = λ text always r loaded different are.
    let options = c.args.options.now in
    let d = c.args.d.now in
    let setting = pageless_setting always r in
    let new = c.cond_nodes.new.pool in
    let nodes = c.in_ok-nodes.nodes.items in
    let holds : HoldsOptions options.count c.in_ok-pool.pool = subst (λ (n : ℕ). HoldsOptions n c.in_ok-pool.pool) c.len.ensures c.in_ok-pool.ensures in
    let made : AreNodes c.in_ok-pool.pool new nodes (λ choice. met_from (meets options choice) [] d.conds) =
    subst (λ (cs : List Cond). AreNodes c.in_ok-pool.pool new nodes (λ choice. met_from (meets options choice) [] cs)) c.as_slice.ensures c.in_ok-nodes.ensures in
    subst (λ (ns : List NodeId). KeepsLines setting text d new ns) (sym c.from_vec.ensures)
    (keeps-lines c.options_are_set.ensures c.lines_are_kept_by_number.ensures setting text d options c.in_ok-pool.pool new nodes loaded are.each are.count different holds made)
