use Rattle.std.proofs.Common.{◌≡◌, ◌∙◌, ◌+◌, ◌++◌, ◌∷◌, [], ap, sym, subst, List, map, take, get_or}
use Rattle.std.proofs.lemmas.List.{get_or_default, map_more}
use Rattle.vkb_formula.specs.declared.pool.NodeId.{NodeId}
use Rattle.lift_check.specs.Nodes.{AreNodes, IsNode, has_name, is_set}
use Rattle.lift_check.specs.Options.{setting_of}
use Rattle.lift_check.proofs.NodesLemmas.{AreNodes-more, IsNode-for}
use Rattle.lift_check.proofs.conditions.name_nodes.Goals as goal

pub loop-name-preserved : goal.loop-name-preserved
loop-name-preserved c = λ pool holds.
    let options = c.args.options.now in
    let names = c.args.names.now in
    let index = c.loop-name.name-index in
    let setting = c.setting_of.result in
    let is : setting ≡ setting_of options (get_or names index (record { 0 = 0 })) =
    c.setting_of.ensures.setting ∙ ap (setting_of options) (get_or_default names index _ (record { 0 = 0 }) c.loop-name-test.true) in
    subst (λ (ns : List NodeId). AreNodes pool pool ns (λ choice. map (has_name options choice) (take (index + 1) names))) (sym {A = List NodeId} c.in_ok-push.ensures.items)
    (AreNodes-more pool pool pool c.loop-name.nodes.items c.name_node.result (λ choice. map (has_name options choice) (take index names)) _ (λ choice. is_set choice setting) (c.loop-name.invariant pool holds)
    (subst (λ (n : NodeId). IsNode pool pool n (λ choice. is_set choice setting)) (sym c.name_node.ensures) (IsNode-for options.count pool setting holds c.setting_of.ensures.below))
    (λ choice.
    map_more (has_name options choice) names index (record { 0 = 0 }) c.loop-name-test.true
    ∙ ap (λ s. map (has_name options choice) (take index names) ++ is_set choice s ∷ []) (sym is)))
