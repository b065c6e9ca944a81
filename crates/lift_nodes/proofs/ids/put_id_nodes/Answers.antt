use Rattle.std.proofs.Common.{◌≡◌, ◌∙◌, ◌+◌, ◌++◌, ◌∷◌, [], ℕ, List, ap, subst, sym, take}
use Rattle.std.proofs.lemmas.List.{take_more}
use Rattle.lift_nodes.specs.declared.IdCase.{IdCase}
use Rattle.lift_nodes.specs.Giving.{HaveNodes, SaysId}
use Rattle.lift_nodes.proofs.CaseLemmas.{have-more, have-none}
use Rattle.lift_nodes.proofs.GivingLemmas.{constants-stay}
use Rattle.lift_nodes.proofs.ids.put_id_nodes.Goals as goal

pub loop-id-init : goal.loop-id-init
loop-id-init c =
    subst (λ (cs : List IdCase). HaveNodes c.args.pool.now c.args.pool.now c.args.constants c.args.start.now c.args.givers.now [] cs) (sym c.in_ok-cases.ensures.items)
    (have-none c.nodes_keep_their_meaning.ensures.sums c.args.pool.now c.args.constants c.requires.constants c.args.start.now c.args.givers.now c.requires.lines)

pub put_id_node-requires-clause-constants : goal.put_id_node-requires-clause-constants
put_id_node-requires-clause-constants c =
    constants-stay c.args.pool.now c.loop-id.pool _ _ _ _ c.args.constants c.loop-id.invariant.grown c.requires.constants

pub loop-id-preserved : goal.loop-id-preserved
loop-id-preserved c =
    let p0 = c.args.pool.now in
    let new = c.put_id_node.new.pool in
    let ids = c.args.ids.now in
    let index = c.loop-id.id-index in
    let id = c.id-item.result in
    let items = c.loop-id.cases.items in
    let says : SaysId c.loop-id.pool new c.args.constants id c.args.start.now c.args.givers.now c.in_ok-node.node =
    subst (λ (i : List ℕ). SaysId c.loop-id.pool new c.args.constants i c.args.start.now c.args.givers.now c.in_ok-node.node) c.as_slice.ensures c.in_ok-node.ensures.node in
    let more : HaveNodes p0 new c.args.constants c.args.start.now c.args.givers.now (take index ids ++ id ∷ []) (items ++ record { id = id; node = c.in_ok-node.node } ∷ []) =
    have-more c.nodes_keep_their_meaning.ensures.sums p0 c.args.constants c.requires.constants c.args.start.now c.args.givers.now c.requires.lines c.loop-id.pool new (take index ids) items id c.in_ok-node.node
    c.loop-id.invariant c.in_ok-node.ensures.grown says in
    let all : take index ids ++ id ∷ [] ≡ take (index + 1) ids = ap (λ (i : List ℕ). take index ids ++ i ∷ []) c.id-item.is ∙ sym (take_more ids index id c.loop-id-test.true) in
    let put : items ++ record { id = id; node = c.in_ok-node.node } ∷ [] ≡ c.push.new.self.items =
    ap (λ (i : List ℕ). items ++ record { id = i; node = c.in_ok-node.node } ∷ []) (sym (c.in_ok-id.ensures ∙ c.as_slice-in-loop-id.ensures)) ∙ sym c.in_ok-push.ensures.items in
    subst (λ (is : List (List ℕ)). HaveNodes p0 new c.args.constants c.args.start.now c.args.givers.now is c.push.new.self.items) all
    (subst (λ (cs : List IdCase). HaveNodes p0 new c.args.constants c.args.start.now c.args.givers.now (take index ids ++ id ∷ []) cs) put more)
