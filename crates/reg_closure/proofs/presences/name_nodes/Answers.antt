use Rattle.std.proofs.Common.{◌≡◌, ◌∙◌, ◌+◌, ◌-◌, ◌<◌, ◌∷◌, ℕ, List, ap, drop, get_or, length, map, subst, sym, slice_get, Some, arith}
use Rattle.std.proofs.lemmas.List.{drop_more, get_or-map, length-map}
use Rattle.vkb_formula.specs.declared.name_table.NameId.{NameId}
use Rattle.vkb_formula.specs.declared.pool.NodeId.{NodeId}
use Rattle.vkb_formula.specs.declared.pool.PoolNode.TheVariants as node
use Rattle.reg_closure.specs.Listed.{list_at}
use Rattle.reg_closure.specs.Made.{AreNamed, AreOrdered, Grows, name_raise, node_at}
use Rattle.reg_closure.proofs.MadeLemmas.{Keeps-then}
use Rattle.reg_closure.proofs.NamedLemmas.{AreOrdered-drop, named-more, names-grow}
use Rattle.reg_closure.proofs.RootLemmas.{list-read}
use Rattle.reg_closure.proofs.presences.name_nodes.Goals as goal

abbrev first_name : NameId
first_name = record { 0 = 0 }

-- the names from a place on are the one there, and those behind it
from-here : (order : List NameId) (left k : ℕ) → k + 1 ≡ left → k < length order → drop k (map (λ id. id.0) order) ≡ (get_or order k first_name).0 ∷ drop left (map (λ id. id.0) order)
from-here order left k is below =
    drop_more (map (λ (id : NameId). id.0) order) k 0 (omega (arith, below, length-map order (λ (id : NameId). id.0)))
    ∙ (ap (λ n. n ∷ drop (k + 1) (map (λ (id : NameId). id.0) order)) (get_or-map (λ (id : NameId). id.0) order k first_name 0 below)
    ∙ ap (λ n. (get_or order k first_name).0 ∷ drop n (map (λ (id : NameId). id.0) order)) is)

pub returns-in_err-id-clause-keeps : goal.returns-in_err-id-clause-keeps
returns-in_err-id-clause-keeps c = Keeps-then c.args.pool.now c.loop-left.pool c.name_node.new.pool c.loop-left.invariant.keeps c.name_node.ensures.keeps

pub loop-left-preserved : goal.loop-left-preserved
loop-left-preserved c =
    let names = c.args.order.now in
    let order = map (λ id. id.0) names in
    let left = c.loop-left.left in
    let k = left - 1 in
    let name = (get_or names k first_name).0 in
    let first = c.args.pool.now in
    let old = c.loop-left.pool in
    let new = c.name_node.new.pool in
    let roots = c.args.roots.now in
    let ids = c.loop-left.ids.items in
    let id = c.in_ok-id.id in
    let before = c.loop-left.invariant in
    let table = map (λ list. list.items) c.args.table.now in
    let below : k < length names = omega (arith, before.upto, c.loop-left-test.true) in
    let next : k + 1 ≡ left = omega (arith, c.loop-left-test.true) in
    let within : name < length roots = c.requires.within k first_name below in
    let split = from-here names left k next below in
    let ordered = subst (AreOrdered table) split (AreOrdered-drop table order k c.requires.behind) in
    let list = list-read (λ list. list.items) c.args.table.now name c.index-table-name.result c.as_slice-in-loop-left.result.now c.as_slice-in-loop-left.ensures.value c.index-table-name.is (omega (arith, within, c.requires.count)) in
    let there : slice_get new id.0 ≡ Some (node.Any (node_at roots name ∷ map (node_at ids) (list_at table name))) =
    c.in_ok-id.ensures.node
    ∙ (ap (λ (ns : List NodeId). Some (node.Any (node_at roots name ∷ map (node_at ns) c.as_slice-in-loop-left.result.now))) c.as_slice.ensures.value
    ∙ ap (λ (ps : List ℕ). Some (node.Any (node_at roots name ∷ map (node_at ids) ps))) list) in
    record {
      upto = omega (arith, before.upto);
      keeps = Keeps-then first old new before.keeps c.name_node.ensures.keeps;
      named = subst (AreNamed new roots _ table) (sym split) (named-more old new roots ids table (drop left order) name id c.name_node.ensures.keeps before.named ordered within c.in_ok-id.ensures.held there);
      grows = subst (λ (ns : List ℕ). Grows first new (name_raise table ns) 0) (sym split) (names-grow first old new table (drop left order) name c.as_slice-in-loop-left.result.now list before.grows c.in_ok-id.ensures.grows);
    }
