use Rattle.std.proofs.Common.{◌∙◌, ℕ, List, Vec, Global, ap, length, map, subst, sym}
use Rattle.vkb_formula.specs.declared.name_table.NameId.{NameId}
use Rattle.vkb_formula.specs.declared.pool.NodeId.{NodeId}
use Rattle.reg_closure.specs.Closure.{is_root}
use Rattle.reg_closure.specs.Listed.{AreListed, IsWholeOrder, row_lists, row_pairs}
use Rattle.reg_closure.specs.Made.{AreMade, root_cost}
use Rattle.reg_closure.proofs.BoundLemmas.{keep-bounds}
use Rattle.reg_closure.proofs.NamedLemmas.{AreOrdered-behind}
use Rattle.reg_closure.proofs.PresenceLemmas.{known-from, order-within, say-presence, size-all, table-within}
use Rattle.reg_closure.proofs.presences.presence.Goals as goal

pub name_nodes-requires-clause-within : goal.name_nodes-requires-clause-within
name_nodes-requires-clause-within c =
    let r = c.args.r.now in
    let whole = subst (λ (ns : List NameId). IsWholeOrder r.rows (length r.names) (map (λ id. id.0) ns)) (sym c.as_slice.ensures.value) c.in_ok-order.ensures in
    order-within c.as_slice.result.now c.as_slice-2.result.now (length r.names) (ap length c.as_slice-2.ensures.value ∙ c.in_ok-roots.ensures.made.count) whole.within

pub name_nodes-requires-clause-table : goal.name_nodes-requires-clause-table
name_nodes-requires-clause-table c =
    let r = c.args.r.now in
    let listed = subst (λ (ts : List (Vec ℕ Global)). AreListed row_lists row_pairs (length r.names) r.rows (map (λ list. list.items) ts)) (sym c.as_slice-3.ensures.value) c.in_ok-table.ensures in
    table-within (λ list. list.items) c.as_slice-3.result.now r.rows (length r.names) (length c.as_slice-2.result.now)
    (c.is_sound.ensures.rows_count ∙ sym (ap length c.as_slice-2.ensures.value ∙ c.in_ok-roots.ensures.made.count)) listed

pub name_nodes-requires-clause-behind : goal.name_nodes-requires-clause-behind
name_nodes-requires-clause-behind c =
    let r = c.args.r.now in
    let whole = subst (λ (ns : List NameId). IsWholeOrder r.rows (length r.names) (map (λ id. id.0) ns)) (sym c.as_slice.ensures.value) c.in_ok-order.ensures in
    let listed = subst (λ (ts : List (Vec ℕ Global)). AreListed row_lists row_pairs (length r.names) r.rows (map (λ list. list.items) ts)) (sym c.as_slice-3.ensures.value) c.in_ok-table.ensures in
    AreOrdered-behind r.rows (length r.names) (map (λ list. list.items) c.as_slice-3.result.now) (map (λ id. id.0) c.as_slice.result.now) listed whole.within whole.behind

pub returns-clause-presence : goal.returns-clause-presence
returns-clause-presence c =
    let r = c.args.r.now in
    let order = map (λ id. id.0) c.as_slice.result.now in
    let table = map (λ list. list.items) c.as_slice-3.result.now in
    let roots = c.as_slice-2.result.now in
    let mid = c.root_nodes.new.pool in
    let nodes = c.name_nodes.new.pool in
    let ids = c.in_ok-ids.ids.items in
    let whole = subst (λ (ns : List NameId). IsWholeOrder r.rows (length r.names) (map (λ id. id.0) ns)) (sym c.as_slice.ensures.value) c.in_ok-order.ensures in
    let listed = subst (λ (ts : List (Vec ℕ Global)). AreListed row_lists row_pairs (length r.names) r.rows (map (λ list. list.items) ts)) (sym c.as_slice-3.ensures.value) c.in_ok-table.ensures in
    let made = subst (λ (ns : List NodeId). AreMade (length r.names) mid ns (λ name chosen. is_root r.blocks chosen name) (root_cost r.blocks)) (sym c.as_slice-2.ensures.value) c.in_ok-roots.ensures.made in
    say-presence r nodes roots ids table order
    (known-from r mid nodes roots ids table order c.is_sound.ensures c.len-count.ensures.ordered c.values_are_by_parts.ensures.values whole listed made c.name_nodes.ensures.keeps c.in_ok-ids.ensures.named)

pub returns-clause-bounds : goal.returns-clause-bounds
returns-clause-bounds c =
    let r = c.args.r.now in
    let order = map (λ id. id.0) c.as_slice.result.now in
    let table = map (λ list. list.items) c.as_slice-3.result.now in
    let roots = c.as_slice-2.result.now in
    let mid = c.root_nodes.new.pool in
    let nodes = c.name_nodes.new.pool in
    let ids = c.in_ok-ids.ids.items in
    let law = c.reached_are_the_roots_and_their_parts.ensures in
    let whole = subst (λ (ns : List NameId). IsWholeOrder r.rows (length r.names) (map (λ id. id.0) ns)) (sym c.as_slice.ensures.value) c.in_ok-order.ensures in
    let listed = subst (λ (ts : List (Vec ℕ Global)). AreListed row_lists row_pairs (length r.names) r.rows (map (λ list. list.items) ts)) (sym c.as_slice-3.ensures.value) c.in_ok-table.ensures in
    let made = subst (λ (ns : List NodeId). AreMade (length r.names) mid ns (λ name chosen. is_root r.blocks chosen name) (root_cost r.blocks)) (sym c.as_slice-2.ensures.value) c.in_ok-roots.ensures.made in
    keep-bounds r nodes roots ids table order
    (known-from r mid nodes roots ids table order c.is_sound.ensures c.len-count.ensures.ordered c.values_are_by_parts.ensures.values whole listed made c.name_nodes.ensures.keeps c.in_ok-ids.ensures.named)
    c.is_sound.ensures.rows_count law.roots law.closed law.sum law.one

pub returns-clause-size : goal.returns-clause-size
returns-clause-size c =
    let r = c.args.r.now in
    let whole = subst (λ (ns : List NameId). IsWholeOrder r.rows (length r.names) (map (λ id. id.0) ns)) (sym c.as_slice.ensures.value) c.in_ok-order.ensures in
    let listed = subst (λ (ts : List (Vec ℕ Global)). AreListed row_lists row_pairs (length r.names) r.rows (map (λ list. list.items) ts)) (sym c.as_slice-3.ensures.value) c.in_ok-table.ensures in
    let grown = size-all r c.args.pool.now c.root_nodes.new.pool c.name_nodes.new.pool (map (λ list. list.items) c.as_slice-3.result.now) (map (λ id. id.0) c.as_slice.result.now) whole listed c.in_ok-roots.ensures.grows c.in_ok-ids.ensures.grows in
    grown.size
