use Rattle.std.proofs.Common.{map, length, reverse, sym}
use Rattle.std.proofs.lemmas.Bool.{true≢false}
use Rattle.vkb_formula.specs.declared.pool.NodeId.{NodeId}
use Rattle.sat_cnf.proofs.MarkLemmas.{IsStep, places-below, marking-first, taken-is-ahead, none-left, marking-push, marking-end, top-falls, reached-sum}
use Rattle.sat_cnf.proofs.reached.reached.Goals as goal

step-of : (c : goal.In_ok-push) → IsStep c.args.pool.now c.loop-place.ahead.keys c.pop_last.new.self.keys c.add_parts.new.ahead.keys c.in-Some.place c.node.result.now
step-of c = record {
  pool = c.len-count.ensures.ordered;
  held = c.node.ensures.node;
  parts = c.node.ensures.parts;
  removal = c.in-Some.ensures.removal;
  below = c.in-Some.ensures.all_below;
  added = c.in_ok-add_parts.ensures;
}

pub loop-place-init : goal.loop-place-init
loop-place-init c =
    marking-first c.args.pool.now (map (λ (root : NodeId). root.0) c.args.roots.now) c.new-ahead.result.keys c.add.new.ahead.keys c.new-places.result.items
    c.len-count.ensures.ordered c.reached_are_the_roots_and_their_parts.ensures.roots (places-below (length c.args.pool.now) c.args.roots.now c.requires)
    c.new-ahead.ensures.empty c.in_ok-add.ensures c.new-places.ensures.items

pub node-requires : goal.node-requires
node-requires c = c.loop-place.invariant.within_ahead c.in-Some.place (taken-is-ahead c.loop-place.ahead.keys c.pop_last.new.self.keys c.in-Some.place c.in-Some.ensures.removal)

pub loop-place-preserved : goal.loop-place-preserved
loop-place-preserved c =
    marking-push c.args.pool.now (map (λ (root : NodeId). root.0) c.args.roots.now) c.loop-place.ahead.keys c.pop_last.new.self.keys c.add_parts.new.ahead.keys
    c.loop-place.places.items c.push.new.self.items c.in-Some.place c.node.result.now (step-of c) c.reached_are_the_roots_and_their_parts.ensures.closed c.loop-place.invariant c.in_ok-push.ensures.items

pub loop-place-smaller : goal.loop-place-smaller
loop-place-smaller c =
    top-falls c.args.pool.now c.loop-place.ahead.keys c.pop_last.new.self.keys c.add_parts.new.ahead.keys c.in-Some.place c.node.result.now (step-of c)

pub returns-clause-places : goal.returns-clause-places
returns-clause-places c =
    marking-end c.args.pool.now (map (λ (root : NodeId). root.0) c.args.roots.now) c.loop-place.ahead.keys (reverse c.loop-place.places.items) c.reverse.new.self.items
    (none-left c.loop-place.ahead.keys (λ h. true≢false (sym (c.in_default.ensures.variant.1 h)))) c.reverse.ensures.items c.loop-place.invariant

pub returns-clause-sums : goal.returns-clause-sums
returns-clause-sums c = λ weigh.
    reached-sum weigh c.args.pool.now (map (λ (root : NodeId). root.0) c.args.roots.now) c.reverse.new.self.items c.reached_are_the_roots_and_their_parts.ensures.exact c.len-count.ensures.ordered
    (returns-clause-places c)
