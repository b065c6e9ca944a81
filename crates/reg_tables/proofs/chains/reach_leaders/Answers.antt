use Rattle.std.proofs.Common.{◌<◌, length, None, sym, ap, ◌∙◌, arith}
use Rattle.std.proofs.lemmas.List.{get_or_read}
use Rattle.reg_tables.specs.Chains.{up_to}
use Rattle.reg_tables.proofs.BackLemmas.{back-ends, back-last, back-leads, back-on, back-smaller, order-within}
use Rattle.reg_tables.proofs.chains.reach_leaders.Goals as goal

pub reach-requires : goal.reach-requires
reach-requires c =
    let b = c.loop-leader.invariant in
    let leads = back-leads _ _ _ _ _ c.args.place c.in-Some-leader.from _ c.in-Some-leader.is b in
    omega (arith, leads.0, b.reached.each)

pub loop-leader-smaller : goal.loop-leader-smaller
loop-leader-smaller c =
    let leaders = c.args.leaders.now in
    let from = c.in-Some-leader.from in
    let leads = back-leads _ _ _ _ _ c.args.place from _ c.in-Some-leader.is c.loop-leader.invariant in
    let inside : from < length leaders.smaller.items = omega (arith, leads.0, c.requires.leaders.smaller_count) in
    let read = get_or_read leaders.smaller.items from _ inside c.index-leader-in-Some-leader.ensures None in
    let above = ap up_to c.in-Some-leader.is in
    omega (arith, above, back-smaller leaders.next.now leaders.greatest.items leaders.smaller.items c.args.place from _ c.requires.leaders leads read)

pub loop-leader-preserved : goal.loop-leader-preserved
loop-leader-preserved c =
    let leaders = c.args.leaders.now in
    let next = leaders.next.now in
    let from = c.in-Some-leader.from in
    let b = c.loop-leader.invariant in
    let leads = back-leads _ _ _ _ _ c.args.place from _ c.in-Some-leader.is b in
    let inside : from < length leaders.smaller.items = omega (arith, leads.0, c.requires.leaders.smaller_count) in
    let read = get_or_read leaders.smaller.items from _ inside c.index-leader-in-Some-leader.ensures None in
    let place_within = order-within next c.args.lasts.now.items c.args.order.now.items c.args.at c.args.place
    c.requires.reached c.requires.at c.requires.place in
    let told = sym (get_or_read c.args.lasts.now.items c.args.place _ place_within c.index.ensures None) ∙ c.in-Some.is in
    let made = c.in_ok-reach.ensures in
    let last = back-last next c.args.lasts.now.items c.loop-leader.lasts.items c.args.order.now.items c.loop-leader.order.items
    c.args.place c.args.at from c.in-Some.last
    c.requires.reached c.requires.at c.requires.place told b.grown leads.1 in
    back-on next leaders.greatest.items leaders.smaller.items _ _ _ _ _ _ c.args.place from _ _ c.requires.leaders c.in-Some-leader.is b
    made.grown made.here (made.reached next b.reached last) read

pub returns-clause-back : goal.returns-clause-back
returns-clause-back c = back-ends _ _ _ _ _ c.args.place _ c.in_default-leader.is c.loop-leader.invariant
