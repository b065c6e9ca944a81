use Rattle.std.proofs.Common.{None, length, refl, rules, arith}
use Rattle.std.proofs.lemmas.List.{get_or_read}
use Rattle.reg_tables.proofs.LeaderLemmas.{leaders-kept, leaders-more, leaders-none, link-within}
use Rattle.reg_tables.proofs.chains.find_leaders.Goals as goal
use Rattle.reg_tables.proofs.chains.find_leaders.Goals.{in-Some, in_default}

pub loop-place-init : goal.loop-place-init
loop-place-init c =
    rw (c.in_ok-greatest.ensures.items_if_clones_equal (λ y e. search rules), c.in_ok-smaller.ensures.items_if_clones_equal (λ y e. search rules))
    (leaders-none c.args.next.now (length c.args.next.now) refl)

pub loop-place-preserved : goal.loop-place-preserved
loop-place-preserved c =
    let next = c.args.next.now in
    let place = c.loop-place.place in
    let old = c.loop-place.invariant in
    elim c.match-to.branch [
      | in-Some w ↦
          let to = w.in-Some.to in
          let within = link-within next (length next) place to c.requires w.in-Some.is in
          let read = get_or_read c.loop-place.greatest.items to _ (omega (arith, within, old.greatest_count)) w.index.ensures None in
          rw (w.greatest-is, w.smaller-is)
          (leaders-more next _ _ place to _ read c.loop-place-test.true within w.in-Some.is old)
      | in_default w ↦ rw (w.greatest-is, w.smaller-is) (leaders-kept next _ _ place w.in_default.is old)
    ]
