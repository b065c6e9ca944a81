use Rattle.std.proofs.Common.{[], refl, arith}
use Rattle.sat_watch.specs.Watching.{list_at}
use Rattle.sat_core.proofs.PairLemmas.{length_3, OnErr-of, length_4, spare-same, spare_3, watched_twice}
use Rattle.sat_core.proofs.pair.watch_two.Goals as goal

pub returns-in_err-second-clause-same : goal.returns-in_err-second-clause-same
returns-in_err-second-clause-same c =
    OnErr-of c.from_residual-in_err-second.result (
    rw c.in_err-second.ensures.err
    (spare-same c.args.watches.now c.attach.new.self c.args.spare c.args.number c.in_ok-first.first c.requires.lists c.each_stands_once.ensures.once c.in_ok-first.ensures.ok)
    )

pub move_to-requires-2-clause-place : goal.move_to-requires-2-clause-place
move_to-requires-2-clause-place c =
    record {
      passed = [];
      rest = list_at c.args.watches.now.lists c.args.spare;
      split = spare_3 c.args.watches.now c.attach.new.self c.attach-2.new.self c.move_to.new.self c.move_to.new.self c.args.spare c.args.number c.in_ok-first.first
          c.in_ok-second.second c.args.pair c.requires.lists c.requires.first c.requires.second c.requires.different c.each_stands_once.ensures.once c.in_ok-first.ensures.index
          c.in_ok-first.ensures.ok c.in_ok-second.ensures.index c.in_ok-second.ensures.ok c.move_to.ensures.moved;
      last = refl;
    }

pub move_to-requires-2-clause-to : goal.move_to-requires-2-clause-to
move_to-requires-2-clause-to c =
    let same = length_3 c.args.watches.now c.attach.new.self c.attach-2.new.self c.move_to.new.self c.move_to.new.self c.args.spare c.args.number c.in_ok-first.first
    c.in_ok-second.second c.args.pair c.requires.lists c.requires.first c.requires.second c.requires.different c.each_stands_once.ensures.once c.in_ok-first.ensures.index
    c.in_ok-first.ensures.ok c.in_ok-second.ensures.index c.in_ok-second.ensures.ok c.move_to.ensures.moved in
    omega arith

pub returns-clause-lists : goal.returns-clause-lists
returns-clause-lists c =
    length_4 c.args.watches.now c.attach.new.self c.attach-2.new.self c.move_to.new.self c.move_to-2.new.self c.args.spare c.args.number c.in_ok-first.first
    c.in_ok-second.second c.args.pair c.requires.lists c.requires.first c.requires.second c.requires.different c.each_stands_once.ensures.once c.in_ok-first.ensures.index
    c.in_ok-first.ensures.ok c.in_ok-second.ensures.index c.in_ok-second.ensures.ok c.move_to.ensures.moved c.move_to-2.ensures.moved

pub returns-clause-ok : goal.returns-clause-ok
returns-clause-ok c =
    watched_twice c.args.watches.now c.attach.new.self c.attach-2.new.self c.move_to.new.self c.move_to-2.new.self c.args.spare c.args.number c.in_ok-first.first
    c.in_ok-second.second c.args.pair c.requires.lists c.requires.first c.requires.second c.requires.different c.each_stands_once.ensures.once c.in_ok-first.ensures.index
    c.in_ok-first.ensures.ok c.in_ok-second.ensures.index c.in_ok-second.ensures.ok c.move_to.ensures.moved c.move_to-2.ensures.moved
