use Rattle.std.proofs.Common.{◌<◌, ◌++◌, length, set, length-set, arith, ap, ◌∙◌}
use Rattle.sat_watch.specs.Watching.{list_at}
use Rattle.sat_watch.specs.Linking.{next_at}
use Rattle.sat_watch.proofs.LinkLemmas.{length-lists_of, length-links-behind, linked-again, linked-move, list-within}
use Rattle.sat_watch.proofs.ViewLemmas.{stands-known, before-known, moved-view, list-left, list-joined, list-other}
use Rattle.sat_watch.proofs.watches.Watches.move_to.Goals as goal

pub unlink-requires-clause-list : goal.unlink-requires-clause-list
unlink-requires-clause-list c =
    let p = rw (← c.self.view_is) at c.requires.place in
    omega (arith, length-lists_of c.self.inside.heads.items c.self.inside.links.items, list-within _ c.args.list p.passed c.args.watcher p.rest p.split)

pub unlink-requires-clause-before : goal.unlink-requires-clause-before
unlink-requires-clause-before c =
    let p = rw (← c.self.view_is) at c.requires.place in
    before-known _ _ c.args.list c.args.before p.passed c.args.watcher p.rest c.self.invariant.counted p.split p.last

pub unlink-requires-clause-watcher : goal.unlink-requires-clause-watcher
unlink-requires-clause-watcher c =
    let p = rw (← c.self.view_is) at c.requires.place in
    stands-known _ _ c.args.list p.passed c.args.watcher p.rest c.self.invariant.counted p.split

pub put_front-requires-clause-watcher : goal.put_front-requires-clause-watcher
put_front-requires-clause-watcher c =
    let p = rw (← c.self.view_is) at c.requires.place in
    rw c.unlink.ensures.links
    (omega (
      arith,
      length-links-behind c.self.inside.links.items c.args.before (next_at c.self.inside.links.items c.args.watcher),
      stands-known _ _ c.args.list p.passed c.args.watcher p.rest c.self.invariant.counted p.split,
    ))

pub invariant_of-self : goal.invariant_of-self
invariant_of-self c =
    let p = rw (← c.self.view_is) at c.requires.place in
    let to : c.args.to < length c.self.inside.heads.items =
    omega (arith, length-lists_of c.self.inside.heads.items c.self.inside.links.items, ap (λ w. length w.lists) c.self.view_is, c.requires.to) in
    rw (c.put_front.ensures.heads, c.put_front.ensures.links, c.unlink.ensures.heads, c.unlink.ensures.links)
    (linked-again _ _ _
    (linked-move c.self.inside.heads.items c.self.inside.links.items _ c.args.list c.args.before p.passed c.args.watcher p.rest c.args.to
    c.self.invariant p.split p.last to c.requires.other))

pub returns-clause-moved : goal.returns-clause-moved
returns-clause-moved c passed rest at =
    let p = rw (← c.self.view_is) at c.requires.place in
    let here = rw (← c.self.view_is) at at in
    let to : c.args.to < length c.self.inside.heads.items =
    omega (arith, length-lists_of c.self.inside.heads.items c.self.inside.links.items, ap (λ w. length w.lists) c.self.view_is, c.requires.to) in
    rw (c.put_front.ensures.heads, c.put_front.ensures.links, c.unlink.ensures.heads, c.unlink.ensures.links, ← c.self.view_is)
    (moved-view c.self.inside.heads.items c.self.inside.links.items c.args.list c.args.before passed c.args.watcher rest c.args.to
    c.self.invariant p here to c.requires.other)

pub returns-clause-from : goal.returns-clause-from
returns-clause-from c passed rest at =
    ap (λ w. list_at w.lists c.args.list) (returns-clause-moved c passed rest at)
    ∙ list-left c.args.self.now.lists c.args.list passed c.args.watcher rest c.args.to _ at c.requires.other

pub returns-clause-to : goal.returns-clause-to
returns-clause-to c =
    let p = c.requires.place in
    ap (λ w. list_at w.lists c.args.to) (returns-clause-moved c p.passed p.rest p.split)
    ∙ list-joined c.args.self.now.lists c.args.list (p.passed ++ p.rest) c.args.to _ c.requires.to

pub returns-clause-others : goal.returns-clause-others
returns-clause-others c other list_ne to_ne =
    let p = c.requires.place in
    ap (λ w. list_at w.lists other) (returns-clause-moved c p.passed p.rest p.split)
    ∙ list-other c.args.self.now.lists c.args.list (p.passed ++ p.rest) c.args.to _ other list_ne to_ne

pub returns-clause-clauses : goal.returns-clause-clauses
returns-clause-clauses c =
    let p = c.requires.place in
    ap (λ w. w.clauses) (returns-clause-moved c p.passed p.rest p.split)

pub returns-clause-count : goal.returns-clause-count
returns-clause-count c =
    let p = c.requires.place in
    ap (λ w. length w.lists) (returns-clause-moved c p.passed p.rest p.split)
    ∙ length-set (set c.args.self.now.lists c.args.list (p.passed ++ p.rest)) c.args.to _
    ∙ length-set c.args.self.now.lists c.args.list (p.passed ++ p.rest)
