use Rattle.std.proofs.Common.{◌≡◌, ◌<◌, None, length, arith, ap}
use Rattle.std.proofs.lemmas.List.{get_or_read}
use Rattle.sat_watch.proofs.LinkLemmas.{linked-attach, linked-again, length-lists_of}
use Rattle.sat_watch.proofs.ViewLemmas.{attached-view}
use Rattle.sat_watch.proofs.watches.Watches.attach.Goals as goal

pub invariant_of-self-2 : goal.invariant_of-self-2
invariant_of-self-2 c =
    let within : c.args.list < length c.self.inside.heads.items =
    omega (arith, length-lists_of c.self.inside.heads.items c.self.inside.links.items, ap (λ w. length w.lists) c.self.view_is, c.requires) in
    let index : c.len-watcher.result ≡ length c.self.inside.links.items = omega (arith, c.len-watcher.ensures) in
    let next = get_or_read c.self.inside.heads.items c.args.list c.index-next.result.now within c.index-next.ensures None in
    rw (c.in_ok-push.ensures.items, index)
    (linked-again _ _ _
    (linked-attach c.self.inside.heads.items c.self.inside.links.items _ c.args.list
    (record { clause = c.args.clause; next = c.index-next.result.now }) c.self.invariant within next))

pub returns-clause-ok : goal.returns-clause-ok
returns-clause-ok c =
    let within : c.args.list < length c.self.inside.heads.items =
    omega (arith, length-lists_of c.self.inside.heads.items c.self.inside.links.items, ap (λ w. length w.lists) c.self.view_is, c.requires) in
    let index : c.len-watcher.result ≡ length c.self.inside.links.items = omega (arith, c.len-watcher.ensures) in
    let next = get_or_read c.self.inside.heads.items c.args.list c.index-next.result.now within c.index-next.ensures None in
    rw (c.in_ok-push.ensures.items, index, ← c.self.view_is)
    (attached-view c.self.inside.heads.items c.self.inside.links.items c.args.list
    (record { clause = c.args.clause; next = c.index-next.result.now }) c.self.invariant within next)
