use Rattle.std.proofs.Common.{◌≡◌, ◌<◌, length, arith, ap}
use Rattle.std.proofs.lemmas.List.{get_or_read}
use Rattle.sat_watch.specs.declared.links.Link.{Link}
use Rattle.sat_watch.specs.Linking.{next_at, no_link}
use Rattle.sat_watch.proofs.LinkLemmas.{length-clauses_of}
use Rattle.sat_watch.proofs.ViewLemmas.{next-begins, next-known}
use Rattle.sat_watch.proofs.watches.Watches.next.Goals as goal

pub returns-clause-next : goal.returns-clause-next
returns-clause-next c list passed rest at =
    let within : c.args.watcher < length c.self.inside.links.items =
    omega (arith, length-clauses_of c.self.inside.links.items, ap (λ w. length w.clauses) c.self.view_is, c.requires) in
    let read : c.index.result.now.next ≡ next_at c.self.inside.links.items c.args.watcher =
    ap (λ (link : Link). link.next) (get_or_read c.self.inside.links.items c.args.watcher c.index.result.now within c.index.ensures no_link) in
    rw read
    (next-begins c.self.inside.heads.items c.self.inside.links.items list passed c.args.watcher rest c.self.invariant (rw (← c.self.view_is) at at))

pub returns-clause-known : goal.returns-clause-known
returns-clause-known c =
    let within : c.args.watcher < length c.self.inside.links.items =
    omega (arith, length-clauses_of c.self.inside.links.items, ap (λ w. length w.clauses) c.self.view_is, c.requires) in
    let read : c.index.result.now.next ≡ next_at c.self.inside.links.items c.args.watcher =
    ap (λ (link : Link). link.next) (get_or_read c.self.inside.links.items c.args.watcher c.index.result.now within c.index.ensures no_link) in
    rw (← c.self.view_is, read)
    (next-known c.self.inside.heads.items c.self.inside.links.items c.args.watcher c.self.invariant within)
