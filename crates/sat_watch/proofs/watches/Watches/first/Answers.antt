use Rattle.std.proofs.Common.{◌<◌, None, length, arith, ap}
use Rattle.std.proofs.lemmas.List.{get_or_read}
use Rattle.sat_watch.proofs.LinkLemmas.{length-lists_of}
use Rattle.sat_watch.proofs.ViewLemmas.{first-begins, first-known}
use Rattle.sat_watch.proofs.watches.Watches.first.Goals as goal

pub returns-clause-first : goal.returns-clause-first
returns-clause-first c =
    let within : c.args.list < length c.self.inside.heads.items =
    omega (arith, length-lists_of c.self.inside.heads.items c.self.inside.links.items, ap (λ w. length w.lists) c.self.view_is, c.requires) in
    rw (← c.self.view_is, get_or_read c.self.inside.heads.items c.args.list c.index.result.now within c.index.ensures None)
    (first-begins c.self.inside.heads.items c.self.inside.links.items c.args.list c.self.invariant within)

pub returns-clause-known : goal.returns-clause-known
returns-clause-known c =
    let within : c.args.list < length c.self.inside.heads.items =
    omega (arith, length-lists_of c.self.inside.heads.items c.self.inside.links.items, ap (λ w. length w.lists) c.self.view_is, c.requires) in
    rw (← c.self.view_is, get_or_read c.self.inside.heads.items c.args.list c.index.result.now within c.index.ensures None)
    (first-known c.self.inside.heads.items c.self.inside.links.items c.args.list c.self.invariant within)
