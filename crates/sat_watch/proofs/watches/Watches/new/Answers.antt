use Rattle.std.proofs.Common.{ap, replicate, None, [], rules}
use Rattle.sat_watch.proofs.LinkLemmas.{linked-new, linked-again, lists-are}
use Rattle.sat_watch.proofs.watches.Watches.new.Goals as goal

pub invariant_of-result : goal.invariant_of-result
invariant_of-result c =
    rw (c.in_ok-vec.ensures.items_if_clones_equal (λ y e. search rules), c.new.ensures.items)
    (linked-again _ _ _ (linked-new _))

pub returns : goal.returns
returns c =
    rw (c.in_ok-vec.ensures.items_if_clones_equal (λ y e. search rules), c.new.ensures.items)
    (ap (λ lists. record { lists = lists; clauses = [] }) (lists-are (replicate c.args.lists None) [] (replicate c.args.lists []) (linked-new c.args.lists)))
