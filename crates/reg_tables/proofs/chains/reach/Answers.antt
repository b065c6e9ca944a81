use Rattle.std.proofs.Common.{None, sym, ◌∙◌}
use Rattle.std.proofs.lemmas.List.{get_or_read}
use Rattle.reg_tables.proofs.ReachingLemmas.{is-none, reached-more}
use Rattle.reg_tables.proofs.chains.reach.Goals as goal

pub returns-in_ok-push-clause-reached : goal.returns-in_ok-push-clause-reached
returns-in_ok-push-clause-reached c next r ends =
    let empty = sym (get_or_read c.args.lasts.now.items c.args.place _ c.requires c.index.ensures None)
    ∙ is-none _ _ c.is_none.ensures c.if-is_none.true in
    rw c.in_ok-push.ensures.items (reached-more next _ _ c.args.place c.args.last c.requires empty r ends)
