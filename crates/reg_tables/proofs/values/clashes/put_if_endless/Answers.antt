use Rattle.reg_tables.proofs.ReachingLemmas.{is-not-none}
use Rattle.reg_tables.proofs.ValueLemmas.{last-there, unfaulted}
use Rattle.reg_tables.proofs.values.clashes.put_if_endless.Goals as goal

pub returns-else-is_none : goal.returns-else-is_none
returns-else-is_none c =
    let some = is-not-none _ _ c.is_none.ensures c.if-is_none.false in
    unfaulted _ _ _ _ _ (last-there c.args.tables.now _ _ c.args.place c.args.row.now _ c.requires.values c.requires.row c.last_at.ensures some)
