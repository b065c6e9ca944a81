use Rattle.std.proofs.Common.{arith}
use Rattle.reg_tables.proofs.ValueLemmas.{flatten-past}
use Rattle.reg_tables.proofs.values.Values.number_at.Goals as goal

pub returns-else-place-len : goal.returns-else-place-len
returns-else-place-len c = flatten-past c.args.self.now.numbers.items c.args.place (omega (arith, c.len.ensures, c.if-place-len.false))
