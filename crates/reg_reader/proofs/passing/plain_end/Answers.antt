use Rattle.std.proofs.lemmas.List.{take_rest}
use Rattle.reg_reader.proofs.PassingLemmas.{plain-behind}
use Rattle.reg_reader.proofs.passing.plain_end.Goals as goal

pub returns-clause-plain : goal.returns-clause-plain
returns-clause-plain c = plain-behind c.args.bytes.now c.args.ending c.args.n c.plain_len.result (rw take_rest at c.plain_len.ensures.plain)
