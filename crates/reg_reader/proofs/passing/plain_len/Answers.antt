use Rattle.std.proofs.Common.{length}
use Rattle.reg_reader.proofs.PassingLemmas.{plain-before}
use Rattle.reg_reader.proofs.passing.plain_len.Goals as goal

pub returns-in-Some-clause-plain : goal.returns-in-Some-clause-plain
returns-in-Some-clause-plain c = plain-before c.args.text.now c.args.ending c.in-Some.end c.in-Some.ensures.0.before

pub returns-in-None-clause-plain : goal.returns-in-None-clause-plain
returns-in-None-clause-plain c = plain-before c.args.text.now c.args.ending (length c.args.text.now) c.in-None.ensures
