use Rattle.std.proofs.Common.{sym}
use Rattle.reg_reader.specs.Reading.{state_of}
use Rattle.reg_reader.proofs.PassingLemmas.{passes-plain}
use Rattle.reg_reader.proofs.passing.passed.Goals as goal

pub returns-in-Some-clause-same : goal.returns-in-Some-clause-same
returns-in-Some-clause-same c =
    passes-plain c.args.bytes.now c.args.n c.plain_end.result c.in-Some.ending (state_of c.args.reader.now) (sym c.in-Some.ensures) c.plain_end.ensures.plain
