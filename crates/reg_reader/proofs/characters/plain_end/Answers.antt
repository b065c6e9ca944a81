use Rattle.std.proofs.Common.{◌+◌, ◌-◌, arith}
use Rattle.reg_reader.proofs.CharactersLemmas.{plain-part, range-length}
use Rattle.reg_reader.proofs.characters.plain_end.Goals as goal

pub returns-in-Some-clause-plain : goal.returns-in-Some-clause-plain
returns-in-Some-clause-plain c =
    let found = c.in-Some.ensures in
    let size = range-length c.args.bytes.now c.args.part.from c.args.part.to c.requires.order c.requires.within in
    plain-part c.args.bytes.now c.args.part.from c.args.part.to (c.args.part.from + c.in-Some.length - c.args.part.from) c.requires.within
    (omega (arith, found.0.high, size))
    (λ k few. found.0.before k (omega arith) (omega (arith, few)))
    c.requires.order

pub returns-in-None-clause-plain : goal.returns-in-None-clause-plain
returns-in-None-clause-plain c =
    let size = range-length c.args.bytes.now c.args.part.from c.args.part.to c.requires.order c.requires.within in
    plain-part c.args.bytes.now c.args.part.from c.args.part.to (c.args.part.to - c.args.part.from) c.requires.within (omega arith)
    (λ k few. c.in-None.ensures k (omega arith) (omega (arith, few, size)))
    c.requires.order
