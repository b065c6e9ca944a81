use Rattle.reg_reader.proofs.CharactersLemmas.{part-le}
use Rattle.reg_reader.proofs.characters.put.Goals as goal

pub plain_end-requires-clause-order : goal.plain_end-requires-clause-order
plain_end-requires-clause-order c = part-le c.args.bytes.now c.args.part c.requires.part
