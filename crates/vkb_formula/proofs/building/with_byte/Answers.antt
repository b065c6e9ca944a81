use Rattle.std.proofs.Common.{sym}
use Rattle.vkb_formula.proofs.BuildLemmas.{name-byte}
use Rattle.vkb_formula.proofs.building.with_byte.Goals as goal

pub returns-in_default-clause-built : goal.returns-in_default-clause-built
returns-in_default-clause-built c =
    name-byte c.args.options.now c.args.text.now c.args.at c.args.building c.requires.from c.requires.at c.if-byte-eq40.false c.if-byte-eq41.false (sym c.in_default.ensures)
