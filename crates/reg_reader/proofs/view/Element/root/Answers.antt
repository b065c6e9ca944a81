use Rattle.reg_reader.proofs.Parts.{parts-are-there}
use Rattle.reg_reader.proofs.SizeLemmas.{no-larger}
use Rattle.reg_reader.proofs.view.Element.root.Goals as goal

pub shown-requires-clause-parts : goal.shown-requires-clause-parts
shown-requires-clause-parts c = parts-are-there c.args.bytes.now 32 c.args.root.now c.requires.tree

pub returns-clause-size : goal.returns-clause-size
returns-clause-size c = no-larger c.args.bytes.now c.in-Some.element (c.args.root.now, c.requires.tree, c.in-Some.ensures)
