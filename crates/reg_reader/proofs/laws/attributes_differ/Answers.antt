use Rattle.reg_reader.proofs.TagLemmas.{attributes-differ-all}
use Rattle.reg_reader.proofs.laws.attributes_differ.Goals as goal

pub returns : goal.returns
returns c = attributes-differ-all
