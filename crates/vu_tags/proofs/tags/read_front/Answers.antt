use Rattle.vu_tags.proofs.TagLemmas.{tag_read, no_tag_read}
use Rattle.vu_tags.proofs.tags.read_front.Goals as goal

pub returns-in-Some : goal.returns-in-Some
returns-in-Some c = tag_read c.args.bytes.now c.in-Some.text.now c.read_text.result c.requires c.in-Some.ensures c.read_text.ensures

pub returns-in-None : goal.returns-in-None
returns-in-None c = no_tag_read c.args.bytes.now c.requires c.in-None.ensures
