use Rattle.doc_build.proofs.SiteOrderLemmas.{links-stand}
use Rattle.doc_build.proofs.laws.links_stand_with_their_lines.Goals as goal

pub returns : goal.returns
returns c = links-stand
