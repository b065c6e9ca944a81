use Rattle.doc_build.proofs.SiteOrderLemmas.{sites-in-order}
use Rattle.doc_build.proofs.laws.sites_in_order.Goals as goal

pub returns : goal.returns
returns c = sites-in-order
