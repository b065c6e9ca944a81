use Rattle.doc_build.proofs.OrderLemmas.{links_apart, links_ordered}
use Rattle.doc_build.proofs.laws.links_in_order.Goals as goal

pub returns-clause-order : goal.returns-clause-order
returns-clause-order c = links_ordered

pub returns-clause-apart : goal.returns-clause-apart
returns-clause-apart c = links_apart
