use Rattle.doc_build.proofs.FoundLemmas.{anchors_within, links_within}
use Rattle.doc_build.proofs.laws.marks_in_lines.Goals as goal

pub returns-clause-anchors : goal.returns-clause-anchors
returns-clause-anchors c = anchors_within

pub returns-clause-links : goal.returns-clause-links
returns-clause-links c = links_within
