use Rattle.doc_build.proofs.FoundLemmas.{kept_anchors, kept_links}
use Rattle.doc_build.proofs.laws.kept_marks.Goals as goal

pub returns-clause-anchors : goal.returns-clause-anchors
returns-clause-anchors c = kept_anchors

pub returns-clause-links : goal.returns-clause-links
returns-clause-links c = kept_links
