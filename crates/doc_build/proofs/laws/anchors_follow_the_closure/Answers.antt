use Rattle.doc_build.proofs.StandLemmas.{anchors-follow}
use Rattle.doc_build.proofs.laws.anchors_follow_the_closure.Goals as goal

pub returns : goal.returns
returns c = anchors-follow
