use Rattle.doc_build.proofs.SiteLemmas.{marks-follow}
use Rattle.doc_build.proofs.laws.marks_follow_the_choice.Goals as goal

pub returns : goal.returns
returns c = marks-follow
