use Rattle.doc_build.proofs.StandLemmas.{stand-where-kept}
use Rattle.doc_build.proofs.laws.lines_stand_where_kept.Goals as goal

pub returns : goal.returns
returns c = stand-where-kept
