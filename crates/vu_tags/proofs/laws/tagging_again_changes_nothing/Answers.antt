use Rattle.vu_tags.proofs.FileLemmas.{again}
use Rattle.vu_tags.proofs.laws.tagging_again_changes_nothing.Goals as goal

pub returns : goal.returns
returns c = again
