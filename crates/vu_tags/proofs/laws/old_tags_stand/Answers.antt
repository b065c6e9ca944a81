use Rattle.vu_tags.proofs.FileLemmas.{all_below, stand}
use Rattle.vu_tags.proofs.laws.old_tags_stand.Goals as goal

pub returns-clause-stand : goal.returns-clause-stand
returns-clause-stand c = stand

pub returns-clause-below : goal.returns-clause-below
returns-clause-below c = all_below
