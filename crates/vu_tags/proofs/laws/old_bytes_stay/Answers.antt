use Rattle.vu_tags.proofs.FileLemmas.{file_keeps}
use Rattle.vu_tags.proofs.laws.old_bytes_stay.Goals as goal

pub returns : goal.returns
returns c = file_keeps
