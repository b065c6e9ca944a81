use Rattle.std.proofs.Common.{refl}
use Rattle.vu_tags.specs.Statements.{needed_of}
use Rattle.vu_tags.proofs.writing.write_files.Goals as goal

pub loop-file-init : goal.loop-file-init
unfolding needed_of
loop-file-init c = record { count = refl; are_all = λ names tells. rw c.in_ok-texts.ensures.items refl }
