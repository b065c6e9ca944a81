use Rattle.std.proofs.Common.{◌≡◌, true, false}
use Rattle.vkb_outside.proofs.HeldLemmas.{file_at-missing, with_file-found}
use Rattle.vkb_outside.proofs.held.put_into.Goals as goal

pub returns-in-Some : goal.returns-in-Some
returns-in-Some c = with_file-found c.args.name.now c.args.files.now c.in-Some.place c.index-files-place.result c.args.bytes c.in-Some.ensures

pub returns-in_default : goal.returns-in_default
returns-in_default c =
    let missing = file_at-missing c.args.name.now c.args.files.now c.place_of.result c.place_of.ensures c.in_default.not-Some in
    let held_and_not : false ≡ true = rw missing at c.requires in
    cc
