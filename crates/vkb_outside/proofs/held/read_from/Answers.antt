use Rattle.std.proofs.Common.{refl, arith}
use Rattle.vkb_outside.proofs.HeldLemmas.{file_at-missing, file_at-found, IsAnswer-copy, IsAnswer-memory, IsAnswer-long}
use Rattle.vkb_outside.proofs.held.read_from.Goals as goal

pub returns-in_default : goal.returns-in_default
returns-in_default c =
    rw (file_at-missing c.args.name.now c.args.files.now c.place_of.result c.place_of.ensures c.in_default.not-Some) refl

pub returns-then-len-most : goal.returns-then-len-most
returns-then-len-most c =
    let file = c.index-files-place.result in
    rw (file_at-found c.args.name.now c.args.files.now c.in-Some.place file c.in-Some.ensures c.index-files-place.is) (IsAnswer-long _ _ (omega (arith, file.1.ok.0)))

pub returns-in-Ok : goal.returns-in-Ok
returns-in-Ok c =
    let file = c.index-files-place.result in
    rw (file_at-found c.args.name.now c.args.files.now c.in-Some.place file c.in-Some.ensures c.index-files-place.is) (IsAnswer-copy _ _ _ (omega (arith, file.1.ok.0)) (cc (c.in-Ok.ensures.items, c.deref.ensures.value)))

pub returns-in-Err : goal.returns-in-Err
returns-in-Err c =
    let file = c.index-files-place.result in
    rw (file_at-found c.args.name.now c.args.files.now c.in-Some.place file c.in-Some.ensures c.index-files-place.is) (IsAnswer-memory _ _ (omega (arith, file.1.ok.0)))
