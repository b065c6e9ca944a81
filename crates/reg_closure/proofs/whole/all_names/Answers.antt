use Rattle.std.proofs.Common.{◌∙◌, ◌<◌, Bool, List, true, false, sym, replicate, arith}
use Rattle.std.proofs.lemmas.List.{ext_get_or, get_or-replicate, length-replicate}
use Rattle.reg_closure.proofs.whole.all_names.Goals as goal

pub returns : goal.returns
returns c =
    let set : List Bool = c.loop-place.set in
    let count = c.args.count in
    ext_get_or false set (replicate count true) (c.loop-place.invariant.count ∙ sym (length-replicate count true)) (λ k below.
    let within : k < count = omega (arith, below, c.loop-place.invariant.count) in
    let passed : k < c.loop-place.place = omega (arith, within, c.loop-place-test.false) in
    c.loop-place.invariant.added k passed ∙ sym (get_or-replicate count k true false within))
