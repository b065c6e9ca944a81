use Rattle.std.proofs.Common.{◌++◌, ◌∙◌, take}
use Rattle.vkbuild.proofs.KnownLemmas.{Appends-more, taken-more}
use Rattle.vkbuild.proofs.pieces.write_whole.Goals as goal

pub loop-rest-preserved : goal.loop-rest-preserved
loop-rest-preserved g c =
    let taken = c.loop-rest.invariant.0 in
    (taken ++ take c.in_ok-count.count c.loop-rest.rest.now, c.loop-rest.invariant.1 ∙ taken-more taken c.loop-rest.rest.now c.in_ok-count.count, Appends-more _ _ _ taken _ c.loop-rest.invariant.2 c.in_ok-count.ensures.bytes)
