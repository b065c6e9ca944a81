use Rattle.std.proofs.Common.{◌<◌, ◌≤◌, length, All, subst}
use Rattle.std.proofs.lemmas.List.{take_all}
use Rattle.std.proofs.lemmas.List.Elements.{All-more}
use Rattle.sat_core.specs.Trails.{lits_of}
use Rattle.sat_core.specs.Walking.{IsBlocked}
use Rattle.sat_core.proofs.propagation.free_among.Goals as goal

pub loop-literal-preserved : goal.loop-literal-preserved
loop-literal-preserved c =
    let here : c.loop-literal.literal-index < length c.args.part.now = c.loop-literal-test.true in
    All-more (IsBlocked (lits_of c.args.trail.now.entries) c.args.lit c.args.other) c.args.part.now c.loop-literal.literal-index (record { 0 = 0 }) here
    c.loop-literal.invariant c.if-replaces.ensures

pub returns : goal.returns
returns c =
    let past : length c.args.part.now ≤ c.loop-literal.literal-index = c.loop-literal-test.false in
    subst (All (IsBlocked (lits_of c.args.trail.now.entries) c.args.lit c.args.other)) (take_all c.loop-literal.literal-index c.args.part.now past) c.loop-literal.invariant
