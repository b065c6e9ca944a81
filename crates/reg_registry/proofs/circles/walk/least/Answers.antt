use Rattle.std.proofs.Common.{◌≤◌, All, subst, arith}
use Rattle.std.specs.Option.{IsSomeAnd}
use Rattle.std.proofs.lemmas.List.{take_all}
use Rattle.std.proofs.lemmas.List.Elements.{All-contains}
use Rattle.reg_registry.proofs.WalkLoopLemmas.{least-among, least-before, least-one}
use Rattle.reg_registry.proofs.circles.walk.least.Goals as goal

pub loop-name-preserved : goal.loop-name-preserved
loop-name-preserved c = record {
  among = least-among c.args.names.now c.loop-name.name-index (omega arith) c.args.first c.loop-name.least c.lesser-least.result c.lesser-least.ensures.here c.lesser-least.ensures.before c.loop-name.invariant.among;
  before = least-before c.args.names.now c.loop-name.name-index (omega arith) c.args.first c.loop-name.least c.lesser-least.result c.lesser-least.ensures.here c.lesser-least.ensures.before c.loop-name.invariant.before;
  one = least-one c.args.names.now c.loop-name.name-index (omega arith) c.args.first c.loop-name.least c.lesser-least.result c.lesser-least.ensures.one c.loop-name.invariant.one;
}

pub returns-clause-among : goal.returns-clause-among
returns-clause-among c name known =
    All-contains (λ n. IsSomeAnd c.loop-name.least (λ least. least ≤ n)) c.args.names.now name
    (subst (All (λ n. IsSomeAnd c.loop-name.least (λ least. least ≤ n))) (take_all c.loop-name.name-index c.args.names.now (omega arith)) c.loop-name.invariant.among) known
