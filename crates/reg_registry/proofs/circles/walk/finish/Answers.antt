use Rattle.std.proofs.Common.{◌≡◌, ◌++◌, ◌∷◌, [], ◌∙◌, arith}
use Rattle.reg_registry.proofs.WalkLoopLemmas.{finish-from, finish-known, finish-marks, finish-path}
use Rattle.reg_registry.proofs.circles.walk.finish.Goals as goal

pub loop-path-preserved-in-Some : goal.loop-path-preserved-in-Some
loop-path-preserved-in-Some c =
    let e : c.loop-path.path.items ≡ c.pop.new.self.items ++ c.in-Some.name ∷ [] = c.in-Some.ensures.items in
    record {
      from = finish-from _ _ _ c.args.start e (omega arith);
      path = finish-path _ _ _ c.args.start e (omega arith) ∙ c.loop-path.invariant.path;
      marks = finish-marks _ _ _ c.args.start e (omega arith) c.loop-path.marks.items ∙ c.loop-path.invariant.marks;
      known = finish-known _ _ _ c.args.start e (omega arith) c.loop-path.marks.items c.loop-path.invariant.known;
    }
