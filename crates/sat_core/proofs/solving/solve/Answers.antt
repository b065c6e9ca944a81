use Rattle.std.proofs.Common.{All, sym, subst}
use Rattle.sat_core.specs.Searching.{IsOpen, State, held_in}
use Rattle.sat_core.specs.Solving.{IsDecided}
use Rattle.sat_core.specs.Trails.{lits_of}
use Rattle.sat_core.proofs.SolvingLemmas.{round-ends, round-within}
use Rattle.sat_core.proofs.solving.solve.Goals as goal

pub loop-conflict-smaller-in-Continue-branch-5 : goal.loop-conflict-smaller-in-Continue-branch-5
loop-conflict-smaller-in-Continue-branch-5 c =
    round-ends _ c.loop-conflict.search c.propagate.new.self c.jump_back.new.search c.end_run.new.search _ _ _ c.loop-conflict.invariant.0 c.propagate.ensures
    c.in_ok-jump_back-in-Some.ensures.further c.in_ok-end_run-in-Some.ensures.ends

pub loop-conflict-smaller : goal.loop-conflict-smaller
loop-conflict-smaller c =
    round-within _ c.loop-conflict.runs.left c.loop-conflict.search c.propagate.new.self c.decides.new.search _ c.loop-conflict.invariant.0 c.propagate.ensures c.if-not-decides.ensures.decides

pub model-requires-clause-decided : goal.model-requires-clause-decided
model-requires-clause-decided c = subst IsDecided (sym c.if-not-decides.ensures.decides.0) c.if-not-decides.ensures.decides.1

pub model-requires-clause-open : goal.model-requires-clause-open
model-requires-clause-open c =
    let P : State → Type 0 = λ s. All (IsOpen (lits_of s.trail)) (held_in s) in
    subst P (sym c.if-not-decides.ensures.decides.0) c.in-None.ensures.found_is.1
