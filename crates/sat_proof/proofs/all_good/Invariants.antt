use Rattle.std.proofs.Common.{◌≡◌, ℕ, ◌<◌}
use Rattle.sat_proof.specs.Refutations.{IsGoodStep}
use Rattle.sat_proof.proofs.all_good.Given as goal

-- the steps so far are good
abbrev pub invariant-loop-step : goal.invariant-loop-step
invariant-loop-step l = record {
  same : l.checker ≡ l.initial.checker;
  good : (place : ℕ) → place < l.step → IsGoodStep l.clauses.list l.steps place;
}
