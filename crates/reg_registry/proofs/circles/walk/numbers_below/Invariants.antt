use Rattle.std.proofs.Common.{◌<◌, ℕ, All, Contains}
use Rattle.reg_registry.proofs.circles.walk.numbers_below.Given as goal

abbrev pub invariant-loop-number : goal.invariant-loop-number
invariant-loop-number l = record {
  below : All (λ number. number < l.number) l.numbers.items;
  each : (number : ℕ) → number < l.number → Contains l.numbers.items number;
}
