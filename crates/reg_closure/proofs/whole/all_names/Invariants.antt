use Rattle.std.proofs.Common.{◌≡◌, ℕ, ◌<◌, true, false, length, get_or}
use Rattle.reg_closure.proofs.whole.all_names.Given as goal

abbrev pub invariant-loop-place : goal.invariant-loop-place
invariant-loop-place l = record {
  count : length l.set ≡ l.count;
  added : (k : ℕ) → k < l.place → get_or l.set k false ≡ true;
}
