use Rattle.std.proofs.Common.{◌≡◌, ◌==◌, drop}
use Rattle.std.specs.Map.{lookup}
use Rattle.vkb_outside.proofs.failing.first_of.Given as goal

abbrev pub invariant-loop-other : goal.invariant-loop-other
invariant-loop-other l =
    lookup (λ n. n == l.number) (drop l.other-index l.failing) ≡ lookup (λ n. n == l.number) l.failing
