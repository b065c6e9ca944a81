use Rattle.std.proofs.Common.{◌≡◌, ◌==◌, drop}
use Rattle.std.specs.List.{list_any}
use Rattle.vkb_outside.proofs.failing.is_among.Given as goal

abbrev pub invariant-loop-other : goal.invariant-loop-other
invariant-loop-other l =
    list_any (λ n. n == l.number) (drop l.other-index l.failing) ≡ list_any (λ n. n == l.number) l.failing
