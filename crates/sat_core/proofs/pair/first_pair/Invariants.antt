use Rattle.std.proofs.Common.{◌≡◌, take, All}
use Rattle.sat_core.proofs.pair.first_pair.Given as goal

-- all literals so far are the first
abbrev pub invariant-loop-lit : goal.invariant-loop-lit
invariant-loop-lit l = All (λ lit. lit ≡ l.first) (take l.lit-index l.clause)
