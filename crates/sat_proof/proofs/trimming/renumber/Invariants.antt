use Rattle.std.proofs.Common.{◌≡◌, map, take}
use Rattle.sat_proof.specs.Trimming.{looked_up}
use Rattle.sat_proof.proofs.trimming.renumber.Given as goal

-- the hints so far
abbrev pub invariant-loop-hint : goal.invariant-loop-hint
invariant-loop-hint l = l.hints.items ≡ map (looked_up l.count l.numbers) (take l.hint-index l.old)
