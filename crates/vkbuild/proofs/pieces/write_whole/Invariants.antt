use Rattle.std.proofs.Common.{◌≡◌, ℕ, List, ◌++◌, length}
use Rattle.std.specs.Io.KnownBytes.{Appends}
use Rattle.vkbuild.proofs.pieces.write_whole.Given as goal

abbrev pub invariant-loop-rest : goal.invariant-loop-rest
invariant-loop-rest g l =
    (taken : List ℕ) × (l.bytes ≡ taken ++ l.rest) × Appends (g.W.Write.contents l.initial.output) (g.W.Write.contents l.output) taken

abbrev pub decreases-loop-rest : goal.decreases-loop-rest
decreases-loop-rest g l = length l.rest
