use Rattle.std.proofs.Common.{◌^◌, ◌-◌, length}
use Rattle.std.specs.Bool.{⊤}
use Rattle.vkbuild.proofs.words.words_of.Given as goal

abbrev pub invariant-loop-alloc : goal.invariant-loop-alloc
invariant-loop-alloc g l = ⊤

abbrev pub decreases-loop-alloc : goal.decreases-loop-alloc
decreases-loop-alloc g l = 2 ^ 32 - length l.words.items
