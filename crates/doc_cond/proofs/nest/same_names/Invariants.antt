use Rattle.std.proofs.Common.{◌≡◌, take}
use Rattle.doc_cond.proofs.nest.same_names.Given as goal

abbrev pub invariant-loop-place : goal.invariant-loop-place
invariant-loop-place l = take l.place l.left ≡ take l.place l.right
