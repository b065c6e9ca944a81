use Rattle.std.proofs.Common.{◌≡◌, ◌++◌, drop}
use Rattle.vkb_bytes.specs.Trimming.{spaced}
use Rattle.vkb_bytes.proofs.trimming.spaced.Given as goal

-- what was made, and is made of what is ahead, is what is made of all
abbrev pub invariant-loop-place : goal.invariant-loop-place
invariant-loop-place l = l.made.items ++ spaced (drop l.place l.text) ≡ spaced l.text
