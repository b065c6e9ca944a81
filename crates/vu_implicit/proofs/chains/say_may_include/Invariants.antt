use Rattle.std.proofs.Common.{◌≡◌, ◌++◌, map, take}
use Rattle.vu_implicit.specs.Chains.{may_include}
use Rattle.vu_implicit.proofs.chains.say_may_include.Given as goal

-- the structs so far are said
abbrev pub invariant-loop-id : goal.invariant-loop-id
invariant-loop-id l = l.said.items ≡ l.fn.said.items ++ map (may_include l.r l.owner) (take l.id-index l.extending)
