use Rattle.std.proofs.Common.{◌≡◌, ◌++◌, take}
use Rattle.std.specs.List.{flat_map}
use Rattle.vu_implicit.specs.Statements.{member_statements}
use Rattle.vu_implicit.proofs.listing.say_of_members.Given as goal

-- all of the members so far is said
abbrev pub invariant-loop-m : goal.invariant-loop-m
invariant-loop-m l = l.said.items ≡ l.fn.said.items ++ flat_map (member_statements l.r l.owner l.row) (take l.m-index l.row.members)
