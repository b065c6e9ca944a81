use Rattle.std.proofs.Common.{◌≡◌, map, take}
use Rattle.reg_tables.specs.Lists.{each_name}
use Rattle.reg_tables.proofs.members.member_names.Given as goal

abbrev pub invariant-loop-member : goal.invariant-loop-member
invariant-loop-member l = l.names ≡ each_name (map (λ member. member.name) (take l.member-index l.members))
