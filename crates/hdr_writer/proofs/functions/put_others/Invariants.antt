use Rattle.std.proofs.Common.{◌≡◌, ◌++◌, take, codes}
use Rattle.std.specs.List.{flat_map}
use Rattle.hdr_writer.proofs.functions.put_others.Given as goal

abbrev pub invariant-loop-member : goal.invariant-loop-member
invariant-loop-member l = l.text.items ≡ l.initial.text.items ++ flat_map (λ m. codes ", " ++ m.text) (take l.member-index l.members)
