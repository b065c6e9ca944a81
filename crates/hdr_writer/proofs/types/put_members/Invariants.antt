use Rattle.std.proofs.Common.{◌≡◌, ◌++◌, ◌∷◌, [], take, codes}
use Rattle.std.specs.List.{flat_map}
use Rattle.hdr_writer.specs.Lines.{line}
use Rattle.hdr_writer.proofs.types.put_members.Given as goal

abbrev pub invariant-loop-member : goal.invariant-loop-member
invariant-loop-member l = l.text.items ≡ l.initial.text.items ++ flat_map (λ m. line (codes "    " ∷ m.text ∷ codes ";" ∷ [])) (take l.member-index l.members)
