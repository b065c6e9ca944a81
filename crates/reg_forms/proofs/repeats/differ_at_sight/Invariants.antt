use Rattle.std.proofs.Common.{◌≡◌, [], drop, map, take}
use Rattle.reg_forms.specs.Parts.{repeated}
use Rattle.reg_forms.proofs.repeats.differ_at_sight.Given as goal

-- none so far stands before itself
abbrev pub invariant-loop-at : goal.invariant-loop-at
invariant-loop-at l = repeated (map (λ member. member.name) (take l.at l.members)) (drop l.at l.members) ≡ repeated [] l.members
