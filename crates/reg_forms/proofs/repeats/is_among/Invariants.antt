use Rattle.std.proofs.Common.{◌≡◌, drop}
use Rattle.std.specs.List.{list_any}
use Rattle.std.specs.Str.{bytes_eq}
use Rattle.reg_forms.proofs.repeats.is_among.Given as goal

-- none so far has this name
abbrev pub invariant-loop-member : goal.invariant-loop-member
invariant-loop-member l =
    list_any (λ member. bytes_eq l.name member.name) (drop l.member-index l.members) ≡ list_any (λ member. bytes_eq l.name member.name) l.members
