use Rattle.std.proofs.Common.{◌≡◌, drop}
use Rattle.std.specs.List.{list_any}
use Rattle.reg_forms.specs.Options.{is_same_version}
use Rattle.reg_forms.proofs.options.is_taken.Given as goal

-- none so far is this one
abbrev pub invariant-loop-other : goal.invariant-loop-other
invariant-loop-other l = list_any (is_same_version l.number) (drop l.other-index l.earlier) ≡ list_any (is_same_version l.number) l.earlier
