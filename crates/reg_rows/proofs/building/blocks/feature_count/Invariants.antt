use Rattle.std.proofs.Common.{◌≡◌, filter, is_some, length, take}
use Rattle.reg_rows.proofs.building.blocks.feature_count.Given as goal

abbrev pub invariant-loop-option : goal.invariant-loop-option
invariant-loop-option l = l.count ≡ length (filter (λ o. is_some o.version) (take l.option-index l.forms.options))
