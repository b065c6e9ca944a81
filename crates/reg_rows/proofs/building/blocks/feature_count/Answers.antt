use Rattle.std.proofs.Common.{is_some, length, take, arith, ap}
use Rattle.std.proofs.lemmas.List.{length-take-le}
use Rattle.std.proofs.lemmas.List.Sums.{count_by-le-length, length-filter}
use Rattle.reg_rows.proofs.building.blocks.feature_count.Goals as goal

pub overflow_add-count : goal.overflow_add-count
overflow_add-count c =
    let sofar = take c.loop-option.option-index c.args.forms.now.options in
    omega (arith, length-filter (λ o. is_some o.version) sofar, count_by-le-length (λ o. is_some o.version) sofar, length-take-le c.loop-option.option-index c.args.forms.now.options, ap length c.as_slice-option-items.ensures)
