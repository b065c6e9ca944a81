use Rattle.std.proofs.Common.{ap, map, ◌∙◌}
use Rattle.reg_tables.specs.Values.{number_of}
use Rattle.reg_tables.proofs.ValueLemmas.{values-are}
use Rattle.reg_tables.proofs.values.Values.new.Goals as goal

pub returns : goal.returns
returns c =
    let f = c.args.tables.now in
    let rows = c.as_slice-rows.ensures ∙ ap (λ forms. forms.enumerants) c.forms.ensures in
    values-are f c.in_ok-next.next.items c.in_ok-next.ensures _ _ (c.in_ok-numbers.ensures ∙ ap (map (number_of f)) rows)
    (rw c.as_slice.ensures.value at c.in_ok-lasts.ensures.lasts) (rw c.as_slice.ensures.value at c.in_ok-lasts.ensures.within)
