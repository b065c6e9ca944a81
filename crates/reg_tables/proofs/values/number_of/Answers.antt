use Rattle.std.proofs.Common.{◌≡◌, ap, ◌∙◌}
use Rattle.std.specs.Option.{option_and_then}
use Rattle.reg_tables.specs.Tables.{shape_named}
use Rattle.reg_tables.specs.Values.{in_shape, number_given}
use Rattle.reg_tables.proofs.values.number_of.Goals as goal

pub returns : goal.returns
returns c =
    let f = c.args.tables.now in
    let shape : c.shape_named-shape.result ≡ shape_named f c.args.row.now.of = c.shape_named-shape.ensures ∙ ap (shape_named f) c.as_slice.ensures in
    c.in_shape.ensures ∙ ap (option_and_then (in_shape c.shape_named-shape.result)) c.number_given.ensures
    ∙ ap (λ s. option_and_then (in_shape s) (number_given s c.args.row.now.given)) shape
