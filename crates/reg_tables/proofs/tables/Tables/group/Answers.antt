use Rattle.std.proofs.Common.{◌∙◌, ap, slice_get}
use Rattle.std.specs.Option.{option_and_then}
use Rattle.reg_tables.specs.Places.{place_in}
use Rattle.reg_tables.specs.Tables.{group_of}
use Rattle.reg_tables.proofs.PlaceLemmas.{table-find}
use Rattle.reg_tables.proofs.tables.Tables.group.Goals as goal

pub returns : goal.returns
returns c =
    c.first.ensures ∙ ap (λ things. option_and_then (slice_get things) (place_in c.self.inside.groups.names c.self.inside.groups.places.items c.args.name.now)) c.as_slice.ensures
    ∙ table-find (λ g. g.name) _ _ _ c.self.invariant.groups_are c.args.name.now ∙ ap (λ f. group_of f c.args.name.now) c.self.view_is
