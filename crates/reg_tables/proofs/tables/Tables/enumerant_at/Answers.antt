use Rattle.std.proofs.Common.{◌∙◌, ap, position}
use Rattle.std.specs.Str.{bytes_eq}
use Rattle.reg_tables.proofs.PlaceLemmas.{table-position}
use Rattle.reg_tables.proofs.tables.Tables.enumerant_at.Goals as goal

pub returns : goal.returns
returns c =
    c.find.ensures ∙ table-position (λ e. e.name) _ _ _ c.self.invariant.enumerants_are c.args.name.now
    ∙ ap (λ f. position (λ e. bytes_eq c.args.name.now e.name) f.enumerants) c.self.view_is
