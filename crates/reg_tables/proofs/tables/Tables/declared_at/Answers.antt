use Rattle.std.proofs.Common.{◌∙◌, ap, position}
use Rattle.std.specs.Str.{bytes_eq}
use Rattle.reg_tables.proofs.PlaceLemmas.{table-position}
use Rattle.reg_tables.proofs.tables.Tables.declared_at.Goals as goal

pub returns : goal.returns
returns c =
    c.find.ensures ∙ table-position (λ d. d.name) _ _ _ c.self.invariant.declared_are c.args.name.now
    ∙ ap (λ f. position (λ d. bytes_eq c.args.name.now d.name) f.declarations) c.self.view_is
