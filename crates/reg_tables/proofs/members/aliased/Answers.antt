use Rattle.std.proofs.Common.{List, ℕ, ap, position, sym, ◌∙◌}
use Rattle.std.specs.Option.{option_and_then}
use Rattle.std.specs.Str.{bytes_eq}
use Rattle.reg_forms.specs.declared.forms.Declaration.{Declaration}
use Rattle.reg_tables.proofs.members.aliased.Goals as goal

pub returns-in-Some : goal.returns-in-Some
returns-in-Some c =
    c.declared_at.ensures ∙ ap (λ (name : List ℕ). position (λ (d : Declaration). bytes_eq name d.name) c.args.tables.now.declarations) c.as_slice.ensures
    ∙ sym (ap (option_and_then (λ (name : List ℕ). position (λ (d : Declaration). bytes_eq name d.name) c.args.tables.now.declarations)) c.in-Some.is)
