use Rattle.std.proofs.Common.{◌<◌, ◌≤◌, length, arith}
use Rattle.std.specs.Prelude.{◌^◌}
use Rattle.std.proofs.lemmas.List.Elements.{All-weaker}
use Rattle.reg_reader.specs.Views.{element_size}
use Rattle.reg_forms.specs.declared.forms.DependsText.{DependsText}
use Rattle.reg_tables.proofs.tests.forms_under.Goals as goal

pub returns : goal.returns
returns c =
    All-weaker (λ (one : DependsText). length one.text ≤ element_size c.root-root.result) (λ (one : DependsText). length one.text < 2 ^ 32)
    (λ one short. omega (arith, short, c.root-root.ensures.size, c.requires.small)) c.in_ok-forms.forms.texts c.in_ok-forms.ensures.small.each_text
