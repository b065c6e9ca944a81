use Rattle.std.proofs.Common.{arith, ap, ◌∙◌}
use Rattle.std.proofs.lemmas.Grind.{common_steps}
use Rattle.std.proofs.lemmas.Result.{IfOk-equal}
use Rattle.reg_forms.specs.Enums.{is_held}
use Rattle.reg_forms.specs.Forms.{with_items}
use Rattle.reg_forms.proofs.EnumLemmas.{named_enum}
use Rattle.reg_forms.proofs.groups.read_named.Goals as goal

pub returns : goal.returns
returns c =
    IfOk-equal c.read_group-2.result _ _ _ c.read_group-2.ensures
    (ap (with_items c.args.draft.now) (named_enum c.args.api.now (is_held c.args.enum_types.now) c.args.name c.in_ok-of.of c.args.element.now (grind (arith, common_steps)) (grind (arith, common_steps)) (grind (arith, common_steps))
    (c.in_ok-of.ensures ∙ c.as_slice-5.ensures)))
