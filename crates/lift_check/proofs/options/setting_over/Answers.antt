use Rattle.std.proofs.Common.{◌∙◌, ap, sym, is_some}
use Rattle.lift_check.proofs.OptionsLemmas.{is_some-place_of}
use Rattle.lift_check.proofs.SettingLemmas.{is_among-absent}
use Rattle.lift_check.proofs.options.setting_over.Goals as goal

pub returns-then-is_some : goal.returns-then-is_some
returns-then-is_some c =
    sym (is_some-place_of c.args.name.now c.args.fixed.now) ∙ (ap is_some (sym c.find.ensures.place) ∙ (sym c.is_some.ensures ∙ c.if-is_some.true))

pub returns-in-Some : goal.returns-in-Some
returns-in-Some c = (
  sym (is_some-place_of c.args.name.now c.args.fixed.now) ∙ (ap is_some (sym c.find.ensures.place) ∙ (sym c.is_some.ensures ∙ c.if-is_some.false)),
  c.in-Some.ensures.found,
)

pub returns-in-None : goal.returns-in-None
returns-in-None c = (
  sym (is_some-place_of c.args.name.now c.args.fixed.now) ∙ (ap is_some (sym c.find.ensures.place) ∙ (sym c.is_some.ensures ∙ c.if-is_some.false)),
  is_among-absent c.args.options.now c.args.name.now c.in-None.ensures.absent,
)
