use Rattle.std.proofs.Common.{◌≡◌, List, ℕ, All, take, sym, subst, arith}
use Rattle.std.proofs.lemmas.List.{take_all}
use Rattle.lift_check.specs.Options.{AreSettings, IsBelow}
use Rattle.lift_check.proofs.OptionsLemmas.{all_below, settings-more}
use Rattle.lift_check.proofs.options.settings_over.Goals as goal

pub loop-id-preserved : goal.loop-id-preserved
loop-id-preserved c =
    settings-more c.args.fixed.now c.args.options.now c.args.names.now c.loop-id.settings.items c.push.new.self.items c.loop-id.id c.name.result.now c.setting_over-setting.result
    c.name.ensures.held c.in_ok-push.ensures.items c.setting_over-setting.ensures c.loop-id.invariant

pub invariant_of-result : goal.invariant_of-result
invariant_of-result c =
    subst (λ (n : ℕ). All (IsBelow n) c.loop-id.settings.items) (sym c.len.ensures.count)
    (all_below c.args.fixed.now c.args.options.now (take c.loop-id.id c.args.names.now) c.loop-id.settings.items c.loop-id.invariant)

pub returns-clause-settings : goal.returns-clause-settings
returns-clause-settings c =
    let fixed = c.args.fixed.now in
    let options = c.args.options.now in
    let names = c.args.names.now in
    let all : take c.loop-id.id names ≡ names = take_all c.loop-id.id names (omega (arith, c.loop-id-test.false, c.len-count.ensures.count)) in
    subst (λ (ns : List (List ℕ)). AreSettings fixed options ns c.loop-id.settings.items) all c.loop-id.invariant
