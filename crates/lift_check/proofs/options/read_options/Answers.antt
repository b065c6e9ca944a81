use Rattle.std.proofs.Common.{◌≡◌, ◌∙◌, List, ℕ, length, ap, subst}
use Rattle.lift_check.specs.Options.{AreSettings}
use Rattle.lift_check.proofs.OptionsLemmas.{AreSettings-alike}
use Rattle.lift_check.proofs.options.read_options.Goals as goal

pub returns : goal.returns
returns c =
    let names = c.args.d.now.names in
    let settings = c.in_ok-options.options.each in
    let same : c.options.result.now ≡ c.args.r.now.options = c.options.ensures in
    record {
      count = c.in_ok-options.ensures.count ∙ ap length same;
      each = subst (λ (options : List (List ℕ)). AreSettings c.args.always.now options names settings) same
          (AreSettings-alike c.in_ok-fixed.fixed c.args.always.now c.in_ok-fixed.ensures c.options.result.now names settings c.in_ok-options.ensures.settings);
    }
