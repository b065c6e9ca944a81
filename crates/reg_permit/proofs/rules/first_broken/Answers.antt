use Rattle.std.proofs.Common.{length, ap, arith, rules}
use Rattle.std.proofs.lemmas.Bool.{MatchBool-at_false, MatchBool-at_true}
use Rattle.reg_permit.proofs.RuleLemmas.{breaks-first, keeps-all, keeps-more}
use Rattle.reg_permit.proofs.rules.first_broken.Goals as goal

pub loop-place-preserved : goal.loop-place-preserved
loop-place-preserved c =
    keeps-more c.args.r.now c.args.chosen.now c.loop-place.place c.loop-place.invariant (λ o e. MatchBool-at_true {b = c.keeps_rule.result} _ _ (search rules) (c.keeps_rule.ensures o e))

pub returns-then-not-keeps_rule : goal.returns-then-not-keeps_rule
returns-then-not-keeps_rule c =
    breaks-first c.args.r.now c.args.chosen.now c.loop-place.place c.loop-place.invariant (omega (arith, c.is_sound.ensures.options_count, ap length c.options.ensures))
    (λ o e. MatchBool-at_false {b = c.keeps_rule.result} _ _ (search rules) (c.keeps_rule.ensures o e))

pub returns : goal.returns
returns c = keeps-all c.args.r.now c.args.chosen.now c.loop-place.place c.loop-place.invariant (omega (arith, c.is_sound.ensures.options_count, ap length c.options.ensures))
