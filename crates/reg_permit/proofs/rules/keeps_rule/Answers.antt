use Rattle.std.proofs.Common.{◌≡◌, ◌∙◌, ap, true, false, not, Some, slice_get, get_or, arith, rules}
use Rattle.std.specs.Bool.{MatchBool}
use Rattle.std.proofs.lemmas.Option.{slice_get-get_or}
use Rattle.reg_permit.specs.Permitted.{KeepsRule}
use Rattle.reg_permit.proofs.RuleLemmas.{feature-rule, left-rule, of-option, own-rule}
use Rattle.reg_permit.proofs.rules.keeps_rule.Goals as goal

pub returns-in-Some : goal.returns-in-Some
returns-in-Some c =
    of-option c.args.r.now.option_rows
    (λ o. MatchBool c.keeps_feature.result (KeepsRule c.args.r.now c.args.chosen.now c.args.place o) (KeepsRule c.args.r.now c.args.chosen.now c.args.place o → ⊥))
    c.args.place c.option-option.result.now c.option-option.ensures.row
    (feature-rule c.args.r.now c.args.chosen.now c.args.place c.option-option.result.now c.option-option.ensures.row c.in-Some.version c.in-Some.is c.requires.count
    c.is_sound.ensures.options_count c.args.lowest.now.all c.args.lowest.now.left_out c.requires.all c.requires.left_out
    (get_or c.args.chosen.now c.args.place false) (slice_get-get_or c.args.chosen.now c.args.place false (omega (arith, c.requires.count, c.requires.here)))
    c.keeps_feature.result c.keeps_feature.ensures.chosen c.keeps_feature.ensures.left_out)

pub returns-then-not-is_chosen : goal.returns-then-not-is_chosen
returns-then-not-is_chosen c =
    let out : get_or c.args.chosen.now c.args.place false ≡ false = search rules in
    of-option c.args.r.now.option_rows
    (λ o. MatchBool (not (get_or c.args.chosen.now c.args.place false)) (KeepsRule c.args.r.now c.args.chosen.now c.args.place o) (KeepsRule c.args.r.now c.args.chosen.now c.args.place o → ⊥))
    c.args.place c.option-option.result.now c.option-option.ensures.row
    (rw out (left-rule c.args.r.now c.args.chosen.now c.args.place c.option-option.result.now c.option-option.ensures.row c.in-None.is
    (λ here. let at : slice_get c.args.chosen.now c.args.place ≡ Some (get_or c.args.chosen.now c.args.place false) = slice_get-get_or c.args.chosen.now c.args.place false (omega (arith, c.requires.count, c.requires.here)) in cc (here, at, out))))

pub returns-else-not-is_chosen : goal.returns-else-not-is_chosen
returns-else-not-is_chosen c =
    let here : get_or c.args.chosen.now c.args.place false ≡ true = search rules in
    of-option c.args.r.now.option_rows
    (λ o. MatchBool c.has_asked.result (KeepsRule c.args.r.now c.args.chosen.now c.args.place o) (KeepsRule c.args.r.now c.args.chosen.now c.args.place o → ⊥))
    c.args.place c.option-option.result.now c.option-option.ensures.row
    (own-rule c.args.r.now c.args.chosen.now c.args.place c.option-option.result.now c.option-option.ensures.row c.in-None.is c.args.here.now c.requires.closure
    (slice_get-get_or c.args.chosen.now c.args.place false (omega (arith, c.requires.count, c.requires.here)) ∙ ap (λ b. Some b) here)
    c.has_asked.result c.has_asked.ensures.bit c.has_asked.ensures.depends)
