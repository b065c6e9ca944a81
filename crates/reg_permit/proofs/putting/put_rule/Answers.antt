use Rattle.std.proofs.Common.{◌≡◌, ℕ, None, sym, subst, rules, arith, length, ◌<◌}
use Rattle.std.proofs.lemmas.Option.{MatchOption-at_some, slice_get-get_or}
use Rattle.reg_permit.specs.Nodes.{HasFeatures, SaysRule}
use Rattle.reg_permit.proofs.RuleLemmas.{of-option}
use Rattle.reg_permit.proofs.RuleNodeLemmas.{bit-rule-node, extension-result, feature-rule-node}
use Rattle.reg_permit.proofs.putting.put_rule.Goals as goal

pub returns-in-Some-clause-rule : goal.returns-in-Some-clause-rule
returns-in-Some-clause-rule c =
    of-option c.args.r.now.option_rows (λ o. SaysRule c.args.r.now c.put_feature.new.pool c.args.place o c.in_ok-rule.rule) c.args.place c.option-option.result.now c.option-option.ensures.row
    (feature-rule-node c.args.r.now c.is_sound.ensures c.put_feature.new.pool c.args.place c.option-option.result.now c.option-option.ensures.row c.in_ok-rule.rule c.in-Some.version c.in-Some.is
    c.next_lower.result
    (c.next_lower.ensures c.args.r.now.option_rows
    (subst (λ (n : ℕ). HasFeatures c.args.r.now.option_rows n c.args.features.now) (sym c.is_sound.ensures.options_count) c.requires.features))
    c.in_ok-rule.ensures.node)

pub returns-in-Some-bit-clause-rule : goal.returns-in-Some-bit-clause-rule
returns-in-Some-bit-clause-rule c =
    let none : c.option-option.result.now.version ≡ None = search (rules, c.in_default) in
    let known : c.in-Some-bit.bit.0.0 < length c.args.r.now.names = MatchOption-at_some _ _ c.in-Some-bit.bit c.in-Some-bit.is c.option-option.ensures.sound.bit in
    of-option c.args.r.now.option_rows (λ o. SaysRule c.args.r.now c.put_asks.new.pool c.args.place o c.in_ok-rule-2.rule) c.args.place c.option-option.result.now c.option-option.ensures.row
    (bit-rule-node c.args.r.now c.is_sound.ensures c.put_asks.new.pool c.args.place c.option-option.result.now c.option-option.ensures.row c.in_ok-rule-2.rule none
    c.args.pool.now c.args.here.now _ c.in-Some-bit.bit.0 c.in-Some-bit.bit.1 c.in-Some-bit.is known
    (slice_get-get_or c.args.here.now c.in-Some-bit.bit.0.0 _ (omega (arith, known, c.requires.presence.count)))
    c.requires.presence c.requires.bounds c.in_ok-rule-2.ensures.node)

pub returns-clause-rule : goal.returns-clause-rule
returns-clause-rule c =
    let none : c.option-option.result.now.version ≡ None = search (rules, c.in_default) in
    let free : c.option-option.result.now.bit ≡ None = search (rules, c.in_default-bit) in
    extension-result c.args.r.now c.is_sound.ensures c.put_extension.new.pool c.args.place c.option-option.result.now c.option-option.ensures.row none free
    c.option-option.ensures.sound.depends c.put_extension.result c.put_extension.ensures.node
