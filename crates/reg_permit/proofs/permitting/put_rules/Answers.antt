use Rattle.std.proofs.Common.{length, ap, arith, rules}
use Rattle.reg_permit.proofs.NodeLemmas.{PoolLaws, bounds-stay, extends-more, presence-stays}
use Rattle.reg_permit.proofs.RulesLemmas.{put-none, put-some, rules-stay}
use Rattle.reg_permit.proofs.permitting.put_rules.Goals as goal
use Rattle.reg_permit.proofs.permitting.put_rules.Goals.{in-Some+in_ok-push, in_default}

pub loop-place-preserved : goal.loop-place-preserved
loop-place-preserved c =
    let laws : PoolLaws = record { formulas = c.nodes_keep_their_meaning.ensures.formulas; count = c.nodes_keep_their_meaning.ensures.count; sums = c.nodes_keep_their_meaning.ensures.sums; shared = c.nodes_keep_their_meaning.ensures.shared } in
    record {
      before = extends-more _ _ _ c.loop-place.invariant.before c.put_rule.ensures.before;
      reach = omega (arith, c.in_ok-rule.ensures.reach, c.loop-place.invariant.reach);
      presence = presence-stays laws c.args.r.now c.loop-place.pool c.put_rule.new.pool c.args.here.now c.put_rule.ensures.before c.loop-place.invariant.presence;
      bounds = bounds-stay laws c.args.r.now c.loop-place.pool c.put_rule.new.pool c.args.here.now c.put_rule.ensures.before c.loop-place.invariant.presence c.loop-place.invariant.bounds;
      rules = elim c.match-branch-2.branch [
        | in-Some+in_ok-push w ↦ rw w.rules-is (put-some c.args.r.now c.put_rule.new.pool c.loop-place.place c.loop-place.rules.items
            (rules-stay laws c.loop-place.pool c.put_rule.new.pool c.put_rule.ensures.before c.args.r.now c.loop-place.place c.loop-place.rules.items c.loop-place.invariant.rules)
            (omega (arith, c.is_sound.ensures.options_count, ap length c.options.ensures)) c.in_ok-rule.field-0 c.in_ok-rule.ensures.rule
            w.in-Some.rule w.push.new.self.items w.in-Some.is w.in_ok-push.ensures.items)
        | in_default w ↦ rw w.rules-is (put-none c.args.r.now c.put_rule.new.pool c.loop-place.place c.loop-place.rules.items
            (rules-stay laws c.loop-place.pool c.put_rule.new.pool c.put_rule.ensures.before c.args.r.now c.loop-place.place c.loop-place.rules.items c.loop-place.invariant.rules)
            (omega (arith, c.is_sound.ensures.options_count, ap length c.options.ensures)) c.in_ok-rule.field-0 c.in_ok-rule.ensures.rule
            (search (rules, w.in_default)))
      ];
    }
