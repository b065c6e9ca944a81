use Rattle.std.proofs.Common.{◌≡◌, None, rules}
use Rattle.reg_permit.proofs.FeatureLemmas.{features-more, features-skip}
use Rattle.reg_permit.proofs.features.features_of.Goals as goal
use Rattle.reg_permit.proofs.features.features_of.Goals.{in-Some+in_ok-insert, in_default}

pub loop-place-preserved : goal.loop-place-preserved
loop-place-preserved c = elim c.match-option.branch [
  | in-Some+in_ok-insert w ↦
      rw w.features-is (features-more c.args.r.now.option_rows c.is_sound.ensures.numbers_differ c.loop-place.place c.option.result.now c.option.ensures.row c.loop-place.features
      c.loop-place.invariant w.in-Some.version w.insert.new.self w.in-Some.is w.in_ok-insert.ensures.updates.0)
  | in_default w ↦
      let none : c.option.result.now.version ≡ None = search (rules, w.in_default) in
      rw w.features-is (features-skip c.args.r.now.option_rows c.is_sound.ensures.numbers_differ c.loop-place.place c.option.result.now c.option.ensures.row c.loop-place.features
      c.loop-place.invariant none)
]
