use Rattle.std.proofs.Common.{◌≡◌, length, ap, false, get_or, None, arith, rules}
use Rattle.std.proofs.lemmas.Option.{slice_get-get_or}
use Rattle.reg_permit.proofs.LowestLemmas.{all-more, all-skip, left-either, left-skip}
use Rattle.reg_permit.proofs.lowest.lowest_of.Goals as goal
use Rattle.reg_permit.proofs.lowest.lowest_of.Goals.{in-Some, in_default}

pub loop-place-preserved : goal.loop-place-preserved
loop-place-preserved c = elim c.match-option.branch [
  | in-Some w ↦ record {
    all = rw w.lowest-is (all-more c.args.r.now.option_rows c.args.chosen.now c.loop-place.place c.option.result.now c.option.ensures.row w.in-Some.version w.in-Some.is
        c.loop-place.lowest.all w.with_feature-lowest.result.all c.loop-place.invariant.all w.with_feature-lowest.ensures.all);
    left_out = rw w.lowest-is (left-either c.args.r.now.option_rows c.args.chosen.now c.loop-place.place c.option.result.now c.option.ensures.row w.in-Some.version w.in-Some.is
        c.loop-place.lowest.left_out w.with_feature-lowest.result.left_out (get_or c.args.chosen.now c.loop-place.place false)
        (slice_get-get_or c.args.chosen.now c.loop-place.place false (omega (arith, ap length c.options.ensures))) c.loop-place.invariant.left_out
        w.with_feature-lowest.ensures.chosen w.with_feature-lowest.ensures.left_out);
  }
  | in_default w ↦ let a = w.in_default in let none : c.option.result.now.version ≡ None = search (rules, w.in_default) in record {
    all = rw w.lowest-is (all-skip c.args.r.now.option_rows c.args.chosen.now c.loop-place.place c.option.result.now c.option.ensures.row
        c.loop-place.lowest.all none c.loop-place.invariant.all);
    left_out = rw w.lowest-is (left-skip c.args.r.now.option_rows c.args.chosen.now c.loop-place.place c.option.result.now c.option.ensures.row
        c.loop-place.lowest.left_out none c.loop-place.invariant.left_out);
  }
]

pub returns-clause-all : goal.returns-clause-all
returns-clause-all c = let same : length c.args.r.now.options ≡ c.loop-place.place = omega (arith, ap length c.options.ensures) in rw same c.loop-place.invariant.all

pub returns-clause-left_out : goal.returns-clause-left_out
returns-clause-left_out c = let same : length c.args.r.now.options ≡ c.loop-place.place = omega (arith, ap length c.options.ensures) in rw same c.loop-place.invariant.left_out
