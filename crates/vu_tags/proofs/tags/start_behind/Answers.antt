use Rattle.std.proofs.Common.{◌+◌, ◌<◌, length, length-drop, drop, ap, sym, ◌∙◌, arith}
use Rattle.std.proofs.lemmas.List.{take_rest}
use Rattle.std.specs.List.{fold}
use Rattle.vu_tags.specs.Tags.{numbers_of, past}
use Rattle.vu_tags.proofs.TagLemmas.{numbered_on, numbers_end, plain_on, well_all, well_before, well_more}
use Rattle.vu_tags.proofs.tags.start_behind.Goals as goal
use Rattle.vu_tags.proofs.tags.start_behind.Goals.{in-Plain, in-Numbered}

pub returns-in-Malformed-clause-value : goal.returns-in-Malformed-clause-value
returns-in-Malformed-clause-value c =
    let none = rw take_rest at c.in-Some.ensures.before in
    record {
      here = rw take_rest at c.in-Malformed.ensures;
      none_before = well_before c.args.file.now c.loop-step.at c.in-Some.step c.loop-step.invariant.well none;
    }

pub loop-step-preserved : goal.loop-step-preserved
loop-step-preserved c =
    let text = c.args.file.now in
    let at = c.loop-step.at in
    let step = c.in-Some.step in
    let all = fold past c.args.first (numbers_of text) in
    let none = rw take_rest at c.in-Some.ensures.before in
    let inside = rw take_rest at c.in-Some.ensures.within in
    let within : at + step < length text = omega (arith, inside, length-drop at text) in
    let well = well_before text at step c.loop-step.invariant.well none in
    elim c.match-read_front.branch [
      | in-Plain w ↦
          let read = rw take_rest at w.in-Plain.ensures in
          record {
            in_file = omega arith;
            small = rw w.start-is c.loop-step.invariant.small;
            well = well_more text (at + step) well read.0;
            numbers = rw w.start-is (plain_on text at step c.loop-step.start all within none c.loop-step.invariant.numbers read.1);
          }
      | in-Numbered w ↦
          let read = rw take_rest at w.in-Numbered.ensures in
          record {
            in_file = omega arith;
            small = rw (w.start-is, w.max-start.ensures) (omega (arith, read.2, c.loop-step.invariant.small));
            well = well_more text (at + step) well read.0;
            numbers = rw (w.start-is, w.max-start.ensures) (numbered_on text at step c.loop-step.start all within none c.loop-step.invariant.numbers w.in-Numbered.number read.1);
          }
    ]

pub returns-clause-value : goal.returns-clause-value
returns-clause-value c =
    let text = c.args.file.now in
    let none = rw take_rest at c.in_default.ensures.none in (
      well_all text c.loop-step.at c.loop-step.invariant.well none,
      ap (fold past c.loop-step.start) (sym (numbers_end (drop c.loop-step.at text) none)) ∙ c.loop-step.invariant.numbers,
    )
