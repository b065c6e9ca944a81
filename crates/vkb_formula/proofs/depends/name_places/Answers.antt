use Rattle.std.proofs.Common.{◌∙◌, ap, arith}
use Rattle.vkb_formula.proofs.BuildLemmas.{runs-last, runs-over}
use Rattle.vkb_formula.proofs.depends.name_places.Goals as goal
use Rattle.vkb_formula.proofs.depends.name_places.Goals.{in-Some-from+in_ok-push-2, in_default-from}

pub returns : goal.returns
returns c = elim c.match-from.branch [
  | in-Some-from+in_ok-push-2 w ↦
      runs-last c.args.text.now c.loop-at.places.items _ c.loop-at.at w.in-Some-from.first c.loop-at.from w.in-Some-from.is c.loop-at-test.false (omega arith) c.loop-at.invariant
      (ap (λ places. places.items) w.places-is ∙ w.in_ok-push-2.ensures.items)
  | in_default-from w ↦
      runs-over c.args.text.now c.loop-at.places.items _ c.loop-at.at c.loop-at.from w.in_default-from.is c.loop-at-test.false c.loop-at.invariant
      (ap (λ places. places.items) w.places-is)
]
