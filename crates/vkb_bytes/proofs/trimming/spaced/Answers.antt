use Rattle.std.proofs.Common.{ℕ, List, sym, ◌∙◌}
use Rattle.vkb_bytes.proofs.TrimLemmas.{spaced_word, spaced_last, spaced_before}
use Rattle.vkb_bytes.proofs.trimming.spaced.Goals.{then-not-is_white+in_ok-push, else-not-is_white+then-not-begins_white+in_ok-push-2, else-not-is_white+else-not-begins_white}
use Rattle.vkb_bytes.proofs.trimming.spaced.Goals as goal

pub loop-place-preserved : goal.loop-place-preserved
loop-place-preserved c =
    let text : List ℕ = c.args.text.now in
    let i : ℕ = c.loop-place.place in
    let made : List ℕ = c.loop-place.made.items in
    let within = c.loop-place-test.true in
    let so_far = c.loop-place.invariant in
    let tested = c.is_white.ensures in
    elim c.if-not-is_white.branch [
      | then-not-is_white+in_ok-push w ↦
          let step = spaced_word made text i within (sym tested ∙ w.if-not-is_white.true) in
          let pushed = w.in_ok-push.ensures.items in
          let now = w.made-is in
          cc
      | else-not-is_white+then-not-begins_white+in_ok-push-2 w ↦
          let step = spaced_last made text i within (sym tested ∙ w.if-not-is_white.false) (sym w.begins_white.ensures ∙ w.if-not-begins_white.true) in
          let pushed = w.in_ok-push-2.ensures.items in
          let now = w.made-is in
          cc
      | else-not-is_white+else-not-begins_white w ↦
          let step = spaced_before made text i within (sym tested ∙ w.if-not-is_white.false) (sym w.begins_white.ensures ∙ w.if-not-begins_white.false) in
          let now = w.made-is in
          cc
    ]
