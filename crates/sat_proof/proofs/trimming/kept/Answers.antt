use Rattle.std.proofs.Common.{◌≡◌, ◌+◌, ◌<◌, [], length, map, slice_index_or, refl, ap, ◌∙◌, arith}
use Rattle.std.proofs.lemmas.Option.{slice_get_read, slice_get-get_or}
use Rattle.sat_proof.specs.Trimming.{looked_up}
use Rattle.sat_proof.specs.declared.step.Step.{Step}
use Rattle.sat_proof.proofs.KeepLemmas.{IsKept-more, IsKept-skip}
use Rattle.sat_proof.proofs.trimming.kept.Goals as goal
use Rattle.sat_proof.proofs.trimming.kept.Goals.{then-stays-place+in_ok-step+in_ok-push-2, else-stays-place}

pub loop-place-preserved : goal.loop-place-preserved
loop-place-preserved c =
    let within : c.loop-place.place < length c.args.steps.now = c.loop-place-test.true in
    let next : c.args.count + c.len.result ≡ c.args.count + length c.loop-place.kept.items = omega (arith, c.len.ensures) in
    let none : Step = record { clause = []; hints = [] } in
    rw c.in_ok-push.ensures.items (
    elim c.if-stays-place.branch [
      | then-stays-place+in_ok-step+in_ok-push-2 w ↦
          rw (w.kept-is, w.in_ok-push-2.ensures.items) (
          IsKept-more c.args.count c.args.steps.now c.args.stays.now c.requires.each c.loop-place.place c.loop-place.kept.items c.loop-place.numbers.items c.loop-place.invariant within
          w.index-steps-place.result (slice_get_read c.args.steps.now _ c.loop-place.place w.index-steps-place.result refl within w.index-steps-place.is) _ next
          w.if-stays-place.true c.requires.earlier w.in_ok-step.step
          (w.in_ok-step.ensures ∙ ap (λ numbers. record { clause = w.index-steps-place.result.clause; hints = map (looked_up c.args.count numbers) w.index-steps-place.result.hints })
          (w.as_slice.ensures.value ∙ c.in_ok-push.ensures.items))
          )
      | else-stays-place w ↦
          rw w.kept-is (
          IsKept-skip c.args.count c.args.steps.now c.args.stays.now c.requires.each c.loop-place.place c.loop-place.kept.items c.loop-place.numbers.items c.loop-place.invariant within
          (slice_index_or c.args.steps.now c.loop-place.place none) (slice_get-get_or c.args.steps.now c.loop-place.place none within) _ next w.if-stays-place.false
          )
    ]
    )
