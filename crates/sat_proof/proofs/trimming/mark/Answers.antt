use Rattle.std.proofs.Common.{◌≡◌, ◌+◌, ◌↔◌, ◌⊎◌, true, false, length, take, slice_index_or, Contains, subst, ap, ◌∙◌, arith}
use Rattle.std.proofs.lemmas.List.{take_all, length-set}
use Rattle.sat_proof.proofs.JudgeLemmas.{take-more}
use Rattle.sat_proof.proofs.MarkLemmas.{marks-put, marks-skip}
use Rattle.sat_proof.proofs.trimming.mark.Goals as goal
use Rattle.sat_proof.proofs.trimming.mark.Goals.{then-hint-count, else-hint-count}

pub loop-hint-preserved : goal.loop-hint-preserved
loop-hint-preserved c =
    rw (take-more c.args.hints.now c.loop-hint.hint-index 0 c.loop-hint-test.true) (record {
      each = elim c.if-hint-count.branch [
        | then-hint-count w ↦ ap (λ v. length v.items) w.stays-is ∙ length-set c.loop-hint.stays.items _ true ∙ c.loop-hint.invariant.each
        | else-hint-count w ↦ ap (λ v. length v.items) w.stays-is ∙ c.loop-hint.invariant.each
      ];
      marks = elim c.if-hint-count.branch [
        | then-hint-count w ↦
            rw w.stays-is (
            marks-put c.args.count c.args.stays.now.items c.loop-hint.stays.items (take c.loop-hint.hint-index c.args.hints.now) _ c.loop-hint.invariant.marks w.if-hint-count.true
            (omega (arith, c.requires.known c.loop-hint.hint-index 0 c.loop-hint-test.true, w.if-hint-count.true, c.loop-hint.invariant.each))
            )
        | else-hint-count w ↦
            rw w.stays-is (marks-skip c.args.count c.args.stays.now.items c.loop-hint.stays.items (take c.loop-hint.hint-index c.args.hints.now) _ c.loop-hint.invariant.marks w.if-hint-count.false)
      ];
    })

pub returns-clause-marks : goal.returns-clause-marks
returns-clause-marks c place =
    subst (λ hints. (slice_index_or c.loop-hint.stays.items place false ≡ true) ↔ ((slice_index_or c.args.stays.now.items place false ≡ true) ⊎ Contains hints (c.args.count + place)))
    (take_all c.loop-hint.hint-index c.args.hints.now c.loop-hint-test.false) (c.loop-hint.invariant.marks place)
