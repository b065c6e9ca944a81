use Rattle.std.proofs.Common.{◌≡◌, ℕ, ◌+◌, ◌-◌, ◌<◌, ◌↔◌, ◌⊎◌, true, false, Some, List, Contains, ap, ◌∙◌, length, slice_get, slice_index_or, subst, sym, refl, arith}
use Rattle.std.proofs.lemmas.List.Elements.{All-weaker}
use Rattle.std.proofs.lemmas.Option.{get_or_from_slice_get, slice_get_read}
use Rattle.sat_proof.specs.declared.step.Step.{Step}
use Rattle.sat_proof.specs.Trimming.{IsMarked}
use Rattle.sat_proof.proofs.TrailLemmas.{none-replicate}
use Rattle.sat_proof.proofs.MarkLemmas.{IsMarked-last, IsMarked-more, all-reached}
use Rattle.sat_proof.proofs.trimming.reached.Goals as goal

pub loop-place-init : goal.loop-place-init
loop-place-init c =
    let none : (k : ℕ) → slice_index_or c.in_ok-stays.stays.items k false ≡ false =
    λ k. rw (c.in_ok-stays.ensures.items_if_clones_equal (λ y e. e)) (none-replicate (length c.args.steps.now) k) in
    record {
      within = omega arith;
      marked = IsMarked-last c.args.count c.args.steps.now c.in_ok-stays.stays.items c.requires.some (omega (arith, c.in_ok-stays.ensures.len)) none;
    }

pub mark-requires-clause-known : goal.mark-requires-clause-known
mark-requires-clause-known c =
    let found : slice_get c.args.steps.now (c.loop-place.place - 1) ≡ Some c.index-steps-place.result =
    slice_get_read c.args.steps.now _ (c.loop-place.place - 1) c.index-steps-place.result refl (omega (arith, c.loop-place-test.true, c.loop-place.invariant.within)) c.index-steps-place.is in
    let hints : c.as_slice.result.now ≡ c.index-steps-place.result.hints = c.as_slice.ensures ∙ ap (λ (s : Step). s.hints) (sym c.index-steps-place.is) in
    rw hints (
    All-weaker (λ hint. hint < c.args.count + (c.loop-place.place - 1)) (λ hint. hint < c.args.count + length c.loop-place.stays.items)
    (λ hint h. omega (arith, h, c.loop-place-test.true, c.loop-place.invariant.within, c.loop-place.invariant.marked.each))
    c.index-steps-place.result.hints (c.requires.earlier (c.loop-place.place - 1) c.index-steps-place.result found)
    )

pub loop-place-preserved-then-index : goal.loop-place-preserved-then-index
loop-place-preserved-then-index c =
    let found : slice_get c.args.steps.now (c.loop-place.place - 1) ≡ Some c.index-steps-place.result =
    slice_get_read c.args.steps.now _ (c.loop-place.place - 1) c.index-steps-place.result refl (omega (arith, c.loop-place-test.true, c.loop-place.invariant.within)) c.index-steps-place.is in
    let at : c.loop-place.place ≡ c.loop-place.place - 1 + 1 = omega (arith, c.loop-place-test.true) in
    let hints : c.as_slice.result.now ≡ c.index-steps-place.result.hints = c.as_slice.ensures ∙ ap (λ (s : Step). s.hints) (sym c.index-steps-place.is) in
    let marked : slice_index_or c.loop-place.stays.items (c.loop-place.place - 1) false ≡ true =
    get_or_from_slice_get c.loop-place.stays.items (c.loop-place.place - 1) c.index.result.now false
    (slice_get_read c.loop-place.stays.items _ (c.loop-place.place - 1) c.index.result.now refl
    (omega (arith, c.loop-place-test.true, c.loop-place.invariant.within, c.loop-place.invariant.marked.each)) c.index.ensures)
    ∙ c.if-index.true in
    record {
      within = omega (arith, c.loop-place.invariant.within);
      marked = IsMarked-more c.args.count c.args.steps.now (c.loop-place.place - 1) c.loop-place.stays.items c.mark.new.stays.items c.index-steps-place.result
          c.requires.earlier (subst (λ p. IsMarked c.args.count c.args.steps.now p c.loop-place.stays.items) at c.loop-place.invariant.marked)
          marked found c.mark.ensures.each
          (subst (λ (hs : List ℕ). (other : ℕ) → (slice_index_or c.mark.new.stays.items other false ≡ true)
          ↔ ((slice_index_or c.loop-place.stays.items other false ≡ true) ⊎ Contains hs (c.args.count + other))) hints c.mark.ensures.marks);
    }

pub returns-clause-reached : goal.returns-clause-reached
returns-clause-reached c =
    let at : c.loop-place.place ≡ 0 = omega (arith, c.loop-place-test.false) in
    all-reached c.args.count c.args.steps.now c.loop-place.stays.items (subst (λ p. IsMarked c.args.count c.args.steps.now p c.loop-place.stays.items) at c.loop-place.invariant.marked)
