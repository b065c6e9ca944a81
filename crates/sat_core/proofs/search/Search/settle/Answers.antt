use Rattle.std.proofs.Common.{◌≢◌, ◌<◌, None, length, slice_index_or, ap, subst, ◌∙◌, arith}
use Rattle.sat_core.specs.Searching.{State}
use Rattle.sat_core.proofs.GrowthLemmas.{grows-then}
use Rattle.sat_core.proofs.SettleLemmas.{settled-skip, settled-then}
use Rattle.sat_core.proofs.WalkLemmas.{some-at}
use Rattle.sat_core.proofs.search.Search.settle.Goals as goal
use Rattle.sat_core.proofs.search.Search.settle.Goals.{else-is_none-via-then-is_none+else-not-settles, else-is_none-via-else-is_none}

pub returns-then-not-settles-clause-grows : goal.returns-then-not-settles-clause-grows
returns-then-not-settles-clause-grows c = grows-then _ _ _ c.loop-place.invariant.grows c.settles.ensures.grows

pub loop-place-preserved : goal.loop-place-preserved
loop-place-preserved c =
    elim c.else-is_none.branch [
      | else-is_none-via-then-is_none+else-not-settles w ↦ rw w.self-is (record {
        grows = grows-then _ _ _ c.loop-place.invariant.grows w.settles.ensures.grows;
        begun = w.settles.ensures.waits.begun_same ∙ c.loop-place.invariant.begun;
        fresh = w.settles.ensures.waits.phase_same ∙ c.loop-place.invariant.fresh;
        pairs = w.settles.ensures.pairs ∙ c.loop-place.invariant.pairs;
        settled = settled-then _ _ c.loop-place.place w.settles.ensures.grows w.settles.ensures.pairs c.loop-place.invariant.settled w.if-not-settles.ensures.settled;
      })
      | else-is_none-via-else-is_none w ↦
          let below : c.loop-place.place < length c.self-in-loop-place.inside.pairs.items =
          omega (
            arith,
            c.loop-place-test.true,
            c.len-place-end.ensures,
            ap (λ (s : State). length s.pairs) c.self-in-loop-place.view_is,
            ap length c.loop-place.invariant.pairs,
            ap (λ (s : State). length s.pairs) c.self.view_is,
          ) in
          let some = some-at c.self-in-loop-place.inside.pairs.items c.loop-place.place c.index.result.now c.index.ensures below w.if-is_none.ensures in
          rw w.self-is (record {
            grows = c.loop-place.invariant.grows;
            begun = c.loop-place.invariant.begun;
            fresh = c.loop-place.invariant.fresh;
            pairs = c.loop-place.invariant.pairs;
            settled = settled-skip c.loop-place.self c.loop-place.place c.loop-place.invariant.settled (subst (λ pairs. slice_index_or pairs c.loop-place.place None ≢ None) (ap (λ (s : State). s.pairs) c.self-in-loop-place.view_is) some);
          })
    ]
