use Rattle.std.proofs.Common.{ℕ, ◌+◌, true, false, Some, BTreeSet, sym, ap, subst, ◌∙◌}
use Rattle.std.proofs.lemmas.Bool.{true≢false}
use Rattle.std.proofs.lemmas.Option.{get_or_from_slice_get, same_Some, slice_get-get_or}
use Rattle.reg_closure.proofs.WaitLemmas.{AreReady, ready-all, ready-less, ready-more}
use Rattle.reg_closure.proofs.ordering.ready.Goals as goal
use Rattle.reg_closure.proofs.ordering.ready.Goals.{then-count-eq0+then-has+in_ok-insert, else-count-eq0, else-count-eq0-via-then-count-eq0+else-has, else-count-eq0-via-else-count-eq0}

pub loop-place-preserved : goal.loop-place-preserved
loop-place-preserved c =
    let set = c.args.set.now in
    let counts = c.args.counts.now in
    let end = c.loop-place.place in
    elim c.if-count-eq0.branch [
      | then-count-eq0+then-has+in_ok-insert w ↦
          subst (λ (s : BTreeSet ℕ). AreReady set counts (end + 1) s.keys) (sym w.ready-is)
          (ready-more set counts end c.loop-place.ready.keys w.insert.new.self.keys c.loop-place.invariant w.if-has.ensures
          (slice_get-get_or counts end 0 c.loop-place-test.true ∙ ap Some w.if-count-eq0.true) w.in_ok-insert.ensures.keys)
      | else-count-eq0 w ↦
          subst (λ (s : BTreeSet ℕ). AreReady set counts (end + 1) s.keys) (sym w.ready-is)
          (ready-less set counts end c.loop-place.ready.keys c.loop-place.invariant
          (λ i z. elim w.else-count-eq0.branch [
            | else-count-eq0-via-then-count-eq0+else-has x ↦ true≢false (same_Some true false (sym i ∙ x.if-has.ensures))
            | else-count-eq0-via-else-count-eq0 x ↦ x.if-count-eq0.false (get_or_from_slice_get counts end 0 0 z)
          ]))
    ]

pub returns : goal.returns
returns c = ready-all c.args.set.now c.args.counts.now c.loop-place.place c.loop-place.ready.keys c.loop-place.invariant c.loop-place-test.false
