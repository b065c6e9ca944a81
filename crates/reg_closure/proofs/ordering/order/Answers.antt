use Rattle.std.proofs.Common.{◌≡◌, ◌<◌, ◌++◌, ◌∷◌, [], ℕ, List, length, map, sym, ap, subst, ◌∙◌, length-append, arith}
use Rattle.std.proofs.lemmas.List.{length-map, map_push}
use Rattle.vkb_formula.specs.declared.name_table.NameId.{NameId}
use Rattle.reg_closure.specs.Waiting.{ArePlaced, IsWaiting}
use Rattle.reg_closure.proofs.OrderLemmas.{name-once, next-few, next-within, placed-next, wait-for, waiting-next}
use Rattle.reg_closure.proofs.ordering.order.Goals as goal

pub of-requires : goal.of-requires
of-requires c =
    let within : c.in-Some.name < length c.args.r.now.rows =
    next-within c.args.r.now.rows c.args.set.now (omega (arith, c.requires, c.is_sound.ensures.rows_count)) (map (λ (id : NameId). id.0) c.loop-name.order.items) c.loop-name.invariant.placed
    c.loop-name.waiting c.take_first.new.self c.loop-name.invariant.waiting c.in-Some.name c.in-Some.ensures.first c.in-Some.ensures.least c.in-Some.ensures.counts in
    omega (arith, within, c.in_ok-namers.ensures.count)

pub release-requires-clause-wait : goal.release-requires-clause-wait
release-requires-clause-wait c =
    wait-for c.args.r.now.rows c.args.set.now (omega (arith, c.requires, c.is_sound.ensures.rows_count)) (map (λ (id : NameId). id.0) c.loop-name.order.items) c.loop-name.invariant.placed
    c.loop-name.waiting c.take_first.new.self c.loop-name.invariant.waiting c.in-Some.name c.in-Some.ensures.first c.in-Some.ensures.least c.in-Some.ensures.counts
    (name-once c.args.r.now c.is_sound.ensures) (length c.args.r.now.names) c.in_ok-namers.namers c.in_ok-namers.ensures (sym c.is_sound.ensures.rows_count) c.of.result.now c.of.ensures

pub loop-name-smaller : goal.loop-name-smaller
loop-name-smaller c =
    let few =
    next-few c.args.r.now.rows c.args.set.now (omega (arith, c.requires, c.is_sound.ensures.rows_count)) (map (λ (id : NameId). id.0) c.loop-name.order.items) c.loop-name.invariant.placed
    c.loop-name.waiting c.take_first.new.self c.loop-name.invariant.waiting c.in-Some.name c.in-Some.ensures.first c.in-Some.ensures.least c.in-Some.ensures.counts in
    omega (
      arith,
      few,
      length-append (map (λ (id : NameId). id.0) c.loop-name.order.items) (c.in-Some.name ∷ []),
      length-map c.loop-name.order.items (λ (id : NameId). id.0),
      ap length c.in_ok-push.ensures.items,
      length-append c.loop-name.order.items (record { 0 = c.in-Some.name } ∷ []),
    )

pub loop-name-preserved : goal.loop-name-preserved
loop-name-preserved c =
    let placed = map (λ (id : NameId). id.0) c.loop-name.order.items in
    let same : length c.args.set.now ≡ length c.args.r.now.rows = omega (arith, c.requires, c.is_sound.ensures.rows_count) in
    let now : map (λ (id : NameId). id.0) c.push.new.self.items ≡ placed ++ c.in-Some.name ∷ [] =
    ap (map (λ (id : NameId). id.0)) c.in_ok-push.ensures.items ∙ map_push (λ (id : NameId). id.0) c.loop-name.order.items (record { 0 = c.in-Some.name }) in
    record {
      placed = subst (ArePlaced c.args.r.now.rows c.args.set.now) (sym now)
          (placed-next c.args.r.now.rows c.args.set.now same placed c.loop-name.invariant.placed c.loop-name.waiting c.take_first.new.self c.loop-name.invariant.waiting c.in-Some.name
          c.in-Some.ensures.first c.in-Some.ensures.least c.in-Some.ensures.counts);
      waiting = subst (λ (xs : List ℕ). IsWaiting c.args.r.now.rows c.args.set.now xs c.release.new.self) (sym now)
          (waiting-next c.args.r.now.rows c.args.set.now same placed c.loop-name.invariant.placed c.loop-name.waiting c.take_first.new.self c.loop-name.invariant.waiting c.in-Some.name
          c.in-Some.ensures.first c.in-Some.ensures.least c.in-Some.ensures.counts (name-once c.args.r.now c.is_sound.ensures) (length c.args.r.now.names) c.in_ok-namers.namers
          c.in_ok-namers.ensures (sym c.is_sound.ensures.rows_count) c.of.result.now c.of.ensures c.release.new.self c.in_ok-release.ensures);
    }
