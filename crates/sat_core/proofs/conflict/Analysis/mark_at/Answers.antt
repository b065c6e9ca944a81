use Rattle.std.proofs.Common.{◌≡◌, ◌<◌, false, slice_get, slice_index_or, length, Some, None, sym, ap, subst, ◌∙◌, arith}
use Rattle.std.proofs.lemmas.Option.{slice_get-get_or}
use Rattle.std.proofs.lemmas.List.{get_or_default}
use Rattle.sat_core.specs.declared.entry.Entry.{Entry}
use Rattle.sat_core.specs.Analysing.{Found, IsCounted}
use Rattle.sat_core.proofs.ConflictCountLemmas.{mark-last, mark-other}
use Rattle.sat_core.proofs.conflict.Analysis.mark_at.Goals as goal

none : Entry
none = record { lit = record { 0 = 0 }; decision = 0; reason = None }

pub overflow_add-self : goal.overflow_add-self
unfolding none
overflow_add-self c =
    let counted = subst (λ (f : Found). IsCounted c.args.trail.now.entries f) (sym c.self.view_is) c.requires.counted in
    let found : slice_get c.args.trail.now.entries c.args.place ≡ Some (slice_index_or c.entries.result.now c.args.place none)
    = rw c.entries.ensures.entries (slice_get-get_or c.args.trail.now.entries c.args.place none c.requires.place) in
    let within : c.args.place < length c.self.inside.marks.items = omega (arith, counted.each, c.requires.place) in
    let off : slice_index_or c.self.inside.marks.items c.args.place false ≡ false
    = get_or_default c.self.inside.marks.items c.args.place false c.index.result.now within ∙ sym c.index.ensures ∙ c.if-not-index.true in
    let below = (mark-last c.args.trail.now.entries _ c.args.place _ found counted off c.if-entries-place.true).0 in
    let few : length c.args.trail.now.entries ≡ length c.entries.result.now = ap length (sym c.entries.ensures.entries) in
    omega (arith, below, few, c.entries.type_inv.0)

pub returns-then-entries-place-clause-counted : goal.returns-then-entries-place-clause-counted
unfolding none
returns-then-entries-place-clause-counted c =
    let counted = subst (λ (f : Found). IsCounted c.args.trail.now.entries f) (sym c.self.view_is) c.requires.counted in
    let found : slice_get c.args.trail.now.entries c.args.place ≡ Some (slice_index_or c.entries.result.now c.args.place none)
    = rw c.entries.ensures.entries (slice_get-get_or c.args.trail.now.entries c.args.place none c.requires.place) in
    let within : c.args.place < length c.self.inside.marks.items = omega (arith, counted.each, c.requires.place) in
    let off : slice_index_or c.self.inside.marks.items c.args.place false ≡ false
    = get_or_default c.self.inside.marks.items c.args.place false c.index.result.now within ∙ sym c.index.ensures ∙ c.if-not-index.true in
    rw c.min-self-inside.ensures ((mark-last c.args.trail.now.entries _ c.args.place _ found counted off c.if-entries-place.true).1)

pub returns-else-entries-place-clause-counted : goal.returns-else-entries-place-clause-counted
unfolding none
returns-else-entries-place-clause-counted c =
    let counted = subst (λ (f : Found). IsCounted c.args.trail.now.entries f) (sym c.self.view_is) c.requires.counted in
    let found : slice_get c.args.trail.now.entries c.args.place ≡ Some (slice_index_or c.entries.result.now c.args.place none)
    = rw c.entries.ensures.entries (slice_get-get_or c.args.trail.now.entries c.args.place none c.requires.place) in
    let within : c.args.place < length c.self.inside.marks.items = omega (arith, counted.each, c.requires.place) in
    let off : slice_index_or c.self.inside.marks.items c.args.place false ≡ false
    = get_or_default c.self.inside.marks.items c.args.place false c.index.result.now within ∙ sym c.index.ensures ∙ c.if-not-index.true in
    rw c.min-self-inside.ensures (mark-other c.args.trail.now.entries _ c.args.place _ found counted off c.if-entries-place.false)
