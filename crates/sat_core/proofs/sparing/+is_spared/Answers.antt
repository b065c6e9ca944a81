use Rattle.std.proofs.Common.{◌≡◌, None, Some, slice_get, slice_index_or, arith}
use Rattle.std.proofs.lemmas.Option.{slice_get-get_or, slice_get_within}
use Rattle.sat_proof.specs.Refutations.{held_with}
use Rattle.sat_core.specs.declared.entry.Entry.{Entry}
use Rattle.sat_core.proofs.ConflictStepLemmas.{reason-known}
use Rattle.sat_core.proofs.SparingLemmas.{other-denied}
use Rattle.sat_core.proofs.sparing.+is_spared.Goals as goal

none : Entry
none = record { lit = record { 0 = 0 }; decision = 0; reason = None }

pub held_clause-lit-items-requires : goal.held_clause-lit-items-requires
unfolding none
held_clause-lit-items-requires t c =
    let found : slice_get c.args.trail.now.entries c.args.place ≡ Some (slice_index_or c.entries.result.now c.args.place none)
    = rw c.entries.ensures.entries (slice_get-get_or c.args.trail.now.entries c.args.place none c.requires.place) in
    reason-known c.args.trail.now.vars (held_with c.args.clauses.now.list c.args.steps.now) c.args.trail.now.entries c.requires.trail c.args.place _ found c.in-Some.reason c.in-Some.is

pub place_of-other-requires : goal.place_of-other-requires
unfolding none
place_of-other-requires t c =
    let entry : Entry = slice_index_or c.entries.result.now c.args.place none in
    let found : slice_get c.args.trail.now.entries c.args.place ≡ Some entry
    = rw c.entries.ensures.entries (slice_get-get_or c.args.trail.now.entries c.args.place none c.requires.place) in
    rw c.negation.ensures (
    other-denied c.args.trail.now.vars (held_with c.args.clauses.now.list c.args.steps.now) c.args.trail.now.entries c.requires.trail c.args.place entry found c.in-Some.reason c.in-Some.is
    c.held_clause-lit-items.result.now c.held_clause-lit-items.ensures.clause c.loop-lit.lit-index (record { 0 = 0 }) c.loop-lit-test.true c.if-ne.ensures
    )

pub is_found-requires : goal.is_found-requires
is_found-requires t c =
    let (entry, found, is) = c.place_of-other.ensures in
    slice_get_within c.args.trail.now.entries c.place_of-other.result entry found

pub is_spared-requires : goal.is_spared-requires
is_spared-requires t c =
    let (entry, found, is) = c.place_of-other.ensures in
    (omega (arith, c.decreases, c.if-reasons-eq0.false), (slice_get_within c.args.trail.now.entries c.place_of-other.result entry found, c.requires.trail))
