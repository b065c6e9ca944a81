use Rattle.std.proofs.Common.{◌≡◌, ◌<◌, false, length, Option, Some, None, slice_get, slice_index_or, All, ◌⊎◌, refl, sym, ap, subst, ◌∙◌, arith}
use Rattle.std.proofs.lemmas.List.{get_or_default}
use Rattle.std.proofs.lemmas.Option.{slice_get-get_or}
use Rattle.std.proofs.lemmas.Result.{on_ok_weaker}
use Rattle.sat_cnf.specs.declared.lit.Lit.{Lit}
use Rattle.sat_proof.specs.Propagation.{IsFalse}
use Rattle.sat_proof.specs.Refutations.{held_with}
use Rattle.sat_core.specs.declared.entry.Entry.{Entry}
use Rattle.sat_core.specs.Analysing.{Found, IsMarked, Marks}
use Rattle.sat_core.specs.Trails.{lits_of}
use Rattle.sat_core.proofs.ConflictLemmas.{analysed-skip}
use Rattle.sat_core.proofs.ConflictStepLemmas.{keep-step, reason-denied, reason-known, resolve-step}
use Rattle.sat_core.proofs.conflict.Analysis.look_at.Goals as goal

none : Entry
none = record { lit = record { 0 = 0 }; decision = 0; reason = None }

pub returns-then-not-index : goal.returns-then-not-index
returns-then-not-index c =
    let within : c.args.place < length c.args.self.now.marks = omega (arith, c.requires.behind.counted.each, c.requires.place) in
    let marks = ap (λ (f : Found). f.marks) c.self.view_is in
    let here : slice_index_or c.args.self.now.marks c.args.place false ≡ false
    = get_or_default c.args.self.now.marks c.args.place false c.index.result.now within
    ∙ ap (λ ms. slice_index_or ms c.args.place c.index.result.now) (sym marks) ∙ sym c.index.ensures ∙ c.if-not-index.true in
    analysed-skip c.args.trail.now.vars (held_with c.args.clauses.now.list c.args.steps.now) c.args.trail.now.entries c.requires.trail c.args.place c.args.self.now
    c.requires.behind (λ m. absurd (cc))

pub take-requires-clause-entry : goal.take-requires-clause-entry
unfolding none
take-requires-clause-entry c = rw c.entries.ensures.entries (slice_get-get_or c.args.trail.now.entries c.args.place none c.requires.place)

pub held_clause-requires : goal.held_clause-requires
unfolding none
held_clause-requires c =
    let found : slice_get c.args.trail.now.entries c.args.place ≡ Some (slice_index_or c.entries.result.now c.args.place none)
    = rw c.entries.ensures.entries (slice_get-get_or c.args.trail.now.entries c.args.place none c.requires.place) in
    reason-known c.args.trail.now.vars (held_with c.args.clauses.now.list c.args.steps.now) c.args.trail.now.entries c.requires.trail c.args.place _ found
    c.in-Some.reason (c.in-Some.ensures.some c.in-Some.reason refl)

pub resolve-requires-clause-denied : goal.resolve-requires-clause-denied
unfolding none
resolve-requires-clause-denied c =
    let found : slice_get c.args.trail.now.entries c.args.place ≡ Some (slice_index_or c.entries.result.now c.args.place none)
    = rw c.entries.ensures.entries (slice_get-get_or c.args.trail.now.entries c.args.place none c.requires.place) in
    subst (All (λ lit. ◌≡◌ {A = Option Lit} (Some (slice_index_or c.entries.result.now c.args.place none).lit) (Some lit) ⊎ IsFalse (lits_of c.args.trail.now.entries) lit))
    (sym c.held_clause.ensures.clause)
    (reason-denied c.args.trail.now.vars (held_with c.args.clauses.now.list c.args.steps.now) c.args.trail.now.entries c.requires.trail c.args.place _ found
    c.in-Some.reason (c.in-Some.ensures.some c.in-Some.reason refl))

pub returns-in-Some : goal.returns-in-Some
unfolding none
returns-in-Some c =
    let held = held_with c.args.clauses.now.list c.args.steps.now in
    let entries = c.args.trail.now.entries in
    let entry : Entry = slice_index_or c.entries.result.now c.args.place none in
    let found : slice_get entries c.args.place ≡ Some entry
    = rw c.entries.ensures.entries (slice_get-get_or entries c.args.place none c.requires.place) in
    let within : c.args.place < length c.args.self.now.marks = omega (arith, c.requires.behind.counted.each, c.requires.place) in
    let marks = ap (λ (f : Found). f.marks) c.self.view_is in
    let marked : IsMarked c.args.self.now.marks c.args.place
    = get_or_default c.args.self.now.marks c.args.place false c.index.result.now within
    ∙ ap (λ ms. slice_index_or ms c.args.place c.index.result.now) (sym marks) ∙ sym c.index.ensures ∙ c.if-not-index.false in
    on_ok_weaker c.resolve.result
    (λ (m, marks, new).
    rw new (
    resolve-step c.args.trail.now.vars held entries c.requires.trail c.args.place entry found c.args.self.now c.requires.behind marked c.take.new.self
    c.take.ensures.taken c.take.ensures.pending c.in-Some.reason (c.in-Some.ensures.some c.in-Some.reason refl)
    (c.in-Some.ensures.resolves c.in-Some.reason refl) m
    (subst (λ clause. Marks entries clause (Some entry.lit) c.take.new.self m) c.held_clause.ensures.clause marks)
    ))
    c.resolve.ensures

pub returns-in-None : goal.returns-in-None
unfolding none
returns-in-None c =
    let held = held_with c.args.clauses.now.list c.args.steps.now in
    let entries = c.args.trail.now.entries in
    let entry : Entry = slice_index_or c.entries.result.now c.args.place none in
    let found : slice_get entries c.args.place ≡ Some entry
    = rw c.entries.ensures.entries (slice_get-get_or entries c.args.place none c.requires.place) in
    let within : c.args.place < length c.args.self.now.marks = omega (arith, c.requires.behind.counted.each, c.requires.place) in
    let marks = ap (λ (f : Found). f.marks) c.self.view_is in
    let marked : IsMarked c.args.self.now.marks c.args.place
    = get_or_default c.args.self.now.marks c.args.place false c.index.result.now within
    ∙ ap (λ ms. slice_index_or ms c.args.place c.index.result.now) (sym marks) ∙ sym c.index.ensures ∙ c.if-not-index.false in
    on_ok_weaker c.keep.result
    (λ new.
    rw new (
    keep-step c.args.trail.now.vars held entries c.requires.trail c.args.place entry found c.args.self.now c.requires.behind marked c.take.new.self
    c.take.ensures.taken c.take.ensures.pending c.take.ensures.counted (c.in-None.ensures.none refl)
    ))
    c.keep.ensures
