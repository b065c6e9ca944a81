use Rattle.std.proofs.Common.{◌*◌, ◌<◌, length, ap, refl, ◌∙◌, arith}
use Rattle.sat_core.proofs.VisitLemmas.{IsVisit, false-by, other-within, passed-put, to-within, true-by, undecided-of, untrue-by, visit-grows, visit-keeps, visit-moves, visit-put, visit-puts, visit-stays, visit-strikes, visited-below, visited-has, visited-held}
use Rattle.sat_core.proofs.search.Search.visit.Goals as goal

pub index-requires : goal.index-requires
index-requires c =
    let req = rw (← c.self.view_is) at c.requires in
    let v : IsVisit _ c.args.lit c.args.before c.args.watcher c.clause-number.result =
    record { is = c.self.invariant.1; fresh = req.fresh; comes = req.comes; place = req.place; clause = c.clause-number.ensures } in
    let below : c.clause-number.result < length c.self.inside.pairs.items = visited-below v in
    omega (arith, c.self.inside.pairs.ok, below)

pub other_of-other-requires : goal.other_of-other-requires
other_of-other-requires c =
    let req = rw (← c.self.view_is) at c.requires in
    let v : IsVisit _ c.args.lit c.args.before c.args.watcher c.clause-number.result =
    record { is = c.self.invariant.1; fresh = req.fresh; comes = req.comes; place = req.place; clause = c.clause-number.ensures } in
    visited-has v c.index.result.now c.in-Some.pair c.index.ensures c.in-Some.is

pub value-value-requires : goal.value-value-requires
value-value-requires c =
    let req = rw (← c.self.view_is) at c.requires in
    let v : IsVisit _ c.args.lit c.args.before c.args.watcher c.clause-number.result =
    record { is = c.self.invariant.1; fresh = req.fresh; comes = req.comes; place = req.place; clause = c.clause-number.ensures } in
    let within = other-within v c.index.ensures c.in-Some.is c.other_of-other.ensures in
    rw c.self.invariant.0 within

pub returns-then-eq-clause-visited : goal.returns-then-eq-clause-visited
returns-then-eq-clause-visited c =
    let req = rw (← c.self.view_is) at c.requires in
    let v : IsVisit _ c.args.lit c.args.before c.args.watcher c.clause-number.result =
    record { is = c.self.invariant.1; fresh = req.fresh; comes = req.comes; place = req.place; clause = c.clause-number.ensures } in
    let passed = visit-stays v c.index.ensures c.in-Some.is c.other_of-other.ensures (true-by _ c.other_of-other.result c.value-value.result c.if-eq.ensures c.value-value.ensures) in
    rw (← c.self.view_is) (refl, passed)

pub replacement-requires : goal.replacement-requires
replacement-requires c =
    let req = rw (← c.self.view_is) at c.requires in
    let v : IsVisit _ c.args.lit c.args.before c.args.watcher c.clause-number.result =
    record { is = c.self.invariant.1; fresh = req.fresh; comes = req.comes; place = req.place; clause = c.clause-number.ensures } in
    let below = visited-held v in
    rw (← c.self.view_is) below

pub move_to-requires-clause-to : goal.move_to-requires-clause-to
move_to-requires-clause-to c =
    let req = rw (← c.self.view_is) at c.requires in
    let v : IsVisit _ c.args.lit c.args.before c.args.watcher c.clause-number.result =
    record { is = c.self.invariant.1; fresh = req.fresh; comes = req.comes; place = req.place; clause = c.clause-number.ensures } in
    let free = rw (← c.self.view_is) at c.in-Some-replacement.ensures in
    let within : c.in-Some-replacement.to.0 < 2 * c.self.inside.clauses.now.vars = to-within v c.index.ensures c.in-Some.is c.other_of-other.ensures free in
    omega (arith, within, c.self.invariant.1.watched.heads)

pub invariant_of-self : goal.invariant_of-self
invariant_of-self c =
    let req = rw (← c.self.view_is) at c.requires in
    let v : IsVisit _ c.args.lit c.args.before c.args.watcher c.clause-number.result =
    record { is = c.self.invariant.1; fresh = req.fresh; comes = req.comes; place = req.place; clause = c.clause-number.ensures } in
    let free = rw (← c.self.view_is) at c.in-Some-replacement.ensures in
    let moved = visit-moves v c.index.ensures c.in-Some.is c.other_of-other.ensures free c.move_to.new.self c.move_to.ensures.moved in
    (c.self.invariant.0, moved)

pub returns-in-Some-replacement-clause-watched : goal.returns-in-Some-replacement-clause-watched
returns-in-Some-replacement-clause-watched c =
    let req = rw (← c.self.view_is) at c.requires in
    let v : IsVisit _ c.args.lit c.args.before c.args.watcher c.clause-number.result =
    record { is = c.self.invariant.1; fresh = req.fresh; comes = req.comes; place = req.place; clause = c.clause-number.ensures } in
    let free = rw (← c.self.view_is) at c.in-Some-replacement.ensures in
    let moved = visit-moves v c.index.ensures c.in-Some.is c.other_of-other.ensures free c.move_to.new.self c.move_to.ensures.moved in
    moved.watched

pub returns-in-Some-replacement-clause-keeps : goal.returns-in-Some-replacement-clause-keeps
returns-in-Some-replacement-clause-keeps c =
    let req = rw (← c.self.view_is) at c.requires in
    let v : IsVisit _ c.args.lit c.args.before c.args.watcher c.clause-number.result =
    record { is = c.self.invariant.1; fresh = req.fresh; comes = req.comes; place = req.place; clause = c.clause-number.ensures } in
    let free = rw (← c.self.view_is) at c.in-Some-replacement.ensures in
    let keeps = visit-keeps v c.index.ensures c.in-Some.is c.other_of-other.ensures free (untrue-by _ c.other_of-other.result c.value-value.result c.if-eq.ensures c.value-value.ensures) in
    rw (← c.self.view_is) keeps

pub returns-in-Some-value-clause-visited : goal.returns-in-Some-value-clause-visited
returns-in-Some-value-clause-visited c =
    let req = rw (← c.self.view_is) at c.requires in
    let v : IsVisit _ c.args.lit c.args.before c.args.watcher c.clause-number.result =
    record { is = c.self.invariant.1; fresh = req.fresh; comes = req.comes; place = req.place; clause = c.clause-number.ensures } in
    let all = rw (← c.self.view_is) at c.in_default-replacement.ensures in
    let struck = visit-strikes v c.index.ensures c.in-Some.is c.other_of-other.ensures all (false-by _ c.other_of-other.result c.value-value.result c.in-Some-value.field-0 c.in-Some-value.is c.if-eq.ensures c.value-value.ensures) in
    rw (← c.self.view_is) struck

pub imply-requires-clause-within : goal.imply-requires-clause-within
imply-requires-clause-within c =
    let req = rw (← c.self.view_is) at c.requires in
    let v : IsVisit _ c.args.lit c.args.before c.args.watcher c.clause-number.result =
    record { is = c.self.invariant.1; fresh = req.fresh; comes = req.comes; place = req.place; clause = c.clause-number.ensures } in
    let within = other-within v c.index.ensures c.in-Some.is c.other_of-other.ensures in
    rw c.self.invariant.0 within

pub invariant_of-self-in-None : goal.invariant_of-self-in-None
invariant_of-self-in-None c =
    let req = rw (← c.self.view_is) at c.requires in
    let v : IsVisit _ c.args.lit c.args.before c.args.watcher c.clause-number.result =
    record { is = c.self.invariant.1; fresh = req.fresh; comes = req.comes; place = req.place; clause = c.clause-number.ensures } in
    let all = rw (← c.self.view_is) at c.in_default-replacement.ensures in
    let put = visit-puts v c.index.ensures c.in-Some.is c.other_of-other.ensures all (undecided-of _ c.other_of-other.result c.value-value.result c.in-None.is c.value-value.ensures) c.imply.new.self.entries (ap (λ t. t.entries) c.imply.ensures) in
    (ap (λ t. t.vars) c.imply.ensures ∙ c.self.invariant.0, put)

pub returns-in-None-clause-grows : goal.returns-in-None-clause-grows
returns-in-None-clause-grows c =
    let req = rw (← c.self.view_is) at c.requires in
    let v : IsVisit _ c.args.lit c.args.before c.args.watcher c.clause-number.result =
    record { is = c.self.invariant.1; fresh = req.fresh; comes = req.comes; place = req.place; clause = c.clause-number.ensures } in
    let all = rw (← c.self.view_is) at c.in_default-replacement.ensures in
    let grows = visit-grows v c.index.ensures c.in-Some.is c.other_of-other.ensures all (undecided-of _ c.other_of-other.result c.value-value.result c.in-None.is c.value-value.ensures) c.imply.new.self.entries (ap (λ t. t.entries) c.imply.ensures) in
    rw (← c.self.view_is) grows

pub returns-in-None-clause-watched : goal.returns-in-None-clause-watched
returns-in-None-clause-watched c =
    let req = rw (← c.self.view_is) at c.requires in
    let v : IsVisit _ c.args.lit c.args.before c.args.watcher c.clause-number.result =
    record { is = c.self.invariant.1; fresh = req.fresh; comes = req.comes; place = req.place; clause = c.clause-number.ensures } in
    let all = rw (← c.self.view_is) at c.in_default-replacement.ensures in
    let put = visit-puts v c.index.ensures c.in-Some.is c.other_of-other.ensures all (undecided-of _ c.other_of-other.result c.value-value.result c.in-None.is c.value-value.ensures) c.imply.new.self.entries (ap (λ t. t.entries) c.imply.ensures) in
    put.watched

pub returns-in-None-clause-keeps : goal.returns-in-None-clause-keeps
returns-in-None-clause-keeps c =
    rw (← c.self.view_is) (passed-put _ c.self.invariant.1 c.args.lit c.imply.new.self.entries _ (ap (λ t. t.entries) c.imply.ensures))

pub returns-in-None-clause-visited : goal.returns-in-None-clause-visited
returns-in-None-clause-visited c =
    let req = rw (← c.self.view_is) at c.requires in
    let v : IsVisit _ c.args.lit c.args.before c.args.watcher c.clause-number.result =
    record { is = c.self.invariant.1; fresh = req.fresh; comes = req.comes; place = req.place; clause = c.clause-number.ensures } in
    let put = visit-put v c.index.ensures c.in-Some.is c.other_of-other.ensures c.imply.new.self.entries (ap (λ t. t.entries) c.imply.ensures) in
    rw (← c.self.view_is) (refl, put)
