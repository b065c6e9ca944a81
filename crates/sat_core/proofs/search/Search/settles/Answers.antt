use Rattle.std.proofs.Common.{Contains, ap, subst, ◌∙◌}
use Rattle.sat_core.proofs.PropagationLemmas.{clause-within, grows-put-at, search-put-at}
use Rattle.sat_core.proofs.SettleLemmas.{settled-by, settled-put, settled-unit}
use Rattle.sat_core.proofs.search.Search.settles.Goals as goal

pub value-requires : goal.value-requires
value-requires c =
    let req = rw (← c.self.view_is) at c.requires in
    let has = subst (λ l. Contains l c.in-Some.lit) (rw (← c.self.view_is) at c.clause.ensures) c.in-Some.ensures in
    let within = clause-within _ c.args.number c.in-Some.lit c.self.invariant.1 req.number has in
    rw c.self.invariant.0 within

pub imply-requires-clause-within : goal.imply-requires-clause-within
imply-requires-clause-within c =
    let req = rw (← c.self.view_is) at c.requires in
    let has = subst (λ l. Contains l c.in-Some.lit) (rw (← c.self.view_is) at c.clause.ensures) c.in-Some.ensures in
    let within = clause-within _ c.args.number c.in-Some.lit c.self.invariant.1 req.number has in
    rw c.self.invariant.0 within

pub invariant_of-self : goal.invariant_of-self
invariant_of-self c =
    let req = rw (← c.self.view_is) at c.requires in
    let has = subst (λ l. Contains l c.in-Some.lit) (rw (← c.self.view_is) at c.clause.ensures) c.in-Some.ensures in
    let within = clause-within _ c.args.number c.in-Some.lit c.self.invariant.1 req.number has in
    let unit = settled-unit _ c.self.invariant.1 req.begun c.args.number req.number req.single c.in-Some.lit has c.in-None.ensures in
    let put = search-put-at _ c.self.invariant.1 req.fresh c.in-Some.lit c.args.number within req.number unit c.imply.new.self.entries (ap (λ t. t.entries) c.imply.ensures) in
    (ap (λ t. t.vars) c.imply.ensures ∙ c.self.invariant.0, put)

pub returns-in-Some-value-clause-settled : goal.returns-in-Some-value-clause-settled
returns-in-Some-value-clause-settled c =
    let req = rw (← c.self.view_is) at c.requires in
    let has = subst (λ l. Contains l c.in-Some.lit) (rw (← c.self.view_is) at c.clause.ensures) c.in-Some.ensures in
    rw (← c.self.view_is) (settled-by _ c.self.invariant.1 req.begun c.args.number req.number req.single c.in-Some.lit has c.in-Some-value.is_true c.in-Some-value.ensures)

pub returns-in-None-clause-grows : goal.returns-in-None-clause-grows
returns-in-None-clause-grows c =
    let req = rw (← c.self.view_is) at c.requires in
    let has = subst (λ l. Contains l c.in-Some.lit) (rw (← c.self.view_is) at c.clause.ensures) c.in-Some.ensures in
    let within = clause-within _ c.args.number c.in-Some.lit c.self.invariant.1 req.number has in
    let unit = settled-unit _ c.self.invariant.1 req.begun c.args.number req.number req.single c.in-Some.lit has c.in-None.ensures in
    let put = grows-put-at _ c.self.invariant.1 req.fresh c.in-Some.lit c.args.number within req.number unit c.imply.new.self.entries (ap (λ t. t.entries) c.imply.ensures) in
    rw (← c.self.view_is) put

pub returns-in-None-clause-settled : goal.returns-in-None-clause-settled
returns-in-None-clause-settled c =
    let req = rw (← c.self.view_is) at c.requires in
    let has = subst (λ l. Contains l c.in-Some.lit) (rw (← c.self.view_is) at c.clause.ensures) c.in-Some.ensures in
    settled-put _ c.self.invariant.1 req.begun c.args.number req.number req.single c.in-Some.lit has c.imply.new.self.entries (ap (λ t. t.entries) c.imply.ensures)
