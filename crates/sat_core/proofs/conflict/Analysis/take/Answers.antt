use Rattle.std.proofs.Common.{◌≡◌, true, sym, ap, subst, ◌∙◌, arith}
use Rattle.sat_core.specs.Analysing.{Found, IsCounted, IsMarked, weight_of}
use Rattle.sat_core.proofs.ConflictCountLemmas.{unmark-last, unmark-other, weight-one}
use Rattle.sat_core.proofs.conflict.Analysis.take.Goals as goal

pub overflow_sub-self : goal.overflow_sub-self
overflow_sub-self c =
    let counted = subst (λ (f : Found). IsCounted c.args.trail.now.entries f) (sym c.self.view_is) c.requires.counted in
    let marked = subst (λ (f : Found). IsMarked f.marks c.args.place) (sym c.self.view_is) c.requires.marked in
    let some = (unmark-last c.args.trail.now.entries _ c.args.place c.args.entry c.requires.entry counted marked c.if-entry-self.true).0 in
    omega (arith, some)

pub returns-then-entry-self-clause-counted : goal.returns-then-entry-self-clause-counted
returns-then-entry-self-clause-counted c =
    let counted = subst (λ (f : Found). IsCounted c.args.trail.now.entries f) (sym c.self.view_is) c.requires.counted in
    let marked = subst (λ (f : Found). IsMarked f.marks c.args.place) (sym c.self.view_is) c.requires.marked in
    (unmark-last c.args.trail.now.entries _ c.args.place c.args.entry c.requires.entry counted marked c.if-entry-self.true).1

pub returns-then-entry-self-clause-pending : goal.returns-then-entry-self-clause-pending
returns-then-entry-self-clause-pending c =
    let counted = subst (λ (f : Found). IsCounted c.args.trail.now.entries f) (sym c.self.view_is) c.requires.counted in
    let marked = subst (λ (f : Found). IsMarked f.marks c.args.place) (sym c.self.view_is) c.requires.marked in
    let some = (unmark-last c.args.trail.now.entries _ c.args.place c.args.entry c.requires.entry counted marked c.if-entry-self.true).0 in
    let one : weight_of c.args.self.now.last c.args.entry true ≡ 1
    = weight-one c.args.self.now.last c.args.entry (c.if-entry-self.true ∙ ap (λ (f : Found). f.last) c.self.view_is) in
    let was = ap (λ (f : Found). f.pending) c.self.view_is in
    omega (arith, some, one, was)

pub returns-else-entry-self-clause-counted : goal.returns-else-entry-self-clause-counted
returns-else-entry-self-clause-counted c =
    let counted = subst (λ (f : Found). IsCounted c.args.trail.now.entries f) (sym c.self.view_is) c.requires.counted in
    let marked = subst (λ (f : Found). IsMarked f.marks c.args.place) (sym c.self.view_is) c.requires.marked in
    unmark-other c.args.trail.now.entries _ c.args.place c.args.entry c.requires.entry counted marked c.if-entry-self.false
