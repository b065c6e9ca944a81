use Rattle.std.proofs.Common.{◌≡◌, ◌<◌, true, length, sym, subst, ◌∙◌, arith}
use Rattle.reg_closure.specs.Closure.{IsClosure, is_root}
use Rattle.reg_closure.proofs.ClosingLemmas.{closing-begin, closing-end, closing-few, closing-more, closing-within}
use Rattle.reg_closure.proofs.closing.closure.Goals as goal

pub loop-name-init : goal.loop-name-init
loop-name-init c =
    let m = c.in_ok-marking.ensures in
    let blocks = c.args.r.now.blocks in
    closing-begin c.args.r.now c.args.c.now.chosen.items c.in_ok-marking.marking m.marking m.count
    (λ place i. let o = m.only place i in (o.0, subst (λ chosen. is_root blocks chosen place ≡ true) c.as_slice.ensures.value o.1))
    (λ place l e. m.all place l (subst (λ chosen. is_root blocks chosen place ≡ true) (sym c.as_slice.ensures.value) e))

pub mark_named-requires-clause-within : goal.mark_named-requires-clause-within
mark_named-requires-clause-within c =
    closing-within c.args.r.now c.args.c.now.chosen.items c.loop-name.marking c.loop-name.place c.in-Some.name c.loop-name.invariant (sym c.name.ensures ∙ c.in-Some.is)

pub overflow_add-place : goal.overflow_add-place
overflow_add-place c =
    let few : c.loop-name.place < length c.loop-name.marking.marked =
    closing-few c.args.r.now c.args.c.now.chosen.items c.loop-name.marking c.loop-name.place c.in-Some.name c.loop-name.invariant (sym c.name.ensures ∙ c.in-Some.is) in
    omega (arith, few, c.loop-name.invariant.count, c.is_sound.ensures.names_few)

pub loop-name-smaller : goal.loop-name-smaller
loop-name-smaller c =
    let few : c.loop-name.place < length c.loop-name.marking.marked =
    closing-few c.args.r.now c.args.c.now.chosen.items c.loop-name.marking c.loop-name.place c.in-Some.name c.loop-name.invariant (sym c.name.ensures ∙ c.in-Some.is) in
    omega (arith, few, c.in_ok-mark_named.ensures.count)

pub loop-name-preserved : goal.loop-name-preserved
loop-name-preserved c =
    closing-more c.args.r.now c.args.c.now.chosen.items c.loop-name.marking c.mark_named.new.self c.loop-name.place c.in-Some.name c.loop-name.invariant (sym c.name.ensures ∙ c.in-Some.is)
    c.in_ok-mark_named.ensures

pub returns : goal.returns
returns c =
    subst (IsClosure c.args.r.now c.args.c.now.chosen.items) (sym c.into_set.ensures)
    (closing-end c.args.r.now c.args.c.now.chosen.items c.loop-name.marking c.loop-name.place c.loop-name.invariant (sym c.name.ensures ∙ c.in_default.is))
