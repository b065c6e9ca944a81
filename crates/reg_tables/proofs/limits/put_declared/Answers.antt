use Rattle.std.proofs.Common.{[], ◌∷◌, ◌++◌, map, ap, subst, take, ◌∙◌, arith}
use Rattle.std.proofs.lemmas.List.{length-map, take_all}
use Rattle.reg_forms.specs.declared.forms.Declaration.{Declaration}
use Rattle.reg_tables.specs.Bits.{Atom}
use Rattle.reg_tables.specs.Counts.{IsCounted}
use Rattle.reg_tables.proofs.CountLemmas.{few-put, next-named, past-put}
use Rattle.reg_tables.proofs.limits.put_declared.Goals as goal

pub returns-then-declarations-le-MOST_NAMES : goal.returns-then-declarations-le-MOST_NAMES
returns-then-declarations-le-MOST_NAMES c =
    let count = length-map c.args.declarations.now (λ (d : Declaration). let one : Atom = (d.place, d.name) in one) in
    few-put c.args.faults.now.items (map (λ d. (d.place, d.name)) c.args.declarations.now) (omega arith)

pub loop-declaration-preserved : goal.loop-declaration-preserved
loop-declaration-preserved c =
    subst (λ named. IsCounted named c.put.new.self.names c.put.new.self.past)
    (ap (λ name. map (λ d. (d.place, d.name)) (take c.loop-declaration.declaration-index c.args.declarations.now) ++ (c.declaration-item.result.place, name) ∷ []) c.as_slice.ensures
    ∙ next-named (λ d. (d.place, d.name)) [] c.args.declarations.now c.loop-declaration.declaration-index c.declaration-item.result c.loop-declaration-test.true c.declaration-item.is)
    (c.in_ok-put.ensures _ c.loop-declaration.invariant)

pub returns : goal.returns
returns c =
    past-put c.put_past.result c.args.faults.now.items c.put_past.new.faults.items _ _ c.loop-declaration.counted.names c.loop-declaration.counted.past
    (ap (map (λ (d : Declaration). let one : Atom = (d.place, d.name) in one)) (take_all c.loop-declaration.declaration-index c.args.declarations.now c.loop-declaration-test.false))
    c.loop-declaration.invariant c.put_past.ensures
