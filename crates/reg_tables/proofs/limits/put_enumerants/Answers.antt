use Rattle.std.proofs.Common.{[], ◌∷◌, ◌++◌, map, ap, subst, take, ◌∙◌, arith}
use Rattle.std.proofs.lemmas.List.{length-map, take_all}
use Rattle.reg_forms.specs.declared.forms.EnumForm.{EnumForm}
use Rattle.reg_tables.specs.Bits.{Atom}
use Rattle.reg_tables.specs.Counts.{IsCounted}
use Rattle.reg_tables.proofs.CountLemmas.{few-put, next-named, past-put}
use Rattle.reg_tables.proofs.limits.put_enumerants.Goals as goal

pub returns-then-enumerants-le-MOST_NAMES : goal.returns-then-enumerants-le-MOST_NAMES
returns-then-enumerants-le-MOST_NAMES c =
    let count = length-map c.args.enumerants.now (λ (e : EnumForm). let one : Atom = (e.place, e.name) in one) in
    few-put c.args.faults.now.items (map (λ e. (e.place, e.name)) c.args.enumerants.now) (omega arith)

pub loop-enumerant-preserved : goal.loop-enumerant-preserved
loop-enumerant-preserved c =
    subst (λ named. IsCounted named c.put.new.self.names c.put.new.self.past)
    (ap (λ name. map (λ e. (e.place, e.name)) (take c.loop-enumerant.enumerant-index c.args.enumerants.now) ++ (c.enumerant-item.result.place, name) ∷ []) c.as_slice.ensures
    ∙ next-named (λ e. (e.place, e.name)) [] c.args.enumerants.now c.loop-enumerant.enumerant-index c.enumerant-item.result c.loop-enumerant-test.true c.enumerant-item.is)
    (c.in_ok-put.ensures _ c.loop-enumerant.invariant)

pub returns : goal.returns
returns c =
    past-put c.put_past.result c.args.faults.now.items c.put_past.new.faults.items _ _ c.loop-enumerant.counted.names c.loop-enumerant.counted.past
    (ap (map (λ (e : EnumForm). let one : Atom = (e.place, e.name) in one)) (take_all c.loop-enumerant.enumerant-index c.args.enumerants.now c.loop-enumerant-test.false))
    c.loop-enumerant.invariant c.put_past.ensures
