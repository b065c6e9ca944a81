use Rattle.std.proofs.Common.{List, ◌∷◌, [], ◌++◌, ◌+◌, map, ap, sym, subst, take, ◌∙◌, filter, is_some}
use Rattle.std.proofs.lemmas.List.{append-nil, take_all}
use Rattle.reg_forms.specs.declared.forms.OptionForm.{OptionForm}
use Rattle.reg_tables.specs.Counts.{IsCounted}
use Rattle.reg_tables.proofs.CountLemmas.{next-dropped, next-kept}
use Rattle.reg_tables.proofs.limits.count_features.Goals as goal
use Rattle.reg_tables.proofs.limits.count_features.Goals.{then-is_some+in_ok-put, else-is_some}

pub loop-option-init : goal.loop-option-init
loop-option-init c = λ named h. subst (λ all. IsCounted all c.args.counted.now.names c.args.counted.now.past) (sym (append-nil named)) h

pub loop-option-preserved : goal.loop-option-preserved
loop-option-preserved c = λ named h.
    elim c.if-is_some.branch [
      | then-is_some+in_ok-put w ↦
          subst (λ counted. IsCounted (named ++ map (λ o. (o.place, o.name)) (filter (λ o. is_some o.version) (take (c.loop-option.option-index + 1) c.args.options.now))) counted.names counted.past) (sym w.counted-is)
          (subst (λ all. IsCounted all w.put.new.self.names w.put.new.self.past)
          (ap (λ name. (named ++ map (λ o. (o.place, o.name)) (filter (λ o. is_some o.version) (take c.loop-option.option-index c.args.options.now))) ++ (c.option-item.result.place, name) ∷ []) w.as_slice.ensures
          ∙ next-kept (λ o. (o.place, o.name)) named c.args.options.now c.loop-option.option-index c.option-item.result (λ o. is_some o.version) c.loop-option-test.true c.option-item.is
          (sym c.is_some.ensures ∙ w.if-is_some.true))
          (w.in_ok-put.ensures _ (c.loop-option.invariant named h)))
      | else-is_some w ↦
          subst (λ counted. IsCounted (named ++ map (λ o. (o.place, o.name)) (filter (λ o. is_some o.version) (take (c.loop-option.option-index + 1) c.args.options.now))) counted.names counted.past) (sym w.counted-is)
          (subst (λ all. IsCounted all c.loop-option.counted.names c.loop-option.counted.past)
          (next-dropped (λ o. (o.place, o.name)) named c.args.options.now c.loop-option.option-index c.option-item.result (λ o. is_some o.version) c.loop-option-test.true c.option-item.is
          (sym c.is_some.ensures ∙ w.if-is_some.false))
          (c.loop-option.invariant named h))
    ]

pub returns : goal.returns
returns c = λ named h.
    subst (λ (options : List OptionForm). IsCounted (named ++ map (λ o. (o.place, o.name)) (filter (λ o. is_some o.version) options)) c.loop-option.counted.names c.loop-option.counted.past)
    (take_all c.loop-option.option-index c.args.options.now c.loop-option-test.false)
    (c.loop-option.invariant named h)
