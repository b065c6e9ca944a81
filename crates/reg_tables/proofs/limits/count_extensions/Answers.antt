use Rattle.std.proofs.Common.{List, ◌∷◌, [], ◌++◌, ◌+◌, map, ap, sym, subst, take, ◌∙◌, filter, is_none}
use Rattle.std.proofs.lemmas.List.{append-nil, take_all}
use Rattle.reg_forms.specs.declared.forms.OptionForm.{OptionForm}
use Rattle.reg_tables.specs.Counts.{IsCounted}
use Rattle.reg_tables.proofs.CountLemmas.{next-dropped, next-kept, none-is}
use Rattle.reg_tables.proofs.limits.count_extensions.Goals as goal
use Rattle.reg_tables.proofs.limits.count_extensions.Goals.{then-is_none+in_ok-put, else-is_none}

pub loop-option-init : goal.loop-option-init
loop-option-init c = λ named h. subst (λ all. IsCounted all c.args.counted.now.names c.args.counted.now.past) (sym (append-nil named)) h

pub loop-option-preserved : goal.loop-option-preserved
loop-option-preserved c = λ named h.
    elim c.if-is_none.branch [
      | then-is_none+in_ok-put w ↦
          subst (λ counted. IsCounted (named ++ map (λ o. (o.place, o.name)) (filter (λ o. is_none o.version) (take (c.loop-option.option-index + 1) c.args.options.now))) counted.names counted.past) (sym w.counted-is)
          (subst (λ all. IsCounted all w.put.new.self.names w.put.new.self.past)
          (ap (λ name. (named ++ map (λ o. (o.place, o.name)) (filter (λ o. is_none o.version) (take c.loop-option.option-index c.args.options.now))) ++ (c.option-item.result.place, name) ∷ []) w.as_slice.ensures
          ∙ next-kept (λ o. (o.place, o.name)) named c.args.options.now c.loop-option.option-index c.option-item.result (λ o. is_none o.version) c.loop-option-test.true c.option-item.is
          (none-is c.option-item.result.version c.is_none.result c.is_none.ensures ∙ w.if-is_none.true))
          (w.in_ok-put.ensures _ (c.loop-option.invariant named h)))
      | else-is_none w ↦
          subst (λ counted. IsCounted (named ++ map (λ o. (o.place, o.name)) (filter (λ o. is_none o.version) (take (c.loop-option.option-index + 1) c.args.options.now))) counted.names counted.past) (sym w.counted-is)
          (subst (λ all. IsCounted all c.loop-option.counted.names c.loop-option.counted.past)
          (next-dropped (λ o. (o.place, o.name)) named c.args.options.now c.loop-option.option-index c.option-item.result (λ o. is_none o.version) c.loop-option-test.true c.option-item.is
          (none-is c.option-item.result.version c.is_none.result c.is_none.ensures ∙ w.if-is_none.false))
          (c.loop-option.invariant named h))
    ]

pub returns : goal.returns
returns c = λ named h.
    subst (λ (options : List OptionForm). IsCounted (named ++ map (λ o. (o.place, o.name)) (filter (λ o. is_none o.version) options)) c.loop-option.counted.names c.loop-option.counted.past)
    (take_all c.loop-option.option-index c.args.options.now c.loop-option-test.false)
    (c.loop-option.invariant named h)
