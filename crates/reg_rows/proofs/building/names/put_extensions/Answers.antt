use Rattle.std.proofs.Common.{◌+◌, ◌∷◌, cond, drop, filter, is_none, map, refl, sym, ap, ◌∙◌}
use Rattle.vkb_formula.specs.Names.{most_names}
use Rattle.reg_rows.specs.BuiltParts.{with_names}
use Rattle.reg_rows.proofs.OptionLemmas.{none_is}
use Rattle.reg_rows.proofs.WithNamesLemmas.{put-last, put-next, room-next, skip-next}
use Rattle.reg_rows.proofs.building.names.put_extensions.Goals as goal
use Rattle.reg_rows.proofs.building.names.put_extensions.Goals.{then-is_none+in_ok-put_name, else-is_none}

pub put_name-requires : goal.put_name-requires
put_name-requires c =
    let more = filter (λ o. is_none o.version) (drop (c.loop-option.option-index + 1) c.args.forms.now.options) in
    room-next (λ os. map (λ o. o.name) (filter (λ o. is_none o.version) os)) c.args.forms.now.options _ c.as_slice-option-items.ensures _ _ _ c.loop-option.invariant _ c.loop-option-test.true c.option-item.is
    _ (ap (λ b. map (λ o. o.name) (cond b (c.option-item.result ∷ more) more)) (none_is _ _ c.is_none.ensures ∙ c.if-is_none.true) ∙ ap (λ name. name ∷ map (λ o. o.name) more) (sym c.as_slice.ensures)) most_names c.requires

pub loop-option-preserved : goal.loop-option-preserved
loop-option-preserved c =
    let rest = drop (c.loop-option.option-index + 1) c.args.forms.now.options in
    let more = filter (λ o. is_none o.version) rest in
    elim c.if-is_none.branch [
      | then-is_none+in_ok-put_name w ↦
          ap (λ names. with_names names (map (λ o. o.name) more)) (w.names-is ∙ w.in_ok-put_name.ensures)
          ∙ put-next (λ os. map (λ o. o.name) (filter (λ o. is_none o.version) os)) c.args.forms.now.options _ c.as_slice-option-items.ensures _ _ _ c.loop-option.invariant _ c.loop-option-test.true c.option-item.is
          _ (ap (λ b. map (λ o. o.name) (cond b (c.option-item.result ∷ more) more)) (none_is _ _ c.is_none.ensures ∙ w.if-is_none.true) ∙ ap (λ name. name ∷ map (λ o. o.name) more) (sym w.as_slice.ensures))
      | else-is_none w ↦
          ap (λ names. with_names names (map (λ o. o.name) more)) w.names-is
          ∙ skip-next (λ os. map (λ o. o.name) (filter (λ o. is_none o.version) os)) c.args.forms.now.options _ c.as_slice-option-items.ensures _ _ _ c.loop-option.invariant _ c.loop-option-test.true c.option-item.is
          (ap (λ b. map (λ o. o.name) (cond b (c.option-item.result ∷ more) more)) (none_is _ _ c.is_none.ensures ∙ w.if-is_none.false))
    ]

pub returns : goal.returns
returns c = put-last (λ os. map (λ o. o.name) (filter (λ o. is_none o.version) os)) c.args.forms.now.options _ c.as_slice-option-items.ensures _ _ _ c.loop-option.invariant c.loop-option-test.false refl
