use Rattle.std.proofs.Common.{◌≡◌, ◌<◌, ◌∷◌, ◌++◌, [], length, take, Some, None, option_map, append-nil, sym, ap, ◌∙◌, arith}
use Rattle.std.specs.List.{cons_option, filter_map}
use Rattle.vkb_formula.specs.Names.{place_of}
use Rattle.reg_registry.specs.Rows.{id_at, id_of}
use Rattle.reg_rows.proofs.ListingLemmas.{filter_map-more}
use Rattle.reg_rows.proofs.building.declared.extended.Goals as goal
use Rattle.reg_rows.proofs.building.declared.extended.Goals.{in-Some+in_ok-push, in_default}

pub loop-text-preserved : goal.loop-text-preserved
loop-text-preserved c =
    let names = c.args.names.now in
    let texts = c.args.texts.now in
    let i = c.loop-text.text-index in
    let text = c.text-item.result in
    let within : i < length texts = omega arith in
    let more = filter_map-more (id_of names) texts i text within c.text-item.is in
    elim c.match-find.branch [
      | in-Some+in_ok-push w ↦
          let one : id_of names text ≡ Some w.in-Some.id = ap (option_map id_at) (ap (λ n. place_of n names) (sym c.as_slice.ensures) ∙ sym w.in-Some.ensures.place) in
          ap (λ v. v.items) w.ids-is ∙ w.in_ok-push.ensures.items ∙ ap (λ front. front ++ w.in-Some.id ∷ []) c.loop-text.invariant
          ∙ ap (λ o. filter_map (id_of names) (take i texts) ++ cons_option o []) (sym one) ∙ sym more
      | in_default w ↦
          let none : id_of names text ≡ None = ap (option_map id_at) (ap (λ n. place_of n names) (sym c.as_slice.ensures) ∙ sym w.in_default.ensures.place) in
          ap (λ v. v.items) w.ids-is ∙ c.loop-text.invariant ∙ sym (append-nil (filter_map (id_of names) (take i texts)))
          ∙ ap (λ o. filter_map (id_of names) (take i texts) ++ cons_option o []) (sym none) ∙ sym more
    ]
