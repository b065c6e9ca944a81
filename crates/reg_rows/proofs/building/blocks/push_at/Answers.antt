use Rattle.std.proofs.Common.{◌++◌, ◌∷◌, [], map, set, sym, ap, ◌∙◌}
use Rattle.std.proofs.lemmas.List.{get_or-map, map-set}
use Rattle.reg_rows.proofs.building.blocks.push_at.Goals as goal

pub returns : goal.returns
returns c =
    map-set (λ list. list.items) c.args.lists.now.items c.args.block c.push.new.self
    ∙ ap (set (map (λ list. list.items) c.args.lists.now.items) c.args.block) (
    c.in_ok-push.ensures.items
    ∙ ap (λ ids. ids ++ c.args.id ∷ []) (sym (get_or-map (λ list. list.items) c.args.lists.now.items c.args.block c.index_mut.result.now [] c.requires ∙ ap (λ list. list.items) (sym c.index_mut.ensures.value)))
    )
