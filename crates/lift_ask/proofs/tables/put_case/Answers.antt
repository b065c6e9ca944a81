use Rattle.std.proofs.Common.{◌++◌, ◌∷◌, [], map, set, sym, ap, ◌∙◌}
use Rattle.std.proofs.lemmas.List.{get_or-map, map-set}
use Rattle.lift_ask.proofs.tables.put_case.Goals as goal

pub returns : goal.returns
returns c =
    map-set (λ list. list.items) c.args.table.now.items c.args.case.id.0 c.push.new.self
    ∙ ap (set (map (λ list. list.items) c.args.table.now.items) c.args.case.id.0) (
    c.in_ok-push.ensures.items
    ∙ ap (λ list. list ++ c.args.case.node ∷ []) (sym (get_or-map (λ list. list.items) c.args.table.now.items c.args.case.id.0 c.index_mut.result.now [] c.requires ∙ ap (λ list. list.items) (sym c.index_mut.ensures.value)))
    )
