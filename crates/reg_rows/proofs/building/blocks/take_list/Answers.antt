use Rattle.std.proofs.Common.{map, set, ap, ◌∙◌}
use Rattle.std.proofs.lemmas.List.{map-set}
use Rattle.reg_rows.proofs.building.blocks.take_list.Goals as goal

pub returns-clause-others : goal.returns-clause-others
returns-clause-others c =
    map-set (λ list. list.items) c.args.lists.now.items c.args.place c.replace.new.dest
    ∙ ap (set (map (λ list. list.items) c.args.lists.now.items) c.args.place) (ap (λ list. list.items) c.replace.ensures.after ∙ c.new.ensures.items)
