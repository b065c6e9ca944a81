use Rattle.std.proofs.Common.{List, length, map, subst, sym}
use Rattle.std.proofs.lemmas.Option.{get_or_from_slice_get, slice_get_within}
use Rattle.vkb_formula.specs.declared.name_table.NameId.{NameId}
use Rattle.reg_closure.specs.Closure.{has_name}
use Rattle.reg_closure.specs.Listed.{PutsUnder, row_lists, row_pairs}
use Rattle.reg_closure.proofs.ListedLemmas.{listed-more}
use Rattle.reg_closure.proofs.listed.namers.Goals as goal

pub loop-name-preserved : goal.loop-name-preserved
loop-name-preserved c =
    let rows = c.args.r.now.rows in
    let i = c.loop-name.name in
    let row = c.row-row.result.now in
    let here = c.row-row.ensures.row in
    let old = map (λ list. list.items) c.loop-name.table.items in
    let new = map (λ list. list.items) c.put_under.new.table.items in
    listed-more row_lists row_pairs (length c.args.r.now.names) rows i row old new
    (sym (get_or_from_slice_get rows i row row here)) (slice_get_within rows i row here) c.loop-name.invariant
    (subst (λ (ids : List NameId). PutsUnder i (has_name ids) (length ids) old new) c.as_slice.ensures c.in_ok-put_under.ensures)
