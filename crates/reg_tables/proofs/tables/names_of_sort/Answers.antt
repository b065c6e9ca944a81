use Rattle.std.proofs.Common.{◌≡◌, ◌<◌, ◌&&◌, length, get_or, sym, ap, ◌∙◌, is_some, arith}
use Rattle.std.specs.List.{list_any}
use Rattle.std.specs.Str.{bytes_eq}
use Rattle.std.proofs.lemmas.List.{take_all}
use Rattle.vkb_formula.specs.Names.{place_of, with_name}
use Rattle.reg_tables.specs.Tables.{is_sort, sort_of}
use Rattle.reg_tables.proofs.TableLemmas.{failed-more, passed-more}
use Rattle.reg_tables.proofs.tables.names_of_sort.Goals as goal
use Rattle.reg_tables.proofs.tables.names_of_sort.Goals.{then-is_sort+in_ok-intern, else-is_sort}

pub loop-declaration-preserved : goal.loop-declaration-preserved
loop-declaration-preserved c = λ name.
    let items = c.as_slice-declaration-items.ensures in
    let place = c.loop-declaration.declaration-index in
    let thing = c.declaration-item.result in
    let within : place < length c.args.forms.now.declarations = omega (arith, ap length items) in
    let is : thing ≡ get_or c.args.forms.now.declarations place thing = c.declaration-item.is ∙ ap (λ xs. get_or xs place thing) items in
    let sorted : is_sort c.args.sort (sort_of thing.kind) ≡ c.is_sort.result = ap (is_sort c.args.sort) (sym c.sort_of.ensures) ∙ sym c.is_sort.ensures in
    elim c.if-is_sort.branch [
      | then-is_sort+in_ok-intern w ↦
          ap (λ names. is_some (place_of name names)) (w.names-is ∙ w.in_ok-intern.ensures.table ∙ ap (λ n. with_name n c.loop-declaration.names) w.as_slice.ensures)
          ∙ passed-more (λ d. d.name) (λ d. is_sort c.args.sort (sort_of d.kind)) c.args.forms.now.declarations place thing within is name c.loop-declaration.names (c.loop-declaration.invariant name) (sorted ∙ w.if-is_sort.true)
      | else-is_sort w ↦
          ap (λ names. is_some (place_of name names)) w.names-is
          ∙ failed-more (λ d. d.name) (λ d. is_sort c.args.sort (sort_of d.kind)) c.args.forms.now.declarations place thing within is name _ (c.loop-declaration.invariant name) (sorted ∙ w.if-is_sort.false)
    ]

pub returns : goal.returns
returns c = λ name.
    c.loop-declaration.invariant name
    ∙ ap (list_any (λ d. is_sort c.args.sort (sort_of d.kind) && bytes_eq name d.name)) (take_all c.loop-declaration.declaration-index c.args.forms.now.declarations (omega (arith, ap length c.as_slice-declaration-items.ensures)))
