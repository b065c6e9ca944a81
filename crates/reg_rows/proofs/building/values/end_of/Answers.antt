use Rattle.std.proofs.Common.{◌≡◌, length, get_or, Some, None, slice_get, refl, sym, ap, ◌∙◌, arith}
use Rattle.std.specs.Option.{option_and_then}
use Rattle.std.proofs.lemmas.Option.{slice_get_read}
use Rattle.reg_tables.specs.Values.{last_of}
use Rattle.reg_rows.proofs.RowLemmas.{end-is, last-found, last-within}
use Rattle.reg_rows.proofs.building.values.end_of.Goals as goal

pub returns-in_default-index : goal.returns-in_default-index
returns-in_default-index c =
    let f = c.args.tables.now in
    let none : last_of f c.args.row.now ≡ None =
    last-found f c.args.values.now.numbers.items c.args.values.now.lasts.items c.requires.values c.args.place c.args.row.now c.requires.row c.index.result.now c.index.ensures
    ∙ ap (option_and_then (slice_get f.enumerants)) c.in_default-index.is in
    end-is c.args.row.now.given c.in-Alias.name c.in-Alias.is (last_of f c.args.row.now) None none

pub bounds-rows-last : goal.bounds-rows-last
bounds-rows-last c =
    omega (arith, last-within c.args.tables.now c.args.values.now.numbers.items c.args.values.now.lasts.items c.requires.values c.args.place c.args.row.now c.requires.row c.index.result.now c.index.ensures c.in-Some.last c.in-Some.is, ap length (c.as_slice-rows.ensures ∙ ap (λ f. f.enumerants) c.forms.ensures))

pub offset_bounds-rows-last : goal.offset_bounds-rows-last
offset_bounds-rows-last c =
    omega (arith, last-within c.args.tables.now c.args.values.now.numbers.items c.args.values.now.lasts.items c.requires.values c.args.place c.args.row.now c.requires.row c.index.result.now c.index.ensures c.in-Some.last c.in-Some.is, ap length (c.as_slice-rows.ensures ∙ ap (λ f. f.enumerants) c.forms.ensures), c.as_slice-rows.type_inv)

pub returns : goal.returns
returns c =
    let f = c.args.tables.now in
    let last = c.in-Some.last in
    let row = c.index-rows-last.result in
    let rows = c.as_slice-rows.ensures ∙ ap (λ f. f.enumerants) c.forms.ensures in
    let within = last-within f c.args.values.now.numbers.items c.args.values.now.lasts.items c.requires.values c.args.place c.args.row.now c.requires.row c.index.result.now c.index.ensures last c.in-Some.is in
    let found : last_of f c.args.row.now ≡ Some row =
    last-found f c.args.values.now.numbers.items c.args.values.now.lasts.items c.requires.values c.args.place c.args.row.now c.requires.row c.index.result.now c.index.ensures
    ∙ ap (option_and_then (slice_get f.enumerants)) c.in-Some.is
    ∙ slice_get_read f.enumerants (length f.enumerants) last row refl within (c.index-rows-last.is ∙ ap (λ xs. get_or xs last row) rows) in
    ap Some (c.in_ok-name.ensures ∙ c.as_slice.ensures ∙ ap (λ l. l.name) (sym c.index-rows-last.is)) ∙ end-is c.args.row.now.given c.in-Alias.name c.in-Alias.is (last_of f c.args.row.now) (Some row) found
