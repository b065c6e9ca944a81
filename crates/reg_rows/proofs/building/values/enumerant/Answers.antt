use Rattle.std.proofs.Common.{◌<◌, length, ◌∙◌, arith, rules}
use Rattle.std.proofs.lemmas.Int.{to_z-of_z}
use Rattle.std.proofs.lemmas.Option.{get_or_from_slice_get, slice_get_within}
use mir.Syntax.{w128}
use mir.Val.{SFits}
use Rattle.reg_rows.proofs.RowLemmas.{mapped-read, mapped-within, value-found}
use Rattle.reg_rows.proofs.building.values.enumerant.Goals as goal

pub index-requires : goal.index-requires
index-requires c =
    let within : c.args.place < length c.args.uses.now.always.items = slice_get_within c.args.uses.now.always.items c.args.place _ (c.requires.uses.always_are c.args.place c.args.row.now c.requires.first) in
    omega arith

pub index-requires-2 : goal.index-requires-2
index-requires-2 c =
    let within : c.args.place < length c.args.uses.now.required.items =
    mapped-within (λ list. list.items) c.args.uses.now.required.items c.args.place _ (c.requires.uses.required_are c.args.place c.args.row.now c.requires.first) in
    omega arith

pub index-requires-3 : goal.index-requires-3
index-requires-3 c =
    let within : c.args.place < length c.args.uses.now.removed.items =
    mapped-within (λ list. list.items) c.args.uses.now.removed.items c.args.place _ (c.requires.uses.removed_are c.args.place c.args.row.now c.requires.first) in
    omega arith

pub returns : goal.returns
returns c =
    let f = c.args.tables.now in
    let place = c.args.place in
    let row = c.args.row.now in
    let named = c.in_ok-from_slice.ensures ∙ c.as_slice.ensures in
    let fits : SFits w128 c.number_at.result = search rules in
    let valued = to_z-of_z w128 c.number_at.result fits
    ∙ value-found f c.args.values.now.numbers.items c.args.values.now.lasts.items c.requires.values place row c.requires.first.0 c.number_at.result c.number_at.ensures in
    let ended = c.in_ok-end_of.ensures in
    let based = c.index.ensures ∙ get_or_from_slice_get c.args.uses.now.always.items place _ c.index.result.now (c.requires.uses.always_are place row c.requires.first) in
    let required = c.from_vec.ensures ∙ c.in_ok-from_slice-2.ensures.items ∙ c.as_slice-2.ensures.value
    ∙ mapped-read (λ list. list.items) c.args.uses.now.required.items place c.index-2.result.now _ (c.requires.uses.required_are place row c.requires.first) c.index-2.ensures in
    let removed = c.from_vec-2.ensures ∙ c.in_ok-from_slice-3.ensures.items ∙ c.as_slice-3.ensures.value
    ∙ mapped-read (λ list. list.items) c.args.uses.now.removed.items place c.index-3.result.now _ (c.requires.uses.removed_are place row c.requires.first) c.index-3.ensures in
    λ i. record { name = named i; number = valued i; end = ended i; always = based i; required = required i; removed = removed i }
