use Rattle.std.proofs.Common.{◌≡◌, ◌+◌, [], length, map, replicate, take, sym, subst, ap, ◌∙◌, arith, None}
use Rattle.std.proofs.lemmas.List.{take_all}
use Rattle.vkb_formula.specs.Names.{place_of}
use Rattle.reg_registry.specs.Rows.{id_at}
use Rattle.reg_rows.specs.Lists.{each_number}
use Rattle.reg_rows.proofs.BlockLemmas.{IsListing, entry-none, entry-one, listed-none, listed_in}
use Rattle.reg_rows.proofs.PlaceLemmas.{place_of-within}
use Rattle.reg_rows.proofs.building.blocks.lists.Goals as goal
use Rattle.reg_rows.proofs.building.blocks.lists.Goals.{in-Some+in_ok-put_once, in_default}

pub put_once-requires-clause-id_in : goal.put_once-requires-clause-id_in
put_once-requires-clause-id_in c =
    omega (arith, place_of-within c.as_slice-in-loop-entry.result.now c.args.names.now c.in-Some.id.0 (sym c.in-Some.ensures.place), c.loop-entry.invariant.each_name)

pub loop-entry-init : goal.loop-entry-init
loop-entry-init c =
    listed-none c.args.names.now (length c.args.forms.now.blocks) c.len.result _ _ (c.in_ok-lists.ensures ∙ ap (λ blocks. replicate (length blocks) []) c.as_slice.ensures) c.len.ensures.count c.in_ok-listed_by.ensures

pub loop-entry-preserved : goal.loop-entry-preserved
loop-entry-preserved c =
    let entries = c.as_slice-entry-items in
    elim c.match-find.branch [
      | in-Some+in_ok-put_once w ↦
          entry-one c.args.names.now (length c.args.forms.now.blocks) c.args.forms.now.entries entries.result.now entries.ensures c.loop-entry.entry-index c.entry-item.result c.loop-entry-test.true c.entry-item.is _ _ c.loop-entry.invariant
          c.requires.rise c.requires.within w.in-Some.id.0 (ap (λ name. place_of name c.args.names.now) (sym c.as_slice-in-loop-entry.ensures) ∙ sym w.in-Some.ensures.place) _ _
          (ap (λ lists. map (λ list. list.items) lists.items) w.lists-is ∙ w.in_ok-put_once.ensures.lists) (ap (λ marks. marks.items) w.listed_by-is ∙ w.in_ok-put_once.ensures.listed_by)
      | in_default w ↦
          let none : place_of c.entry-item.result.mention.name c.args.names.now ≡ None =
          ap (λ name. place_of name c.args.names.now) (sym c.as_slice-in-loop-entry.ensures) ∙ sym w.in_default.ensures.place in
          subst (λ lists. IsListing c.args.names.now (length c.args.forms.now.blocks) (take (c.loop-entry.entry-index + 1) c.args.forms.now.entries) (map (λ list. list.items) lists.items) c.match-find.listed_by.items) (sym w.lists-is) (
          subst (λ marks. IsListing c.args.names.now (length c.args.forms.now.blocks) (take (c.loop-entry.entry-index + 1) c.args.forms.now.entries) (map (λ list. list.items) c.loop-entry.lists.items) marks.items) (sym w.listed_by-is) (
          entry-none c.args.names.now (length c.args.forms.now.blocks) c.args.forms.now.entries entries.result.now entries.ensures c.loop-entry.entry-index c.entry-item.result c.loop-entry-test.true c.entry-item.is _ _ c.loop-entry.invariant none
          )
          )
    ]

pub returns : goal.returns
returns c = record {
  each_has_one = c.loop-entry.invariant.each_block;
  are = λ place within.
      c.loop-entry.invariant.lists_are place within
      ∙ ap (λ es. map id_at (each_number (listed_in c.args.names.now place es))) (take_all c.loop-entry.entry-index c.args.forms.now.entries (omega (arith, ap length c.as_slice-entry-items.ensures)))
      ∙ ap (λ names. map id_at (each_number (listed_in names place c.args.forms.now.entries))) c.requires.names;
}
