use Rattle.std.proofs.Common.{◌≡◌, ◌+◌, ◌<◌, ◌≤◌, ◌∷◌, ◌++◌, [], List, ℕ, None, Some, cond, length, map, set, take, get_or, refl, subst, sym, ap, ◌∙◌, arith}
use Rattle.std.specs.List.{All}
use Rattle.std.proofs.lemmas.List.{get_or-map, length-map, length-set, take_more}
use Rattle.std.proofs.lemmas.Option.{slice_get_read}
use Rattle.reg_forms.specs.declared.forms.EntryForm.{EntryForm}
use Rattle.reg_rows.specs.Listing.{AreLists, is_end}
use Rattle.reg_rows.proofs.ListingLemmas.{changed-at, lists-more, none-before, value-within}
use Rattle.reg_rows.proofs.building.uses.block_lists.Goals as goal
use Rattle.reg_rows.proofs.building.uses.block_lists.Goals.{in-Some+in_ok-put_block, in_default}

abbrev with_block : ℕ → List ℕ → List ℕ
with_block block list = cond (is_end list block) list (list ++ block ∷ [])

pub loop-entry-preserved : goal.loop-entry-preserved
loop-entry-preserved c =
    let f = c.args.tables.now in
    let i = c.loop-entry.entry-index in
    let entry = c.entry-item.result in
    let items : c.as_slice-entry-items.result.now ≡ f.entries = c.as_slice-entry-items.ensures ∙ ap (λ f. f.entries) c.forms-2.ensures in
    let within : i < length f.entries = omega (arith, ap length items) in
    let here : entry ≡ get_or f.entries i entry = c.entry-item.is ∙ ap (λ xs. get_or xs i entry) items in
    let all : All (λ e. e.block ≤ entry.block) (take i f.entries) =
    none-before (λ e. e.block) f.entries 0 i entry c.requires.entries_rise (slice_get_read f.entries (length f.entries) i entry refl within here) in
    let more : take i f.entries ++ entry ∷ [] ≡ take (i + 1) f.entries = ap (λ (e : EntryForm). take i f.entries ++ e ∷ []) here ∙ sym (take_more f.entries i entry within) in
    let lists = c.loop-entry.lists.items in
    let before = map (λ list. list.items) lists in
    elim c.match-value_place.branch [
      | in-Some+in_ok-put_block w ↦
          let place = w.in-Some.place in
          let list = w.put_block.new.blocks in
          let after = ap (λ v. map (λ list. list.items) v.items) w.lists-is in
          let there : place < length lists = omega (arith, value-within f c.args.adds entry place w.in-Some.ensures, c.loop-entry.invariant.one_each, length-map lists (λ list. list.items)) in
          let made = w.in_ok-put_block.ensures
          ∙ ap (with_block entry.block) (ap (λ list. list.items) w.index_mut.ensures.value ∙ sym (get_or-map (λ list. list.items) lists place w.index_mut.result.now [] there)) in
          subst (λ (so_far : List EntryForm). AreLists f c.args.adds so_far (map (λ list. list.items) c.match-value_place.lists.items)) more
          (lists-more f c.args.adds (take i f.entries) entry before (map (λ list. list.items) c.match-value_place.lists.items) c.loop-entry.invariant all (Some place) w.in-Some.ensures
          (ap length after ∙ length-map (set lists place list) (λ list. list.items) ∙ length-set lists place list ∙ sym (length-map lists (λ list. list.items)))
          (λ p. ap (λ xs. get_or xs p []) after ∙ changed-at (λ list. list.items) (with_block entry.block) lists place p list there made))
      | in_default w ↦
          let after = ap (λ v. map (λ list. list.items) v.items) w.lists-is in
          subst (λ (so_far : List EntryForm). AreLists f c.args.adds so_far (map (λ list. list.items) c.match-value_place.lists.items)) more
          (lists-more f c.args.adds (take i f.entries) entry before (map (λ list. list.items) c.match-value_place.lists.items) c.loop-entry.invariant all None w.in_default.ensures
          (ap length after) (λ p. ap (λ xs. get_or xs p []) after))
    ]
