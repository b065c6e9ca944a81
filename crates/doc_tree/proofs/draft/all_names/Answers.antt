use Rattle.std.proofs.Common.{◌≡◌, ◌∙◌, sym, ap, ℕ, ◌<◌, List, [], ◌∷◌, ◌++◌, length, take, get_or, arith}
use Rattle.std.proofs.lemmas.List.{take_more}
use Rattle.std.proofs.lemmas.Option.{get_or_from_slice_get}
use Rattle.doc_tree.proofs.draft.all_names.Goals as goal

pub loop-place-preserved : goal.loop-place-preserved
loop-place-preserved c =
    let table = c.args.table.now in
    let place = c.loop-place.place in
    let here : get_or table place [] ≡ c.name.result.now = get_or_from_slice_get table place c.name.result.now [] c.name.ensures.held in
    let below : place < length table = let test = c.loop-place-test.true in let count = c.len-place-end.ensures.count in omega arith in
    c.in_ok-push.ensures.items
    ∙ ap (λ (ns : List (List ℕ)). ns ++ c.in_ok-name.name ∷ []) c.loop-place.invariant
    ∙ ap (λ (n : List ℕ). take place table ++ n ∷ []) (c.in_ok-name.ensures ∙ sym here)
    ∙ sym (take_more table place [] below)
