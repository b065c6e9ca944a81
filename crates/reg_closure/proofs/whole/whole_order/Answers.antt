use Rattle.std.proofs.Common.{◌≡◌, ◌∙◌, ℕ, Bool, true, List, ap, length, map, replicate, subst}
use Rattle.std.proofs.lemmas.List.{length-replicate}
use Rattle.reg_closure.specs.Orders.{HasEachOnce}
use Rattle.reg_closure.proofs.AllNamesLemmas.{all-closed, whole-order}
use Rattle.reg_closure.proofs.whole.whole_order.Goals as goal

pub returns : goal.returns
returns c =
    let r = c.args.r.now in
    let many = length r.names in
    let order = map (λ id. id.0) c.in_ok-names.names.items in
    let set : List Bool = c.in_ok-set.set in
    let is : set ≡ replicate many true = c.in_ok-set.ensures ∙ ap (λ (n : ℕ). replicate n true) (c.len.ensures.count ∙ ap length c.names.ensures) in
    let whole = c.orders_are_whole.ensures r set order c.is_sound.ensures (ap length is ∙ length-replicate many true) (all-closed r set c.is_sound.ensures is) c.in_ok-names.ensures in
    whole-order r.rows many order c.is_sound.ensures.rows_count (subst (λ (s : List Bool). HasEachOnce s order) is whole.0) whole.1
