use Rattle.std.proofs.Common.{◌≡◌, ◌∷◌, ℕ, List, length, Some, slice_get, slice_index_or, sym, ap, subst, ◌∙◌, reverse, arith}
use Rattle.std.proofs.lemmas.Option.{same_Some, slice_get-get_or, slice_get_within}
use Rattle.reg_registry.specs.Ways.{IsWayFrom, IsWayRound, Searched}
use Rattle.reg_registry.specs.declared.circles.way.Met.{Met}
use Rattle.reg_registry.proofs.WayLemmas.{last-first, way-end, way-led, way-more, written}
use Rattle.reg_registry.proofs.circles.way.Search.way_back.Goals as goal

pub loop-at-smaller : goal.loop-at-smaller
loop-at-smaller c =
    let lt = slice_get_within c.args.self.now.met c.loop-at.at c.loop-at.invariant.entry c.loop-at.invariant.here in
    let here : slice_get c.args.self.now.met c.loop-at.at ≡ Some c.index-in-loop-at.result.now =
    slice_get-get_or c.args.self.now.met c.loop-at.at c.index-in-loop-at.result.now lt
    ∙ ap Some (sym (c.index-in-loop-at.ensures ∙ ap (λ (x : Searched). slice_index_or x.met c.loop-at.at c.index-in-loop-at.result.now) c.self.view_is)) in
    (way-led c.args.rows.now c.args.first c.args.self.now c.requires.search c.loop-at.at c.index-in-loop-at.result.now here (omega arith)).before

pub loop-at-preserved : goal.loop-at-preserved
loop-at-preserved c =
    let lt = slice_get_within c.args.self.now.met c.loop-at.at c.loop-at.invariant.entry c.loop-at.invariant.here in
    let here : slice_get c.args.self.now.met c.loop-at.at ≡ Some c.index-in-loop-at.result.now =
    slice_get-get_or c.args.self.now.met c.loop-at.at c.index-in-loop-at.result.now lt
    ∙ ap Some (sym (c.index-in-loop-at.ensures ∙ ap (λ (x : Searched). slice_index_or x.met c.loop-at.at c.index-in-loop-at.result.now) c.self.view_is)) in
    let named : slice_get c.args.self.now.met c.loop-at.at ≡ Some c.index.result.now =
    slice_get-get_or c.args.self.now.met c.loop-at.at c.index.result.now lt
    ∙ ap Some (sym (c.index.ensures ∙ ap (λ (x : Searched). slice_index_or x.met c.loop-at.at c.index.result.now) c.self.view_is)) in
    let same : c.index.result.now ≡ c.index-in-loop-at.result.now = same_Some c.index.result.now c.index-in-loop-at.result.now (sym named ∙ here) in
    let names : reverse c.push.new.self.items ≡ c.index-in-loop-at.result.now.name ∷ reverse c.loop-at.back.items =
    last-first c.loop-at.back.items c.push.new.self.items c.index.result.now.name c.in_ok-push.ensures.items
    ∙ ap (λ (x : Met). x.name ∷ reverse c.loop-at.back.items) same in
    subst (IsWayFrom c.args.rows.now c.args.first c.args.self.now.met c.index-in-loop-at.result.now.by) (sym names)
    (way-more c.args.rows.now c.args.first c.args.self.now c.requires.search c.loop-at.at (reverse c.loop-at.back.items) c.loop-at.invariant c.index-in-loop-at.result.now here (omega arith))

pub returns : goal.returns
returns c =
    let lt = slice_get_within c.args.self.now.met 0 c.requires.search.start.0 c.requires.search.start.1 in
    let here : slice_get c.args.self.now.met 0 ≡ Some c.index-2.result.now =
    slice_get-get_or c.args.self.now.met 0 c.index-2.result.now lt
    ∙ ap Some (sym (c.index-2.ensures ∙ ap (λ (x : Searched). slice_index_or x.met 0 c.index-2.result.now) c.self.view_is)) in
    let at : c.loop-at.at ≡ 0 = omega arith in
    let back : c.reverse.new.self ≡ c.index-2.result.now.name ∷ reverse c.loop-at.back.items =
    c.reverse.ensures.after ∙ ap (λ (x : List ℕ). reverse x) c.as_mut_slice.ensures.value
    ∙ last-first c.loop-at.back.items c.push-2.new.self.items c.index-2.result.now.name c.in_ok-push-2.ensures.items in
    subst (IsWayRound c.args.rows.now c.args.first)
    (sym (written c.push-2.new.self.items c.reverse.new.self c.push-2.new.self.len c.push-2.new.self.ok.0 (c.reverse.ensures.len ∙ ap (λ (x : List ℕ). length x) c.as_mut_slice.ensures.value)))
    (way-end c.args.rows.now c.args.first c.args.self.now c.requires.search (reverse c.loop-at.back.items) c.reverse.new.self
    (subst (λ (x : ℕ). IsWayFrom c.args.rows.now c.args.first c.args.self.now.met x (reverse c.loop-at.back.items)) at c.loop-at.invariant)
    c.index-2.result.now here back)
