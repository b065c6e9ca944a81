use Rattle.std.proofs.Common.{◌≡◌, ◌<◌, ◌++◌, ◌∷◌, [], List, true, false, length, set, Some, slice_get, slice_index_or, sym, ap, subst, ◌∙◌, arith}
use Rattle.std.proofs.lemmas.Option.{slice_get-get_or}
use Rattle.reg_registry.specs.declared.circles.way.Met.{Met}
use Rattle.reg_registry.specs.Ways.{IsMore, IsSearch, Searched}
use Rattle.reg_registry.proofs.WayLemmas.{meet-more, search-meet}
use Rattle.reg_registry.proofs.PlacedLemmas.{set-same}
use Rattle.reg_registry.proofs.circles.way.Search.meet.Goals as goal

pub returns-in_ok-push-clause-search : goal.returns-in_ok-push-clause-search
returns-in_ok-push-clause-search c =
    let search = subst (IsSearch c.args.rows.now c.args.first) (sym c.self.view_is) c.requires.search in
    let lt : c.args.name < length c.self.inside.seen.items = omega (arith, c.requires.within, search.count) in
    let new : slice_get c.self.inside.seen.items c.args.name ≡ Some false =
    slice_get-get_or c.self.inside.seen.items c.args.name c.index.result.now lt ∙ ap Some (sym c.index.ensures ∙ c.if-not-index.true) in
    let here : slice_get c.self.inside.met.items c.args.place ≡ Some c.requires.named.0 = ap (λ (x : Searched). slice_get x.met c.args.place) c.self.view_is ∙ c.requires.named.1 in
    let items : c.push.new.self.items ≡ c.self.inside.met.items ++ record { name = c.args.name; by = c.args.place } ∷ [] = c.in_ok-push.ensures.items in
    subst (λ (m : List Met). IsSearch c.args.rows.now c.args.first (record { seen = set c.self.inside.seen.items c.args.name true; met = m })) (sym items)
    (search-meet c.args.rows.now c.args.first _ search c.args.place c.args.name c.requires.within c.requires.named.0 here c.requires.named.2 new)

pub returns-in_ok-push-clause-more : goal.returns-in_ok-push-clause-more
returns-in_ok-push-clause-more c =
    let search = subst (IsSearch c.args.rows.now c.args.first) (sym c.self.view_is) c.requires.search in
    let lt : c.args.name < length c.self.inside.seen.items = omega (arith, c.requires.within, search.count) in
    let new : slice_get c.self.inside.seen.items c.args.name ≡ Some false =
    slice_get-get_or c.self.inside.seen.items c.args.name c.index.result.now lt ∙ ap Some (sym c.index.ensures ∙ c.if-not-index.true) in
    let here : slice_get c.self.inside.met.items c.args.place ≡ Some c.requires.named.0 = ap (λ (x : Searched). slice_get x.met c.args.place) c.self.view_is ∙ c.requires.named.1 in
    let items : c.push.new.self.items ≡ c.self.inside.met.items ++ record { name = c.args.name; by = c.args.place } ∷ [] = c.in_ok-push.ensures.items in
    subst (λ (x : Searched). IsMore x (record { seen = set c.self.inside.seen.items c.args.name true; met = c.push.new.self.items })) c.self.view_is
    (subst (λ (m : List Met). IsMore (record { seen = c.self.inside.seen.items; met = c.self.inside.met.items }) (record { seen = set c.self.inside.seen.items c.args.name true; met = m })) (sym items)
    (meet-more c.args.rows.now c.args.first _ search c.args.place c.args.name c.requires.within c.requires.named.0 here c.requires.named.2 new))

pub returns-in_ok-push-clause-seen : goal.returns-in_ok-push-clause-seen
returns-in_ok-push-clause-seen c =
    let search = subst (IsSearch c.args.rows.now c.args.first) (sym c.self.view_is) c.requires.search in
    let lt : c.args.name < length c.self.inside.seen.items = omega (arith, c.requires.within, search.count) in
    set-same c.self.inside.seen.items c.args.name true c.index.result.now
    (slice_get-get_or c.self.inside.seen.items c.args.name c.index.result.now lt ∙ ap Some (sym c.index.ensures))

pub returns-else-not-index-clause-seen : goal.returns-else-not-index-clause-seen
returns-else-not-index-clause-seen c =
    let lt : c.args.name < length c.args.self.now.seen = omega (arith, c.requires.within, c.requires.search.count) in
    slice_get-get_or c.args.self.now.seen c.args.name c.index.result.now lt
    ∙ ap Some (sym (c.index.ensures ∙ ap (λ (x : Searched). slice_index_or x.seen c.args.name c.index.result.now) c.self.view_is) ∙ c.if-not-index.false)
