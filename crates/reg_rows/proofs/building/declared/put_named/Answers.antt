use Rattle.std.proofs.Common.{◌≡◌, ◌<◌, ◌∷◌, [], length, get_or, sym, ◌∙◌, arith}
use Rattle.std.proofs.lemmas.List.{get_or_default}
use Rattle.reg_rows.specs.Listing.{places_besides}
use Rattle.reg_rows.proofs.ListingLemmas.{besides-one, mark-known, mark-new}
use Rattle.reg_rows.proofs.PlaceLemmas.{place_of-within}
use Rattle.reg_rows.proofs.building.declared.put_named.Goals as goal

pub returns-in_ok-push-clause-put : goal.returns-in_ok-push-clause-put
returns-in_ok-push-clause-put c = λ so_far before.
    let p = c.in-Some.id.0 in
    let marks = c.args.named_in.now.items in
    let places : places_besides c.args.names.now c.args.own.now (c.args.name.now ∷ []) ≡ p ∷ [] =
    besides-one c.args.names.now c.args.own.now c.args.name.now p (sym c.if-eq.ensures) (sym c.in-Some.ensures.place) in
    let within : p < length marks = omega (arith, place_of-within c.args.name.now c.args.names.now p (sym c.in-Some.ensures.place), c.requires) in
    let here = c.index.ensures ∙ get_or_default marks p c.index.result.now 0 within in
    rw (places, c.in_ok-push.ensures.items) (mark-new c.args.round p so_far marks c.args.ids.now.items before within (λ e. c.if-index-round.true (here ∙ e)))

pub returns-else-index-round-clause-put : goal.returns-else-index-round-clause-put
returns-else-index-round-clause-put c = λ so_far before.
    let p = c.in-Some.id.0 in
    let marks = c.args.named_in.now.items in
    let places : places_besides c.args.names.now c.args.own.now (c.args.name.now ∷ []) ≡ p ∷ [] =
    besides-one c.args.names.now c.args.own.now c.args.name.now p (sym c.if-eq.ensures) (sym c.in-Some.ensures.place) in
    let within : p < length marks = omega (arith, place_of-within c.args.name.now c.args.names.now p (sym c.in-Some.ensures.place), c.requires) in
    let here : get_or marks p 0 ≡ c.args.round = sym (get_or_default marks p c.index.result.now 0 within) ∙ sym c.index.ensures ∙ c.if-index-round.false in
    rw places (mark-known c.args.round p so_far marks c.args.ids.now.items before here)
