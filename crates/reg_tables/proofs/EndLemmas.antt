-- Where every chain ends, once all that leads to what was reached is reached.
use Rattle.std.proofs.Common.{◌≡◌, ℕ, zero, suc, ◌+◌, ◌<◌, ◌≤◌, List, length, get_or, map, Option, Some, None, refl, sym, ap, ◌∙◌, ⊎_elim, arith}
use Rattle.std.specs.Prelude.{IfSome}
use Rattle.std.specs.List.{range_with_len}
use Rattle.std.specs.Option.{option_map_or}
use Rattle.std.proofs.lemmas.Bool.{cases_eq, false≢true}
use Rattle.std.proofs.lemmas.List.{get_or_read}
use Rattle.std.proofs.lemmas.List.Elements.{All-from_get_or}
use Rattle.std.proofs.lemmas.List.FromFn.{fill_by_all}
use Rattle.reg_tables.specs.Chains.{AreEndsReached, AreReached, Grow, IsLedBack, link_at}
use Rattle.reg_tables.specs.Places.{last_place_in}
use Rattle.reg_tables.proofs.LeaderLemmas.{AreWithin, link-within}
use Rattle.reg_tables.proofs.ReachingLemmas.{last-more, next-is, still-reached}

-- all that leads to the first places of the order is reached
abbrev pub AreLedBack : List (Option ℕ) → List (Option ℕ) → List ℕ → ℕ → Type 0
AreLedBack next lasts order count = (i : ℕ) → i < count → i < length order → IsLedBack next (get_or order i 0) lasts

-- a place that wasn't reached leads to another that wasn't
pub record NeverEnds (next lasts : List (Option ℕ)) (place : ℕ) : Type 0 where
  pub to : ℕ
  pub leads : link_at next place ≡ Some to
  pub within : to < length next
  pub unreached : link_at lasts to ≡ None

unreached : (next lasts : List (Option ℕ)) (order : List ℕ) (place : ℕ) (step : Option ℕ)
    → AreWithin (length next) next
    → AreReached next lasts order → AreEndsReached next (length next) lasts → AreLedBack next lasts order (length next)
    → place < length next → link_at lasts place ≡ None → link_at next place ≡ step → NeverEnds next lasts place
unreached next lasts order place None bounds r ends done inside empty step =
    absurd (let here = rw empty at (ends place inside step) in false≢true here)
unreached next lasts order place (Some to) bounds r ends done inside empty step = record {
  to = to;
  leads = step;
  within = link-within next (length next) place to bounds step;
  unreached = not-there (link_at lasts to) refl;
} where
  not-there : (link : Option ℕ) → link_at lasts to ≡ link → link ≡ None
  not-there None is = refl
  not-there (Some last) is =
      let at = r.ordered to (rw is refl) in
      let place_is = get_or_read order at.0 to at.1 (sym at.2) 0 in
      let back = done at.0 (omega (arith, at.1, r.counted)) at.1 place (step ∙ ap Some place_is) in
      absurd (let here = rw empty at back in false≢true here)

goes : {next lasts : List (Option ℕ)} {order : List ℕ} → AreWithin (length next) next → AreReached next lasts order
    → AreEndsReached next (length next) lasts → AreLedBack next lasts order (length next)
    → (place : ℕ) → place < length next → link_at lasts place ≡ None → NeverEnds next lasts place
goes {next} {lasts} {order} bounds r ends done place inside empty =
    unreached next lasts order place (link_at next place) bounds r ends done inside empty refl

never : (next lasts : List (Option ℕ)) (n : ℕ) (place : ℕ) → ((p : ℕ) → p < length next → link_at lasts p ≡ None → NeverEnds next lasts p)
    → place < length next → link_at lasts place ≡ None → last_place_in n next place ≡ None
never next lasts zero place goes inside empty = refl
never next lasts (suc n) place goes inside empty =
    let on = goes place inside empty in
    rw (next-is next place, on.leads) (never next lasts n on.to goes on.within on.unreached)

told-last : (next lasts : List (Option ℕ)) (order : List ℕ) (place last : ℕ) → AreReached next lasts order → link_at lasts place ≡ Some last
    → last_place_in (length next + 1) next place ≡ Some last
told-last next lasts order place last r told =
    let at = r.ordered place (rw told refl) in
    let place_is = get_or_read order at.0 place at.1 (sym at.2) 0 in
    let t = r.told at.0 at.1 in
    let same : Some t.last ≡ Some last = sym t.told ∙ ap (link_at lasts) (sym place_is) ∙ told in
    last-more (at.0 + 1) (length next + 1) next place last (omega (arith, at.1, r.counted))
    (ap (last_place_in (at.0 + 1) next) place_is ∙ t.ends ∙ same)

pub all-last : (next lasts : List (Option ℕ)) (order : List ℕ) → AreWithin (length next) next
    → AreReached next lasts order → AreEndsReached next (length next) lasts → AreLedBack next lasts order (length next)
    → lasts ≡ map (last_place_in (length next + 1) next) (range_with_len 0 (length next))
all-last next lasts order bounds r ends done =
    fill_by_all (last_place_in (length next + 1) next) lasts (length next) None r.each
    (λ place inside. here place (link_at lasts place) inside refl) where
      here : (place : ℕ) (link : Option ℕ) → place < length next → link_at lasts place ≡ link
          → link_at lasts place ≡ last_place_in (length next + 1) next place
      here place None inside is =
          is ∙ sym (never next lasts (length next + 1) place (goes bounds r ends done) inside is)
      here place (Some last) inside is = is ∙ sym (told-last next lasts order place last r is)

-- the last place of a chain is one of the places
last-within : (next : List (Option ℕ)) (n place last : ℕ) (step : Option ℕ)
    → AreWithin (length next) next
    → place < length next → link_at next place ≡ step → option_map_or (last_place_in n next) step (Some place) ≡ Some last
    → ((to : ℕ) → to < length next → last_place_in n next to ≡ Some last → last < length next) → last < length next
last-within next n place last None bounds inside step ends rest = let e : place ≡ last = cc in omega (arith, inside, e)
last-within next n place last (Some to) bounds inside step ends rest = rest to (link-within next (length next) place to bounds step) ends

last-inside : (next : List (Option ℕ)) (n place last : ℕ) → AreWithin (length next) next
    → place < length next → last_place_in n next place ≡ Some last → last < length next
last-inside next zero place last bounds inside ends = absurd (cc)
last-inside next (suc n) place last bounds inside ends =
    last-within next n place last (link_at next place) bounds inside refl (rw (next-is next place) at ends)
    (λ to within. last-inside next n to last bounds within)

pub lasts-within : (next lasts : List (Option ℕ)) (order : List ℕ) → AreWithin (length next) next
    → AreReached next lasts order → AreWithin (length next) lasts
lasts-within next lasts order bounds r =
    All-from_get_or (λ (link : Option ℕ). IfSome link (λ (p : ℕ). p < length next)) lasts None
    (λ place inside. here place (link_at lasts place) (omega (arith, inside, r.each)) refl) where
      here : (place : ℕ) (link : Option ℕ) → place < length next → link_at lasts place ≡ link
          → IfSome (link_at lasts place) (λ (p : ℕ). p < length next)
      here place None inside is = rw is tt
      here place (Some last) inside is =
          rw is (last-inside next (length next + 1) place last bounds inside (told-last next lasts order place last r is))

-- one place more of the order is gone back from
pub back-more : (next lasts after : List (Option ℕ)) (order order_after : List ℕ) (count place : ℕ)
    → count < length order → place ≡ get_or order count 0
    → AreLedBack next lasts order count → Grow lasts order after order_after → IsLedBack next place after
    → AreLedBack next after order_after (count + 1)
back-more next lasts after order order_after count place inside is back g here i below within =
    ⊎_elim
    (λ same from link. here from (link ∙ ap Some (ap (λ j. get_or order_after j 0) same ∙ g.same count inside ∙ sym is)))
    (λ ne from link.
    let before : i < length order = omega arith in
    still-reached lasts after from g.kept (back i (omega arith) before from (link ∙ ap Some (g.same i before))))
    (cases_eq i count)

pub back-past : (next lasts : List (Option ℕ)) (order : List ℕ) (count : ℕ) → length order ≤ count
    → AreLedBack next lasts order count → AreLedBack next lasts order (count + 1)
back-past next lasts order count past back i below within = back i (omega arith) within

-- what was looked at in vain stays so
pub ends-kept : (next lasts after : List (Option ℕ)) (count : ℕ) → ((p last : ℕ) → link_at lasts p ≡ Some last → link_at after p ≡ Some last)
    → AreEndsReached next count lasts → AreEndsReached next count after
ends-kept next lasts after count kept ends place inside nowhere = still-reached lasts after place kept (ends place inside nowhere)
