-- How places are reached, and what their order says of the ends of chains.
use Rattle.std.proofs.Common.{◌≡◌, ◌≢◌, ℕ, zero, suc, ◌+◌, ◌<◌, ◌≤◌, Bool, true, false, cond, List, [], ◌∷◌, ◌++◌, length, get_or, set, Option, Some, None, refl, sym, ap, ◌∙◌, ⊎_elim, arith, length-append, length-set, add-one}
use Rattle.std.specs.Prelude.{is_none, is_some, not}
use Rattle.std.specs.Option.{option_map_or}
use Rattle.std.proofs.lemmas.Bool.{cases_eq, cases_lt, false≢true}
use Rattle.std.proofs.lemmas.List.{get_or-set_same, get_or-set_other, get_or_append_left, get_or_push}
use Rattle.std.proofs.lemmas.List.Elements.{Contains-push, Contains-append_left}
use Rattle.std.proofs.lemmas.List.Sums.{sum_by-set}
use Rattle.reg_tables.specs.Chains.{AreEndsReached, AreReached, EndsAsTold, Grow, IsReached, link_at}
use Rattle.reg_tables.specs.Places.{last_place_in, next_place}

pub next-is : (next : List (Option ℕ)) (place : ℕ) → next_place next place ≡ link_at next place
next-is [] place = refl
next-is (link ∷ next) zero = refl
next-is (link ∷ next) (suc place) = next-is next place

-- a chain that ends within some steps ends within more, in the same place
step-more : (n m : ℕ) (next : List (Option ℕ)) (place last : ℕ) (step : Option ℕ)
    → ((to : ℕ) → last_place_in n next to ≡ Some last → last_place_in m next to ≡ Some last)
    → option_map_or (last_place_in n next) step (Some place) ≡ Some last
    → option_map_or (last_place_in m next) step (Some place) ≡ Some last
step-more n m next place last None rest ends = ends
step-more n m next place last (Some to) rest ends = rest to ends

pub last-more : (n m : ℕ) (next : List (Option ℕ)) (place last : ℕ) → n ≤ m → last_place_in n next place ≡ Some last
    → last_place_in m next place ≡ Some last
last-more zero m next place last le ends = absurd (cc)
last-more (suc n) zero next place last le ends = absurd (omega arith)
last-more (suc n) (suc m) next place last le ends =
    step-more n m next place last (next_place next place) (λ to. last-more n m next to last (omega arith)) ends

-- the chain from a place that leads nowhere, and from one that leads to another
pub last-end : (n : ℕ) (next : List (Option ℕ)) (place : ℕ) → link_at next place ≡ None → last_place_in (n + 1) next place ≡ Some place
last-end n next place ends = rw (add-one n, next-is next place, ends)

pub last-step : (n : ℕ) (next : List (Option ℕ)) (place to : ℕ) → link_at next place ≡ Some to
    → last_place_in (n + 1) next place ≡ last_place_in n next to
last-step n next place to leads = rw (add-one n, next-is next place, leads)

-- what `is_none` says
pub is-none : (link : Option ℕ) (test : Bool) → is_some link ≡ not test → test ≡ true → link ≡ None
is-none None test is told = refl
is-none (Some last) test is told = absurd (false≢true (sym (is ∙ ap not told)))

pub is-not-none : (link : Option ℕ) (test : Bool) → is_some link ≡ not test → test ≡ false → link ≢ None
is-not-none None test is told none = absurd (false≢true (is ∙ ap not told))
is-not-none (Some last) test is told none = cc

-- one place more is reached
reached-told : (next lasts : List (Option ℕ)) (order : List ℕ) (place last i : ℕ) → place < length lasts → link_at lasts place ≡ None
    → ((j : ℕ) → j < length order → EndsAsTold next lasts (j + 1) (get_or order j 0)) → last_place_in (length order + 1) next place ≡ Some last
    → i < length (order ++ place ∷ []) → EndsAsTold next (set lasts place (Some last)) (i + 1) (get_or (order ++ place ∷ []) i 0)
reached-told next lasts order place last i within empty told ends inside =
    ⊎_elim
    (λ lt.
    let t = told i lt in
    let other : get_or order i 0 ≢ place = λ same. cc in
    rw (get_or_append_left order (place ∷ []) 0 i lt)
    (record { last = t.last; ends = t.ends; told = get_or-set_other lasts place (get_or order i 0) (Some last) None other ∙ t.told }))
    (λ ge.
    let here : length order ≡ i = omega (arith, length-append order (place ∷ [])) in
    rw (get_or_push order place 0 i here)
    (record { last = last; ends = rw here at ends; told = get_or-set_same lasts place (Some last) None within }))
    (cases_lt i (length order))

pub reached-more : (next lasts : List (Option ℕ)) (order : List ℕ) (place last : ℕ) → place < length lasts → link_at lasts place ≡ None
    → AreReached next lasts order → last_place_in (length order + 1) next place ≡ Some last
    → AreReached next (set lasts place (Some last)) (order ++ place ∷ [])
reached-more next lasts order place last within empty r ends = record {
  each = length-set lasts place (Some last) ∙ r.each;
  counted =
      let unit : Option ℕ → ℕ = λ x. cond (is_none x) 1 0 in
      let counts = sum_by-set unit lasts place (Some last) None within in
      let here : unit (get_or lasts place None) ≡ unit None = ap unit empty in
      omega (arith, counts, here, r.counted, length-append order (place ∷ []));
  told = λ i inside. reached-told next lasts order place last i within empty r.told ends inside;
  ordered = λ p reached.
      ⊎_elim (λ same. rw same (Contains-push order place))
      (λ ne. Contains-append_left order (place ∷ []) p (r.ordered p (rw (get_or-set_other lasts place p (Some last) None ne) at reached)))
      (cases_eq p place);
}

-- what was reached before stays so
pub still-reached : (lasts after : List (Option ℕ)) (place : ℕ) → ((p last : ℕ) → link_at lasts p ≡ Some last → link_at after p ≡ Some last)
    → IsReached lasts place → IsReached after place
still-reached lasts after place kept reached = kept-some (link_at lasts place) (link_at after place) (kept place) reached where
  kept-some : (old new : Option ℕ) → ((last : ℕ) → old ≡ Some last → new ≡ Some last) → is_some old ≡ true → is_some new ≡ true
  kept-some None new kept reached = absurd (false≢true reached)
  kept-some (Some last) new kept reached = rw (kept last refl) refl

pub grown-none : (lasts : List (Option ℕ)) (order : List ℕ) → Grow lasts order lasts order
grown-none lasts order = record {
  each = refl;
  kept = λ place last told. told;
  more = λ i inside. inside;
  same = λ i inside. refl;
}

pub grown-more : (lasts : List (Option ℕ)) (order : List ℕ) (lasts_then : List (Option ℕ)) (order_then : List ℕ) (lasts_now : List (Option ℕ))
    (order_now : List ℕ)
    → Grow lasts order lasts_then order_then → Grow lasts_then order_then lasts_now order_now → Grow lasts order lasts_now order_now
grown-more lasts order lasts_then order_then lasts_now order_now g h = record {
  each = h.each ∙ g.each;
  kept = λ place last told. h.kept place last (g.kept place last told);
  more = λ i inside. h.more i (g.more i inside);
  same = λ i inside. h.same i (g.more i inside) ∙ g.same i inside;
}

-- one place more is looked at, which leads nowhere or to another
pub ends-more : (next lasts after : List (Option ℕ)) (count : ℕ) → ((p last : ℕ) → link_at lasts p ≡ Some last → link_at after p ≡ Some last)
    → AreEndsReached next count lasts → (link_at next count ≡ None → IsReached after count) → AreEndsReached next (count + 1) after
ends-more next lasts after count kept ends here place inside nowhere =
    ⊎_elim (λ same. rw same (here (rw same at nowhere)))
    (λ ne. still-reached lasts after place kept (ends place (omega arith) nowhere))
    (cases_eq place count)
