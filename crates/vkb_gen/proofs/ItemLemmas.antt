-- Which draws choose the parents of an item.
use Rattle.std.proofs.Common.{◌≡◌, ℕ, ◌+◌, ◌-◌, ◌%◌, ◌/◌, ◌^◌, ◌<◌, ◌≤◌, Bool, cond, List, [], ◌∷◌, ◌++◌, map, inl, inr, refl, sym, ap, ◌∙◌, add-one, add-zero, eqb, eq-eqb, arith}
use Rattle.std.specs.List.{range_with_len}
use Rattle.std.proofs.Math.Nat.{mod-lt}
use Rattle.std.proofs.Math.Numerals.{add-two}
use Rattle.std.proofs.lemmas.Bool.{cases_lt, le-ltb, lt-ltb, ne_eqb}
use Rattle.std.proofs.lemmas.Bool.Decides.{eqb_tells}
use Rattle.std.proofs.lemmas.List.FromFn.{map-range_with_len_more}
use Rattle.vkb_gen.specs.Draws.{drawn, next_state, state_after}
use Rattle.vkb_gen.specs.Items.{AreBefore, IsBefore, draws_before, item_of, parent_by, parents_of}
use Rattle.vkb_gen.specs.declared.items.Item.{Item}
use Rattle.vkb_gen.specs.declared.items.Parents.{Parents}
use Rattle.vkb_gen.specs.declared.items.Parents.TheVariants.{Nobody, One, Two}

-- the draws before the next item
pub none_drawn : (number : ℕ) → number < 2 → draws_before (number + 1) ≡ draws_before number
none_drawn number low =
    ap draws_before (add-one number)
    ∙ ap (λ (b : Bool). draws_before number + cond b 0 (cond (eqb (number % 3) 0) 2 1)) (lt-ltb number 2 low)
    ∙ add-zero (draws_before number)

pub one_drawn : (number : ℕ) → 2 ≤ number → (number % 3 ≡ 0 → ⊥) → draws_before (number + 1) ≡ draws_before number + 1
one_drawn number high other =
    ap draws_before (add-one number)
    ∙ ap (λ (b : Bool). draws_before number + cond b 0 (cond (eqb (number % 3) 0) 2 1)) (le-ltb number 2 high)
    ∙ ap (λ (b : Bool). draws_before number + cond b 2 1) (ne_eqb (number % 3) 0 other)

pub two_drawn : (number : ℕ) → 2 ≤ number → number % 3 ≡ 0 → draws_before (number + 1) ≡ draws_before number + 2
two_drawn number high third =
    ap draws_before (add-one number)
    ∙ ap (λ (b : Bool). draws_before number + cond b 0 (cond (eqb (number % 3) 0) 2 1)) (le-ltb number 2 high)
    ∙ ap (λ (b : Bool). draws_before number + cond b 2 1) (eq-eqb (number % 3) 0 third)

-- the parents of an item, by its number
pub is_nobody : (seed number : ℕ) → number < 2 → parents_of seed number ≡ Nobody
unfolding parents_of
is_nobody seed number low = rw (lt-ltb number 2 low) refl

pub is_one : (seed number : ℕ) → 2 ≤ number → (number % 3 ≡ 0 → ⊥) → parents_of seed number ≡ One (parent_by seed number 1)
unfolding parents_of
is_one seed number high other = rw (le-ltb number 2 high, ne_eqb (number % 3) 0 other) refl

pub is_two : (seed number : ℕ) → 2 ≤ number → number % 3 ≡ 0 → parents_of seed number ≡ Two (parent_by seed number 1) (parent_by seed number 2)
unfolding parents_of
is_two seed number high third = rw (le-ltb number 2 high, eq-eqb (number % 3) 0 third) refl

-- the states behind the draws of an item
pub first_state : (seed number state next : ℕ) → state ≡ state_after seed (draws_before number) → next ≡ next_state state → next ≡ state_after seed (draws_before number + 1)
first_state seed number state next before step = step ∙ ap next_state before ∙ ap (λ (n : ℕ). state_after seed n) (sym (add-one (draws_before number)))

pub second_state : (seed number state next : ℕ) → state ≡ state_after seed (draws_before number + 1) → next ≡ next_state state → next ≡ state_after seed (draws_before number + 2)
second_state seed number state next before step =
    step ∙ ap next_state (before ∙ ap (λ (n : ℕ). state_after seed n) (add-one (draws_before number)))
    ∙ ap (λ (n : ℕ). state_after seed n) (sym (add-two (draws_before number)))

-- the parent that a draw chooses
pub chosen : (seed number draw state result : ℕ) → state ≡ state_after seed (draws_before number + draw) → result ≡ drawn state (number - 1) → 1 + result ≡ parent_by seed number draw
chosen seed number draw state result behind value = ap (λ (n : ℕ). 1 + n) (value ∙ ap (λ (s : ℕ). drawn s (number - 1)) behind)

-- an item of these parts
abbrev pub item : ℕ → Parents → Item
item number parents = record { number = number; parents = parents }

-- the items with one more
pub items_more : (seed number : ℕ) (parents : Parents) (items : List Item) → 1 ≤ number → items ≡ map (item_of seed) (range_with_len 1 (number - 1)) → parents ≡ parents_of seed number
    → items ++ item number parents ∷ [] ≡ map (item_of seed) (range_with_len 1 (number + 1 - 1))
items_more seed number parents items low so_far same =
    let before = map (item_of seed) (range_with_len 1 (number - 1)) in
    ap (λ (xs : List Item). xs ++ item number parents ∷ []) so_far
    ∙ ap (λ (p : Parents). before ++ item number p ∷ []) same
    ∙ sym (map-range_with_len_more (item_of seed) 1 (number - 1) number (omega arith))
    ∙ ap (λ (n : ℕ). map (item_of seed) (range_with_len 1 n)) (omega arith)

-- the parent that a draw chooses stands before the item
pub chosen_before : (seed number draw : ℕ) → 2 ≤ number → IsBefore number (parent_by seed number draw)
unfolding drawn
chosen_before seed number draw high =
    let small = mod-lt (state_after seed (draws_before number + draw) / 2 ^ 33) {m = number - 1} (omega arith) in
    record { least = omega arith; below = omega (arith, small) }

-- so do all parents
pub parents_before : (seed number : ℕ) → AreBefore number (parents_of seed number)
parents_before seed number =
    elim (cases_lt number 2) [
      | inl low ↦ rw (is_nobody seed number low) tt
      | inr high ↦ elim (eqb_tells (number % 3) 0) [
        | inl third ↦ rw (is_two seed number high third.1) (chosen_before seed number 1 high, chosen_before seed number 2 high)
        | inr other ↦ rw (is_one seed number high other.1) (chosen_before seed number 1 high)
      ]
    ]
