-- What a function gives at the places of a range, where most places give nothing.
use Rattle.std.proofs.Common.{◌≡◌, ◌≢◌, ℕ, zero, suc, ◌+◌, ◌-◌, ◌<◌, ◌≤◌, List, [], ◌∷◌, ◌++◌, length, Option, Some, None, refl, ap, ◌∙◌, arith, add-zero, zero-add}
use Rattle.std.specs.List.{cons_option, filter_map, range_with_len}
use Rattle.std.proofs.lemmas.List.FromFn.{length-range_with_len}
use Rattle.doc_marks.specs.Marks.{mark_at, marks_of, marks_from}
use Rattle.std.proofs.lemmas.List.Elements.{filter_map-append}

pub range_append : (m n a : ℕ) → range_with_len a (m + n) ≡ range_with_len a m ++ range_with_len (a + m) n
range_append zero n a = rw (zero-add n, add-zero a)
range_append (suc m) n a =
    let size : suc m + n ≡ suc (m + n) = omega arith in
    let place : a + suc m ≡ (a + 1) + m = omega arith in
    rw (size, place) (ap (λ xs. a ∷ xs) (range_append m n (a + 1)))

module _ {X : Type 0} (f : ℕ → Option X) where
  -- no place gives anything
  pub none_in_range : (n a : ℕ) → ((s : ℕ) → a ≤ s → s < a + n → f s ≡ None) → filter_map f (range_with_len a n) ≡ []
  none_in_range zero a h = refl
  none_in_range (suc n) a h =
      rw (h a (omega arith) (omega arith)) (none_in_range n (a + 1) (λ s low high. h s (omega arith) (omega arith)))

  pub split_range : (m n a : ℕ) → filter_map f (range_with_len a (m + n)) ≡ filter_map f (range_with_len a m) ++ filter_map f (range_with_len (a + m) n)
  split_range m n a = ap (filter_map f) (range_append m n a) ∙ filter_map-append f (range_with_len a m) (range_with_len (a + m) n)

  -- one place alone gives something
  pub one_in_range : (n a s : ℕ) (x : X) → a ≤ s → s < a + n → f s ≡ Some x → ((t : ℕ) → a ≤ t → t < a + n → t ≢ s → f t ≡ None) → filter_map f (range_with_len a n) ≡ x ∷ []
  one_in_range n a s x low high here others =
      let before : ℕ = s - a in
      let after : ℕ = n - before - 1 in
      let size : n ≡ before + suc after = omega arith in
      let place : a + before ≡ s = omega arith in
      let none_before : filter_map f (range_with_len a before) ≡ [] =
      none_in_range before a (λ t from to. others t from (omega arith) (omega arith)) in
      let at_place : filter_map f (range_with_len s (suc after)) ≡ x ∷ [] =
      rw here (ap (λ xs. x ∷ xs) (none_in_range after (s + 1) (λ t from to. others t (omega arith) (omega arith) (omega arith)))) in
      rw (size, split_range before (suc after) a, place, none_before) at_place

cons_few : {Y : Type 0} (o : Option Y) (ys : List Y) → length (cons_option o ys) ≤ length ys + 1
cons_few None ys = omega arith
cons_few (Some y) ys = omega arith

pub filter_map_few : {X Y : Type 0} (f : X → Option Y) (xs : List X) → length (filter_map f xs) ≤ length xs
filter_map_few f [] = omega arith
filter_map_few f (x ∷ xs) = let first = cons_few (f x) (filter_map f xs) in let rest = filter_map_few f xs in omega arith

-- a line has no more marks than bytes
pub few_marks : (line : List ℕ) → length (marks_of line) ≤ length line
unfolding marks_of marks_from
few_marks line = omega (arith, filter_map_few (mark_at line) (range_with_len 0 (length line - 0)), length-range_with_len 0 (length line - 0))
