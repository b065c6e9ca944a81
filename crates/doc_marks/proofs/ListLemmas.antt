-- The marks of a line are those that the rule names, all of them, in order of place.
use Rattle.std.proofs.Common.{◌≡◌, ℕ, zero, suc, ◌+◌, ◌-◌, ◌<◌, ◌≤◌, List, [], ◌∷◌, Option, Some, None, length, get_or, map, refl, inl, inr, arith}
use Rattle.std.specs.Prelude.{All, Contains}
use Rattle.std.specs.List.{filter_map, cons_option, range_with_len}
use Rattle.std.specs.List.Sorted.{IsStrictlyIncreasing}
use Rattle.std.proofs.lemmas.Bool.{cases_lt, cases_eq}
use Rattle.std.proofs.lemmas.List.{get_or_past}
use Rattle.std.proofs.lemmas.List.Elements.{All-nil, All-cons}
use Rattle.doc_marks.specs.declared.Mark.{Mark}
use Rattle.doc_marks.specs.Marks.{mark_at, marks_from, marks_of}
use Rattle.doc_marks.specs.Spelling.{IsMarkOf, ListsMarks}
use Rattle.doc_marks.proofs.PlaceLemmas.{mark_needs}
use Rattle.doc_marks.proofs.KindLemmas.{gives_mark, mark_is_given}

module _ {X : Type 0} (f : ℕ → Option X) where
  all_cons : (P : X → Type 0) (o : Option X) (xs : List X) → ((x : X) → o ≡ Some x → P x) → All P xs → All P (cons_option o xs)
  all_cons P None xs each rest = rest
  all_cons P (Some x) xs each rest = All-cons P x xs (each x refl) rest

  all_in_range : (P : X → Type 0) → ((s : ℕ) (x : X) → f s ≡ Some x → P x) → (n a : ℕ) → All P (filter_map f (range_with_len a n))
  all_in_range P each zero a = All-nil P
  all_in_range P each (suc n) a = all_cons P (f a) (filter_map f (range_with_len (a + 1) n)) (each a) (all_in_range P each n (a + 1))

  contains_cons : (o : Option X) (xs : List X) (x : X) → Contains xs x → Contains (cons_option o xs) x
  contains_cons None xs x h = h
  contains_cons (Some y) xs x h = (suc h.0, omega (arith, h.1), h.2)

  contains_head : (o : Option X) (xs : List X) (x : X) → o ≡ Some x → Contains (cons_option o xs) x
  contains_head o xs x e = rw e (0, omega arith, refl)

  contains_in_range : (n a s : ℕ) (x : X) → a ≤ s → s < a + n → f s ≡ Some x → Contains (filter_map f (range_with_len a n)) x
  contains_in_range zero a s x low high e = absurd (omega arith)
  contains_in_range (suc n) a s x low high e =
      elim (cases_eq s a) [
        | inl same ↦ contains_head (f a) (filter_map f (range_with_len (a + 1) n)) x (rw same at e)
        | inr other ↦ contains_cons (f a) (filter_map f (range_with_len (a + 1) n)) x (contains_in_range n (a + 1) s x (omega arith) (omega arith) e)
      ]

-- each number is above the one before it, and the first is `low` or above
abbrev Rising : ℕ → List ℕ → Type 0
Rising low [] = Unit {0}
Rising low (x ∷ xs) = (low ≤ x) × Rising (x + 1) xs

rising_lower : (low high : ℕ) (xs : List ℕ) → low ≤ high → Rising high xs → Rising low xs
rising_lower low high [] le h = tt
rising_lower low high (x ∷ xs) le h = (omega (arith, h.0), h.1)

rising_increases : (low : ℕ) (xs : List ℕ) → Rising low xs → IsStrictlyIncreasing xs
rising_increases low [] h k less = absurd (omega arith)
rising_increases low (x ∷ []) h k less = absurd (omega arith)
rising_increases low (x ∷ y ∷ ys) h zero less = omega (arith, h.1.0)
rising_increases low (x ∷ y ∷ ys) h (suc k) less =
    let next : suc k + 1 ≡ suc (k + 1) = omega arith in
    rw next (rising_increases (x + 1) (y ∷ ys) h.1 k (omega arith))

abbrev places_of : List Mark → List ℕ
places_of marks = map (λ m. m.at) marks

rising_cons : (o : Option Mark) (marks : List Mark) (a : ℕ) → ((m : Mark) → o ≡ Some m → m.at ≡ a) → Rising (a + 1) (places_of marks) → Rising a (places_of (cons_option o marks))
rising_cons None marks a at rest = rising_lower a (a + 1) (places_of marks) (omega arith) rest
rising_cons (Some m) marks a at rest = let here : m.at ≡ a = at m refl in (omega arith, rw here rest)

rising_in_range : (line : List ℕ) (n a : ℕ) → Rising a (places_of (filter_map (mark_at line) (range_with_len a n)))
rising_in_range line zero a = tt
rising_in_range line (suc n) a =
    rising_cons (mark_at line a) (filter_map (mark_at line) (range_with_len (a + 1) n)) a (λ m e. (gives_mark line a m e).1) (rising_in_range line n (a + 1))

place_in_line : (line : List ℕ) (place : ℕ) (m : Mark) → mark_at line place ≡ Some m → place < length line
place_in_line line place m e =
    elim (cases_lt place (length line)) [
      | inl less ↦ less
      | inr past ↦
          let none : get_or line place 0 ≡ 0 = get_or_past line place 0 past in
          elim (mark_needs line place m e) [
            | inl bracket ↦ elim bracket [ inl is ↦ absurd (omega arith) | inr is ↦ absurd (omega arith) ]
            | inr h ↦ omega (arith, h.inside)
          ]
    ]

pub lists_marks : (line : List ℕ) → ListsMarks line (marks_of line)
unfolding marks_of marks_from
lists_marks line = record {
  sound = all_in_range (mark_at line) (IsMarkOf line) (λ s m e. (gives_mark line s m e).0) (length line - 0) 0;
  complete = λ m h.
      let given = mark_is_given line m h in
      let inside = place_in_line line m.at m given in
      contains_in_range (mark_at line) (length line - 0) 0 m.at m (omega arith) (omega arith) given;
  in_order = rising_increases 0 _ (rising_in_range line (length line - 0) 0);
}
