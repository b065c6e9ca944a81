-- The marks up to the next byte that a mark needs: at most one, which the bytes before that byte or at it tell.
use Rattle.std.proofs.Common.{◌≡◌, ◌≢◌, ◌⊎◌, ℕ, ◌+◌, ◌-◌, ◌<◌, ◌≤◌, true, ◌||◌, eqb, List, [], ◌∷◌, ◌++◌, Option, Some, None, length, get_or, refl, sym, ap, ◌∙◌, inl, inr, arith, add-zero, drop, get_or-drop, length-drop}
use Rattle.std.specs.Prelude.{option_to_list}
use Rattle.std.specs.List.{filter_map, range_with_len}
use Rattle.std.proofs.lemmas.Bool.{and_parts, and_from, or_cases, or_left, leb-true, eqb-true, lt-ltb, both_ways, cases_lt}
use Rattle.memchr.specs.Find.{Nowhere, IsFirstByte}
use Rattle.vkb_bytes.specs.Bytes.{is_letter, is_word_byte}
use Rattle.doc_marks.specs.declared.Mark.{Mark}
use Rattle.doc_marks.specs.Marks.{comes_after, mark_at, marks_from}
use Rattle.doc_marks.specs.Search.{HasMarkByte, IsNextMarkByte, is_mark_byte}
use Rattle.doc_marks.proofs.RangeLemmas.{none_in_range, split_range, one_in_range}
use Rattle.doc_marks.proofs.PlaceLemmas.{MacroAt, HasBracket, mark_needs}

bracket_passes : (line : List ℕ) (place : ℕ) → HasBracket line place → HasMarkByte line place
bracket_passes line place h =
    elim h [ inl e ↦ rw e refl | inr e ↦ rw e refl ]

pub letter_bounds : (b : ℕ) → is_letter b ≡ true → ((65 ≤ b) × (b ≤ 90)) ⊎ ((97 ≤ b) × (b ≤ 122))
letter_bounds b h =
    elim (or_cases _ _ h) [
      | inl e ↦ let parts = and_parts _ _ e in inl (leb-true _ _ parts.0, leb-true _ _ parts.1)
      | inr e ↦ let parts = and_parts _ _ e in inr (leb-true _ _ parts.0, leb-true _ _ parts.1)
    ]

pub letter_fails : (b : ℕ) → is_letter b ≡ true → is_mark_byte b ≡ true → ⊥
letter_fails b h passes =
    let bounds = letter_bounds b h in
    elim (or_cases (eqb b 91 || eqb b 60) (eqb b 58) passes) [
      | inl first ↦ elim (or_cases (eqb b 91) (eqb b 60) first) [
        | inl e ↦ omega (arith, eqb-true b _ e, bounds)
        | inr e ↦ omega (arith, eqb-true b _ e, bounds)
      ]
      | inr e ↦ omega (arith, eqb-true b _ e, bounds)
    ]

letter_in_word : (b : ℕ) → is_letter b ≡ true → is_word_byte b ≡ true
letter_in_word b h = or_left _ _ (or_left _ _ h)

none_unless : {X : Type 0} (o : Option X) → ((x : X) → o ≡ Some x → ⊥) → o ≡ None
none_unless None h = refl
none_unless (Some x) h = absurd (h x refl)

-- a byte that is no letter and no bracket begins no mark
colon_begins_none : (line : List ℕ) (place : ℕ) (m : Mark) → get_or line place 0 ≡ 58 → mark_at line place ≡ Some m → ⊥
colon_begins_none line place m colon e =
    elim (mark_needs line place m e) [
      | inl bracket ↦ elim bracket [ inl is ↦ omega arith | inr is ↦ omega arith ]
      | inr h ↦
          let first = rw (add-zero place, colon) at (h.are_letters 0 (omega (arith, h.few))) in
          elim (letter_bounds 58 first) [ inl bounds ↦ omega arith | inr bounds ↦ omega arith ]
    ]

module _ (line : List ℕ) (scan place : ℕ) (none : Nowhere (HasMarkByte line) scan place) (place_is : place < length line → HasMarkByte line place) where
  -- a mark that begins before the place is a macro whose name ends at it
  pub ends_at_place : (s : ℕ) (m : Mark) → scan ≤ s → s < place → place ≤ length line → mark_at line s ≡ Some m → (h : MacroAt line s) × (s + h.letters ≡ place)
  ends_at_place s m low high within e =
      elim (mark_needs line s m e) [
        | inl bracket ↦ absurd (none s low high (bracket_passes line s bracket))
        | inr h ↦
            let colon : HasMarkByte line (s + h.letters) = rw h.colon refl in
            let not_before : s + h.letters < place → ⊥ = λ less. none (s + h.letters) (omega arith) less colon in
            let not_after : place < s + h.letters → ⊥ = λ more.
            let inside : place < length line = omega (arith, h.inside) in
            let at : s + (place - s) ≡ place = omega arith in
            letter_fails (get_or line place 0) (rw at at (h.are_letters (place - s) (omega arith))) (place_is inside)
            in
            (h, omega arith)
      ]

  -- two marks do not begin in the part
  two_marks : (s t : ℕ) (m n : Mark) → scan ≤ s → s < t → t ≤ place → place ≤ length line → mark_at line s ≡ Some m → mark_at line t ≡ Some n → ⊥
  two_marks s t m n low apart high within e f =
      let found = ends_at_place s m low (omega arith) within e in
      let h = found.0 in
      let before : s + (t - 1 - s) ≡ t - 1 = omega arith in
      let letter : is_letter (get_or line (t - 1) 0) ≡ true = rw before at (h.are_letters (t - 1 - s) (omega (arith, found.1))) in
      let after_word : comes_after is_word_byte line t ≡ true = and_from _ _ (lt-ltb 0 t (omega arith)) (letter_in_word (get_or line (t - 1) 0) letter) in
      elim (mark_needs line t n f) [
        | inl bracket ↦ elim (cases_lt t place) [
          | inl less ↦ none t (omega arith) less (bracket_passes line t bracket)
          | inr same ↦
              let is : t ≡ place = omega arith in
              colon_begins_none line t n (rw (is, ← found.1) h.colon) f
        ]
        | inr other ↦ both_ways _ other.begins_word after_word
      ]

marks_split : (line : List ℕ) (scan next : ℕ) → scan ≤ next → next ≤ length line → marks_from line scan ≡ filter_map (mark_at line) (range_with_len scan (next - scan)) ++ marks_from line next
unfolding marks_from
marks_split line scan next low high =
    let size : length line - scan ≡ (next - scan) + (length line - next) = omega arith in
    let place : scan + (next - scan) ≡ next = omega arith in
    rw size (rw place at (split_range (mark_at line) (next - scan) (length line - next) scan))

-- the part up to the place and at it has one mark
pub one_mark : (line : List ℕ) (scan place s : ℕ) (m : Mark) → Nowhere (HasMarkByte line) scan place → HasMarkByte line place → scan ≤ s → s ≤ place → place < length line → mark_at line s ≡ Some m → marks_from line scan ≡ option_to_list (Some m) ++ marks_from line (place + 1)
one_mark line scan place s m none place_is low high within e =
    let part : filter_map (mark_at line) (range_with_len scan (place + 1 - scan)) ≡ m ∷ [] =
    one_in_range (mark_at line) (place + 1 - scan) scan s m low (omega arith) e
    (λ t from to apart. none_unless _ (λ n f.
    elim (cases_lt s t) [
      | inl less ↦ two_marks line scan place none (λ _. place_is) s t m n low less (omega arith) (omega arith) e f
      | inr more ↦ two_marks line scan place none (λ _. place_is) t s n m from (omega arith) high (omega arith) f e
    ]))
    in
    marks_split line scan (place + 1) (omega arith) (omega arith) ∙ ap (λ xs. xs ++ marks_from line (place + 1)) part

-- the part up to the place and at it has no mark
pub no_mark : (line : List ℕ) (scan place : ℕ) → scan ≤ place → place < length line → ((s : ℕ) → scan ≤ s → s ≤ place → mark_at line s ≡ None) → marks_from line scan ≡ option_to_list {X = Mark} None ++ marks_from line (place + 1)
no_mark line scan place low within each =
    marks_split line scan (place + 1) (omega arith) (omega arith)
    ∙ ap (λ xs. xs ++ marks_from line (place + 1)) (none_in_range (mark_at line) (place + 1 - scan) scan (λ s from to. each s from (omega arith)))

-- a place with a bracket tells the only mark up to it
pub bracket_mark : (line : List ℕ) (scan place : ℕ) (o : Option Mark) → Nowhere (HasMarkByte line) scan place → HasMarkByte line place → scan ≤ place → place < length line → get_or line place 0 ≢ 58 → o ≡ mark_at line place → marks_from line scan ≡ option_to_list o ++ marks_from line (place + 1)
bracket_mark line scan place None none place_is low within other e =
    no_mark line scan place low within (λ s from to.
    none_unless _ (λ m f.
    elim (cases_lt s place) [
      | inl less ↦
          let found = ends_at_place line scan place none (λ _. place_is) s m from less (omega arith) f in
          other (rw found.1 at found.0.colon)
      | inr more ↦
          let same : s ≡ place = omega arith in
          let g = rw same at f in cc
    ]))
bracket_mark line scan place (Some m) none place_is low within other e =
    one_mark line scan place place m none place_is low (omega arith) within (sym e)

-- a colon ends the name of the only mark up to it, if there is one
pub no_macro_mark : (line : List ℕ) (scan colon : ℕ) → Nowhere (HasMarkByte line) scan colon → get_or line colon 0 ≡ 58 → scan ≤ colon → colon < length line → ((k : ℕ) → 5 ≤ k → k < 8 → k ≤ colon - scan → mark_at line (colon - k) ≡ None) → marks_from line scan ≡ option_to_list {X = Mark} None ++ marks_from line (colon + 1)
no_macro_mark line scan colon none is low within each =
    no_mark line scan colon low within (λ s from to.
    none_unless _ (λ m f.
    elim (cases_lt s colon) [
      | inl less ↦
          let found = ends_at_place line scan colon none (λ _. rw is refl) s m from less (omega arith) f in
          let h = found.0 in
          let at : colon - h.letters ≡ s = omega (arith, found.1) in
          let gives_none = rw at at (each h.letters h.few (omega (arith, h.most)) (omega (arith, found.1))) in cc
      | inr more ↦
          let same : s ≡ colon = omega arith in
          colon_begins_none line s m (rw same is) f
    ]))

-- with no such byte left, no mark is left
pub no_marks_left : (line : List ℕ) (scan : ℕ) → scan ≤ length line → Nowhere (HasMarkByte line) scan (length line) → marks_from line scan ≡ []
unfolding marks_from
no_marks_left line scan low none =
    none_in_range (mark_at line) (length line - scan) scan (λ s from to.
    none_unless _ (λ m f.
    let found = ends_at_place line scan (length line) none (λ more. absurd (omega arith)) s m from (omega arith) (omega arith) f in
    omega (arith, found.0.inside, found.1)))

-- what a search in the rest of the line tells of the line
pub none_from_rest : (line : List ℕ) (scan : ℕ) → IsFirstByte is_mark_byte (drop scan line) None → scan ≤ length line → Nowhere (HasMarkByte line) scan (length line)
none_from_rest line scan h low k from to passes =
    let place : scan + (k - scan) ≡ k = omega arith in
    h (k - scan) (omega arith) (omega (arith, length-drop scan line)) (rw (get_or-drop scan line (k - scan) 0, place) passes)

pub next_from_rest : (line : List ℕ) (scan step : ℕ) → IsFirstByte is_mark_byte (drop scan line) (Some step) → IsNextMarkByte line scan (scan + step)
next_from_rest line scan step h = record {
  from_scan = omega arith;
  in_line = omega (arith, h.0.high, length-drop scan line);
  none_before = λ k from to passes.
      let place : scan + (k - scan) ≡ k = omega arith in
      h.0.before (k - scan) (omega arith) (omega arith) (rw (get_or-drop scan line (k - scan) 0, place) passes);
  found = rw get_or-drop at h.1;
}

pub none_at_end : (line : List ℕ) → marks_from line (length line) ≡ []
none_at_end line = no_marks_left line (length line) (omega arith) (λ k from to. absurd (omega arith))
