-- Where a mark can begin, by the bytes at its place and after it.
use Rattle.std.proofs.Common.{◌≡◌, ◌⊎◌, ℕ, zero, suc, ◌+◌, ◌-◌, ◌<◌, ◌≤◌, Bool, true, false, ◌||◌, ◌&&◌, eqb, cond, List, [], ◌∷◌, ◌++◌, Option, Some, None, length, get_or, take, drop, refl, sym, ap, ◌∙◌, inl, inr, arith, codes}
use Rattle.std.specs.Prelude.{nat_le, Contains, option_map, unwrap_or}
use Rattle.std.specs.List.{find, list_all, AllPass, prefix_len}
use Rattle.std.proofs.Common.{length-drop, length-take, get_or-drop, get_or-take, add-zero}
use Rattle.std.proofs.lemmas.Bool.{and_parts, leb-true, eqb-true, or_parts, cases_Bool, cond-true, cond-false, both_ways}
use Rattle.std.proofs.lemmas.Bool.Decides.{Decides-eqb}
use Rattle.std.proofs.lemmas.List.Elements.{All-contains}
use Rattle.std.proofs.lemmas.List.Prefix.{front_fits, front_reads}
use Rattle.std.proofs.lemmas.List.Sums.{AllPass-from_list_all}
use Rattle.std.proofs.lemmas.Slice.Eq.{starts_is}
use Rattle.vkb_bytes.specs.Bytes.{begins, is_letter, is_word_byte}
use Rattle.doc_marks.specs.declared.Mark.{Mark}
use Rattle.doc_marks.specs.Marks.{comes_after, is_backslash, macro_names, macro_len, closed_id_len, mark_with, mark_at}

-- what a choice of four marks says where it gives one
chosen : (b₁ b₂ b₃ b₄ : Bool) (r₂ r₃ r₄ : Option Mark) (m : Mark) → cond b₁ None (cond b₂ r₂ (cond b₃ r₃ (cond b₄ None r₄))) ≡ Some m → (b₁ ≡ false) × (((b₂ ≡ true) × (r₂ ≡ Some m)) ⊎ (((b₃ ≡ true) × (r₃ ≡ Some m)) ⊎ ((b₄ ≡ false) × (r₄ ≡ Some m))))
chosen true b₂ b₃ b₄ r₂ r₃ r₄ m e = cc
chosen false true b₃ b₄ r₂ r₃ r₄ m e = (refl, inl (refl, e))
chosen false false true b₄ r₂ r₃ r₄ m e = (refl, inr (inl (refl, e)))
chosen false false false true r₂ r₃ r₄ m e = cc
chosen false false false false r₂ r₃ r₄ m e = (refl, inr (inr (refl, e)))

-- what `mark_at` says where it gives a mark
abbrev pub IsChosen : List ℕ → ℕ → Mark → Type 0
IsChosen line place m =
    let here = drop place line in
    (comes_after is_backslash line place ≡ false)
    × (((begins here (codes "[[") ≡ true) × (mark_with true place (place + 2) (closed_id_len (codes "]]") (drop 2 here)) ≡ Some m))
    ⊎ (((begins here (codes "<<") ≡ true) × (mark_with false place (place + 2) (closed_id_len (codes ">>") (drop 2 here)) ≡ Some m))
    ⊎ (((comes_after is_word_byte line place || eqb (macro_len here) 0) ≡ false)
    × (mark_with false place (place + macro_len here) (prefix_len is_word_byte (drop (macro_len here) here)) ≡ Some m))))

pub mark_at-chosen : (line : List ℕ) (place : ℕ) (m : Mark) → mark_at line place ≡ Some m → IsChosen line place m
unfolding mark_at
mark_at-chosen line place m e = chosen _ _ _ _ _ _ _ m e

-- what the names of the link macros have in common: five to seven letters and a colon
abbrev is_name : List ℕ → Bool
is_name name =
    (nat_le 6 (length name) && nat_le (length name) 8) && (list_all is_letter (take (length name - 1) name) && eqb (get_or name (length name - 1) 0) 58)

names_are : list_all is_name macro_names ≡ true
names_are = refl

-- the name that the bytes begin with
pub record HasName (bytes : List ℕ) : Type 0 where
  pub name : List ℕ
  pub known : Contains macro_names name
  pub begun : begins bytes name ≡ true
  pub len_is : macro_len bytes ≡ length name

-- which of two values a choice gave
pub picked : {A : Type 0} (b : Bool) (x y z : A) → cond b x y ≡ z → ((b ≡ true) × (x ≡ z)) ⊎ ((b ≡ false) × (y ≡ z))
picked true x y z e = inl (refl, e)
picked false x y z e = inr (refl, e)

pub find_some : {X : Type 0} (p : X → Bool) (xs : List X) (x : X) → find p xs ≡ Some x → Contains xs x × (p x ≡ true)
find_some p [] x e = cc
find_some p (y ∷ ys) x e =
    elim (picked (p y) (Some y) (find p ys) (Some x) e) [
      | inl h ↦ let same : y ≡ x = cc in ((0, omega arith, same), rw same at h.0)
      | inr h ↦ let found = find_some p ys x h.1 in ((suc found.0.0, omega arith, found.0.2), found.1)
    ]

find_later : {X : Type 0} (p : X → Bool) (y : X) (ys : List X) (x : X) → Contains (y ∷ ys) x → p y ≡ false → p x ≡ true → Contains ys x
find_later p y ys x (zero, less, is) fails passes = let same : y ≡ x = is in absurd (both_ways (p x) (rw same at fails) passes)
find_later p y ys x (suc k, less, is) fails passes = (k, omega arith, is)

pub find_known : {X : Type 0} (p : X → Bool) (xs : List X) (x : X) → Contains xs x → p x ≡ true → (y : X) × (find p xs ≡ Some y)
find_known p [] x (k, less, is) e = absurd (omega arith)
find_known p (y ∷ ys) x (k, less, is) e =
    elim (cases_Bool (p y)) [
      | inl passes ↦ (y, cond-true (p y) _ _ passes)
      | inr fails ↦
          let later = find_known p ys x (find_later p y ys x (k, less, is) fails e) e in
          (later.0, cond-false (p y) _ _ fails ∙ later.1)
    ]

name_from : (o : Option (List ℕ)) → eqb (unwrap_or (option_map length o) 0) 0 ≡ false → (name : List ℕ) × (o ≡ Some name)
name_from None e = cc
name_from (Some name) e = (name, refl)

pub has_name : (bytes : List ℕ) → eqb (macro_len bytes) 0 ≡ false → HasName bytes
unfolding macro_len
has_name bytes e =
    let o : Option (List ℕ) = find (begins bytes) macro_names in
    let found = name_from o e in
    let known = find_some (begins bytes) macro_names found.0 found.1 in
    record {
      name = found.0;
      known = known.0;
      begun = known.1;
      len_is = ap (λ (n : Option (List ℕ)). unwrap_or (option_map length n) 0) found.1;
    }

pub begins_is : (bytes text : List ℕ) → begins bytes text ≡ true → bytes ≡ text ++ drop (length text) bytes
begins_is bytes text e = (starts_is Decides-eqb bytes text _ refl).0 e

-- a text that stands at a place is read there byte by byte, and has its place in the line
pub reads_text : (line text : List ℕ) (place : ℕ) → begins (drop place line) text ≡ true → (j : ℕ) → j < length text → get_or line (place + j) 0 ≡ get_or text j 0
reads_text line text place e j h =
    sym (get_or-drop place line j 0) ∙ front_reads 0 (drop place line) text _ (begins_is (drop place line) text e) j h

pub fits_text : (line text : List ℕ) (place : ℕ) → begins (drop place line) text ≡ true → 0 < length text → place + length text ≤ length line
fits_text line text place e h =
    omega (arith, length-drop place line, front_fits (drop place line) text _ (begins_is (drop place line) text e))

-- a link macro's name stands at the place
pub record MacroAt (line : List ℕ) (place : ℕ) : Type 0 where
  pub letters : ℕ
  pub few : 5 ≤ letters
  pub most : letters ≤ 7
  pub inside : place + letters < length line
  pub colon : get_or line (place + letters) 0 ≡ 58
  pub are_letters : (j : ℕ) → j < letters → is_letter (get_or line (place + j) 0) ≡ true
  pub begins_word : comes_after is_word_byte line place ≡ false

pub macro_from_name : (line name : List ℕ) (place : ℕ) → Contains macro_names name → begins (drop place line) name ≡ true → comes_after is_word_byte line place ≡ false → (h : MacroAt line place) × (h.letters + 1 ≡ length name)
macro_from_name line name place known begun first =
    let shape : is_name name ≡ true = All-contains (λ n. is_name n ≡ true) macro_names name (AllPass-from_list_all is_name macro_names names_are) known in
    let halves = and_parts _ _ shape in
    let sizes = and_parts _ _ halves.0 in
    let parts = and_parts _ _ halves.1 in
    let low : 6 ≤ length name = leb-true _ _ sizes.0 in
    let high : length name ≤ 8 = leb-true _ _ sizes.1 in
    let words : AllPass is_letter (take (length name - 1) name) = AllPass-from_list_all is_letter _ parts.0 in (
      record {
        letters = length name - 1;
        few = omega arith;
        most = omega arith;
        inside = omega (arith, fits_text line name place begun (omega arith));
        colon = reads_text line name place begun (length name - 1) (omega arith) ∙ eqb-true _ _ parts.1;
        are_letters = λ j less.
            rw (reads_text line name place begun j (omega arith), ← get_or-take (length name - 1) name j 0 less)
            (words j 0 (omega (arith, length-take (length name - 1) name)));
        begins_word = first;
      },
      omega arith,
    )

abbrev pub HasBracket : List ℕ → ℕ → Type 0
HasBracket line place = (get_or line place 0 ≡ 91) ⊎ (get_or line place 0 ≡ 60)

-- a mark begins with a bracket or a macro's name
pub mark_needs : (line : List ℕ) (place : ℕ) (m : Mark) → mark_at line place ≡ Some m → HasBracket line place ⊎ MacroAt line place
mark_needs line place m e =
    let parts = mark_at-chosen line place m e in
    elim parts.1 [
      | inl h ↦ inl (inl (rw add-zero at (reads_text line (codes "[[") place h.0 0 (omega arith))))
      | inr other ↦ elim other [
        | inl h ↦ inl (inr (rw add-zero at (reads_text line (codes "<<") place h.0 0 (omega arith))))
        | inr h ↦
            let tests = or_parts _ _ h.0 in
            let found = has_name _ tests.1 in
            inr (macro_from_name line found.name place found.known found.begun tests.0).0
      ]
    ]
