-- What characters stand for.
use Rattle.std.proofs.Common.{◌≡◌, ℕ, zero, suc, ◌+◌, ◌-◌, ◌<◌, ◌≤◌, List, [], ◌∷◌, ◌++◌, length, Option, Some, None, Bool, true, take, drop, refl, sym, ap, ◌∙◌, arith}
use Rattle.std.specs.Prelude.{slice_index, slice_range, ◌==◌}
use Rattle.std.proofs.lemmas.Bool.{cond-true, cond-false, eq-eqb, false_from_ne_true, ne_eqb}
use Rattle.std.proofs.lemmas.List.{get_or-drop, get_or-take, length-drop, length-take-le, take_more}
use Rattle.reg_reader.specs.Markup.{IsReference, IsCharacters, HasCharacters, AreCharactersOf}
use Rattle.reg_reader.specs.Characters.{Undone, after_progress, with_byte, undone}
use Rattle.reg_reader.specs.References.{progress_of}
use Rattle.reg_reader.specs.Shown.{characters_of}
use Rattle.reg_reader.specs.Within.{Within}
use Rattle.reg_reader.specs.declared.markup.Part.{Part}
use Rattle.reg_reader.proofs.WithinLemmas.{characters-le, reference-lt}
use Rattle.reg_reader.proofs.ReferenceFronts.{reference-whole}
use Rattle.reg_reader.proofs.ReferencePlaces.{two, begins, partly}

-- the bytes from a place up to another are undone
pub record IsUndone (b : List ℕ) (from n : ℕ) (reference : Option ℕ) (text : List ℕ) : Type 0 where
  pub at : undone b from (n - from) ≡ (reference, text)
  pub place : Within reference n

pub start-undone : (b : List ℕ) (from : ℕ) → IsUndone b from from None []
start-undone b from = record { at = ap (undone b from) (let e : from - from ≡ 0 = omega arith in e); place = tt }

undone-more : (b : List ℕ) (from n : ℕ) (u v : Undone) → from ≤ n → undone b from (n - from) ≡ u → with_byte b n u.0 u.1 ≡ v → undone b from (n + 1 - from) ≡ v
undone-more b from n u v le e step =
    ap (undone b from) (let h : n + 1 - from ≡ suc (n - from) = omega arith in h)
    ∙ ap (λ (x : Undone). with_byte b (from + (n - from)) x.0 x.1) e
    ∙ ap (λ k. with_byte b k u.0 u.1) (let h : from + (n - from) ≡ n = omega arith in h) ∙ step

pub step-undone : (b : List ℕ) (from n : ℕ) (reference next : Option ℕ) (text more : List ℕ) → from ≤ n → IsUndone b from n reference text → next ≡ (with_byte b n reference text).0 → more ≡ (with_byte b n reference text).1 → Within next (n + 1) → IsUndone b from (n + 1) next more
step-undone b from n reference next text more le is a c within = record {
  at = undone-more b from n (reference, text) (next, more) le is.at (ap (λ x. (x, (with_byte b n reference text).1)) (sym a) ∙ ap (λ x. (next, x)) (sym c));
  place = within;
}

-- bytes that aren't `&` stand for themselves
pub plain-undone : (b : List ℕ) (from m : ℕ) → from + m ≤ length b → ((k : ℕ) → k < m → slice_index b (from + k) == 38 ≡ true → ⊥) → undone b from m ≡ (None, take m (drop from b))
plain-undone b from zero within other = refl
plain-undone b from (suc m) within other =
    ap (λ (x : Undone). with_byte b (from + m) x.0 x.1) (plain-undone b from m (omega arith) (λ k few. other k (omega (arith, few))))
    ∙ cond-false (slice_index b (from + m) == 38) _ _ (false_from_ne_true _ (other m (omega arith)))
    ∙ ap (λ (text : List ℕ). (None, text))
    (ap (λ x. take m (drop from b) ++ x ∷ []) (sym (get_or-drop from b m 0))
    ∙ sym (take_more (drop from b) m 0 (let e : m < length (drop from b) = omega (arith, length-drop from b, within) in e))
    ∙ ap (λ n. take n (drop from b)) (let e : m + 1 ≡ suc m = omega arith in e))

pub range-length : (b : List ℕ) (from to : ℕ) → from ≤ to → to ≤ length b → length (slice_range b from to) ≡ to - from
range-length b from to order within = length-take-le (to - from) (drop from b) (let e : to - from ≤ length (drop from b) = omega (arith, length-drop from b, within) in e)

-- the same of the bytes of a part
pub plain-part : (b : List ℕ) (from to m : ℕ) → to ≤ length b → m ≤ to - from → ((k : ℕ) → k < m → slice_index (slice_range b from to) k == 38 ≡ true → ⊥) → from ≤ to → undone b from m ≡ (None, take m (drop from b))
plain-part b from to m within few other order =
    plain-undone b from m (omega arith)
    (λ k less is. other k less
    (ap (λ x. x == 38) (get_or-take (to - from) (drop from b) k 0 (omega arith) ∙ get_or-drop from b k 0) ∙ is))

pub characters-within : {b : List ℕ} {stop i j : ℕ} {text : List ℕ} → IsCharacters b stop i j text → i < j → j ≤ length b
characters-within IsCharacters.none lt = absurd (omega arith)
characters-within (IsCharacters.plain chars within a c d) lt = omega arith
characters-within (IsCharacters.reference chars within is) lt = within

module _ (b : List ℕ) (from : ℕ) where
  module _ (j k value : ℕ) (text : List ℕ) (le : from ≤ j) (lt : j < k) (within : k ≤ length b) (is : IsReference (slice_range b j k) value) where
    inside : (m : ℕ) → j + 1 + m < k → undone b from (j + 1 - from) ≡ (Some j, text) → undone b from (j + 1 + m - from) ≡ (Some j, text)
    inside zero h at = ap (λ x. undone b from (x - from)) (let e : j + 1 + zero ≡ j + 1 = omega arith in e) ∙ at
    inside (suc m) h at =
        ap (λ x. undone b from (x - from)) (let e : j + 1 + suc m ≡ j + 1 + m + 1 = omega arith in e)
        ∙ undone-more b from (j + 1 + m) (Some j, text) (Some j, text) (omega arith) (inside m (omega arith) at)
        (ap (after_progress j text) (partly b j k value lt within is (j + 1 + m + 1) (omega arith) (omega arith)))

    over-reference : undone b from (j - from) ≡ (None, text) → undone b from (k - from) ≡ (None, text ++ value ∷ [])
    over-reference at =
        let low : j + 2 ≤ k = two b j k value lt within is in
        let first = undone-more b from j (None, text) (Some j, text) le at (cond-true (slice_index b j == 38) _ _ (eq-eqb (slice_index b j) 38 (begins b j k value lt within is))) in
        let last = ap (λ x. undone b from (x - from)) (let e : k - 1 ≡ j + 1 + (k - j - 2) = omega arith in e) ∙ inside (k - j - 2) (omega arith) first in
        ap (λ x. undone b from (x - from)) (let e : k ≡ k - 1 + 1 = omega arith in e)
        ∙ undone-more b from (k - 1) (Some j, text) (None, text ++ value ∷ []) (omega arith) last
        (ap (λ x. after_progress j text (progress_of (slice_range b j x))) (let e : k - 1 + 1 ≡ k = omega arith in e) ∙ ap (after_progress j text) (reference-whole _ value is))

  pub over-characters : {stop j : ℕ} {text : List ℕ} → IsCharacters b stop from j text → undone b from (j - from) ≡ (None, text)
  over-characters IsCharacters.none = ap (undone b from) (let e : from - from ≡ 0 = omega arith in e)
  over-characters (IsCharacters.plain {j = j} {text = text} chars within less other amp) =
      undone-more b from j (None, text) (None, text ++ slice_index b j ∷ []) (characters-le chars) (over-characters chars)
      (cond-false (slice_index b j == 38) _ _ (ne_eqb (slice_index b j) 38 amp))
  over-characters (IsCharacters.reference {j = j} {k = k} {n = n} {text = text} chars within is) =
      over-reference j k n text (characters-le chars) (reference-lt b j k n is) within is (over-characters chars)

pub characters-undone : (b : List ℕ) (part : Part) (n : ℕ) (reference : Option ℕ) (text : List ℕ) → n ≡ part.to → IsUndone b part.from n reference text → AreCharactersOf b part text
characters-undone b part n reference text e is stop other chars =
    ap (λ (x : Undone). x.1) (sym is.at ∙ ap (λ x. undone b part.from (x - part.from)) e ∙ over-characters b part.from chars)

pub undone-value : (b : List ℕ) (part : Part) (n : ℕ) (reference : Option ℕ) (text : List ℕ) → n ≡ part.to → IsUndone b part.from n reference text → text ≡ characters_of b part
undone-value b part n reference text e is = ap (λ (x : Undone). x.1) (sym is.at ∙ ap (λ x. undone b part.from (x - part.from)) e)

pub part-le : (b : List ℕ) (part : Part) → HasCharacters b part → part.from ≤ part.to
part-le b part has = characters-le has.2

pub part-within : (b : List ℕ) (part : Part) (n : ℕ) → HasCharacters b part → part.from ≤ n → n < part.to → n < length b
part-within b part n has low lt = let le : part.to ≤ length b = characters-within has.2 (omega arith) in omega arith
