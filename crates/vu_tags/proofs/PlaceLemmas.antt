-- What is found at the places of a text at which a word stands, and nowhere else.
use Rattle.std.proofs.Common.{◌≡◌, ℕ, zero, suc, ◌+◌, ◌<◌, true, false, List, [], ◌∷◌, ◌++◌, Option, Some, None, length, drop, get_or-drop, length-drop, refl, sym, ap, ◌∙◌, arith}
use Rattle.std.proofs.lemmas.Bool.Decides.{Decides-eqb}
use Rattle.std.proofs.lemmas.Slice.Eq.{starts_is}
use Rattle.std.proofs.lemmas.List.Prefix.{front_fits, front_reads}
use Rattle.std.proofs.lemmas.List.{drop-drop}
use Rattle.std.specs.Prelude.{IfSome, IfNone}
use Rattle.std.specs.List.{cons_option, filter_map}
use Rattle.memchr.specs.Find.{FindsNeedle, OccursAt}
use Rattle.memchr.proofs.lemmas.MatchLemmas.{OccursAt-split}
use Rattle.vkb_bytes.specs.Bytes.{begins}
use Rattle.vu_tags.specs.Tags.{tails}
use Rattle.vu_tags.proofs.LineLemmas.{is_false}

-- what begins with a word is the word and what follows it
pub begins_front : (text word : List ℕ) → begins text word ≡ true → text ≡ word ++ drop (length word) text
begins_front text word h = (starts_is Decides-eqb text word (begins text word) refl).0 h

pub begins_on : (text word rest : List ℕ) → text ≡ word ++ rest → begins text word ≡ true
begins_on text word rest h = (starts_is Decides-eqb text word (begins text word) refl).1 rest h

module _ (text word : List ℕ) (some : 0 < length word) where
  begins_at : (k : ℕ) → OccursAt text word k → begins (drop k text) word ≡ true
  begins_at k occurs = begins_on (drop k text) word (drop (k + length word) text) (OccursAt-split text word k occurs)

  occurs_at : (k : ℕ) → begins (drop k text) word ≡ true → OccursAt text word k
  occurs_at k begun =
      let split = begins_front (drop k text) word begun in
      let fits = front_fits (drop k text) word (drop (length word) (drop k text)) split in
      record {
        fits = omega (arith, fits, length-drop k text);
        reads = λ j less. sym (get_or-drop k text j 0) ∙ front_reads 0 (drop k text) word (drop (length word) (drop k text)) split j less;
      }

  pub found_here : (r : Option ℕ) → FindsNeedle text word 0 r → IfSome r (λ place. begins (drop place text) word ≡ true)
  found_here None h = tt
  found_here (Some k) h = begins_at k h.1

  pub found_within : (r : Option ℕ) → FindsNeedle text word 0 r → IfSome r (λ place. place < length text)
  found_within None h = tt
  found_within (Some k) h = omega (arith, h.1.fits)

  pub found_first : (r : Option ℕ) → FindsNeedle text word 0 r → IfSome r (λ place. (k : ℕ) → k < place → begins (drop k text) word ≡ false)
  found_first None h = tt
  found_first (Some place) h = λ k less. is_false _ (λ begun. h.0.before k (omega arith) less (occurs_at k begun))

  pub found_none : (r : Option ℕ) → FindsNeedle text word 0 r → IfNone r ((k : ℕ) → begins (drop k text) word ≡ false)
  found_none (Some place) h = tt
  found_none None h = λ k. is_false _ (λ begun. let occurs = occurs_at k begun in h k (omega arith) (omega (arith, occurs.fits)) occurs)

module _ {X : Type 0} (f : List ℕ → Option X) (word : List ℕ) (needs : (bytes : List ℕ) → begins bytes word ≡ false → f bytes ≡ None) where
  -- places at which the word doesn't stand give nothing
  pub skipped : (n : ℕ) (text : List ℕ) → ((k : ℕ) → k < n → begins (drop k text) word ≡ false) → filter_map f (tails text) ≡ filter_map f (tails (drop n text))
  skipped zero text none = refl
  skipped (suc n) [] none = refl
  skipped (suc n) (b ∷ bs) none =
      rw (needs (b ∷ bs) (none 0 (omega arith))) (skipped n bs (λ k below. none (suc k) (omega arith)))

  pub none_found : (text : List ℕ) → ((k : ℕ) → begins (drop k text) word ≡ false) → filter_map f (tails text) ≡ []
  none_found [] none = refl
  none_found (b ∷ bs) none = rw (needs (b ∷ bs) (none 0)) (none_found bs (λ k. none (suc k)))

  -- the first place at which it stands
  pub first_found : (text : List ℕ) (place : ℕ) → place < length text → ((k : ℕ) → k < place → begins (drop k text) word ≡ false)
      → filter_map f (tails text) ≡ cons_option (f (drop place text)) (filter_map f (tails (drop (place + 1) text)))
  first_found [] place within none = absurd (omega arith)
  first_found (b ∷ bs) zero within none = refl
  first_found (b ∷ bs) (suc place) within none =
      let n : suc place + 1 ≡ suc (place + 1) = omega arith in
      rw (needs (b ∷ bs) (none 0 (omega arith)), n) (first_found bs place (omega arith) (λ k below. none (suc k) (omega arith)))

  -- the same, from a place of the text on
  pub found_from : (text : List ℕ) (at step : ℕ) → at + step < length text → ((k : ℕ) → k < step → begins (drop k (drop at text)) word ≡ false)
      → filter_map f (tails (drop at text)) ≡ cons_option (f (drop (at + step) text)) (filter_map f (tails (drop (at + step + 1) text)))
  found_from text at step within none =
      let n : at + (step + 1) ≡ at + step + 1 = omega arith in
      first_found (drop at text) step (omega (arith, length-drop at text)) none
      ∙ ap (λ (bytes : List ℕ). cons_option (f bytes) (filter_map f (tails (drop (step + 1) (drop at text))))) (drop-drop step at text)
      ∙ ap (λ (bytes : List ℕ). cons_option (f (drop (at + step) text)) (filter_map f (tails bytes))) (drop-drop (step + 1) at text ∙ ap (λ (k : ℕ). drop k text) n)
