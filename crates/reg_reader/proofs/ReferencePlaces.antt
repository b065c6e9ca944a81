-- A reference that stands in a text.
use Rattle.std.proofs.Common.{◌≡◌, ℕ, suc, ◌+◌, ◌-◌, ◌<◌, ◌≤◌, List, ◌∷◌, length, take, drop, get_or, sym, ap, ◌∙◌, arith, drop-cons, length-take, length-drop}
use Rattle.std.specs.Prelude.{slice_index, slice_range}
use Rattle.std.proofs.lemmas.List.{take-take}
use Rattle.reg_reader.specs.Markup.{IsReference}
use Rattle.reg_reader.specs.References.{progress_of}
use Rattle.reg_reader.specs.declared.reference.Progress.TheVariants as progress
use Rattle.reg_reader.proofs.ReferenceFronts.{reference-begins, reference-partial}
use Rattle.reg_reader.proofs.WithinLemmas.{reference-long}

module _ (b : List ℕ) (j k value : ℕ) (lt : j < k) (within : k ≤ length b) (is : IsReference (slice_range b j k) value) where
  long : length (slice_range b j k) ≡ k - j
  long = omega (arith, length-take (k - j) (drop j b), length-drop j b)

  pub two : j + 2 ≤ k
  two = omega (arith, reference-long _ value is, long)

  pub begins : slice_index b j ≡ 38
  begins =
      sym (ap (λ xs. get_or (take (k - j) xs) 0 0) (drop-cons b j 0 (omega arith))
      ∙ ap (λ m. get_or (take m (get_or b j 0 ∷ drop (suc j) b)) 0 0) (let e : k - j ≡ suc (k - j - 1) = omega arith in e))
      ∙ reference-begins _ value is

  pub partly : (m : ℕ) → j < m → m < k → progress_of (slice_range b j m) ≡ progress.Partial
  partly m low high =
      ap progress_of (sym (take-take (m - j) (k - j) (drop j b) (omega arith)))
      ∙ reference-partial _ value (m - j) is (omega arith) (omega (arith, long))
