-- The options of a registry: features, extensions, bits.
use Rattle.std.proofs.Common.{◌≡◌, ℕ, ◌+◌, ◌<◌, ◌≤◌, Bool, true, false, not, cond, List, [], ◌∷◌, ◌++◌, filter, get_or, length, map, slice_get, take, Option, Some, None, is_none, is_some, below_more, refl, sym, ap, ◌∙◌, arith}
use Rattle.std.specs.Option.{option_map_or}
use Rattle.std.proofs.Math.ListN.{get_or-append}
use Rattle.std.proofs.lemmas.List.{get_or_push, length-take, map-append}
use Rattle.std.proofs.lemmas.List.Filters.{length-filter_more}
use Rattle.std.proofs.lemmas.List.Sums.{count_by-le-length, length-filter}
use Rattle.std.proofs.lemmas.Option.{slice_get_read}
use Rattle.reg_forms.specs.declared.forms.Forms.{Forms}
use Rattle.reg_forms.specs.declared.forms.OptionForm.{OptionForm}
use Rattle.reg_tables.specs.Bits.{Atom, Readings, atom_of, bits_of}
use Rattle.reg_tables.specs.Tables.{extensions_in, features_in}
use Rattle.reg_tables.specs.declared.bits.Bit.{Bit}
use Rattle.reg_rows.specs.Rows.{option_names, option_place}

-- std's word on `is_none`
pub none_is : {A : Type 0} (o : Option A) (b : Bool) → is_some o ≡ not b → is_none o ≡ b
none_is None true e = refl
none_is None false e = absurd (cc)
none_is (Some x) true e = absurd (cc)
none_is (Some x) false e = refl

seconds : {X : Type 0} (place : X → ℕ) (name_of : X → List ℕ) (xs : List X) → map (λ (atom : Atom). atom.1) (map (λ x. (place x, name_of x)) xs) ≡ map name_of xs
seconds place name_of [] = refl
seconds place name_of (x ∷ xs) = ap (λ more. name_of x ∷ more) (seconds place name_of xs)

-- the names of the options, part by part
pub option_names-parts : (f : Forms) (readings : Readings) (bits : List Bit) → map atom_of bits ≡ bits_of f readings → option_names f readings ≡ (map (λ o. o.name) (features_in f) ++ map (λ o. o.name) (extensions_in f)) ++ map (λ bit. bit.name) bits
option_names-parts f readings bits are =
    let features : List Atom = map (λ o. (o.place, o.name)) (features_in f) in
    let extensions : List Atom = map (λ o. (o.place, o.name)) (extensions_in f) in
    let second : Atom → List ℕ = λ atom. atom.1 in
    map-append second (features ++ extensions) (bits_of f readings)
    ∙ ap (λ names. names ++ map second (bits_of f readings)) (
    map-append second features extensions
    ∙ ap (λ names. names ++ map second extensions) (seconds (λ o. o.place) (λ o. o.name) (features_in f))
    ∙ ap (λ names. map (λ o. o.name) (features_in f) ++ names) (seconds (λ o. o.place) (λ o. o.name) (extensions_in f))
    )
    ∙ ap (λ names. (map (λ o. o.name) (features_in f) ++ map (λ o. o.name) (extensions_in f)) ++ names) (ap (map second) (sym are) ∙ seconds (λ bit. bit.place) (λ bit. bit.name) bits)

-- A loop over the options that stand in the text, which counts features and extensions, and notes the place of each.
module _ (f : Forms) (shown : List OptionForm) (items : shown ≡ f.options) (i : ℕ) (o : OptionForm) (within : i < length shown) (there : o ≡ get_or shown i o) where
  here : slice_get f.options i ≡ Some o
  here = ap (λ xs. slice_get xs i) (sym items) ∙ slice_get_read shown (length shown) i o refl within there

  counted : (p : OptionForm → Bool) (b : Bool) → p o ≡ b → length (filter p (take (i + 1) f.options)) ≡ length (filter p (take i f.options)) + cond b 1 0
  counted p b e =
      length-filter_more p f.options i o (omega (arith, ap length items))
      ∙ ap (λ x. length (filter p (take i f.options)) + cond (p x) 1 0) (sym (there ∙ ap (λ xs. get_or xs i o) items))
      ∙ ap (λ b. length (filter p (take i f.options)) + cond b 1 0) e

  pub one-more : (p : OptionForm → Bool) → p o ≡ true → length (filter p (take (i + 1) f.options)) ≡ length (filter p (take i f.options)) + 1
  one-more p e = counted p true e

  pub as-many : (p : OptionForm → Bool) → p o ≡ false → length (filter p (take (i + 1) f.options)) ≡ length (filter p (take i f.options))
  as-many p e = counted p false e ∙ (let same : length (filter p (take i f.options)) + 0 ≡ length (filter p (take i f.options)) = omega arith in same)

  -- its place among the options
  placed : (b : Bool) → is_some o.version ≡ b → option_place f i ≡ cond b (length (filter (λ other. is_some other.version) (take i f.options))) (length (features_in f) + length (filter (λ other. is_none other.version) (take i f.options)))
  placed b e =
      ap (λ found. option_map_or (λ other. cond (is_some other.version) (length (filter (λ x. is_some x.version) (take i f.options))) (length (features_in f) + length (filter (λ x. is_none x.version) (take i f.options)))) found 0) here
      ∙ ap (λ b. cond b (length (filter (λ x. is_some x.version) (take i f.options))) (length (features_in f) + length (filter (λ x. is_none x.version) (take i f.options)))) e

  pub place-more : (b : Bool) → is_some o.version ≡ b → (places more : List ℕ) (place : ℕ) → length places ≡ i → ((k : ℕ) → k < i → get_or places k 0 ≡ option_place f k)
      → place ≡ cond b (length (filter (λ other. is_some other.version) (take i f.options))) (length (features_in f) + length (filter (λ other. is_none other.version) (take i f.options)))
      → more ≡ places ++ place ∷ [] → (k : ℕ) → k < i + 1 → get_or more k 0 ≡ option_place f k
  place-more b e places more place count are is m =
      below_more (λ k. get_or more k 0 ≡ option_place f k) i (λ k small. ap (λ xs. get_or xs k 0) m ∙ get_or-append places (place ∷ []) 0 k (omega arith) ∙ are k small)
      (ap (λ xs. get_or xs i 0) m ∙ get_or_push places place 0 i count ∙ is ∙ sym (placed b e))

-- there are no more than all
pub few_pass : (p : OptionForm → Bool) (options : List OptionForm) (i : ℕ) → length (filter p (take i options)) ≤ length options
few_pass p options i =
    omega (arith, length-filter p (take i options), count_by-le-length p (take i options), length-take i options)
