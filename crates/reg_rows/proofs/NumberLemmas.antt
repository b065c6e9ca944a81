-- No two features of a registry have one number: those that are read differ, and neither an extension nor a bit has one.
use Rattle.std.proofs.Common.{◌≡◌, ℕ, zero, suc, Bool, List, [], ◌∷◌, ◌++◌, map, filter, slice_get, Option, Some, is_some, is_none, refl, sym, ap, ◌∙◌, arith}
use Rattle.std.proofs.lemmas.Bool.{both_ways, cond_both}
use Rattle.std.proofs.lemmas.Option.{none-some, same_Some}
use Rattle.reg_registry.specs.Naming.{NumbersDiffer}
use Rattle.reg_registry.specs.declared.registry.OptionRow.{OptionRow}
use Rattle.reg_forms.specs.Sizes.{VersionsDiffer}
use Rattle.reg_forms.specs.declared.forms.Forms.{Forms}
use Rattle.reg_forms.specs.declared.forms.OptionForm.{OptionForm}
use Rattle.reg_tables.specs.Bits.{Readings, bits_of}
use Rattle.reg_tables.specs.Tables.{extensions_in, features_in}
use Rattle.reg_rows.specs.Rows.{bit_row, names_in, option_names, option_row, option_rows_of}

module _ {X : Type 0} (number : X → Option (ℕ × ℕ)) where
  -- by places: things at two places have different numbers
  abbrev Differ : List X → Type 0
  Differ xs =
      (place other : ℕ) (x y : X) (version : ℕ × ℕ) → slice_get xs place ≡ Some x → slice_get xs other ≡ Some y
      → number x ≡ Some version → number y ≡ Some version → place ≡ other

  -- none of these has the number
  abbrev Lack : ℕ × ℕ → List X → Type 0
  Lack version [] = Unit {0}
  Lack version (x ∷ xs) = (number x ≡ Some version → ⊥) × Lack version xs

  -- by the list: what stands behind a thing hasn't its number
  abbrev AreApart : List X → Type 0
  AreApart [] = Unit {0}
  AreApart (x ∷ xs) = ((version : ℕ × ℕ) → number x ≡ Some version → Lack version xs) × AreApart xs

  lack-from : (version : ℕ × ℕ) (xs : List X) → ((place : ℕ) (x : X) → slice_get xs place ≡ Some x → number x ≡ Some version → ⊥) → Lack version xs
  lack-from version [] none = tt
  lack-from version (x ∷ xs) none = (none zero x refl, lack-from version xs (λ place. none (suc place)))

  lack-at : (version : ℕ × ℕ) (xs : List X) → Lack version xs → (place : ℕ) (x : X) → slice_get xs place ≡ Some x → number x ≡ Some version → ⊥
  lack-at version [] lack place x here is = none-some x here
  lack-at version (first ∷ xs) lack zero x here is = lack.0 (ap number (same_Some first x here) ∙ is)
  lack-at version (first ∷ xs) lack (suc place) x here is = lack-at version xs lack.1 place x here is

  lack-filter : (p : X → Bool) (version : ℕ × ℕ) (xs : List X) → Lack version xs → Lack version (filter p xs)
  lack-filter p version [] lack = tt
  lack-filter p version (x ∷ xs) lack =
      let rest = lack-filter p version xs lack.1 in
      cond_both (p x) (x ∷ filter p xs) (filter p xs) (Lack version) (λ passes. (lack.0, rest)) (λ fails. rest)

  lack-append : (version : ℕ × ℕ) (xs ys : List X) → Lack version xs → Lack version ys → Lack version (xs ++ ys)
  lack-append version [] ys lack also = also
  lack-append version (x ∷ xs) ys lack also = (lack.0, lack-append version xs ys lack.1 also)

  apart-from : (xs : List X) → Differ xs → AreApart xs
  apart-from [] differ = tt
  apart-from (x ∷ xs) differ = (
    λ version is. lack-from version xs (λ place y there also. omega (arith, differ zero (suc place) x y version refl there is also)),
    apart-from xs (λ place other x y version here there is also. omega (arith, differ (suc place) (suc other) x y version here there is also)),
  )

  apart-at : (xs : List X) → AreApart xs → (place other : ℕ) (x y : X) (version : ℕ × ℕ) → slice_get xs place ≡ Some x → slice_get xs other ≡ Some y
      → number x ≡ Some version → number y ≡ Some version → place ≡ other
  apart-at [] apart place other x y version here there is also = absurd (none-some x here)
  apart-at (first ∷ xs) apart zero zero x y version here there is also = refl
  apart-at (first ∷ xs) apart zero (suc other) x y version here there is also =
      absurd (lack-at version xs (apart.0 version (ap number (same_Some first x here) ∙ is)) other y there also)
  apart-at (first ∷ xs) apart (suc place) zero x y version here there is also =
      absurd (lack-at version xs (apart.0 version (ap number (same_Some first y there) ∙ also)) place x here is)
  apart-at (first ∷ xs) apart (suc place) (suc other) x y version here there is also = ap suc (apart-at xs apart.1 place other x y version here there is also)

  apart-filter : (p : X → Bool) (xs : List X) → AreApart xs → AreApart (filter p xs)
  apart-filter p [] apart = tt
  apart-filter p (x ∷ xs) apart =
      let rest = apart-filter p xs apart.1 in
      cond_both (p x) (x ∷ filter p xs) (filter p xs) AreApart
      (λ passes. (λ version is. lack-filter p version xs (apart.0 version is), rest))
      (λ fails. rest)

  -- behind these there are only things without a number
  apart-bare : (ys : List X) → ((version : ℕ × ℕ) → Lack version ys) → AreApart ys
  apart-bare [] bare = tt
  apart-bare (y ∷ ys) bare = (λ version is. (bare version).1, apart-bare ys (λ version. (bare version).1))

  apart-append : (xs ys : List X) → AreApart xs → ((version : ℕ × ℕ) → Lack version ys) → AreApart (xs ++ ys)
  apart-append [] ys apart bare = apart-bare ys bare
  apart-append (x ∷ xs) ys apart bare = (λ version is. lack-append version xs ys (apart.0 version is) (bare version), apart-append xs ys apart.1 bare)

  module _ {Y : Type 0} (make : Y → X) where
    lack-map : (version : ℕ × ℕ) (ys : List Y) → ((y : Y) → number (make y) ≡ Some version → ⊥) → Lack version (map make ys)
    lack-map version [] none = tt
    lack-map version (y ∷ ys) none = (none y, lack-map version ys none)

-- rows that are made of options, each with its number
module _ (make : OptionForm → OptionRow) (kept : (o : OptionForm) → (make o).version ≡ o.version) where
  lack-rows : (version : ℕ × ℕ) (os : List OptionForm) → Lack (λ o. o.version) version os → Lack (λ row. row.version) version (map make os)
  lack-rows version [] lack = tt
  lack-rows version (o ∷ os) lack = (λ is. lack.0 (sym (kept o) ∙ is), lack-rows version os lack.1)

  apart-rows : (os : List OptionForm) → AreApart (λ o. o.version) os → AreApart (λ row. row.version) (map make os)
  apart-rows [] apart = tt
  apart-rows (o ∷ os) apart = (λ version is. lack-rows version os (apart.0 version (sym (kept o) ∙ is)), apart-rows os apart.1)

-- an extension has no number
lack-extensions : (version : ℕ × ℕ) (os : List OptionForm) → Lack (λ o. o.version) version (filter (λ o. is_none o.version) os)
lack-extensions version [] = tt
lack-extensions version (o ∷ os) =
    let rest = lack-extensions version os in
    cond_both (is_none o.version) (o ∷ filter (λ o. is_none o.version) os) (filter (λ o. is_none o.version) os) (Lack (λ o. o.version) version)
    (λ bare. (λ is. both_ways (is_none o.version) (ap is_none is) bare, rest))
    (λ numbered. rest)

pub numbers-differ : (f : Forms) (readings : Readings) → VersionsDiffer f.options → NumbersDiffer (option_rows_of f readings)
numbers-differ f readings differ =
    let number : OptionRow → Option (ℕ × ℕ) = λ row. row.version in
    let rows : List OptionRow = map (option_row (option_names f readings) readings) (features_in f ++ extensions_in f) in
    let bits : List OptionRow = map (bit_row (names_in f)) (bits_of f readings) in
    apart-at number (rows ++ bits)
    (apart-append number rows bits
    (apart-rows (option_row (option_names f readings) readings) (λ o. refl) (features_in f ++ extensions_in f)
    (apart-append (λ o. o.version) (features_in f) (extensions_in f)
    (apart-filter (λ o. o.version) (λ o. is_some o.version) f.options (apart-from (λ o. o.version) f.options differ))
    (λ version. lack-extensions version f.options)))
    (λ version. lack-map number (bit_row (names_in f)) version (bits_of f readings) (λ atom is. none-some version is)))
