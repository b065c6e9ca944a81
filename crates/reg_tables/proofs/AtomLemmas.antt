-- The names in a text, by the places of its names.
use Rattle.std.proofs.Common.{◌≡◌, ℕ, ◌<◌, ◌≤◌, Bool, List, [], ◌∷◌, ◌++◌, length, map, Option, Some, None, refl, sym, ap, subst, ◌∙◌}
use Rattle.std.specs.Prelude.{All, filter, option_map, slice_range}
use Rattle.std.specs.List.{flat_map}
use Rattle.std.proofs.lemmas.List.Elements.{All-get_or, filter-append}
use Rattle.std.proofs.lemmas.Option.{none-some, same_Some}
use Rattle.vkb_formula.specs.Expressions.{Expression, places_of}
use Rattle.reg_forms.specs.declared.forms.DependsText.{DependsText}
use Rattle.reg_forms.specs.declared.forms.Forms.{Forms}
use Rattle.reg_tables.specs.Bits.{Atom, Readings, atoms_in}
use Rattle.reg_tables.specs.Words.{AreReadings, AreWords, HasNamesOf}
use Rattle.reg_tables.proofs.ReadingLemmas.{IsAt}

-- a name of a text at a place
abbrev pub atom_at : DependsText → ℕ × ℕ → Atom
atom_at text place = (text.place, slice_range text.text place.0 place.1)

mapped-twice : {A B C : Type 0} (f : A → B) (g : B → C) (xs : List A) → map g (map f xs) ≡ map (λ x. g (f x)) xs
mapped-twice f g [] = refl
mapped-twice f g (x ∷ xs) = ap (λ more. g (f x) ∷ more) (mapped-twice f g xs)

atoms-of : (text : DependsText) (o : Option Expression) (places : List (ℕ × ℕ)) → Some places ≡ option_map (places_of 0) o
    → HasNamesOf (text, o) → atoms_in (text, o) ≡ map (atom_at text) places
atoms-of text None places e h = absurd (none-some places (sym e))
atoms-of text (Some one) places e h =
    ap (map (λ name. (text.place, name))) (sym h.names_are)
    ∙ mapped-twice (λ (place : ℕ × ℕ). slice_range text.text place.0 place.1) (λ name. (text.place, name)) (places_of 0 one)
    ∙ ap (map (atom_at text)) (sym (same_Some places (places_of 0 one) e))

within-of : (text : DependsText) (o : Option Expression) (places : List (ℕ × ℕ)) → Some places ≡ option_map (places_of 0) o
    → HasNamesOf (text, o) → All (λ place. (place.0 < place.1) × (place.1 ≤ length text.text)) places
within-of text None places e h = absurd (none-some places (sym e))
within-of text (Some one) places e h = subst (All (λ place. (place.0 < place.1) × (place.1 ≤ length text.text))) (sym (same_Some places (places_of 0 one) e)) h.within

named-at : (readings : Readings) (at : ℕ) (text : DependsText) (word : Option (List (ℕ × ℕ))) (reading : DependsText × Option Expression)
    → All HasNamesOf readings → IsAt readings at text word reading → HasNamesOf reading
named-at readings at text word reading named h = subst HasNamesOf (sym h.is) (All-get_or HasNamesOf readings at reading h.within named)

pub atoms-at : (readings : Readings) (at : ℕ) (text : DependsText) (places : List (ℕ × ℕ)) (reading : DependsText × Option Expression)
    → All HasNamesOf readings → IsAt readings at text (Some places) reading → atoms_in reading ≡ map (atom_at text) places
atoms-at readings at text places reading named h =
    atoms-of reading.0 reading.1 places h.word_is (named-at readings at text (Some places) reading named h)
    ∙ ap (λ one. map (atom_at one) places) h.text_is

pub within-at : (readings : Readings) (at : ℕ) (text : DependsText) (places : List (ℕ × ℕ)) (reading : DependsText × Option Expression)
    → All HasNamesOf readings → IsAt readings at text (Some places) reading
    → All (λ place. (place.0 < place.1) × (place.1 ≤ length text.text)) places
within-at readings at text places reading named h =
    subst (λ (one : DependsText). All (λ place. (place.0 < place.1) × (place.1 ≤ length one.text)) places) h.text_is
    (within-of reading.0 reading.1 places h.word_is (named-at readings at text (Some places) reading named h))

no-atoms-of : (text : DependsText) (o : Option Expression) → None ≡ option_map (places_of 0) o → atoms_in (text, o) ≡ []
no-atoms-of text None e = refl
no-atoms-of text (Some one) e = absurd (none-some (places_of 0 one) e)

pub no-atoms-at : (readings : Readings) (at : ℕ) (text : DependsText) (reading : DependsText × Option Expression)
    → IsAt readings at text None reading → atoms_in reading ≡ []
no-atoms-at readings at text reading h = no-atoms-of reading.0 reading.1 h.word_is

-- all readings of the texts have their names at these places
pub all-named : (f : Forms) (words : List (Option (List (ℕ × ℕ)))) (readings : Readings) → AreWords f words
    → AreReadings f readings → All HasNamesOf readings
all-named f words readings w h = subst (All HasNamesOf) (sym (w.only readings h)) w.named

pub filter-flat : {A B : Type 0} (p : B → Bool) (g : A → List B) (xs : List A)
    → filter p (flat_map g xs) ≡ flat_map (λ x. filter p (g x)) xs
filter-flat p g [] = refl
filter-flat p g (x ∷ xs) = filter-append p (g x) (flat_map g xs) ∙ ap (λ more. filter p (g x) ++ more) (filter-flat p g xs)
