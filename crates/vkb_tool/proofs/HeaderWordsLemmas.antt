-- The words of a request for a header, and where they stop being those of one.
use Rattle.std.proofs.Common.{inl, inr, ◌≡◌, ◌≢◌, ◌⊎◌, ℕ, suc, ◌+◌, ◌<◌, ◌≤◌, List, [], ◌∷◌, ◌++◌, length, take, drop, get_or, Some, None, slice_get, codes, refl, sym, ap, ◌∙◌, arith, All}
use Rattle.std.proofs.lemmas.Bool.{cases_lt}
use Rattle.std.proofs.lemmas.Option.{none-some, slice_get_past, slice_get_within, slice_get-get_or}
use Rattle.std.proofs.lemmas.List.{take-append-drop, take-take, take_all}
use Rattle.std.proofs.lemmas.List.Elements.{All-get_or, All-nil}
use Rattle.vkb_tool.specs.Reading.{IsApiThird, IsRegistryNamed, LeadsOptions}
use Rattle.vkb_tool.specs.Words.{IsApiOf, IsMisplaced, IsOptionWord, Spells}
use Rattle.vkb_tool.specs.declared.words.Request.{Request}
use Rattle.vkb_tool.specs.declared.words.Request.TheVariants.{Build, Check, Header, Tag}
use Rattle.vkb_tool.proofs.WordsLemmas.{is_name_a, misplaced_from, same_first, take_next}

-- the words of a request for a header
abbrev pub header_words : List ℕ → List ℕ → List (List ℕ) → List (List ℕ)
header_words registry api names = codes "header" ∷ registry ∷ api ∷ names

record IsHeaderOf (words : List (List ℕ)) : Type 0 where
  pub registry : List ℕ
  pub api : List ℕ
  pub names : List (List ℕ)
  pub goes : IsApiOf (Some registry) api
  pub set : All IsOptionWord names
  pub words_are : words ≡ header_words registry api names

-- the words of a request are those of one for a header where the first of them says so
spelled_header : (words : List (List ℕ)) (request : Request) → Spells words request → slice_get words 0 ≡ Some (codes "header") → IsHeaderOf words
spelled_header words (Check registry root api always) spelled first =
    let other : Some (codes "check") ≡ Some (codes "header") = sym (ap (λ (w : List (List ℕ)). slice_get w 0) spelled.3) ∙ first in absurd (cc)
spelled_header words (Build registry root api names always) spelled first =
    let other : Some (codes "build") ≡ Some (codes "header") = sym (ap (λ (w : List (List ℕ)). slice_get w 0) spelled.4) ∙ first in absurd (cc)
spelled_header words (Header registry api names) spelled first = record { registry = registry; api = api; names = names; goes = spelled.0; set = spelled.1; words_are = spelled.2 }
spelled_header words (Tag number files) spelled first =
    let other : Some (codes "tag") ≡ Some (codes "header") = sym (ap (λ (w : List (List ℕ)). slice_get w 0) spelled.3) ∙ first in absurd (cc)

-- the file `a` and the API `a`
file_a : IsApiOf (Some (97 ∷ [])) (97 ∷ [])
file_a = (is_name_a, (λ e. cc), refl)

-- the first k words are those of a request for a header, and the next one is that of none that begins so
header_misplaced : (words : List (List ℕ)) (k : ℕ) (registry api : List ℕ) (names : List (List ℕ)) → IsApiOf (Some registry) api → All IsOptionWord names → 1 ≤ k → k ≤ length words
    → take k words ≡ take k (header_words registry api names)
    → ((more : List (List ℕ)) → IsHeaderOf more → take k more ≡ take k words → slice_get more k ≢ slice_get words k) → IsMisplaced words (k + 1)
header_misplaced words k registry api names goes set some long front differs =
    let like = header_words registry api names in
    let whole : take k words ++ drop k like ≡ like = ap (λ (w : List (List ℕ)). w ++ drop k like) front ∙ take-append-drop k like in
    misplaced_from words k long (drop k like, Header registry api names, (goes, set, whole))
    (λ more request spelled alike same.
    let first : slice_get more 0 ≡ Some (codes "header") = same_first more like k some (alike ∙ front) in
    differs more (spelled_header more request spelled first) alike same)

-- the words up to a place, where each word before it is as it must be
header_1 : (words : List (List ℕ)) → slice_get words 0 ≡ Some (codes "header") → take 1 words ≡ codes "header" ∷ []
header_1 words first = take_next words 0 (codes "header") first

header_2 : (words : List (List ℕ)) (registry : List ℕ) → slice_get words 0 ≡ Some (codes "header") → slice_get words 1 ≡ Some registry → take 2 words ≡ codes "header" ∷ registry ∷ []
header_2 words registry first second = take_next words 1 registry second ∙ ap (λ (w : List (List ℕ)). w ++ registry ∷ []) (header_1 words first)

pub header_3 : (words : List (List ℕ)) (registry api : List ℕ) → slice_get words 0 ≡ Some (codes "header") → slice_get words 1 ≡ Some registry → slice_get words 2 ≡ Some api → take 3 words ≡ header_words registry api []
header_3 words registry api first second third = take_next words 2 api third ∙ ap (λ (w : List (List ℕ)). w ++ api ∷ []) (header_2 words registry first second)

-- the second word is no name of a registry's file
pub no_registry : (words : List (List ℕ)) → slice_get words 0 ≡ Some (codes "header") → ((name : List ℕ) → ¬ IsRegistryNamed words name) → IsMisplaced words 2
no_registry words first none =
    let within = slice_get_within words 0 (codes "header") first in
    header_misplaced words 1 (97 ∷ []) (97 ∷ []) [] file_a (All-nil IsOptionWord) (omega arith) (omega arith) (header_1 words first)
    (λ more is alike same.
    let there : slice_get words 1 ≡ Some is.registry = sym same ∙ ap (λ (w : List (List ℕ)). slice_get w 1) is.words_are in
    none is.registry ((there, is.goes.0), is.goes.1))

-- the third word is no API
pub no_api : (words : List (List ℕ)) (registry : List ℕ) → slice_get words 0 ≡ Some (codes "header") → IsRegistryNamed words registry → ((api : List ℕ) → ¬ IsApiThird words api) → IsMisplaced words 3
no_api words registry first second none =
    let within = slice_get_within words 1 registry second.0.0 in
    header_misplaced words 2 registry (97 ∷ []) [] (second.0.1, second.1, refl) (All-nil IsOptionWord) (omega arith) (omega arith) (header_2 words registry first second.0.0)
    (λ more is alike same.
    let there : slice_get words 2 ≡ Some is.api = sym same ∙ ap (λ (w : List (List ℕ)). slice_get w 2) is.words_are in
    none is.api (there, is.goes.2))

-- what a look-up among names gives, in both cases
looked_up : (names : List (List ℕ)) (j : ℕ) → All IsOptionWord names → (slice_get names j ≡ None) ⊎ ((name : List ℕ) × IsOptionWord name × (slice_get names j ≡ Some name))
looked_up names j set =
    elim (cases_lt j (length names)) [
      | inl below ↦ inr (get_or names j [], All-get_or IsOptionWord names j [] below set, slice_get-get_or names j [] below)
      | inr past ↦ inl (slice_get_past names j past)
    ]

-- the words of a request for a header stop behind those for options, and one more stands there
pub no_option_at : (words : List (List ℕ)) (registry api : List ℕ) (names : List (List ℕ)) → IsApiOf (Some registry) api → take 3 words ≡ header_words registry api [] → LeadsOptions 3 words names → 3 + length names < length words
    → IsMisplaced words (3 + length names + 1)
no_option_at words registry api names goes front leads more_words =
    let k = 3 + length names in
    let like = header_words registry api names in
    let same : take k words ≡ like = leads.words_are ∙ ap (λ (w : List (List ℕ)). w ++ names) front in
    let whole : take k words ≡ take k like = sym (take-take k k words (omega arith)) ∙ ap (take k) same in
    let place : suc (suc (suc (length names))) ≡ k = omega arith in
    let read = slice_get-get_or words k [] (omega arith) in
    header_misplaced words k registry api names goes leads.names_are (omega arith) (omega arith) whole
    (λ more is alike e.
    let there : slice_get words k ≡ slice_get is.names (length names) =
    sym e ∙ ap (λ (w : List (List ℕ)). slice_get w k) is.words_are ∙ ap (λ (n : ℕ). slice_get (header_words is.registry is.api is.names) n) (sym place) in
    elim (looked_up is.names (length names) is.set) [
      | inl none ↦ none-some _ (sym (there ∙ none) ∙ read)
      | inr found ↦ leads.next found.0 found.1 (there ∙ found.2)
    ])

-- where none stands there, the words are those of a request for a header
pub all_options : (words : List (List ℕ)) (registry api : List ℕ) (names : List (List ℕ)) → take 3 words ≡ header_words registry api [] → LeadsOptions 3 words names → length words ≤ 3 + length names
    → words ≡ header_words registry api names
all_options words registry api names front leads whole =
    sym (take_all (3 + length names) words whole) ∙ leads.words_are ∙ ap (λ (w : List (List ℕ)). w ++ names) front
