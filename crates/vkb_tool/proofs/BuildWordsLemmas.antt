-- The words of a request to build, and where they stop being those of one.
use Rattle.std.proofs.Common.{inl, inr, ◌≡◌, ◌⊎◌, ℕ, zero, suc, ◌+◌, ◌-◌, ◌<◌, ◌≤◌, Option, List, [], ◌∷◌, ◌++◌, length, take, drop, map, get_or, Some, None, slice_get, option_map, codes, refl, sym, ap, ◌∙◌, arith, subst, All}
use Rattle.std.proofs.lemmas.Bool.{cases_eq, cases_lt}
use Rattle.std.proofs.lemmas.Option.{none-some, slice_get-get_or, slice_get-map}
use Rattle.std.proofs.lemmas.List.{get_or_append_left, length-append, take-append-drop, take-take}
use Rattle.std.proofs.lemmas.List.Elements.{All-get_or, All-nil}
use Rattle.vkb_tool.specs.Reading.{IsNoAttribute, LeadsOptions}
use Rattle.vkb_tool.specs.Words.{IsApiOf, IsAttribute, IsFileName, IsMisplaced, IsOptionWord, Spells, attribute_word}
use Rattle.vkb_tool.specs.declared.words.Request.{Request}
use Rattle.vkb_tool.specs.declared.words.Request.TheVariants.{Build, Check, Header, Tag}
use Rattle.vkb_tool.proofs.WordsLemmas.{AsksOfDocuments, document_words, looked_up, misplaced_from, never_first, same_first, same_word}

-- the words of a request to build
abbrev pub build_words : Option (List ℕ) → List ℕ → List ℕ → List (List ℕ) → List (List ℕ) → List (List ℕ)
build_words registry root api names always = document_words (codes "build") registry root api (names ++ map attribute_word always)

record IsBuildOf (words : List (List ℕ)) : Type 0 where
  pub registry : Option (List ℕ)
  pub root : List ℕ
  pub api : List ℕ
  pub names : List (List ℕ)
  pub always : List (List ℕ)
  pub goes : IsApiOf registry api
  pub named : IsFileName root
  pub options : All IsOptionWord names
  pub set : All IsAttribute always
  pub words_are : words ≡ build_words registry root api names always

-- the words of a request are those of one to build where the first of them says so
spelled_build : (words : List (List ℕ)) (request : Request) → Spells words request → slice_get words 0 ≡ Some (codes "build") → IsBuildOf words
spelled_build words (Build registry root api names always) spelled first =
    record { registry = registry; root = root; api = api; names = names; always = always; goes = spelled.0; named = spelled.1; options = spelled.2; set = spelled.3; words_are = spelled.4 }
spelled_build words (Check registry root api always) spelled first = absurd (never_first words (Check registry root api always) (codes "build") spelled refl first)
spelled_build words (Header registry api names) spelled first = absurd (never_first words (Header registry api names) (codes "build") spelled refl first)
spelled_build words (Tag number files) spelled first = absurd (never_first words (Tag number files) (codes "build") spelled refl first)

pub build_asks : AsksOfDocuments (codes "build")
build_asks = record {
  some = λ registry root api goes named. (Build registry root api [] [], (goes, named, All-nil IsOptionWord, All-nil IsAttribute, refl));
  each = λ words request spelled first.
      let is = spelled_build words request spelled first in
      record { registry = is.registry; root = is.root; api = is.api; rest = is.names ++ map attribute_word is.always; goes = is.goes; named = is.named; words_are = is.words_are };
}

-- what a look-up gives before the end of the words for options
option_found : (names rest : List (List ℕ)) (j : ℕ) → j < length names → All IsOptionWord names → (name : List ℕ) × IsOptionWord name × (slice_get (names ++ rest) j ≡ Some name)
option_found names rest j below set =
    let longer : j < length (names ++ rest) = simp length-append (omega arith) in
    (get_or names j [], All-get_or IsOptionWord names j [] below set, slice_get-get_or (names ++ rest) j [] longer ∙ ap Some (get_or_append_left names rest [] j below))

-- and behind it, in both cases
attribute_found : (names always : List (List ℕ)) (j : ℕ) → length names ≤ j → All IsAttribute always
    → (slice_get (names ++ map attribute_word always) j ≡ None) ⊎ ((name : List ℕ) × IsAttribute name × (slice_get (names ++ map attribute_word always) j ≡ Some (attribute_word name)))
attribute_found [] always j behind set =
    let there : slice_get (map attribute_word always) j ≡ option_map attribute_word (slice_get always j) = slice_get-map attribute_word always j in
    elim (looked_up always j set) [
      | inl none ↦ inl (there ∙ ap (option_map attribute_word) none)
      | inr (name, is, found) ↦ inr (name, is, there ∙ ap (option_map attribute_word) found)
    ]
attribute_found (first ∷ names) always zero behind set = absurd (omega arith)
attribute_found (first ∷ names) always (suc j) behind set = attribute_found names always j (omega arith) set

-- what stands behind the API
past_api : (words : List (List ℕ)) (is : IsBuildOf words) (k : ℕ) → 4 ≤ k → slice_get words k ≡ slice_get (is.names ++ map attribute_word is.always) (k - 4)
past_api words is k four =
    let place : suc (suc (suc (suc (k - 4)))) ≡ k = omega arith in
    ap (λ (w : List (List ℕ)). slice_get w k) is.words_are ∙ ap (λ (n : ℕ). slice_get (build_words is.registry is.root is.api is.names is.always) n) (sym place)

-- Behind the words for options and some that set attributes, one stands that sets none.
pub no_set_at : (words : List (List ℕ)) (registry : Option (List ℕ)) (root api : List ℕ) (names : List (List ℕ)) (position : ℕ) → IsApiOf registry api → IsFileName root
    → take 4 words ≡ document_words (codes "build") registry root api [] → LeadsOptions 4 words names → IsNoAttribute (4 + length names) words position → IsMisplaced words position
no_set_at words registry root api names position goes named front leads wrong =
    let from = 4 + length names in
    let behind = wrong.behind in
    let upto = wrong.within in
    let k = position - 1 in
    let back : k + 1 ≡ position = omega arith in
    let like = build_words registry root api names wrong.names in
    let options : take from words ≡ document_words (codes "build") registry root api names = leads.words_are ∙ ap (λ (w : List (List ℕ)). w ++ names) front in
    let same : take k words ≡ like = wrong.before ∙ ap (λ (w : List (List ℕ)). w ++ map attribute_word wrong.names) options in
    let long : k ≤ length words = omega arith in
    let alike_like : take k words ≡ take k like = sym (take-take k k words (omega arith)) ∙ ap (take k) same in
    let whole : take k words ++ drop k like ≡ like = ap (λ (w : List (List ℕ)). w ++ drop k like) alike_like ∙ take-append-drop k like in
    let read = slice_get-get_or words k [] (omega arith) in
    subst (λ (n : ℕ). IsMisplaced words n) back (misplaced_from words k long (drop k like, Build registry root api names wrong.names, (goes, named, leads.names_are, wrong.names_are, whole))
    (λ more request spelled alike e.
    let first : slice_get more 0 ≡ Some (codes "build") = same_first more like k (omega arith) (alike ∙ alike_like) in
    let is = spelled_build more request spelled first in
    let there : slice_get words k ≡ slice_get (is.names ++ map attribute_word is.always) (k - 4) = sym e ∙ past_api more is k (omega arith) in
    elim (cases_lt (k - 4) (length is.names)) [
      | inl below ↦
          let found = option_found is.names (map attribute_word is.always) (from - 4) (omega arith) is.options in
          let at_from : slice_get more from ≡ Some found.0 = past_api more is from (omega arith) ∙ found.2 in
          let same_from : slice_get words from ≡ slice_get more from = elim (cases_eq from k) [
            | inl at ↦ ap (slice_get words) at ∙ sym e ∙ ap (slice_get more) (sym at)
            | inr differs ↦ sym (same_word more words k from alike (omega arith) long)
          ] in
          leads.next found.0 found.1 (same_from ∙ at_from)
      | inr past ↦ elim (attribute_found is.names is.always (k - 4) past is.set) [
        | inl none ↦ none-some _ (sym (there ∙ none) ∙ read)
        | inr (name, sets, found) ↦ wrong.here name sets (there ∙ found)
      ]
    ]))

-- where each sets one, the words are those of a request to build
pub all_set : (words : List (List ℕ)) (registry : Option (List ℕ)) (root api : List ℕ) (names always : List (List ℕ)) → take 4 words ≡ document_words (codes "build") registry root api [] → LeadsOptions 4 words names
    → words ≡ take (4 + length names) words ++ map attribute_word always → words ≡ build_words registry root api names always
all_set words registry root api names always front leads words_are =
    words_are ∙ ap (λ (w : List (List ℕ)). w ++ map attribute_word always) (leads.words_are ∙ ap (λ (w : List (List ℕ)). w ++ names) front)
