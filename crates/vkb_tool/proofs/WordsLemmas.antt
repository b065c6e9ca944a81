-- What stands among the words, and where words stop being those of a request.
use Rattle.std.proofs.Common.{◌≡◌, ◌≢◌, ℕ, zero, suc, ◌+◌, ◌-◌, ◌<◌, ◌≤◌, ◌⊎◌, List, [], ◌∷◌, ◌++◌, length, take, drop, map, get_or, Vec, Bool, false, true, Option, Some, None, if◌then◌else◌, slice_get, codes, refl, sym, ap, ◌∙◌, arith, subst, append_assoc, inl, inr, All}
use Rattle.std.specs.declared.alloc.Global.{Global}
use Rattle.std.specs.Option.{option_map}
use Rattle.std.specs.Str.{bytes_eq}
use Rattle.std.specs.Cmp.Lexicographic.{bytes_decides}
use Rattle.std.proofs.lemmas.Option.{slice_get-map, slice_get_read, slice_get_past, slice_get_within, get_or_from_slice_get, slice_get-get_or, none-some, same_Some}
use Rattle.std.proofs.lemmas.List.{take_more, length-append, length-take, get_or_append_left, get_or-take, take-append-drop, take-append-le, take-take}
use Rattle.std.proofs.lemmas.List.Elements.{All-get_or, All-nil}
use Rattle.std.proofs.lemmas.Bool.{cases_Bool, cases_lt, cases_order, false≢true}
use Rattle.vkb_bytes.specs.Numbers.{numeral_of}
use Rattle.doc_cond.specs.Lines.{is_run}
use Rattle.vkb_tool.specs.Reading.{IsApiAt, IsNamed, IsNoAttribute, goes_with, registry_by}
use Rattle.vkb_tool.specs.Words.{IsApiOf, IsAttribute, IsFileName, Spells, IsFront, IsMisplaced, IsOptionWord, attribute_word, is_api_byte, items_of, registry_word}
use Rattle.vkb_tool.specs.declared.words.Request.{Request}
use Rattle.vkb_tool.specs.declared.words.Request.TheVariants.{Build, Check, Header, Tag}

pub found_word : (words : List (Vec ℕ Global)) (i : ℕ) (word : Vec ℕ Global) → i < length words → word ≡ get_or words i word → slice_get (items_of words) i ≡ Some word.items
found_word words i word within read = slice_get-map (λ w. w.items) words i ∙ ap (option_map (λ w. w.items)) (slice_get_read words (length words) i word refl within read)

pub no_word : (words : List (Vec ℕ Global)) (i : ℕ) → length words ≤ i → slice_get (items_of words) i ≡ None
no_word words i past = slice_get-map (λ w. w.items) words i ∙ ap (option_map (λ w. w.items)) (slice_get_past words i past)

-- the words of a request on the document of a root, over a registry or none, with more behind
abbrev pub document_words : List ℕ → Option (List ℕ) → List ℕ → List ℕ → List (List ℕ) → List (List ℕ)
document_words verb registry root api rest = verb ∷ registry_word registry ∷ root ∷ api ∷ rest

-- the words of a check of a file, over a registry or none, where some names are always set
abbrev pub check_words : Option (List ℕ) → List ℕ → List ℕ → List (List ℕ) → List (List ℕ)
check_words registry root api always = document_words (codes "check") registry root api (map attribute_word always)

pub is_name_a : IsFileName (97 ∷ [])
unfolding lib.Utf8.encode
is_name_a = record { some = λ e. cc; text = (97 ∷ [], (refl, refl)) }

is_name_dash : IsFileName (codes "-")
unfolding lib.Utf8.encode
is_name_dash = record { some = λ e. cc; text = (45 ∷ [], (refl, refl)) }

-- the word of a registry is a file's name
pub registry_named : (registry : Option (List ℕ)) (api : List ℕ) → IsApiOf registry api → IsFileName (registry_word registry)
registry_named None api goes = is_name_dash
registry_named (Some name) api goes = goes.0

-- an API goes with the word of its registry
pub goes_along : (registry : Option (List ℕ)) (api : List ℕ) → IsApiOf registry api → goes_with (registry_word registry) api ≡ true
goes_along None api goes = (bytes_decides api (codes "-")).1 goes
goes_along (Some name) api goes =
    elim (cases_Bool (bytes_eq name (codes "-"))) [
      | inl dash ↦ absurd (goes.1 ((bytes_decides name (codes "-")).0 dash))
      | inr other ↦ ap (λ (b : Bool). if b then bytes_eq api (codes "-") else is_run is_api_byte api) other ∙ goes.2
    ]

-- a file's name is the word of a registry or of none
pub word_of_registry : (word : List ℕ) → registry_word (registry_by word) ≡ word
word_of_registry word =
    elim (cases_Bool (bytes_eq word (codes "-"))) [
      | inl dash ↦ ap (λ (b : Bool). registry_word (if b then None else Some word)) dash ∙ sym ((bytes_decides word (codes "-")).0 dash)
      | inr other ↦ ap (λ (b : Bool). registry_word (if b then None else Some word)) other
    ]

-- and an API that goes with the word goes with the registry
pub goes_back : (word api : List ℕ) → IsFileName word → goes_with word api ≡ true → IsApiOf (registry_by word) api
goes_back word api named goes =
    elim (cases_Bool (bytes_eq word (codes "-"))) [
      | inl dash ↦
          let same : bytes_eq api (codes "-") ≡ true = sym (ap (λ (b : Bool). if b then bytes_eq api (codes "-") else is_run is_api_byte api) dash) ∙ goes in
          subst (λ (b : Bool). IsApiOf (if b then None else Some word) api) (sym dash) ((bytes_decides api (codes "-")).0 same)
      | inr other ↦
          let run : is_run is_api_byte api ≡ true = sym (ap (λ (b : Bool). if b then bytes_eq api (codes "-") else is_run is_api_byte api) other) ∙ goes in
          let not_dash : word ≢ codes "-" = λ same. false≢true (sym other ∙ (bytes_decides word (codes "-")).1 same) in
          subst (λ (b : Bool). IsApiOf (if b then None else Some word) api) (sym other) (named, not_dash, run)
    ]

-- some API goes with a file's name
some_api : (word : List ℕ) → (api : List ℕ) × (goes_with word api ≡ true)
some_api word =
    elim (cases_Bool (bytes_eq word (codes "-"))) [
      | inl dash ↦ (codes "-", ap (λ (b : Bool). if b then bytes_eq (codes "-") (codes "-") else is_run is_api_byte (codes "-")) dash)
      | inr other ↦ (codes "a", ap (λ (b : Bool). if b then bytes_eq (codes "a") (codes "-") else is_run is_api_byte (codes "a")) other)
    ]

pub take_next : (words : List (List ℕ)) (k : ℕ) (word : List ℕ) → slice_get words k ≡ Some word → take (k + 1) words ≡ take k words ++ word ∷ []
take_next words k word read =
    take_more words k word (slice_get_within words k word read) ∙ ap (λ (w : List ℕ). take k words ++ w ∷ []) (get_or_from_slice_get words k word word read)

slice_get_front : (words more : List (List ℕ)) (k : ℕ) → k < length words → slice_get (take (k + 1) words ++ more) k ≡ slice_get words k
slice_get_front words more k within =
    let longer : k < length (take (k + 1) words ++ more) = simp (length-append, length-take) (omega arith) in
    let in_front : k < length (take (k + 1) words) = simp length-take (omega arith) in
    let below : k < k + 1 = omega arith in
    slice_get-get_or (take (k + 1) words ++ more) k [] longer ∙ ap Some (get_or_append_left (take (k + 1) words) more [] k in_front ∙ get_or-take (k + 1) words k [] below) ∙ sym (slice_get-get_or words k [] within)

-- where words begin alike, their first words are the same
pub same_first : (words others : List (List ℕ)) (k : ℕ) → 1 ≤ k → take k words ≡ take k others → slice_get words 0 ≡ slice_get others 0
same_first words others zero some front = absurd (omega arith)
same_first [] [] (suc k) some front = refl
same_first [] (other ∷ others) (suc k) some front = absurd (cc)
same_first (word ∷ words) [] (suc k) some front = absurd (cc)
same_first (word ∷ words) (other ∷ others) (suc k) some front = let same : word ≡ other = cc in ap Some same

-- some request begins with the first k words, and none that begins with them goes on with the next one
pub misplaced_from : (words : List (List ℕ)) (k : ℕ) → k ≤ length words → IsFront (take k words)
    → ((more : List (List ℕ)) (request : Request) → Spells more request → take k more ≡ take k words → slice_get more k ≢ slice_get words k) → IsMisplaced words (k + 1)
misplaced_from words k long front differs =
    let back : k + 1 - 1 ≡ k = omega arith in
    record {
      from_one = omega arith;
      within = omega arith;
      before = rw back front;
      here = λ fits begun.
          let inside : k < length words = omega arith in
          let more = begun.0 in
          let enough : k ≤ length (take (k + 1) words) = simp length-take (omega arith) in
          let alike : take k (take (k + 1) words ++ more) ≡ take k words = take-append-le k (take (k + 1) words) more enough ∙ take-take k (k + 1) words (omega arith) in
          differs (take (k + 1) words ++ more) begun.1 begun.2 alike (slice_get_front words more k inside);
      none = λ request is. differs words request is refl refl;
    }

-- the words of a check
pub record IsCheckOf (words : List (List ℕ)) : Type 0 where
  pub registry : Option (List ℕ)
  pub root : List ℕ
  pub api : List ℕ
  pub always : List (List ℕ)
  pub goes : IsApiOf registry api
  pub named : IsFileName root
  pub set : All IsAttribute always
  pub words_are : words ≡ check_words registry root api always

-- the words of a request on a document
pub record IsOnDocument (verb : List ℕ) (words : List (List ℕ)) : Type 0 where
  pub registry : Option (List ℕ)
  pub root : List ℕ
  pub api : List ℕ
  pub rest : List (List ℕ)
  pub goes : IsApiOf registry api
  pub named : IsFileName root
  pub words_are : words ≡ document_words verb registry root api rest

-- with this word requests on documents begin, whatever the document, and no others
pub record AsksOfDocuments (verb : List ℕ) : Type 0 where
  pub some : (registry : Option (List ℕ)) (root api : List ℕ) → IsApiOf registry api → IsFileName root → (request : Request) × Spells (document_words verb registry root api []) request
  pub each : (words : List (List ℕ)) (request : Request) → Spells words request → slice_get words 0 ≡ Some verb → IsOnDocument verb words

-- the word with which a request begins
abbrev pub verb_of : Request → List ℕ
verb_of (Check registry root api always) = codes "check"
verb_of (Build registry root api names always) = codes "build"
verb_of (Header registry api names) = codes "header"
verb_of (Tag number files) = codes "tag"

first_word : (words : List (List ℕ)) (request : Request) → Spells words request → slice_get words 0 ≡ Some (verb_of request)
first_word words (Check registry root api always) spelled = ap (λ (w : List (List ℕ)). slice_get w 0) spelled.3
first_word words (Build registry root api names always) spelled = ap (λ (w : List (List ℕ)). slice_get w 0) spelled.4
first_word words (Header registry api names) spelled = ap (λ (w : List (List ℕ)). slice_get w 0) spelled.2
first_word words (Tag number files) spelled = ap (λ (w : List (List ℕ)). slice_get w 0) spelled.3

-- a request doesn't begin with another word
pub never_first : (words : List (List ℕ)) (request : Request) (verb : List ℕ) → Spells words request → bytes_eq (verb_of request) verb ≡ false → slice_get words 0 ≡ Some verb → ⊥
never_first words request verb spelled apart first =
    false≢true (sym apart ∙ (bytes_decides (verb_of request) verb).1 (same_Some (verb_of request) verb (sym (first_word words request spelled) ∙ first)))

-- the words of a request are those of a check of some file where the first of them says so
spelled_at : (words : List (List ℕ)) (request : Request) → Spells words request → slice_get words 0 ≡ Some (codes "check") → IsCheckOf words
spelled_at words (Check registry root api always) spelled first =
    record { registry = registry; root = root; api = api; always = always; goes = spelled.0; named = spelled.1; set = spelled.2; words_are = spelled.3 }
spelled_at words (Build registry root api names always) spelled first = absurd (never_first words (Build registry root api names always) (codes "check") spelled refl first)
spelled_at words (Header registry api names) spelled first = let other : Some (codes "header") ≡ Some (codes "check") = sym (ap (λ (w : List (List ℕ)). slice_get w 0) spelled.2) ∙ first in absurd (cc)
spelled_at words (Tag number files) spelled first = let other : Some (codes "tag") ≡ Some (codes "check") = sym (ap (λ (w : List (List ℕ)). slice_get w 0) spelled.3) ∙ first in absurd (cc)

pub check_asks : AsksOfDocuments (codes "check")
check_asks = record {
  some = λ registry root api goes named. (Check registry root api [], (goes, named, All-nil IsAttribute, refl));
  each = λ words request spelled first.
      let is = spelled_at words request spelled first in
      record { registry = is.registry; root = is.root; api = is.api; rest = map attribute_word is.always; goes = is.goes; named = is.named; words_are = is.words_are };
}

-- a first word that no request begins with
pub misplaced_first : (words : List (List ℕ)) → slice_get words 0 ≢ Some (codes "check") → slice_get words 0 ≢ Some (codes "build") → slice_get words 0 ≢ Some (codes "header") → slice_get words 0 ≢ Some (codes "tag") → IsMisplaced words 1
misplaced_first words no_check no_build no_header no_tag =
    misplaced_from words 0 (omega arith)
    (check_words None (97 ∷ []) (codes "-") [], Check None (97 ∷ []) (codes "-") [], (refl, is_name_a, All-nil IsAttribute, refl))
    (λ more request spelled front same. begins request (sym same ∙ first_word more request spelled))
  where
    begins : (request : Request) → slice_get words 0 ≡ Some (verb_of request) → ⊥
    begins (Check registry root api always) first = no_check first
    begins (Build registry root api names always) first = no_build first
    begins (Header registry api names) first = no_header first
    begins (Tag number files) first = no_tag first

-- the first k words are those of a check, and the next one is that of none that begins so
pub misplaced_at : (words : List (List ℕ)) (k : ℕ) (like : List (List ℕ)) → IsCheckOf like → 1 ≤ k → k ≤ length words → take k words ≡ take k like
    → ((more : List (List ℕ)) → IsCheckOf more → take k more ≡ take k words → slice_get more k ≢ slice_get words k) → IsMisplaced words (k + 1)
misplaced_at words k like check some long front differs =
    let whole : take k words ++ drop k like ≡ like = ap (λ (w : List (List ℕ)). w ++ drop k like) front ∙ take-append-drop k like in
    misplaced_from words k long
    (drop k like, Check check.registry check.root check.api check.always, (check.goes, check.named, check.set, whole ∙ check.words_are))
    (λ more request spelled alike same.
    let first : slice_get more 0 ≡ Some (codes "check") = same_first more like k some (alike ∙ front) ∙ ap (λ (w : List (List ℕ)). slice_get w 0) check.words_are in
    differs more (spelled_at more request spelled first) alike same)

-- a word of words that begin alike
pub same_word : (words others : List (List ℕ)) (k place : ℕ) → take k words ≡ take k others → place < k → k ≤ length others → slice_get words place ≡ slice_get others place
same_word words others k place front below long =
    let enough : place < length words = omega (arith, length-take k words, length-take k others, ap length front) in
    let within : place < length others = omega arith in
    slice_get-get_or words place [] enough
    ∙ ap Some (sym (get_or-take k words place [] below) ∙ ap (λ (w : List (List ℕ)). get_or w place []) front ∙ get_or-take k others place [] below)
    ∙ sym (slice_get-get_or others place [] within)

-- words that begin alike, one word on
front_next : (words others : List (List ℕ)) (k : ℕ) (word : List ℕ) → take k words ≡ take k others → slice_get words k ≡ Some word → slice_get others k ≡ Some word → take (k + 1) words ≡ take (k + 1) others
front_next words others k word front here there =
    take_next words k word here ∙ ap (λ (w : List (List ℕ)). w ++ word ∷ []) front ∙ sym (take_next others k word there)

-- the first k words are those of a request on a document, and the next one is that of none that begins so
misplaced_on : (verb : List ℕ) → AsksOfDocuments verb → (words : List (List ℕ)) (k : ℕ) (registry : Option (List ℕ)) (root api : List ℕ) → IsApiOf registry api → IsFileName root → 1 ≤ k → k ≤ length words
    → take k words ≡ take k (document_words verb registry root api [])
    → ((more : List (List ℕ)) → IsOnDocument verb more → take k more ≡ take k words → slice_get more k ≢ slice_get words k) → IsMisplaced words (k + 1)
misplaced_on verb asks words k registry root api goes named some long front differs =
    let like = document_words verb registry root api [] in
    let whole : take k words ++ drop k like ≡ like = ap (λ (w : List (List ℕ)). w ++ drop k like) front ∙ take-append-drop k like in
    let request = asks.some registry root api goes named in
    misplaced_from words k long (drop k like, request.0, subst (λ (w : List (List ℕ)). Spells w request.0) (sym whole) request.1)
    (λ more other spelled alike same.
    let first : slice_get more 0 ≡ Some verb = same_first more like k some (alike ∙ front) in
    differs more (asks.each more other spelled first) alike same)

-- the words up to a place, where each word before it is as it must be
module _ (verb : List ℕ) (words : List (List ℕ)) (first : slice_get words 0 ≡ Some verb) where
  front_1 : (registry : Option (List ℕ)) (root api : List ℕ) → take 1 words ≡ take 1 (document_words verb registry root api [])
  front_1 registry root api = front_next words (document_words verb registry root api []) 0 verb refl first refl

  front_2 : (registry root api : List ℕ) → slice_get words 1 ≡ Some registry → take 2 words ≡ take 2 (document_words verb (registry_by registry) root api [])
  front_2 registry root api second =
      front_next words (document_words verb (registry_by registry) root api []) 1 registry (front_1 (registry_by registry) root api) second (ap Some (word_of_registry registry))

  front_3 : (registry root api : List ℕ) → slice_get words 1 ≡ Some registry → slice_get words 2 ≡ Some root → take 3 words ≡ take 3 (document_words verb (registry_by registry) root api [])
  front_3 registry root api second third = front_next words (document_words verb (registry_by registry) root api []) 2 root (front_2 registry root api second) third refl

  pub front_4 : (registry root api : List ℕ) → slice_get words 1 ≡ Some registry → slice_get words 2 ≡ Some root → slice_get words 3 ≡ Some api → take 4 words ≡ document_words verb (registry_by registry) root api []
  front_4 registry root api second third fourth = front_next words (document_words verb (registry_by registry) root api []) 3 api (front_3 registry root api second third) fourth refl

module _ (verb : List ℕ) (asks : AsksOfDocuments verb) (words : List (List ℕ)) (first : slice_get words 0 ≡ Some verb) where
  -- the second word is no file's name
  pub misplaced_second : ((name : List ℕ) → ¬ IsNamed words 1 name) → IsMisplaced words 2
  misplaced_second none =
      let within = slice_get_within words 0 verb first in
      misplaced_on verb asks words 1 None (97 ∷ []) (codes "-") refl is_name_a (omega arith) (omega arith) (front_1 verb words first None (97 ∷ []) (codes "-"))
      (λ more is alike same.
      let there : slice_get words 1 ≡ Some (registry_word is.registry) = sym same ∙ ap (λ (w : List (List ℕ)). slice_get w 1) is.words_are in
      none (registry_word is.registry) (there, registry_named is.registry is.api is.goes))

  -- the third word is no file's name
  pub misplaced_third : (registry : List ℕ) → IsNamed words 1 registry → ((name : List ℕ) → ¬ IsNamed words 2 name) → IsMisplaced words 3
  misplaced_third registry second none =
      let within = slice_get_within words 1 registry second.0 in
      let api = some_api registry in
      misplaced_on verb asks words 2 (registry_by registry) (97 ∷ []) api.0 (goes_back registry api.0 second.1 api.1) is_name_a (omega arith) (omega arith) (front_2 verb words first registry (97 ∷ []) api.0 second.0)
      (λ more is alike same.
      let there : slice_get words 2 ≡ Some is.root = sym same ∙ ap (λ (w : List (List ℕ)). slice_get w 2) is.words_are in
      none is.root (there, is.named))

  -- the fourth word is no API that goes with the second
  pub misplaced_fourth : (registry root : List ℕ) → IsNamed words 1 registry → IsNamed words 2 root → ((api : List ℕ) → ¬ IsApiAt words registry api) → IsMisplaced words 4
  misplaced_fourth registry root second third none =
      let within = slice_get_within words 2 root third.0 in
      let api = some_api registry in
      misplaced_on verb asks words 3 (registry_by registry) root api.0 (goes_back registry api.0 second.1 api.1) third.1 (omega arith) (omega arith) (front_3 verb words first registry root api.0 second.0 third.0)
      (λ more is alike same.
      let there : slice_get words 3 ≡ Some is.api = sym same ∙ ap (λ (w : List (List ℕ)). slice_get w 3) is.words_are in
      let read : Some registry ≡ Some (registry_word is.registry) =
      sym second.0 ∙ sym (same_word more words 3 1 alike (omega arith) (omega arith)) ∙ ap (λ (w : List (List ℕ)). slice_get w 1) is.words_are in
      let named : registry_word is.registry ≡ registry = sym (same_Some registry (registry_word is.registry) read) in
      none is.api (there, ap (λ (w : List ℕ). goes_with w is.api) (sym named) ∙ goes_along is.registry is.api is.goes))

-- a word behind the fourth sets an attribute
past_front : (registry : Option (List ℕ)) (root api : List ℕ) (names : List (List ℕ)) (j : ℕ) → slice_get (check_words registry root api names) (suc (suc (suc (suc j)))) ≡ option_map attribute_word (slice_get names j)
past_front registry root api names j = slice_get-map attribute_word names j

-- what a look-up among names gives, in both cases
pub looked_up : (names : List (List ℕ)) (j : ℕ) → All IsAttribute names → (slice_get names j ≡ None) ⊎ ((name : List ℕ) × IsAttribute name × (slice_get names j ≡ Some name))
looked_up names j set =
    elim (cases_lt j (length names)) [
      | inl below ↦ inr (get_or names j [], All-get_or IsAttribute names j [] below set, slice_get-get_or names j [] below)
      | inr past ↦ inl (slice_get_past names j past)
    ]

-- the first k words are those of a check, and the next one, behind the fourth, sets no attribute
pub no_attribute_at : (words : List (List ℕ)) (registry : Option (List ℕ)) (root api : List ℕ) (position : ℕ) → IsApiOf registry api → IsFileName root → take 4 words ≡ check_words registry root api []
    → IsNoAttribute 4 words position → IsMisplaced words position
no_attribute_at words registry root api position goes name front wrong =
    let from = wrong.behind in
    let upto = wrong.within in
    let k = position - 1 in
    let back : k + 1 ≡ position = omega arith in
    let like = check_words registry root api wrong.names in
    let same : take k words ≡ like = wrong.before ∙ ap (λ (w : List (List ℕ)). w ++ map attribute_word wrong.names) front in
    let long : k ≤ length words = omega arith in
    let whole : take k words ≡ take k like = sym (take-take k k words (omega arith)) ∙ ap (take k) same in
    let place : suc (suc (suc (suc (k - 4)))) ≡ k = omega arith in
    let read = slice_get-get_or words k [] (omega arith) in
    let check : IsCheckOf like = record { registry = registry; root = root; api = api; always = wrong.names; goes = goes; named = name; set = wrong.names_are; words_are = refl } in
    subst (λ (n : ℕ). IsMisplaced words n) back (misplaced_at words k like check (omega arith) long whole
    (λ more is alike e.
    let there : slice_get words k ≡ option_map attribute_word (slice_get is.always (k - 4)) =
    sym e ∙ ap (λ (w : List (List ℕ)). slice_get w k) is.words_are ∙ ap (λ (n : ℕ). slice_get (check_words is.registry is.root is.api is.always) n) (sym place) ∙ past_front is.registry is.root is.api is.always (k - 4) in
    elim (looked_up is.always (k - 4) is.set) [
      | inl none ↦ none-some _ (sym (there ∙ ap (option_map attribute_word) none) ∙ read)
      | inr found ↦ wrong.here found.0 found.1 (there ∙ ap (option_map attribute_word) found.2)
    ]))

-- where some words are those of a request, fewer of them are
fewer_front : (words : List (List ℕ)) (few many : ℕ) → few ≤ many → IsFront (take many words) → IsFront (take few words)
fewer_front words few many less begun =
    let some = take few words in
    let rest = drop few (take many words) in
    let same : some ≡ take few (take many words) = sym (take-take few many words less) in
    let whole : take few words ++ (rest ++ begun.0) ≡ take many words ++ begun.0 =
    sym (append_assoc some rest begun.0) ∙ ap (λ (w : List (List ℕ)). w ++ rest ++ begun.0) same ∙ ap (λ (w : List (List ℕ)). w ++ begun.0) (take-append-drop few (take many words)) in
    (rest ++ begun.0, begun.1, subst (λ (w : List (List ℕ)). Spells w begun.1) (sym whole) begun.2)

-- words have one position that has no place, at most
not_before : (words : List (List ℕ)) (early late : ℕ) → IsMisplaced words early → IsMisplaced words late → early < late → ⊥
not_before words early late first second less =
    let within : early ≤ length words = let most = second.within in omega arith in
    first.here within (fewer_front words early (late - 1) (omega arith) second.before)

pub one_position : (words : List (List ℕ)) (p q : ℕ) → IsMisplaced words p → IsMisplaced words q → p ≡ q
one_position words p q at_p at_q =
    elim (cases_order p q) [
      | inl same ↦ same
      | inr (inl less) ↦ absurd (not_before words p q at_p at_q less)
      | inr (inr more) ↦ absurd (not_before words q p at_q at_p more)
    ]

-- a word that sets an attribute sets one alone
same_attributes : (names others : List (List ℕ)) → map attribute_word names ≡ map attribute_word others → names ≡ others
same_attributes [] [] e = refl
same_attributes [] (other ∷ others) e = cc
same_attributes (name ∷ names) [] e = cc
same_attributes (name ∷ names) (other ∷ others) e =
    let first : name ≡ other = cc in
    let rest : map attribute_word names ≡ map attribute_word others = cc in
    let behind = same_attributes names others rest in
    cc

-- a word that sets an attribute is none for an option
pub sets_no_option : (name : List ℕ) → ¬ IsOptionWord (attribute_word name)
sets_no_option name is = false≢true is

-- words for options and those that set attributes behind them are of one kind each
same_parts : (names others always sets : List (List ℕ)) → All IsOptionWord names → All IsOptionWord others → names ++ map attribute_word always ≡ others ++ map attribute_word sets → (names ≡ others) × (always ≡ sets)
same_parts [] [] always sets is also e = (refl, same_attributes always sets e)
same_parts [] (other ∷ others) [] sets is also e = absurd (cc)
same_parts [] (other ∷ others) (first ∷ always) sets is also e =
    let same : attribute_word first ≡ other = cc in
    absurd (sets_no_option first (subst IsOptionWord (sym same) (also 0 [] (omega arith))))
same_parts (name ∷ names) [] always [] is also e = absurd (cc)
same_parts (name ∷ names) [] always (first ∷ sets) is also e =
    let same : name ≡ attribute_word first = cc in
    absurd (sets_no_option first (subst IsOptionWord same (is 0 [] (omega arith))))
same_parts (name ∷ names) (other ∷ others) always sets is also e =
    let same : name ≡ other = cc in
    let rest : names ++ map attribute_word always ≡ others ++ map attribute_word sets = cc in
    let behind = same_parts names others always sets (λ k d below. is (suc k) d (omega arith)) (λ k d below. also (suc k) d (omega arith)) rest in
    (ap (λ (w : List ℕ). w ∷ names) same ∙ ap (λ (ws : List (List ℕ)). other ∷ ws) behind.0, behind.1)

-- one word is that of one registry
same_registry : (registry other : Option (List ℕ)) (api word : List ℕ) → IsApiOf registry api → IsApiOf other word → registry_word registry ≡ registry_word other → registry ≡ other
same_registry None None api word goes also same = refl
same_registry None (Some name) api word goes also same = absurd (also.1 (sym same))
same_registry (Some name) None api word goes also same = absurd (goes.1 same)
same_registry (Some name) (Some other) api word goes also same = ap Some same

-- words ask for one request at most
pub same_request : (words : List (List ℕ)) (request other : Request) → Spells words request → Spells words other → request ≡ other
same_request words (Check registry root api always) (Check file name word names) spelled also =
    let both = sym spelled.3 ∙ also.3 in
    let files_are : registry_word registry ≡ registry_word file = cc in
    let registries : registry ≡ file = same_registry registry file api word spelled.0 also.0 files_are in
    let same : root ≡ name = cc in
    let apis : api ≡ word = cc in
    let rest : map attribute_word always ≡ map attribute_word names = cc in
    let set = same_attributes always names rest in
    cc
same_request words (Build registry root api names always) (Build file name word others sets) spelled also =
    let both = sym spelled.4 ∙ also.4 in
    let files_are : registry_word registry ≡ registry_word file = cc in
    let registries : registry ≡ file = same_registry registry file api word spelled.0 also.0 files_are in
    let same : root ≡ name = cc in
    let apis : api ≡ word = cc in
    let rest : names ++ map attribute_word always ≡ others ++ map attribute_word sets = cc in
    let parts = same_parts names others always sets spelled.2 also.2 rest in
    let options = parts.0 in
    let set = parts.1 in
    cc
same_request words (Build registry root api names always) (Check file name word others) spelled also =
    absurd (never_first words (Build registry root api names always) (codes "check") spelled refl (first_word words (Check file name word others) also))
same_request words (Build registry root api names always) (Header file word others) spelled also = let both = sym spelled.4 ∙ also.2 in absurd (cc)
same_request words (Build registry root api names always) (Tag number files) spelled also = let both = sym spelled.4 ∙ also.3 in absurd (cc)
same_request words (Check file name word others) (Build registry root api names always) spelled also =
    absurd (never_first words (Check file name word others) (codes "build") spelled refl (first_word words (Build registry root api names always) also))
same_request words (Header file word others) (Build registry root api names always) spelled also = let both = sym spelled.2 ∙ also.4 in absurd (cc)
same_request words (Tag number files) (Build registry root api names always) spelled also = let both = sym spelled.3 ∙ also.4 in absurd (cc)
same_request words (Check registry root api always) (Header file word names) spelled also = let both = sym spelled.3 ∙ also.2 in absurd (cc)
same_request words (Header file word names) (Check registry root api always) spelled also = let both = sym spelled.2 ∙ also.3 in absurd (cc)
same_request words (Header registry api names) (Header file word others) spelled also =
    let both = sym spelled.2 ∙ also.2 in
    cc
same_request words (Header registry api names) (Tag number files) spelled also = let both = sym spelled.2 ∙ also.3 in absurd (cc)
same_request words (Tag number files) (Header registry api names) spelled also = let both = sym spelled.3 ∙ also.2 in absurd (cc)
same_request words (Check registry root api always) (Tag first files) spelled also = let both = sym spelled.3 ∙ also.3 in absurd (cc)
same_request words (Tag first files) (Check registry root api always) spelled also = let both = sym spelled.3 ∙ also.3 in absurd (cc)
same_request words (Tag first files) (Tag number names) spelled also =
    let both = sym spelled.3 ∙ also.3 in
    let same : spelled.0 ≡ also.0 = cc in
    let rest : files ≡ names = cc in
    let numbers : first ≡ number = same_Some first number (sym spelled.1.written ∙ ap (numeral_of 10) same ∙ also.1.written) in
    cc
