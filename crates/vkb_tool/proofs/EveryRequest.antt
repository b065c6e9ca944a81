-- Words are those of a request, or one of them is the first that has no place.
use Rattle.std.proofs.Common.{◌≡◌, ◌≢◌, ℕ, zero, suc, ◌+◌, ◌-◌, ◌≤◌, ◌⊎◌, List, [], ◌∷◌, ◌++◌, length, take, drop, map, Option, Some, None, slice_get, codes, true, refl, sym, ap, ◌∙◌, subst, arith, append_assoc, inl, inr, All}
use Rattle.std.specs.Str.{is_utf8}
use Rattle.std.specs.Cmp.Lexicographic.{bytes_decides}
use Rattle.std.specs.Str.{bytes_eq}
use Rattle.std.proofs.lemmas.Bool.{cases_Bool, cases_eq, cases_lt, false≢true}
use Rattle.std.proofs.lemmas.List.{append-nil, length-append, length-take, map_push, take-append-drop, take_all}
use Rattle.std.proofs.lemmas.List.Elements.{All-nil, All-push}
use Rattle.std.proofs.lemmas.Option.{none-some, same_Some, slice_get_past, slice_get_within}
use Rattle.std.proofs.lemmas.Str.{IsUtf8-from_is_utf8, is_utf8-from_IsUtf8}
use Rattle.doc_cond.specs.Lines.{is_name_byte, is_run}
use Rattle.vkb_bytes.specs.Numbers.{numeral_of}
use Rattle.vkb_formula.specs.Names.{AreDifferent}
use Rattle.vkb_tool.specs.Reading.{IsNoAttribute, IsNoFile, IsNumbered, IsRegistryNamed, LeadsOptions, SetsAttributes, goes_with, registry_by}
use Rattle.vkb_tool.specs.Words.{IsApiName, IsApiOf, IsAttribute, IsFileName, IsMisplaced, IsOptionWord, Spells, WritesFirst, attribute_word, is_api_byte, names_option}
use Rattle.vkb_tool.specs.declared.words.Request.{Request}
use Rattle.vkb_tool.specs.declared.words.Request.TheVariants.{Build, Check, Header, Tag}
use Rattle.vkb_tool.proofs.WordsLemmas.{AsksOfDocuments, check_asks, document_words, front_4, goes_back, misplaced_first, misplaced_fourth, misplaced_second, misplaced_third, no_attribute_at}
use Rattle.vkb_tool.proofs.BuildWordsLemmas.{all_set, build_asks, no_set_at}
use Rattle.vkb_tool.proofs.HeaderWordsLemmas.{all_options, header_3, header_words, no_api, no_option_at, no_registry}
use Rattle.vkb_tool.proofs.TagWordsLemmas.{first_two, no_file_at, no_file_named, no_number, tag_words}

-- bytes are the same or not
pub same_or_not : (a b : List ℕ) → (a ≡ b) ⊎ (a ≢ b)
same_or_not a b =
    elim (cases_Bool (bytes_eq a b)) [
      | inl equal ↦ inl ((bytes_decides a b).0 equal)
      | inr not_so ↦ inr (λ same. false≢true (sym not_so ∙ (bytes_decides a b).1 same))
    ]

-- what is found is this word or not
is_or_not : (found : Option (List ℕ)) (word : List ℕ) → (found ≡ Some word) ⊎ (found ≢ Some word)
is_or_not None word = inr (λ e. none-some word e)
is_or_not (Some other) word =
    elim (same_or_not other word) [
      | inl same ↦ inl (ap Some same)
      | inr differs ↦ inr (λ e. differs (same_Some other word e))
    ]

-- what is found is a file's name or not
named_or_not : (found : Option (List ℕ)) → ((name : List ℕ) × (found ≡ Some name) × IsFileName name) ⊎ ((name : List ℕ) → found ≡ Some name → ¬ IsFileName name)
named_or_not None = inr (λ name e is. none-some name e)
named_or_not (Some []) = inr (λ name e is. is.some (sym (same_Some [] name e)))
named_or_not (Some (byte ∷ bytes)) =
    elim (cases_Bool (is_utf8 (byte ∷ bytes))) [
      | inl text ↦ inl (byte ∷ bytes, refl, record { some = λ e. cc; text = IsUtf8-from_is_utf8 (byte ∷ bytes) text })
      | inr not_so ↦ inr (λ name e is. false≢true (sym not_so ∙ ap is_utf8 (same_Some (byte ∷ bytes) name e) ∙ is_utf8-from_IsUtf8 name is.text))
    ]

-- a word sets an attribute or not
sets_or_not : (word : List ℕ) → ((name : List ℕ) × IsAttribute name × (word ≡ attribute_word name)) ⊎ ((name : List ℕ) → IsAttribute name → word ≢ attribute_word name)
sets_or_not [] = inr (λ name is e. cc)
sets_or_not (byte ∷ bytes) =
    elim (cases_eq byte 43) [
      | inr other ↦ inr (λ name is e. let first : byte ≡ 43 = cc in other first)
      | inl plus ↦ elim (cases_Bool (is_run is_name_byte bytes)) [
        | inl run ↦ inl (bytes, run, ap (λ (b : ℕ). b ∷ bytes) plus)
        | inr not_so ↦ inr (λ name is e. let rest : bytes ≡ name = cc in false≢true (sym not_so ∙ ap (is_run is_name_byte) rest ∙ is))
      ]
    ]

-- the word behind others
word_behind : (front rest : List (List ℕ)) (word : List ℕ) → slice_get (front ++ word ∷ rest) (length front) ≡ Some word
word_behind [] rest word = refl
word_behind (first ∷ front) rest word = word_behind front rest word

taken_front : (front rest : List (List ℕ)) → take (length front) (front ++ rest) ≡ front
taken_front [] rest = refl
taken_front (first ∷ front) rest = ap (λ (ws : List (List ℕ)). first ∷ ws) (taken_front front rest)

-- a word behind so many and those that set some attributes, which sets none
no_attribute : (from : ℕ) (words front names rest : List (List ℕ)) (word : List ℕ) → front ≡ take from words ++ map attribute_word names → from ≤ length front → All IsAttribute names
    → words ≡ front ++ word ∷ rest → ((name : List ℕ) → IsAttribute name → word ≢ attribute_word name) → IsNoAttribute from words (length front + 1)
no_attribute from words front names rest word front_is behind set split none =
    let back : length front + 1 - 1 ≡ length front = omega arith in
    let before : take (length front) words ≡ front = ap (take (length front)) split ∙ taken_front front (word ∷ rest) in
    let read : slice_get words (length front) ≡ Some word = ap (λ (ws : List (List ℕ)). slice_get ws (length front)) split ∙ word_behind front rest word in
    let inside = slice_get_within words (length front) word read in
    record {
      names = names;
      names_are = set;
      before = rw back (before ∙ front_is);
      behind = omega arith;
      within = omega arith;
      here = λ name is e. none name is (same_Some word (attribute_word name) (sym read ∙ ap (slice_get words) (sym back) ∙ e));
    }

-- the words behind some set attributes, or one is the first that sets none
read_rest : (from : ℕ) (words front names rest : List (List ℕ)) → front ≡ take from words ++ map attribute_word names → from ≤ length front → All IsAttribute names → words ≡ front ++ rest
    → ((all : List (List ℕ)) × SetsAttributes from words all) ⊎ ((position : ℕ) × IsNoAttribute from words position)
read_rest from words front names [] front_is behind set split = inl (names, record { names_are = set; words_are = split ∙ append-nil front ∙ front_is })
read_rest from words front names (word ∷ rest) front_is behind set split =
    elim (sets_or_not word) [
      | inr none ↦ inr (length front + 1, no_attribute from words front names rest word front_is behind set split none)
      | inl found ↦
          let more = names ++ found.0 ∷ [] in
          let longer : front ++ word ∷ [] ≡ take from words ++ map attribute_word more =
          ap (λ (ws : List (List ℕ)). ws ++ word ∷ []) front_is
          ∙ append_assoc (take from words) (map attribute_word names) (word ∷ [])
          ∙ ap (λ (w : List ℕ). take from words ++ (map attribute_word names ++ w ∷ [])) found.2
          ∙ ap (λ (ws : List (List ℕ)). take from words ++ ws) (sym (map_push attribute_word names found.0)) in
          let long : from ≤ length (front ++ word ∷ []) = simp length-append (omega arith) in
          read_rest from words (front ++ word ∷ []) more rest longer long (All-push IsAttribute names found.0 set found.1) (split ∙ sym (append_assoc front (word ∷ []) rest))
    ]

read_attributes : (from : ℕ) (words : List (List ℕ)) → from ≤ length words → ((all : List (List ℕ)) × SetsAttributes from words all) ⊎ ((position : ℕ) × IsNoAttribute from words position)
read_attributes from words enough =
    read_rest from words (take from words) [] (drop from words) (sym (append-nil (take from words))) (simp length-take (omega arith)) (All-nil IsAttribute) (sym (take-append-drop from words))

-- what is found is an API that goes with the word of a registry, or not
goes_or_not : (found : Option (List ℕ)) (registry : List ℕ) → ((api : List ℕ) × (found ≡ Some api) × (goes_with registry api ≡ true)) ⊎ ((api : List ℕ) → found ≡ Some api → ¬ (goes_with registry api ≡ true))
goes_or_not None registry = inr (λ api e is. none-some api e)
goes_or_not (Some api) registry =
    elim (cases_Bool (goes_with registry api)) [
      | inl goes ↦ inl (api, refl, goes)
      | inr not_so ↦ inr (λ other e is. false≢true (sym not_so ∙ ap (goes_with registry) (same_Some api other e) ∙ is))
    ]

-- words are those of a request, or one of them is the first that has no place
abbrev pub IsRead : List (List ℕ) → Type 0
IsRead words = ((request : Request) × Spells words request) ⊎ ((position : ℕ) × IsMisplaced words position)

-- the first four words are those of a request on a document, or one of them is the first that has no place
every_document : (verb : List ℕ) (asks : AsksOfDocuments verb) (words : List (List ℕ)) → slice_get words 0 ≡ Some verb
    → ((registry : Option (List ℕ)) (root api : List ℕ) → IsApiOf registry api → IsFileName root → take 4 words ≡ document_words verb registry root api [] → 4 ≤ length words → IsRead words) → IsRead words
every_document verb asks words first behind =
    elim (named_or_not (slice_get words 1)) [
      | inr not_so ↦ inr (2, misplaced_second verb asks words first (λ name is. not_so name is.0 is.1))
      | inl (registry, second, file) ↦ elim (named_or_not (slice_get words 2)) [
        | inr not_so ↦ inr (3, misplaced_third verb asks words first registry (second, file) (λ name is. not_so name is.0 is.1))
        | inl (root, third, name) ↦ elim (goes_or_not (slice_get words 3) registry) [
          | inr not_so ↦ inr (4, misplaced_fourth verb asks words first registry root (second, file) (third, name) (λ api is. not_so api is.0 is.1))
          | inl (api, fourth, goes) ↦
              let within = slice_get_within words 3 api fourth in
              behind (registry_by registry) root api (goes_back registry api file goes) name (front_4 verb words first registry root api second third fourth) (omega arith)
        ]
      ]
    ]

-- the words of a check, or one of them is the first that has no place
every_check : (words : List (List ℕ)) → slice_get words 0 ≡ Some (codes "check") → IsRead words
every_check words first =
    every_document (codes "check") check_asks words first (λ registry root api goes name front four.
    elim (read_attributes 4 words four) [
      | inl (always, set) ↦ inl (Check registry root api always, (goes, name, set.names_are, set.words_are ∙ ap (λ (ws : List (List ℕ)). ws ++ map attribute_word always) front))
      | inr (position, wrong) ↦ inr (position, no_attribute_at words registry root api position goes name front wrong)
    ])

-- ---- a request to tag

-- a word is a first number or none
writes_or_not : (word : List ℕ) → ((first : ℕ) × WritesFirst word first) ⊎ ((first : ℕ) → ¬ WritesFirst word first)
writes_or_not word =
    elim (cases_lt 5 (length word)) [
      | inl long ↦ inr (λ first is. let short = is.short in absurd (omega arith))
      | inr short ↦ writes (numeral_of 10 word) refl short
    ]
  where
    same_number : (first number : ℕ) → WritesFirst word first → numeral_of 10 word ≡ Some number → first ≡ number
    same_number first number is written = same_Some first number (sym is.written ∙ written)

    writes : (found : Option ℕ) → numeral_of 10 word ≡ found → length word ≤ 5 → ((first : ℕ) × WritesFirst word first) ⊎ ((first : ℕ) → ¬ WritesFirst word first)
    writes None written short = inr (λ first is. none-some first (sym written ∙ is.written))
    writes (Some number) written short =
        elim (cases_lt number 1) [
          | inl nothing ↦ inr (λ first is. let same = same_number first number is written in let some = is.from_one in absurd (omega arith))
          | inr from_one ↦ elim (cases_lt 99999 number) [
            | inl much ↦ inr (λ first is. let same = same_number first number is written in let most = is.most in absurd (omega arith))
            | inr most ↦ inl (number, record { short = short; written = written; from_one = from_one; most = most })
          ]
        ]

-- a first number is found or none
numbered_or_not : (words : List (List ℕ)) → ((first : ℕ) × IsNumbered words 1 first) ⊎ ((first : ℕ) → ¬ IsNumbered words 1 first)
numbered_or_not words = found_or_not (slice_get words 1) refl
  where
    found_or_not : (found : Option (List ℕ)) → slice_get words 1 ≡ found → ((first : ℕ) × IsNumbered words 1 first) ⊎ ((first : ℕ) → ¬ IsNumbered words 1 first)
    found_or_not None here = inr (λ first is. none-some is.0 (sym here ∙ is.1))
    found_or_not (Some word) here =
        elim (writes_or_not word) [
          | inl (first, is) ↦ inl (first, (word, here, is))
          | inr none ↦ inr (λ first is. none first (subst (λ (w : List ℕ). WritesFirst w first) (sym (same_Some word is.0 (sym here ∙ is.1))) is.2))
        ]

-- a name is among others or not
among_or_not : (names : List (List ℕ)) (name : List ℕ) → ((place : ℕ) × (slice_get names place ≡ Some name)) ⊎ ((place : ℕ) → slice_get names place ≢ Some name)
among_or_not [] name = inr (λ place found. none-some name found)
among_or_not (first ∷ names) name =
    elim (same_or_not first name) [
      | inl same ↦ inl (0, ap Some same)
      | inr differs ↦ elim (among_or_not names name) [
        | inl (place, found) ↦ inl (suc place, found)
        | inr none ↦ inr (nowhere differs none)
      ]
    ]
  where
    nowhere : first ≢ name → ((place : ℕ) → slice_get names place ≢ Some name) → (place : ℕ) → slice_get (first ∷ names) place ≢ Some name
    nowhere differs none zero found = differs (same_Some first name found)
    nowhere differs none (suc place) found = none place found

-- what is found among names and one more
found_pushed : (names : List (List ℕ)) (last : List ℕ) (place : ℕ) (name : List ℕ) → slice_get (names ++ last ∷ []) place ≡ Some name → (slice_get names place ≡ Some name) ⊎ ((place ≡ length names) × (last ≡ name))
found_pushed [] last zero name found = inr (refl, same_Some last name found)
found_pushed [] last (suc place) name found = absurd (none-some name found)
found_pushed (first ∷ names) last zero name found = inl found
found_pushed (first ∷ names) last (suc place) name found =
    elim (found_pushed names last place name found) [
      | inl before ↦ inl before
      | inr (at, same) ↦ inr (ap suc at, same)
    ]

-- names that differ, and one that isn't among them
different_pushed : (names : List (List ℕ)) (last : List ℕ) → AreDifferent names → ((place : ℕ) → slice_get names place ≢ Some last) → AreDifferent (names ++ last ∷ [])
different_pushed names last different new = λ i j name is also.
    elim (found_pushed names last i name is) [
      | inl before ↦ elim (found_pushed names last j name also) [
        | inl here ↦ different i j name before here
        | inr (at, same) ↦ absurd (new i (before ∙ ap Some (sym same)))
      ]
      | inr (at, same) ↦ elim (found_pushed names last j name also) [
        | inl here ↦ absurd (new j (here ∙ ap Some (sym same)))
        | inr (end, alike) ↦ at ∙ sym end
      ]
    ]

-- words behind the first two that name different files
record NamesSome (words names : List (List ℕ)) : Type 0 where
  pub named : All IsFileName names
  pub different : AreDifferent names
  pub words_are : words ≡ take 2 words ++ names

-- a word that isn't another file's name
not_new : (words front names rest : List (List ℕ)) (word : List ℕ) → front ≡ take 2 words ++ names → 2 ≤ length front → All IsFileName names → AreDifferent names → words ≡ front ++ word ∷ rest
    → ((name : List ℕ) → word ≡ name → IsFileName name → ((place : ℕ) → slice_get names place ≢ Some name) → ⊥) → IsNoFile words (length front + 1)
not_new words front names rest word front_is two named different split never =
    let back : length front + 1 - 1 ≡ length front = omega arith in
    let before : take (length front) words ≡ front = ap (take (length front)) split ∙ taken_front front (word ∷ rest) in
    let read : slice_get words (length front) ≡ Some word = ap (λ (ws : List (List ℕ)). slice_get ws (length front)) split ∙ word_behind front rest word in
    let inside = slice_get_within words (length front) word read in
    record {
      names = names;
      named = named;
      different = different;
      before = rw back (before ∙ front_is);
      behind = omega arith;
      within = omega arith;
      here = λ name is. never name (same_Some word name (sym read ∙ ap (slice_get words) (sym back) ∙ is.0.0)) is.0.1 is.1;
    }

-- the words behind some names, or one is the first that isn't another file's name
read_names : (words front names rest : List (List ℕ)) → front ≡ take 2 words ++ names → 2 ≤ length front → All IsFileName names → AreDifferent names → words ≡ front ++ rest
    → ((all : List (List ℕ)) × NamesSome words all) ⊎ ((position : ℕ) × IsNoFile words position)
read_names words front names [] front_is two named different split = inl (names, record { named = named; different = different; words_are = split ∙ append-nil front ∙ front_is })
read_names words front names (word ∷ rest) front_is two named different split =
    elim (named_or_not (Some word)) [
      | inr not_so ↦ inr (length front + 1, not_new words front names rest word front_is two named different split (λ name same is new. not_so name (ap Some same) is))
      | inl (name, is, file) ↦ elim (among_or_not names word) [
        | inl (place, found) ↦ inr (length front + 1, not_new words front names rest word front_is two named different split (λ other same is_name new. new place (found ∙ ap Some same)))
        | inr new ↦
            let more = names ++ word ∷ [] in
            let longer : front ++ word ∷ [] ≡ take 2 words ++ more = ap (λ (ws : List (List ℕ)). ws ++ word ∷ []) front_is ∙ append_assoc (take 2 words) names (word ∷ []) in
            let long : 2 ≤ length (front ++ word ∷ []) = simp length-append (omega arith) in
            let file_name : IsFileName word = subst IsFileName (sym (same_Some word name is)) file in
            read_names words (front ++ word ∷ []) more rest longer long (All-push IsFileName names word named file_name) (different_pushed names word different new) (split ∙ sym (append_assoc front (word ∷ []) rest))
      ]
    ]

-- the words of a request to tag, or one of them is the first that has no place
every_tag : (words : List (List ℕ)) → slice_get words 0 ≡ Some (codes "tag") → IsRead words
every_tag words tag =
    elim (numbered_or_not words) [
      | inr none ↦ inr (2, no_number words tag none)
      | inl (first, (word, second, numbered)) ↦ elim (cases_lt (length words) 3) [
        | inl short ↦ inr (3, no_file_named words first tag (word, second, numbered) short)
        | inr enough ↦ elim (read_names words (take 2 words) [] (drop 2 words) (sym (append-nil (take 2 words))) (simp length-take (omega arith)) (All-nil IsFileName) none_different (sym (take-append-drop 2 words))) [
          | inr (position, wrong) ↦ inr (position, no_file_at words first position tag (word, second, numbered) wrong)
          | inl (names, is) ↦
              let words_are : words ≡ tag_words word names = is.words_are ∙ ap (λ (w : List (List ℕ)). w ++ names) (first_two words word tag second) in
              let some : names ≢ [] = λ none. let short : length words ≡ 2 = ap length words_are ∙ ap (λ (ns : List (List ℕ)). length (tag_words word ns)) none in absurd (omega arith) in
              inl (Tag first names, (word, numbered, record { some = some; named = is.named; different = is.different }, words_are))
        ]
      ]
    ]
  where
    none_different : AreDifferent []
    none_different i j name is also = absurd (none-some name is)

-- a word is one for an option or not
option_or_not : (word : List ℕ) → IsOptionWord word ⊎ (¬ IsOptionWord word)
option_or_not word =
    elim (cases_Bool (names_option word)) [
      | inl is ↦ inl is
      | inr not_so ↦ inr (λ is. false≢true (sym not_so ∙ is))
    ]

-- behind so many words and some for options others stand
leads_behind : (from : ℕ) (words front names rest : List (List ℕ)) → front ≡ take from words ++ names → from + length names ≡ length front → All IsOptionWord names → words ≡ front ++ rest
    → (all : List (List ℕ)) × LeadsOptions from words all
leads_behind from words front names [] front_is count set split =
    let whole : words ≡ front = split ∙ append-nil front in
    let long : length words ≤ from + length names = let same = ap length whole in omega arith in (
      names,
      record {
        names_are = set;
        words_are = take_all (from + length names) words long ∙ whole ∙ front_is;
        within = let same = ap length whole in omega arith;
        next = λ name is e. none-some name (sym (slice_get_past words (from + length names) long) ∙ e);
      },
    )
leads_behind from words front names (word ∷ rest) front_is count set split =
    elim (option_or_not word) [
      | inr none ↦
          let read : slice_get words (from + length names) ≡ Some word =
          ap (slice_get words) count ∙ ap (λ (ws : List (List ℕ)). slice_get ws (length front)) split ∙ word_behind front rest word in
          let inside = slice_get_within words (from + length names) word read in (
            names,
            record {
              names_are = set;
              words_are = ap (λ (n : ℕ). take n words) count ∙ ap (take (length front)) split ∙ taken_front front (word ∷ rest) ∙ front_is;
              within = omega arith;
              next = λ name is e. none (subst IsOptionWord (sym (same_Some word name (sym read ∙ e))) is);
            },
          )
      | inl is ↦
          let more = names ++ word ∷ [] in
          let longer : front ++ word ∷ [] ≡ take from words ++ more = ap (λ (ws : List (List ℕ)). ws ++ word ∷ []) front_is ∙ append_assoc (take from words) names (word ∷ []) in
          let counted : from + length more ≡ length (front ++ word ∷ []) = simp length-append (omega arith) in
          leads_behind from words (front ++ word ∷ []) more rest longer counted (All-push IsOptionWord names word set is) (split ∙ sym (append_assoc front (word ∷ []) rest))
    ]

-- behind so many words some for options stand, or none
leads : (from : ℕ) (words : List (List ℕ)) → from ≤ length words → (all : List (List ℕ)) × LeadsOptions from words all
leads from words enough =
    leads_behind from words (take from words) [] (drop from words) (sym (append-nil (take from words))) (simp length-take (omega arith)) (All-nil IsOptionWord) (sym (take-append-drop from words))

-- the words of a request to build, or one of them is the first that has no place
every_build : (words : List (List ℕ)) → slice_get words 0 ≡ Some (codes "build") → IsRead words
every_build words first =
    every_document (codes "build") build_asks words first (λ registry root api goes name front four.
    let found = leads 4 words four in
    let names = found.0 in
    let options = found.1 in
    elim (read_attributes (4 + length names) words options.within) [
      | inl (always, set) ↦ inl (Build registry root api names always, (goes, name, options.names_are, set.names_are, all_set words registry root api names always front options set.words_are))
      | inr (position, wrong) ↦ inr (position, no_set_at words registry root api names position goes name front options wrong)
    ])

-- what is found is the name of an API or not
api_or_not : (found : Option (List ℕ)) → ((api : List ℕ) × (found ≡ Some api) × IsApiName api) ⊎ ((api : List ℕ) → found ≡ Some api → ¬ IsApiName api)
api_or_not None = inr (λ api e is. none-some api e)
api_or_not (Some word) =
    elim (cases_Bool (is_run is_api_byte word)) [
      | inl run ↦ inl (word, refl, run)
      | inr not_so ↦ inr (λ api e is. false≢true (sym not_so ∙ ap (is_run is_api_byte) (same_Some word api e) ∙ is))
    ]

-- the words behind the first three of a request for a header
every_option : (words : List (List ℕ)) (registry api : List ℕ) → IsApiOf (Some registry) api → take 3 words ≡ header_words registry api [] → 3 ≤ length words → IsRead words
every_option words registry api goes front three =
    let found = leads 3 words three in
    let names = found.0 in
    let options = found.1 in
    elim (cases_lt (3 + length names) (length words)) [
      | inl more ↦ inr (3 + length names + 1, no_option_at words registry api names goes front options more)
      | inr whole ↦ inl (Header registry api names, (goes, options.names_are, all_options words registry api names front options whole))
    ]

-- the words behind the first two
every_api : (words : List (List ℕ)) (registry : List ℕ) → slice_get words 0 ≡ Some (codes "header") → IsRegistryNamed words registry → IsRead words
every_api words registry first second =
    elim (api_or_not (slice_get words 2)) [
      | inr none ↦ inr (3, no_api words registry first second (λ api is. none api is.0 is.1))
      | inl (api, third, run) ↦
          let within = slice_get_within words 2 api third in
          every_option words registry api (second.0.1, second.1, run) (header_3 words registry api first second.0.0 third) (omega arith)
    ]

-- the words of a request for a header, or one of them is the first that has no place
every_header : (words : List (List ℕ)) → slice_get words 0 ≡ Some (codes "header") → IsRead words
every_header words first =
    elim (named_or_not (slice_get words 1)) [
      | inr none ↦ inr (2, no_registry words first (λ name is. none name is.0.0 is.0.1))
      | inl (name, second, is) ↦ elim (same_or_not name (codes "-")) [
        | inl dash ↦ inr (2, no_registry words first (λ other named. named.1 (sym (same_Some name other (sym second ∙ named.0.0)) ∙ dash)))
        | inr no_dash ↦ every_api words name first ((second, is), no_dash)
      ]
    ]

-- each list of words is those of a request, or one of them is the first that has no place
pub every_request : (words : List (List ℕ)) → IsRead words
every_request words =
    elim (is_or_not (slice_get words 0) (codes "check")) [
      | inl check ↦ every_check words check
      | inr no_check ↦ elim (is_or_not (slice_get words 0) (codes "build")) [
        | inl build ↦ every_build words build
        | inr no_build ↦ elim (is_or_not (slice_get words 0) (codes "header")) [
          | inl header ↦ every_header words header
          | inr no_header ↦ elim (is_or_not (slice_get words 0) (codes "tag")) [
            | inl tag ↦ every_tag words tag
            | inr no_tag ↦ inr (1, misplaced_first words no_check no_build no_header no_tag)
          ]
        ]
      ]
    ]
