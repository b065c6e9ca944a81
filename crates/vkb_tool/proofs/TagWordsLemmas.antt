-- The words of a request to tag, and where they stop being those of one.
use Rattle.std.proofs.Common.{inl, inr, if◌then◌else◌, Bool, is_some, ◌≡◌, ◌≢◌, ℕ, zero, suc, ◌+◌, ◌-◌, ◌<◌, ◌≤◌, List, [], ◌∷◌, ◌++◌, length, take, drop, get_or, Option, Some, None, slice_get, nat_le, codes, refl, sym, ap, ◌∙◌, arith, subst, All}
use Rattle.std.proofs.lemmas.Bool.{cases_Bool, cond-true, le-leb}
use Rattle.std.proofs.lemmas.Option.{none-some, same_Some, slice_get_past, slice_get_within, slice_get-get_or}
use Rattle.std.proofs.lemmas.List.{length-take-le, take-append-drop}
use Rattle.std.proofs.lemmas.List.Elements.{All-cons, All-get_or, All-nil}
use Rattle.vkb_bytes.specs.Numbers.{numeral_of, short_numeral_of}
use Rattle.vkb_formula.specs.Names.{AreDifferent, place_of, with_name}
use Rattle.vkb_tool.specs.Reading.{IsFileFault, IsNoFile, IsNumbered}
use Rattle.vkb_tool.specs.Words.{AreFileNames, IsFileName, IsMisplaced, IsWordFault, Spells, WritesFirst}
use Rattle.vkb_tool.specs.declared.words.WordFault.{WordFault}
use Rattle.vkb_tool.specs.declared.words.WordFault.TheVariants.{Memory, Usage}
use Rattle.vkb_tool.specs.declared.words.Request.{Request}
use Rattle.vkb_tool.specs.declared.words.Request.TheVariants.{Build, Check, Header, Tag}
use Rattle.vkb_tool.proofs.WordsLemmas.{is_name_a, misplaced_from, same_first, take_next}

-- the words of a request to tag
abbrev pub tag_words : List ℕ → List (List ℕ) → List (List ℕ)
tag_words word names = codes "tag" ∷ word ∷ names

record IsTagOf (words : List (List ℕ)) : Type 0 where
  pub word : List ℕ
  pub first : ℕ
  pub names : List (List ℕ)
  pub numbered : WritesFirst word first
  pub names_are : AreFileNames names
  pub words_are : words ≡ tag_words word names

-- the words of a request are those of one to tag where the first of them says so
spelled_tag : (words : List (List ℕ)) (request : Request) → Spells words request → slice_get words 0 ≡ Some (codes "tag") → IsTagOf words
spelled_tag words (Check registry root api always) spelled first =
    let other : Some (codes "check") ≡ Some (codes "tag") = sym (ap (λ (w : List (List ℕ)). slice_get w 0) spelled.3) ∙ first in absurd (cc)
spelled_tag words (Build registry root api names always) spelled first =
    let other : Some (codes "build") ≡ Some (codes "tag") = sym (ap (λ (w : List (List ℕ)). slice_get w 0) spelled.4) ∙ first in absurd (cc)
spelled_tag words (Header registry api names) spelled first =
    let other : Some (codes "header") ≡ Some (codes "tag") = sym (ap (λ (w : List (List ℕ)). slice_get w 0) spelled.2) ∙ first in absurd (cc)
spelled_tag words (Tag number files) spelled first = record { word = spelled.0; first = number; names = files; numbered = spelled.1; names_are = spelled.2; words_are = spelled.3 }

-- a number of few digits is a short one
short_number_is : (word : List ℕ) → length word ≤ 5 → short_numeral_of word ≡ numeral_of 10 word
unfolding short_numeral_of
short_number_is word short = cond-true (nat_le (length word) 9) _ _ (le-leb (length word) 9 (omega arith))

-- what a word of few digits writes
pub writes_number : (word : List ℕ) (number : ℕ) → length word ≤ 5 → Some number ≡ short_numeral_of word → 1 ≤ number → number ≤ 99999 → WritesFirst word number
writes_number word number short written some most = record { short = short; written = sym (short_number_is word short) ∙ sym written; from_one = some; most = most }

-- and no word writes another number
pub one_number : (word : List ℕ) (found : Option ℕ) (first : ℕ) → found ≡ short_numeral_of word → WritesFirst word first → found ≡ Some first
one_number word found first is writes = is ∙ short_number_is word writes.short ∙ writes.written

-- `1` is a first number
writes_1 : WritesFirst (49 ∷ []) 1
unfolding numeral_of
writes_1 = record { short = omega arith; written = refl; from_one = omega arith; most = omega arith }

one_different : (name : List ℕ) → AreDifferent (name ∷ [])
one_different name zero zero other is also = refl
one_different name (suc i) j other is also = absurd (none-some other is)
one_different name zero (suc j) other is also = absurd (none-some other also)

-- one file
names_a : AreFileNames ((97 ∷ []) ∷ [])
names_a = record { some = λ e. cc; named = All-cons IsFileName (97 ∷ []) [] is_name_a (All-nil IsFileName); different = one_different (97 ∷ []) }

-- the first k words are those of a request to tag, and the next one is that of none
tag_misplaced : (words : List (List ℕ)) (k : ℕ) (word : List ℕ) (first : ℕ) (names : List (List ℕ)) → WritesFirst word first → AreFileNames names → 1 ≤ k → k ≤ length words
    → take k words ≡ take k (tag_words word names)
    → ((other : List ℕ) (number : ℕ) (files : List (List ℕ)) → WritesFirst other number → AreFileNames files → take k (tag_words other files) ≡ take k words → slice_get words k ≢ slice_get (tag_words other files) k)
    → IsMisplaced words (k + 1)
tag_misplaced words k word first names numbered named some long front differs =
    let whole = tag_words word names in
    misplaced_from words k long
    (drop k whole, Tag first names, (word, numbered, named, ap (λ (w : List (List ℕ)). w ++ drop k whole) front ∙ take-append-drop k whole))
    (λ more request spelled alike same.
    let is = spelled_tag more request spelled (same_first more whole k some (alike ∙ front)) in
    differs is.word is.first is.names is.numbered is.names_are (sym (ap (take k) is.words_are) ∙ alike) (sym same ∙ ap (λ (w : List (List ℕ)). slice_get w k) is.words_are))

-- the second word is no first number
pub no_number : (words : List (List ℕ)) → slice_get words 0 ≡ Some (codes "tag") → ((first : ℕ) → ¬ IsNumbered words 1 first) → IsMisplaced words 2
no_number words tag none =
    let within = slice_get_within words 0 (codes "tag") tag in
    tag_misplaced words 1 (49 ∷ []) 1 ((97 ∷ []) ∷ []) writes_1 names_a (omega arith) (omega arith) (take_next words 0 (codes "tag") tag)
    (λ other number files numbered named alike same. none number (other, same, numbered))

-- the first two words
pub first_two : (words : List (List ℕ)) (word : List ℕ) → slice_get words 0 ≡ Some (codes "tag") → slice_get words 1 ≡ Some word → take 2 words ≡ tag_words word []
first_two words word tag second = take_next words 1 word second ∙ ap (λ (w : List (List ℕ)). w ++ word ∷ []) (take_next words 0 (codes "tag") tag)

-- there is a first one of some
first_of_some : (files : List (List ℕ)) → files ≢ [] → None ≢ slice_get files 0
first_of_some [] some none = some refl
first_of_some (file ∷ files) some none = none-some file none

-- no file is named
pub no_file_named : (words : List (List ℕ)) (first : ℕ) → slice_get words 0 ≡ Some (codes "tag") → IsNumbered words 1 first → length words < 3 → IsMisplaced words 3
no_file_named words first tag (word, second, numbered) short =
    let within = slice_get_within words 1 word second in
    tag_misplaced words 2 word first ((97 ∷ []) ∷ []) numbered names_a (omega arith) (omega arith) (first_two words word tag second)
    (λ other number files is named alike same. first_of_some files named.some (sym (slice_get_past words 2 (omega arith)) ∙ same))

-- what is found in a front is found in the whole, within that front
found_in_front : (n : ℕ) (names : List (List ℕ)) (place : ℕ) (name : List ℕ) → slice_get (take n names) place ≡ Some name → (slice_get names place ≡ Some name) × (place < n)
found_in_front zero names place name found = absurd (none-some name found)
found_in_front (suc n) [] place name found = absurd (none-some name found)
found_in_front (suc n) (first ∷ names) zero name found = (found, omega arith)
found_in_front (suc n) (first ∷ names) (suc place) name found =
    let rest = found_in_front n names place name found in
    let below = rest.1 in
    (rest.0, omega arith)

-- names before a new one, or one where there is none
some_names : (names : List (List ℕ)) → All IsFileName names → AreDifferent names → (whole : List (List ℕ)) × AreFileNames whole × (take (length names) whole ≡ names)
some_names [] named different = ((97 ∷ []) ∷ [], names_a, refl)
some_names (name ∷ names) named different = (name ∷ names, record { some = λ e. cc; named = named; different = different }, taken names)
  where
    taken : (rest : List (List ℕ)) → take (length (name ∷ rest)) (name ∷ rest) ≡ name ∷ rest
    taken rest = ap (λ (ns : List (List ℕ)). name ∷ ns) (all_taken rest)
      where
        all_taken : (ns : List (List ℕ)) → take (length ns) ns ≡ ns
        all_taken [] = refl
        all_taken (n ∷ ns) = ap (λ (xs : List (List ℕ)). n ∷ xs) (all_taken ns)

-- the word at a position isn't another file's name
pub no_file_at : (words : List (List ℕ)) (first : ℕ) (position : ℕ) → slice_get words 0 ≡ Some (codes "tag") → IsNumbered words 1 first → IsNoFile words position → IsMisplaced words position
no_file_at words first position tag (word, second, numbered) wrong =
    let from = wrong.behind in
    let upto = wrong.within in
    let k = position - 1 in
    let back : k + 1 ≡ position = omega arith in
    let names = wrong.names in
    let same : take k words ≡ tag_words word names = wrong.before ∙ ap (λ (w : List (List ℕ)). w ++ names) (first_two words word tag second) in
    let long : k ≤ length words = omega arith in
    let counted : k ≡ suc (suc (length names)) = sym (length-take-le k words long) ∙ ap length same in
    let some = some_names names wrong.named wrong.different in
    let front : take k words ≡ take k (tag_words word some.0) =
    same ∙ ap (λ (ns : List (List ℕ)). tag_words word ns) (sym some.2) ∙ ap (λ (n : ℕ). take n (tag_words word some.0)) (sym counted) in
    let there = slice_get-get_or words k [] (omega arith) in
    subst (λ (n : ℕ). IsMisplaced words n) back (tag_misplaced words k word first some.0 numbered some.1 (omega arith) long front
    (λ other number files is named alike next.
    let name = get_or words k [] in
    let begins : take (length names) files ≡ names =
    let both : take (suc (suc (length names))) (tag_words other files) ≡ tag_words word names = ap (λ (n : ℕ). take n (tag_words other files)) (sym counted) ∙ alike ∙ same in
    cc in
    let found : slice_get files (length names) ≡ Some name = ap (λ (n : ℕ). slice_get (tag_words other files) n) (sym counted) ∙ sym next ∙ there in
    wrong.here name (
      (there, named_at files (length names) name named found),
      (λ place held.
          let earlier = found_in_front (length names) files place name (ap (λ (ns : List (List ℕ)). slice_get ns place) begins ∙ held) in
          let alike_places = named.different place (length names) name earlier.0 found in
          let below = earlier.1 in
          absurd (omega arith)),
    )))
  where
    named_at : (files : List (List ℕ)) (at : ℕ) (name : List ℕ) → AreFileNames files → slice_get files at ≡ Some name → IsFileName name
    named_at files at name named found =
        let within = slice_get_within files at name found in
        let same = same_Some (get_or files at name) name (sym (slice_get-get_or files at name within) ∙ found) in
        subst IsFileName same (All-get_or IsFileName files at name within named.named)

-- what is told of words whose files weren't read
pub misplaced_file : (words : List (List ℕ)) (first : ℕ) (fault : WordFault) → slice_get words 0 ≡ Some (codes "tag") → IsNumbered words 1 first → IsFileFault words fault → IsWordFault words fault
misplaced_file words first (Usage position) tag numbered wrong = no_file_at words first position tag numbered wrong
misplaced_file words first Memory tag numbered wrong = tt

-- a name that isn't in a table stands last once it is put in
pub put_in : (name : List ℕ) (seen new : List (List ℕ)) (place : ℕ) → new ≡ with_name name seen → slice_get new place ≡ Some name → ((at : ℕ) → slice_get seen at ≢ Some name) → new ≡ seen ++ name ∷ []
put_in name seen new place is held none =
    let last = seen ++ name ∷ [] in
    elim (cases_Bool (is_some (place_of name seen))) [
      | inl there ↦
          let same : new ≡ seen = is ∙ ap (λ (b : Bool). if b then seen else last) there in
          absurd (none place (sym (ap (λ (ns : List (List ℕ)). slice_get ns place) same) ∙ held))
      | inr not_so ↦ is ∙ ap (λ (b : Bool). if b then seen else last) not_so
    ]
