-- How many names there are, and that options differ and have the form of names.
use Rattle.std.proofs.Common.{◌≡◌, ◌≤◌, ℕ, Bool, true, false, ◌==◌, ◌&&◌, ◌||◌, nat_le, nat_lt, List, [], ◌∷◌, ◌++◌, length, map, filter, slice_get, All, Option, Some, None, is_some, is_none, refl, sym, ap, subst, ◌∙◌, arith, inl, inr}
use Rattle.std.specs.Prelude.{option_map}
use Rattle.std.specs.Str.{bytes_eq}
use Rattle.std.specs.List.{flat_map, list_all}
use Rattle.std.specs.Option.{option_to_list}
use Rattle.std.proofs.lemmas.Bool.{and_from, and_parts, both_ways, cases_lt, false_from_ne_true, leb-true, le-leb, lt-ltb, not-true, not_from_true, or_cases, eqb-true}
use Rattle.std.proofs.lemmas.List.{length-map, length-append, map-append}
use Rattle.std.proofs.lemmas.List.Elements.{All-append, All-cons, All-filter, All-map, All-nil, All-weaker, filter_passes}
use Rattle.std.proofs.lemmas.List.Folds.{list_all-append, list_any-append}
use Rattle.std.proofs.lemmas.Option.{slice_get-get_or}
use Rattle.vkb_bytes.specs.Bytes.{is_digit, is_letter, is_word_byte}
use Rattle.vkb_formula.specs.Expressions.{Atom as Part, Expression, Name, Group, Single, Both, Either, IsAtom, IsExpression, IsName, atom_names, names_of}
use Rattle.vkb_formula.specs.Names.{most_names}
use Rattle.reg_registry.specs.Words.{is_name}
use Rattle.reg_registry.specs.Naming.{most_bytes}
use Rattle.reg_forms.specs.Options.{is_option_name}
use Rattle.reg_forms.specs.Sizes.{AreSmall}
use Rattle.reg_forms.specs.declared.forms.Declaration.{Declaration}
use Rattle.reg_forms.specs.declared.forms.DependsText.{DependsText}
use Rattle.reg_forms.specs.declared.forms.Fault.{Fault}
use Rattle.reg_forms.specs.declared.forms.Forms.{Forms}
use Rattle.reg_forms.specs.declared.forms.OptionForm.{OptionForm}
use Rattle.reg_forms.specs.declared.forms.RowCode.{RowCode}
use Rattle.reg_forms.specs.declared.forms.RowCode.TheVariants.{DuplicateName, NameLimit}
use Rattle.reg_tables.specs.Bits.{Atom, Readings, atoms_in, bits_of, is_bit, is_member_name, options_of}
use Rattle.reg_tables.specs.Lists.{firsts, is_among}
use Rattle.reg_tables.specs.Tables.{extensions_in, features_in}
use Rattle.reg_tables.specs.Words.{IsReadAs}
use Rattle.reg_tables.specs.Wrong.{bad_text, fault_if, limits_in, past_limit, wrong_values_in}
use Rattle.reg_rows.specs.Answer.{IsAccepted}
use Rattle.reg_rows.specs.Faults.{declared_besides, declared_twice, duplicates_in, grouped_twice, of_two_types, offered_twice, unknowns_in}
use Rattle.reg_rows.specs.Rows.{declared_in, names_in, option_names}
use Rattle.reg_rows.proofs.ApartLemmas.{Apart, AreNew, all-among, all-firsts, apart-append, apart-filter, apart-tests, firsts-all, firsts-apart, firsts-map, new-cons}
use Rattle.reg_rows.proofs.ListLemmas.{all-flat_map, nil-parts}

pub no-fault : (test : Bool) (code : RowCode) (place : ℕ) (word : List ℕ) → fault_if test code place word ≡ [] → test ≡ false
no-fault true code place word e = absurd (cc)
no-fault false code place word e = refl

-- options of which none is offered twice
offered-new : (seen : List (List ℕ)) (options : List OptionForm) → offered_twice seen options ≡ [] → AreNew (λ o. o.name) seen options
offered-new seen [] e = (tt, λ name known. refl)
offered-new seen (o ∷ more) e =
    let parts = nil-parts (fault_if (is_among seen o.name) DuplicateName o.place o.name) (offered_twice (o.name ∷ seen) more) e in
    new-cons (λ o. o.name) seen o more (no-fault (is_among seen o.name) DuplicateName o.place o.name parts.0) (offered-new (o.name ∷ seen) more parts.1)

abbrev limit-fault : Atom → Fault
limit-fault one = record { code = NameLimit; at = one.0; word = one.1 }

-- no name past the limit
past_limit-few : (named : List Atom) → past_limit named ≡ [] → length (firsts (λ (one : Atom). one.1) named) ≤ most_names
past_limit-few named e =
    elim (cases_lt most_names (length (firsts (λ (one : Atom). one.1) named))) [
      | inl more ↦ absurd (one-past (slice_get (firsts (λ (one : Atom). one.1) named) most_names) _ (slice_get-get_or (firsts (λ (one : Atom). one.1) named) most_names (0, []) more) e)
      | inr few ↦ few
    ]
  where
    one-past : (o : Option Atom) (one : Atom) → o ≡ Some one → option_to_list (option_map limit-fault o) ≡ [] → ⊥
    one-past None one there e = cc
    one-past (Some other) one there e = cc

byte-fits : (b : ℕ) → 33 ≤ b → b ≤ 126 → (nat_le 33 b && nat_le b 126) ≡ true
byte-fits b low high = and_from (nat_le 33 b) (nat_le b 126) (le-leb 33 b low) (le-leb b 126 high)

between : (low high b : ℕ) → (nat_le low b && nat_le b high) ≡ true → (low ≤ b) × (b ≤ high)
between low high b e = let parts = and_parts (nat_le low b) (nat_le b high) e in (leb-true low b parts.0, leb-true b high parts.1)

letter-fits : (b : ℕ) → is_letter b ≡ true → (nat_le 33 b && nat_le b 126) ≡ true
letter-fits b e =
    elim (or_cases (nat_le 65 b && nat_le b 90) (nat_le 97 b && nat_le b 122) e) [
      | inl large ↦ let fits = between 65 90 b large in byte-fits b (omega (arith, fits)) (omega (arith, fits))
      | inr small ↦ let fits = between 97 122 b small in byte-fits b (omega (arith, fits)) (omega (arith, fits))
    ]

word-fits : (b : ℕ) → is_word_byte b ≡ true → (nat_le 33 b && nat_le b 126) ≡ true
word-fits b e =
    elim (or_cases (is_letter b || is_digit b) (b == 95) e) [
      | inl other ↦ elim (or_cases (is_letter b) (is_digit b) other) [
        | inl letter ↦ letter-fits b letter
        | inr digit ↦ let fits = between 48 57 b digit in byte-fits b (omega (arith, fits)) (omega (arith, fits))
      ]
      | inr line ↦ let is : b ≡ 95 = eqb-true b 95 line in byte-fits b (omega (arith, is)) (omega (arith, is))
    ]

words-fit : (text : List ℕ) → list_all is_word_byte text ≡ true → list_all (λ byte. nat_le 33 byte && nat_le byte 126) text ≡ true
words-fit [] e = refl
words-fit (b ∷ text) e =
    let parts = and_parts (is_word_byte b) (list_all is_word_byte text) e in
    and_from (nat_le 33 b && nat_le b 126) (list_all (λ byte. nat_le 33 byte && nat_le byte 126) text) (word-fits b parts.0) (words-fit text parts.1)

-- a name in an expression is one
name-fits : (text : List ℕ) → IsName text → is_name text ≡ true
name-fits text (inl word) = and_from (nat_lt 0 (length text)) (list_all (λ byte. nat_le 33 byte && nat_le byte 126) text) (lt-ltb 0 (length text) word.0) (words-fit text word.1)
name-fits text (inr (first, second, word, other, is)) =
    subst (λ text. is_name text ≡ true) (sym is)
    (and_from (nat_lt 0 (length (first ++ 58 ∷ 58 ∷ second))) (list_all (λ byte. nat_le 33 byte && nat_le byte 126) (first ++ 58 ∷ 58 ∷ second))
    (lt-ltb 0 (length (first ++ 58 ∷ 58 ∷ second)) (omega (arith, length-append first (58 ∷ 58 ∷ second))))
    (list_all-append (λ byte. nat_le 33 byte && nat_le byte 126) first (58 ∷ 58 ∷ second)
    ∙ and_from (list_all (λ byte. nat_le 33 byte && nat_le byte 126) first) (list_all (λ byte. nat_le 33 byte && nat_le byte 126) second) (words-fit first word.1) (words-fit second other.1)))

mutual
  part-named : (a : Part) → IsAtom a → All (λ name. is_name name ≡ true) (atom_names a)
  part-named (Name name) h = All-cons (λ name. is_name name ≡ true) name [] (name-fits name h) (All-nil (λ name. is_name name ≡ true))
  part-named (Group inner) h = expression-named inner h

  expression-named : (e : Expression) → IsExpression e → All (λ name. is_name name ≡ true) (names_of e)
  expression-named (Single part) h = part-named part h
  expression-named (Both left part) h =
      All-append (λ name. is_name name ≡ true) (names_of left) (atom_names part) (expression-named left h.0) (part-named part h.1)
  expression-named (Either left part) h =
      All-append (λ name. is_name name ≡ true) (names_of left) (atom_names part) (expression-named left h.0) (part-named part h.1)

reading-named : (reading : DependsText × Option Expression) → IsReadAs reading.0.text reading.1 → All (λ (atom : Atom). is_name atom.1 ≡ true) (atoms_in reading)
reading-named (text, None) h = All-nil (λ (atom : Atom). is_name atom.1 ≡ true)
reading-named (text, Some e) h =
    All-map (λ (atom : Atom). is_name atom.1 ≡ true) (λ name. (text.place, name)) (names_of e) (expression-named e h.named)

map-names : (place : OptionForm → ℕ) (options : List OptionForm) → map (λ (atom : Atom). atom.1) (map (λ o. (place o, o.name)) options) ≡ map (λ o. o.name) options
map-names place [] = refl
map-names place (o ∷ more) = ap (λ names. o.name ∷ names) (map-names place more)

abbrev declared-atom : Declaration → Atom
declared-atom d = (d.place, d.name)

module _ (f : Forms) (readings : Readings) where
  -- the names of the options, part by part
  parts-are : option_names f readings ≡ map (λ o. o.name) (features_in f) ++ map (λ o. o.name) (extensions_in f) ++ map (λ (atom : Atom). atom.1) (bits_of f readings)
  parts-are =
      map-append (λ (atom : Atom). atom.1) (map (λ o. (o.place, o.name)) (features_in f) ++ map (λ o. (o.place, o.name)) (extensions_in f)) (bits_of f readings)
      ∙ ap (λ names. names ++ map (λ (atom : Atom). atom.1) (bits_of f readings))
      (map-append (λ (atom : Atom). atom.1) (map (λ o. (o.place, o.name)) (features_in f)) (map (λ o. (o.place, o.name)) (extensions_in f))
      ∙ (λ i. map-names (λ o. o.place) (features_in f) i ++ map-names (λ o. o.place) (extensions_in f) i))

  pub bits-each : (P : Atom → Type 0) → All P (flat_map atoms_in readings) → All P (bits_of f readings)
  bits-each P h =
      all-firsts (λ (atom : Atom). atom.1) P [] (filter (λ (atom : Atom). is_bit f atom.1) (flat_map atoms_in readings)) (All-filter (λ (atom : Atom). is_bit f atom.1) P (flat_map atoms_in readings) h)

  pub bits-are-bits : All (λ (atom : Atom). is_bit f atom.1 ≡ true) (bits_of f readings)
  bits-are-bits =
      all-firsts (λ (atom : Atom). atom.1) (λ (atom : Atom). is_bit f atom.1 ≡ true) [] (filter (λ (atom : Atom). is_bit f atom.1) (flat_map atoms_in readings)) (filter_passes (λ (atom : Atom). is_bit f atom.1) (flat_map atoms_in readings))

-- what holds of an accepted registry, whose faults are none
module _ (f : Forms) (readings : Readings) (accepted : IsAccepted f readings) where
  limits-none : limits_in f readings ≡ []
  limits-none = (nil-parts (f.faults ++ flat_map bad_text readings ++ duplicates_in f ++ unknowns_in f ++ wrong_values_in f) (limits_in f readings) accepted.sound).1

  offered-none : offered_twice [] f.options ≡ []
  offered-none =
      let values = (nil-parts (f.faults ++ flat_map bad_text readings ++ duplicates_in f ++ unknowns_in f ++ wrong_values_in f) (limits_in f readings) accepted.sound).0 in
      let unknowns = (nil-parts (f.faults ++ flat_map bad_text readings ++ duplicates_in f ++ unknowns_in f) (wrong_values_in f) values).0 in
      let duplicates = (nil-parts (f.faults ++ flat_map bad_text readings ++ duplicates_in f) (unknowns_in f) unknowns).0 in
      let all = (nil-parts (f.faults ++ flat_map bad_text readings) (duplicates_in f) duplicates).1 in
      let first = flat_map (declared_twice f) f.declarations in
      let groups = (nil-parts (first ++ offered_twice [] f.options ++ flat_map (grouped_twice f) f.groups ++ flat_map (of_two_types f) f.enumerants) (flat_map (declared_besides f) f.enumerants) all).0 in
      let types = (nil-parts (first ++ offered_twice [] f.options ++ flat_map (grouped_twice f) f.groups) (flat_map (of_two_types f) f.enumerants) groups).0 in
      let two = (nil-parts (first ++ offered_twice [] f.options) (flat_map (grouped_twice f) f.groups) types).0 in
      (nil-parts first (offered_twice [] f.options) two).1

  pub names-few : length (names_in f) ≤ most_names
  names-few =
      let both = (nil-parts (past_limit (map (λ d. (d.place, d.name)) f.declarations) ++ past_limit (options_of f readings)) (past_limit (map (λ e. (e.place, e.name)) f.enumerants)) limits-none).0 in
      let none = (nil-parts (past_limit (map (λ d. (d.place, d.name)) f.declarations)) (past_limit (options_of f readings)) both).0 in
      omega (
        arith,
        past_limit-few (map (λ d. (d.place, d.name)) f.declarations) none,
        ap length (firsts-map (λ (atom : Atom). atom.1) declared-atom [] f.declarations),
        length-map (declared_in f) declared-atom,
        length-map (declared_in f) (λ d. d.name),
      )

  options-limit : past_limit (options_of f readings) ≡ []
  options-limit =
      let both = (nil-parts (past_limit (map (λ d. (d.place, d.name)) f.declarations) ++ past_limit (options_of f readings)) (past_limit (map (λ e. (e.place, e.name)) f.enumerants)) limits-none).0 in
      (nil-parts (past_limit (map (λ d. (d.place, d.name)) f.declarations)) (past_limit (options_of f readings)) both).1

  module _ (small : AreSmall most_bytes f) where
    not-member : (name : List ℕ) → is_option_name name ≡ true → is_member_name name ≡ false
    not-member name e = not-true (is_member_name name) e

    each-offered : All (λ o. is_member_name o.name ≡ false) f.options
    each-offered = All-weaker (λ o. (is_name o.name ≡ true) × (is_option_name o.name ≡ true)) (λ o. is_member_name o.name ≡ false) (λ o h. not-member o.name h.1) f.options small.each_option

    offered-plain : (p : OptionForm → Bool) (name : List ℕ) → is_among (map (λ o. o.name) (filter p f.options)) name ≡ true → is_member_name name ≡ false
    offered-plain p = all-among (λ o. o.name) (λ name. is_member_name name ≡ false) (filter p f.options) (All-filter p (λ o. is_member_name o.name ≡ false) f.options each-offered)

    bit-member : (name : List ℕ) → is_among (map (λ (atom : Atom). atom.1) (bits_of f readings)) name ≡ true → is_member_name name ≡ true
    bit-member name e =
        (and_parts (is_member_name name) _ (all-among (λ (atom : Atom). atom.1) (λ name. is_bit f name ≡ true) (bits_of f readings) (bits-are-bits f readings) name e)).0

    no-bit : (name : List ℕ) → is_among (map (λ o. o.name) (features_in f) ++ map (λ o. o.name) (extensions_in f)) name ≡ true → is_among (map (λ (atom : Atom). atom.1) (bits_of f readings)) name ≡ false
    no-bit name e =
        false_from_ne_true (is_among (map (λ (atom : Atom). atom.1) (bits_of f readings)) name) (λ there.
        both_ways (is_member_name name)
        (elim (or_cases (is_among (map (λ o. o.name) (features_in f)) name) (is_among (map (λ o. o.name) (extensions_in f)) name)
        (sym (list_any-append (bytes_eq name) (map (λ o. o.name) (features_in f)) (map (λ o. o.name) (extensions_in f))) ∙ e)) [
          | inl feature ↦ offered-plain (λ o. is_some o.version) name feature
          | inr extension ↦ offered-plain (λ o. is_none o.version) name extension
        ])
        (bit-member name there))

    pub options-apart : Apart (option_names f readings)
    options-apart =
        let all = (offered-new [] f.options offered-none).0 in
        subst Apart (sym (parts-are f readings))
        (apart-append (map (λ o. o.name) (features_in f) ++ map (λ o. o.name) (extensions_in f)) (map (λ (atom : Atom). atom.1) (bits_of f readings))
        (apart-append (map (λ o. o.name) (features_in f)) (map (λ o. o.name) (extensions_in f))
        (apart-filter (λ o. o.name) (λ o. is_some o.version) f.options all)
        (apart-filter (λ o. o.name) (λ o. is_none o.version) f.options all)
        (apart-tests (λ o. o.name) (λ o. is_some o.version) (λ o. is_none o.version) (λ o e. not_from_true (is_some o.version) e) f.options all))
        (firsts-apart (λ (atom : Atom). atom.1) (filter (λ (atom : Atom). is_bit f atom.1) (flat_map atoms_in readings)))
        no-bit)

    pub options-few : length (option_names f readings) ≤ most_names
    options-few =
        omega (
          arith,
          past_limit-few (options_of f readings) options-limit,
          ap length (firsts-all (λ (atom : Atom). atom.1) (options_of f readings) options-apart),
          length-map (options_of f readings) (λ (atom : Atom). atom.1),
        )

    offered-named : (p : OptionForm → Bool) → All (λ name. is_name name ≡ true) (map (λ o. o.name) (filter p f.options))
    offered-named p =
        All-map (λ name. is_name name ≡ true) (λ o. o.name) (filter p f.options)
        (All-filter p (λ o. is_name o.name ≡ true) f.options
        (All-weaker (λ o. (is_name o.name ≡ true) × (is_option_name o.name ≡ true)) (λ o. is_name o.name ≡ true) (λ o h. h.0) f.options small.each_option))

    pub options-named : All (λ name. is_name name ≡ true) (option_names f readings)
    options-named =
        subst (All (λ name. is_name name ≡ true)) (sym (parts-are f readings))
        (All-append (λ name. is_name name ≡ true) (map (λ o. o.name) (features_in f) ++ map (λ o. o.name) (extensions_in f)) (map (λ (atom : Atom). atom.1) (bits_of f readings))
        (All-append (λ name. is_name name ≡ true) (map (λ o. o.name) (features_in f)) (map (λ o. o.name) (extensions_in f))
        (offered-named (λ o. is_some o.version)) (offered-named (λ o. is_none o.version)))
        (All-map (λ name. is_name name ≡ true) (λ (atom : Atom). atom.1) (bits_of f readings)
        (bits-each f readings (λ (atom : Atom). is_name atom.1 ≡ true)
        (all-flat_map atoms_in (λ (atom : Atom). is_name atom.1 ≡ true) (λ reading. IsReadAs reading.0.text reading.1) reading-named readings accepted.read.each))))
