-- How texts are read: what is read so far, that there is one reading, and what stands at a place.
use Rattle.std.proofs.Common.{◌≡◌, ℕ, ◌+◌, ◌<◌, ◌≤◌, Bool, List, [], ◌∷◌, ◌++◌, length, map, get_or, take, Option, Some, None, refl, sym, ap, subst, ◌∙◌, arith}
use Rattle.std.specs.Prelude.{All, is_none, option_map, slice_range}
use Rattle.std.specs.List.{flat_map}
use Rattle.std.proofs.lemmas.List.{append-nil, append_assoc, get_or-map, get_or_default, length-map, map_push, take_all, take_more}
use Rattle.std.proofs.lemmas.List.Concat.{flat_map-append}
use Rattle.std.proofs.lemmas.List.Elements.{All-head, All-nil, All-push, All-tail}
use Rattle.vkb_formula.specs.Expressions.{Expression, Spells, names_of, places_of}
use Rattle.reg_forms.specs.declared.forms.DependsText.{DependsText}
use Rattle.reg_forms.specs.declared.forms.Forms.{Forms}
use Rattle.reg_forms.specs.declared.forms.RowCode.TheVariants.{BadExpression}
use Rattle.reg_tables.specs.Bits.{Readings}
use Rattle.reg_tables.specs.Found.{IsRead}
use Rattle.reg_tables.specs.Words.{AreReadings, AreWords, HasNamesOf, IsReadAs, words_in}
use Rattle.reg_tables.specs.Wrong.{bad_text, fault_if}

-- the texts are read so, and these are the places of their names
pub record AreReadSo (texts : List DependsText) (words : List (Option (List (ℕ × ℕ)))) : Type 0 where
  pub readings : Readings
  pub texts_are : map (λ reading. reading.0) readings ≡ texts
  pub each : All (λ reading. IsReadAs reading.0.text reading.1) readings
  pub words_are : words ≡ words_in readings
  pub named : All HasNamesOf readings

pub none-read : AreReadSo [] []
none-read = record {
  readings = [];
  texts_are = refl;
  each = All-nil (λ (reading : DependsText × Option Expression). IsReadAs reading.0.text reading.1);
  words_are = refl;
  named = All-nil HasNamesOf;
}

pub one-read : (texts : List DependsText) (words : List (Option (List (ℕ × ℕ)))) (text : DependsText) (word : Option (List (ℕ × ℕ)))
    → AreReadSo texts words → IsRead text.text word → AreReadSo (texts ++ text ∷ []) (words ++ word ∷ [])
one-read texts words text word r one = record {
  readings = r.readings ++ (text, one.reading) ∷ [];
  texts_are = map_push (λ (reading : DependsText × Option Expression). reading.0) r.readings (text, one.reading) ∙ ap (λ all. all ++ text ∷ []) r.texts_are;
  each = All-push (λ (reading : DependsText × Option Expression). IsReadAs reading.0.text reading.1) r.readings (text, one.reading) r.each one.is_read;
  words_are =
      ap (λ all. all ++ word ∷ []) r.words_are ∙ ap (λ last. words_in r.readings ++ last ∷ []) one.words_are
      ∙ sym (map_push (λ (reading : DependsText × Option Expression). option_map (places_of 0) reading.1) r.readings (text, one.reading));
  named = All-push HasNamesOf r.readings (text, one.reading) r.named one.named;
}

-- a text that is an expression
pub read-as : (text : List ℕ) (places words : List (ℕ × ℕ)) (e : Expression) → words ≡ places → places ≡ places_of 0 e
    → Spells e text → map (λ place. slice_range text place.0 place.1) places ≡ names_of e
    → All (λ place. (place.0 < place.1) × (place.1 ≤ length text)) places → IsRead text (Some words)
read-as text places words e w p s names within = record {
  reading = Some e;
  is_read = s;
  words_are = ap Some (w ∙ p);
  named = record {
    names_are = ap (map (λ place. slice_range text place.0 place.1)) (sym p) ∙ names;
    within = subst (All (λ place. (place.0 < place.1) × (place.1 ≤ length text))) p within;
  };
}

-- with the law of the lower crate that a text is one expression
module _ (one : (e f : Expression) (text : List ℕ) → Spells e text → Spells f text → e ≡ f) where
  same-reading : (text : List ℕ) (a b : Option Expression) → IsReadAs text a → IsReadAs text b → a ≡ b
  same-reading text (Some e) (Some f) h k = ap Some (one e f text h k)
  same-reading text (Some e) None h k = absurd (k e h)
  same-reading text None (Some f) h k = absurd (h f k)
  same-reading text None None h k = refl

  same-pair : (a b : DependsText × Option Expression) → a.0 ≡ b.0 → IsReadAs a.0.text a.1 → IsReadAs b.0.text b.1 → a ≡ b
  same-pair a b e h k =
      let f = same-reading a.0.text a.1 b.1 h (subst (λ text. IsReadAs text b.1) (sym (ap (λ (text : DependsText). text.text) e)) k) in
      λ i. (e i, f i)

  same-readings : (a b : Readings) → map (λ reading. reading.0) a ≡ map (λ reading. reading.0) b
      → All (λ reading. IsReadAs reading.0.text reading.1) a → All (λ reading. IsReadAs reading.0.text reading.1) b → a ≡ b
  same-readings [] [] e h k = refl
  same-readings [] (y ∷ b) e h k = cc
  same-readings (x ∷ a) [] e h k = cc
  same-readings (x ∷ a) (y ∷ b) e h k =
      let first : x.0 ≡ y.0 = cc in
      let rest : map (λ reading. reading.0) a ≡ map (λ reading. reading.0) b = cc in
      let p = same-pair x y first (All-head (λ (reading : DependsText × Option Expression). IsReadAs reading.0.text reading.1) x a h) (All-head (λ (reading : DependsText × Option Expression). IsReadAs reading.0.text reading.1) y b k) in
      let q = same-readings a b rest (All-tail (λ (reading : DependsText × Option Expression). IsReadAs reading.0.text reading.1) x a h) (All-tail (λ (reading : DependsText × Option Expression). IsReadAs reading.0.text reading.1) y b k) in
      λ i. p i ∷ q i

  pub all-read : (f : Forms) (words : List (Option (List (ℕ × ℕ)))) (texts : List DependsText) → texts ≡ f.texts
      → AreReadSo texts words → AreWords f words
  all-read f words texts e r = record {
    readings = r.readings;
    are_readings = record { texts = r.texts_are ∙ e; each = r.each };
    words_are = r.words_are;
    named = r.named;
    only = λ other h. same-readings other r.readings (h.texts ∙ sym (r.texts_are ∙ e)) h.each r.each;
  }

-- what stands at a place of the texts and of the places of their names
pub record IsAt (readings : Readings) (at : ℕ) (text : DependsText) (word : Option (List (ℕ × ℕ))) (reading : DependsText × Option Expression) : Type 0 where
  pub is : reading ≡ get_or readings at reading
  pub within : at < length readings
  pub text_is : reading.0 ≡ text
  pub word_is : word ≡ option_map (places_of 0) reading.1

pub count-words : (readings : Readings) (words : List (Option (List (ℕ × ℕ)))) → words ≡ words_in readings → length words ≡ length readings
count-words readings words e = ap length e ∙ length-map readings (λ (reading : DependsText × Option Expression). option_map (places_of 0) reading.1)

pub count-texts : (f : Forms) (words : List (Option (List (ℕ × ℕ)))) → AreWords f words → length words ≡ length f.texts
count-texts f words w =
    count-words w.readings words w.words_are ∙ sym (length-map w.readings (λ (reading : DependsText × Option Expression). reading.0)) ∙ ap length w.are_readings.texts

pub reading-at : (texts : List DependsText) (readings : Readings) (words : List (Option (List (ℕ × ℕ)))) (at : ℕ) (text : DependsText) (word : Option (List (ℕ × ℕ)))
    → map (λ reading. reading.0) readings ≡ texts → words ≡ words_in readings → at < length words → text ≡ get_or texts at text
    → word ≡ get_or words at word → IsAt readings at text word (get_or readings at (text, None))
reading-at texts readings words at text word t w h te we =
    let count = count-words readings words w in
    let within : at < length readings = omega arith in
    record {
      is = get_or_default readings at (text, None) (get_or readings at (text, None)) within;
      within = within;
      text_is =
          sym (get_or-map (λ (reading : DependsText × Option Expression). reading.0) readings at (text, None) text within)
          ∙ ap (λ all. get_or all at text) t ∙ sym te;
      word_is =
          we ∙ ap (λ all. get_or all at word) w
          ∙ get_or-map (λ (reading : DependsText × Option Expression). option_map (places_of 0) reading.1) readings at (text, None) word within;
    }

-- any reading of the texts has these places of names
pub words-are : (f : Forms) (words : List (Option (List (ℕ × ℕ)))) (readings : Readings) → AreWords f words
    → AreReadings f readings → words ≡ words_in readings
words-are f words readings w h = w.words_are ∙ ap words_in (sym (w.only readings h))

module _ {A : Type 0} (g : DependsText × Option Expression → List A) (readings : Readings) where
  pub flat-next : (at : ℕ) (text : DependsText) (word : Option (List (ℕ × ℕ))) (reading : DependsText × Option Expression)
      → IsAt readings at text word reading → flat_map g (take (at + 1) readings) ≡ flat_map g (take at readings) ++ g reading
  flat-next at text word reading h =
      ap (flat_map g) (take_more readings at reading h.within) ∙ flat_map-append g (take at readings) (get_or readings at reading ∷ [])
      ∙ ap (λ last. flat_map g (take at readings) ++ last) (append-nil (g (get_or readings at reading)))
      ∙ ap (λ one. flat_map g (take at readings) ++ g one) (sym h.is)

  pub flat-all : (words : List (Option (List (ℕ × ℕ)))) (at : ℕ) → words ≡ words_in readings → length words ≤ at
      → flat_map g (take at readings) ≡ flat_map g readings
  flat-all words at w h = let count = count-words readings words w in ap (flat_map g) (take_all at readings (omega arith))

none-mapped : {A B : Type 0} (f : A → B) (o : Option A) → is_none (option_map f o) ≡ is_none o
none-mapped f None = refl
none-mapped f (Some x) = refl

pub reading-none : (readings : Readings) (at : ℕ) (text : DependsText) (word : Option (List (ℕ × ℕ))) (reading : DependsText × Option Expression)
    → IsAt readings at text word reading → is_none reading.1 ≡ is_none word
reading-none readings at text word reading h = sym (ap is_none h.word_is ∙ none-mapped (places_of 0) reading.1)

pub bad-one : (readings : Readings) (at : ℕ) (text : DependsText) (word : Option (List (ℕ × ℕ))) (reading : DependsText × Option Expression)
    → IsAt readings at text word reading → (b : Bool) → is_none word ≡ b
    → bad_text reading ≡ fault_if b BadExpression text.place text.text
bad-one readings at text word reading h b e =
    ap (λ test. fault_if test BadExpression reading.0.place reading.0.text) (reading-none readings at text word reading h ∙ e)
    ∙ ap (λ (one : DependsText). fault_if b BadExpression one.place one.text) h.text_is

-- the reading at a place, where its text isn't looked at
pub reading-there : (readings : Readings) (words : List (Option (List (ℕ × ℕ)))) (at : ℕ) (word : Option (List (ℕ × ℕ)))
    → words ≡ words_in readings → at < length words → word ≡ get_or words at word
    → IsAt readings at (get_or (map (λ (reading : DependsText × Option Expression). reading.0) readings) at (record { place = 0; text = [] })) word (get_or readings at (get_or (map (λ (reading : DependsText × Option Expression). reading.0) readings) at (record { place = 0; text = [] }), None))
reading-there readings words at word w h we =
    let texts = map (λ (reading : DependsText × Option Expression). reading.0) readings in
    let count = count-words readings words w in
    let long = length-map readings (λ (reading : DependsText × Option Expression). reading.0) in
    let within : at < length texts = omega arith in
    let none : DependsText = record { place = 0; text = [] } in
    reading-at texts readings words at (get_or texts at none) word refl w h (get_or_default texts at none (get_or texts at none) within) we

module _ {A : Type 0} (g : DependsText × Option Expression → List A) (readings : Readings) (old done : List A) where
  -- a list of what the readings give is one reading further
  pub further : (new : List A) (at : ℕ) (text : DependsText) (word : Option (List (ℕ × ℕ))) (reading : DependsText × Option Expression) (more : List A)
      → IsAt readings at text word reading → done ≡ old ++ flat_map g (take at readings) → new ≡ done ++ more → g reading ≡ more
      → new ≡ old ++ flat_map g (take (at + 1) readings)
  further new at text word reading more h before e m =
      e ∙ ap (λ all. all ++ more) before ∙ append_assoc old (flat_map g (take at readings)) more
      ∙ ap (λ all. old ++ all) (ap (λ last. flat_map g (take at readings) ++ last) (sym m) ∙ sym (flat-next g readings at text word reading h))
