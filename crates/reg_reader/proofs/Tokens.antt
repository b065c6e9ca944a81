-- The run over each piece of markup that the text has.
use Rattle.std.proofs.Common.{◌≡◌, ℕ, zero, suc, ◌+◌, ◌-◌, ◌<◌, ◌≤◌, inl, inr, Bool, true, ◌&&◌, ◌||◌, List, [], length, Option, Some, None, refl, ap, subst, ◌∙◌, arith}
use Rattle.std.specs.Prelude.{slice_index, slice_range, nat_lt, nat_le, ◌==◌}
use Rattle.std.proofs.lemmas.Bool.{cond-true, cond-false, eqb-true, eq-eqb, ne_eqb, lt-ltb, le-ltb, le-leb, leb-true, and_parts, and_from, or_cases, false_from_ne_true}
use Rattle.vkb_bytes.specs.Bytes.{is_white}
use Rattle.reg_reader.specs.Markup.{is_name_byte, Each, IsWhite, IsCommentEnd, IsComment, IsDeclarationEnd, IsDeclaration, IsReference, IsCharacters}
use Rattle.reg_reader.specs.References.{progress_of}
use Rattle.reg_reader.specs.Machine.{State, Next, between, declared_byte, move_of, step, start, run}
use Rattle.reg_reader.specs.declared.markup.Part.{Part}
use Rattle.reg_reader.specs.declared.markup.Node.{Node}
use Rattle.reg_reader.specs.declared.phase.Phase.{Phase}
use Rattle.reg_reader.specs.declared.phase.Phase.TheVariants as phase
use Rattle.reg_reader.specs.declared.reader.Open.{Open}
use Rattle.reg_reader.specs.declared.reference.Progress.TheVariants as progress
use Rattle.reg_reader.proofs.Running.{run-next}
use Rattle.reg_reader.proofs.WithinLemmas.{reference-lt}
use Rattle.reg_reader.proofs.ReferenceFronts.{reference-whole}
use Rattle.reg_reader.proofs.ReferencePlaces.{two, begins, partly}

abbrev pub state : Phase → List Open → Option Node → State
state p opens root = record { phase = p; opens = opens; root = root }

-- a white byte is one of four
pub white-cases : {P : Type 0} (c : ℕ) → is_white c ≡ true → (c ≡ 9 → P) → (c ≡ 10 → P) → (c ≡ 13 → P) → (c ≡ 32 → P) → P
white-cases c e tab line back space =
    elim (or_cases (c == 9 || c == 10 || c == 13) (c == 32) e) [
      | inr x ↦ space (eqb-true c 32 x)
      | inl rest ↦ elim (or_cases (c == 9 || c == 10) (c == 13) rest) [
        | inr x ↦ back (eqb-true c 13 x)
        | inl more ↦ elim (or_cases (c == 9) (c == 10) more) [ inl x ↦ tab (eqb-true c 9 x) | inr x ↦ line (eqb-true c 10 x) ]
      ]
    ]

-- the run stands in a state before a place
abbrev pub At : ℕ → List ℕ → ℕ → State → Type 0
At most b n s = run most b n ≡ Next s

module _ (most : ℕ) (b : List ℕ) where
  pub at-step : (n : ℕ) {s t : State} → At most b n s → step most b n s ≡ Next t → At most b (n + 1) t
  at-step n {s} at e = run-next most b n s at ∙ e

  pub at-same-place : (n m : ℕ) {s : State} → n ≡ m → At most b n s → At most b m s
  at-same-place n m {s} e at = subst (λ x. At most b x s) e at

  -- bytes that leave the state as it is
  pub stays : (p : ℕ → Bool) (s : State) → ((n : ℕ) → p (slice_index b n) ≡ true → step most b n s ≡ Next s) → {i j : ℕ} → Each b p i j → At most b i s → At most b j s
  stays p s same Each.none at = at
  stays p s same (Each.more {j = j} each e) at = at-step j (stays p s same each at) (same j e)

  white-outside : (root : Option Node) (n : ℕ) → is_white (slice_index b n) ≡ true → step most b n (state phase.Outside [] root) ≡ Next (state phase.Outside [] root)
  white-outside root n e = ap (move_of n [] root) (cond-true (is_white (slice_index b n)) _ _ e)

  pub over-white-outside : (root : Option Node) (n : ℕ) → is_white (slice_index b n) ≡ true → At most b n (state phase.Outside [] root) → At most b (n + 1) (state phase.Outside [] root)
  over-white-outside root n e at = at-step n at (white-outside root n e)

  white-tag : (opens : List Open) (n : ℕ) → is_white (slice_index b n) ≡ true → step most b n (state phase.Tag opens None) ≡ Next (state phase.Tag opens None)
  white-tag opens n w = white-cases (slice_index b n) w (λ e. rw e refl) (λ e. rw e refl) (λ e. rw e refl) (λ e. rw e refl)

  pub over-white-tag : (opens : List Open) {i j : ℕ} → IsWhite b i j → At most b i (state phase.Tag opens None) → At most b j (state phase.Tag opens None)
  over-white-tag opens each at = stays is_white _ (white-tag opens) each at

  white-equals : (name : Part) (opens : List Open) (n : ℕ) → is_white (slice_index b n) ≡ true → step most b n (state (phase.Equals name) opens None) ≡ Next (state (phase.Equals name) opens None)
  white-equals name opens n e = ap (move_of n opens None) (cond-true (is_white (slice_index b n)) _ _ e)

  pub over-white-equals : (name : Part) (opens : List Open) {i j : ℕ} → IsWhite b i j → At most b i (state (phase.Equals name) opens None) → At most b j (state (phase.Equals name) opens None)
  over-white-equals name opens each at = stays is_white _ (white-equals name opens) each at

  white-quote : (name : Part) (opens : List Open) (n : ℕ) → is_white (slice_index b n) ≡ true → step most b n (state (phase.Quote name) opens None) ≡ Next (state (phase.Quote name) opens None)
  white-quote name opens n e = ap (move_of n opens None) (cond-true (is_white (slice_index b n)) _ _ e)

  pub over-white-quote : (name : Part) (opens : List Open) {i j : ℕ} → IsWhite b i j → At most b i (state (phase.Quote name) opens None) → At most b j (state (phase.Quote name) opens None)
  over-white-quote name opens each at = stays is_white _ (white-quote name opens) each at

  white-end : (opens : List Open) (n : ℕ) → is_white (slice_index b n) ≡ true → step most b n (state phase.EndWhite opens None) ≡ Next (state phase.EndWhite opens None)
  white-end opens n e = ap (move_of n opens None) (cond-true (is_white (slice_index b n)) _ _ e)

  pub over-white-end : (opens : List Open) {i j : ℕ} → IsWhite b i j → At most b i (state phase.EndWhite opens None) → At most b j (state phase.EndWhite opens None)
  over-white-end opens each at = stays is_white _ (white-end opens) each at

  byte-name : (from : ℕ) (opens : List Open) (n : ℕ) → is_name_byte (slice_index b n) ≡ true → step most b n (state (phase.Name from) opens None) ≡ Next (state (phase.Name from) opens None)
  byte-name from opens n e = ap (move_of n opens None) (cond-true (is_name_byte (slice_index b n)) _ _ e)

  pub over-name : (from : ℕ) (opens : List Open) {i j : ℕ} → Each b is_name_byte i j → At most b i (state (phase.Name from) opens None) → At most b j (state (phase.Name from) opens None)
  over-name from opens each at = stays is_name_byte _ (byte-name from opens) each at

  byte-attribute : (from : ℕ) (opens : List Open) (n : ℕ) → is_name_byte (slice_index b n) ≡ true → step most b n (state (phase.Attribute from) opens None) ≡ Next (state (phase.Attribute from) opens None)
  byte-attribute from opens n e = ap (move_of n opens None) (cond-true (is_name_byte (slice_index b n)) _ _ e)

  pub over-attribute-name : (from : ℕ) (opens : List Open) {i j : ℕ} → Each b is_name_byte i j → At most b i (state (phase.Attribute from) opens None) → At most b j (state (phase.Attribute from) opens None)
  over-attribute-name from opens each at = stays is_name_byte _ (byte-attribute from opens) each at

  -- ---- comments

  abbrev dashes : ℕ → ℕ → Bool
  dashes n from = nat_le (from + 6) n && (slice_index b n == 62 && (slice_index b (n - 1) == 45 && slice_index b (n - 2) == 45))

  dashes-end : (n from : ℕ) → dashes n from ≡ true → (from + 6 ≤ n) × IsCommentEnd b (n - 2)
  dashes-end n from e =
      let parts = and_parts (nat_le (from + 6) n) _ e in
      let long : from + 6 ≤ n = leb-true (from + 6) n parts.0 in
      let bytes = and_parts (slice_index b n == 62) _ parts.1 in
      let two = and_parts (slice_index b (n - 1) == 45) (slice_index b (n - 2) == 45) bytes.1 in (
        long,
        record {
          first = eqb-true (slice_index b (n - 2)) 45 two.1;
          second = ap (slice_index b) (let h : n - 2 + 1 ≡ n - 1 = omega arith in h) ∙ eqb-true (slice_index b (n - 1)) 45 two.0;
          third = ap (slice_index b) (let h : n - 2 + 2 ≡ n = omega arith in h) ∙ eqb-true (slice_index b n) 62 bytes.0;
        },
      )

  module _ (opens : List Open) (root : Option Node) (i j : ℕ) (c : IsComment b i j) where
    dash-step : (n : ℕ) → n < i + 4 → slice_index b n ≡ 45 → step most b n (state (phase.Comment i) opens root) ≡ Next (state (phase.Comment i) opens root)
    dash-step n lt e = ap (move_of n opens root) (cond-true (nat_lt n (i + 4)) _ _ (lt-ltb n (i + 4) lt) ∙ cond-true (slice_index b n == 45) _ _ (eq-eqb (slice_index b n) 45 e))

    inner-step : (n : ℕ) → i + 4 ≤ n → n < c.end + 2 → step most b n (state (phase.Comment i) opens root) ≡ Next (state (phase.Comment i) opens root)
    inner-step n le lt =
        ap (move_of n opens root) (cond-false (nat_lt n (i + 4)) _ _ (le-ltb n (i + 4) le)
        ∙ cond-false (dashes n i) _ _ (false_from_ne_true (dashes n i) (λ e. let is = dashes-end n i e in c.nearest (n - 2) (omega (arith, is.0)) (omega (arith, is.0)) is.1)))

    inner : (m : ℕ) → i + 4 + m ≤ c.end + 2 → At most b (i + 4) (state (phase.Comment i) opens root) → At most b (i + 4 + m) (state (phase.Comment i) opens root)
    inner zero le at = at-same-place (i + 4) (i + 4 + zero) (omega arith) at
    inner (suc m) le at = at-same-place (i + 4 + m + 1) (i + 4 + suc m) (omega arith) (at-step (i + 4 + m) (inner m (omega arith) at) (inner-step (i + 4 + m) (omega arith) (omega arith)))

    last-step : step most b (c.end + 2) (state (phase.Comment i) opens root) ≡ Next (state (between opens (c.end + 2 + 1)) opens root)
    last-step =
        let n : ℕ = c.end + 2 in
        ap (move_of n opens root) (cond-false (nat_lt n (i + 4)) _ _ (le-ltb n (i + 4) (omega (arith, c.behind)))
        ∙ cond-true (dashes n i) _ _
        (and_from (nat_le (i + 6) n) _ (le-leb (i + 6) n (omega (arith, c.behind)))
        (and_from (slice_index b n == 62) _ (eq-eqb (slice_index b n) 62 c.ends.third)
        (and_from (slice_index b (n - 1) == 45) _
        (eq-eqb (slice_index b (n - 1)) 45 (ap (slice_index b) (let h : n - 1 ≡ c.end + 1 = omega arith in h) ∙ c.ends.second))
        (eq-eqb (slice_index b (n - 2)) 45 (ap (slice_index b) (let h : n - 2 ≡ c.end = omega arith in h) ∙ c.ends.first))))))

    mark-step : step most b (i + 1) (state phase.Markup opens root) ≡ Next (state (phase.Comment i) opens root)
    mark-step =
        ap (move_of (i + 1) opens root) (cond-true (slice_index b (i + 1) == 33) _ _ (eq-eqb (slice_index b (i + 1)) 33 c.mark))
        ∙ ap (λ x. Next (state (phase.Comment x) opens root)) (let h : i + 1 - 1 ≡ i = omega arith in h)

    pub over-comment : At most b (i + 1) (state phase.Markup opens root) → At most b j (state (between opens j) opens root)
    over-comment at =
        let second : At most b (i + 2) (state (phase.Comment i) opens root) = at-same-place (i + 1 + 1) (i + 2) (omega arith) (at-step (i + 1) at mark-step) in
        let third : At most b (i + 3) (state (phase.Comment i) opens root) = at-same-place (i + 2 + 1) (i + 3) (omega arith) (at-step (i + 2) second (dash-step (i + 2) (omega arith) c.first)) in
        let fourth : At most b (i + 4) (state (phase.Comment i) opens root) = at-same-place (i + 3 + 1) (i + 4) (omega arith) (at-step (i + 3) third (dash-step (i + 3) (omega arith) c.second)) in
        let low : i + 4 ≤ c.end = c.behind in
        let whole : At most b (c.end + 2) (state (phase.Comment i) opens root) = at-same-place (i + 4 + (c.end - (i + 2))) (c.end + 2) (omega arith) (inner (c.end - (i + 2)) (omega arith) fourth) in
        let out : c.end + 2 + 1 ≡ j = omega (arith, c.whole) in
        subst (λ x. At most b x (state (between opens x) opens root)) out (at-step (c.end + 2) whole last-step)

  -- ---- the declaration

  abbrev marks : ℕ → Bool
  marks n = nat_le 7 n && (slice_index b n == 62 && slice_index b (n - 1) == 63)

  marks-end : (n : ℕ) → marks n ≡ true → (7 ≤ n) × IsDeclarationEnd b (n - 1)
  marks-end n e =
      let parts = and_parts (nat_le 7 n) _ e in
      let long : 7 ≤ n = leb-true 7 n parts.0 in
      let bytes = and_parts (slice_index b n == 62) (slice_index b (n - 1) == 63) parts.1 in (
        long,
        record {
          first = eqb-true (slice_index b (n - 1)) 63 bytes.1;
          second = ap (slice_index b) (let h : n - 1 + 1 ≡ n = omega arith in h) ∙ eqb-true (slice_index b n) 62 bytes.0;
        },
      )

  module _ (j : ℕ) (d : IsDeclaration b j) where
    body-step : (n : ℕ) → 6 ≤ n → n < d.end + 1 → step most b n (state phase.Declaration [] None) ≡ Next (state phase.Declaration [] None)
    body-step n le lt =
        ap (move_of n [] None) (cond-false (nat_lt n 5) _ _ (le-ltb n 5 (omega arith))
        ∙ cond-false (n == 5) _ _ (ne_eqb n 5 (λ e. omega arith))
        ∙ cond-false (marks n) _ _ (false_from_ne_true (marks n) (λ e. let is = marks-end n e in d.nearest (n - 1) (omega (arith, is.0)) (omega (arith, is.0)) is.1)))

    body : (m : ℕ) → 6 + m ≤ d.end + 1 → At most b 6 (state phase.Declaration [] None) → At most b (6 + m) (state phase.Declaration [] None)
    body zero le at = at-same-place 6 (6 + zero) (omega arith) at
    body (suc m) le at = at-same-place (6 + m + 1) (6 + suc m) (omega arith) (at-step (6 + m) (body m (omega arith) at) (body-step (6 + m) (omega arith) (omega arith)))

    out-step : step most b (d.end + 1) (state phase.Declaration [] None) ≡ Next (state phase.Outside [] None)
    out-step =
        let n : ℕ = d.end + 1 in
        ap (move_of n [] None) (cond-false (nat_lt n 5) _ _ (le-ltb n 5 (omega (arith, d.behind)))
        ∙ cond-false (n == 5) _ _ (ne_eqb n 5 (λ e. omega (arith, d.behind)))
        ∙ cond-true (marks n) _ _
        (and_from (nat_le 7 n) _ (le-leb 7 n (omega (arith, d.behind)))
        (and_from (slice_index b n == 62) _ (eq-eqb (slice_index b n) 62 d.ends.second)
        (eq-eqb (slice_index b (n - 1)) 63 (ap (slice_index b) (let h : n - 1 ≡ d.end = omega arith in h) ∙ d.ends.first)))))

    byte-step : (n : ℕ) → nat_lt n 5 ≡ true → slice_index b n ≡ declared_byte n → step most b n (state phase.Declaration [] None) ≡ Next (state phase.Declaration [] None)
    byte-step n early e = ap (move_of n [] None) (cond-true (nat_lt n 5) _ _ early ∙ cond-true (slice_index b n == declared_byte n) _ _ (eq-eqb (slice_index b n) (declared_byte n) e))

    less-step : step most b 0 start ≡ Next (state phase.Markup [] None)
    less-step = rw d.less refl

    question-step : step most b 1 (state phase.Markup [] None) ≡ Next (state phase.Declaration [] None)
    question-step = rw d.mark refl

    white-step : step most b 5 (state phase.Declaration [] None) ≡ Next (state phase.Declaration [] None)
    white-step = ap (move_of 5 [] None) (cond-true (is_white (slice_index b 5)) _ _ d.white)

    pub over-declaration : At most b j (state phase.Outside [] None)
    over-declaration =
        let one : At most b 1 (state phase.Markup [] None) = at-step 0 refl less-step in
        let two : At most b 2 (state phase.Declaration [] None) = at-step 1 one question-step in
        let three : At most b 3 (state phase.Declaration [] None) = at-step 2 two (byte-step 2 refl d.x) in
        let four : At most b 4 (state phase.Declaration [] None) = at-step 3 three (byte-step 3 refl d.m) in
        let five : At most b 5 (state phase.Declaration [] None) = at-step 4 four (byte-step 4 refl d.l) in
        let six : At most b 6 (state phase.Declaration [] None) = at-step 5 five white-step in
        let low : 6 ≤ d.end = d.behind in
        let whole : At most b (d.end + 1) (state phase.Declaration [] None) = at-same-place (6 + (d.end - 5)) (d.end + 1) (omega arith) (body (d.end - 5) (omega arith) six) in
        at-same-place (d.end + 1 + 1) j (omega (arith, d.whole)) (at-step (d.end + 1) whole out-step)

  -- ---- characters

  -- what the bytes of characters do in a phase
  pub record Carries (stop from : ℕ) (of_run : Option ℕ → State) : Type 0 where
    pub plain : (n : ℕ) → (slice_index b n ≡ 60 → ⊥) → (slice_index b n ≡ stop → ⊥) → (slice_index b n ≡ 38 → ⊥) → step most b n (of_run None) ≡ Next (of_run None)
    pub ampersand : (n : ℕ) → slice_index b n ≡ 38 → step most b n (of_run None) ≡ Next (of_run (Some n))
    pub partial : (n place : ℕ) → progress_of (slice_range b place (n + 1)) ≡ progress.Partial → step most b n (of_run (Some place)) ≡ Next (of_run (Some place))
    pub whole : (n place value : ℕ) → progress_of (slice_range b place (n + 1)) ≡ progress.Whole value → step most b n (of_run (Some place)) ≡ Next (of_run None)

  module _ (stop from : ℕ) (of_run : Option ℕ → State) (carries : Carries stop from of_run) where
    module _ (j k value : ℕ) (lt : j < k) (within : k ≤ length b) (is : IsReference (slice_range b j k) value) where
      inside : (m : ℕ) → j + 1 + m < k → At most b (j + 1) (of_run (Some j)) → At most b (j + 1 + m) (of_run (Some j))
      inside zero h at = at-same-place (j + 1) (j + 1 + zero) (omega arith) at
      inside (suc m) h at =
          at-same-place (j + 1 + m + 1) (j + 1 + suc m) (omega arith)
          (at-step (j + 1 + m) (inside m (omega arith) at) (carries.partial (j + 1 + m) j (partly b j k value lt within is (j + 1 + m + 1) (omega arith) (omega arith))))

      over-reference : At most b j (of_run None) → At most b k (of_run None)
      over-reference at =
          let low : j + 2 ≤ k = two b j k value lt within is in
          let open_at : At most b (k - 1) (of_run (Some j)) = at-same-place (j + 1 + (k - j - 2)) (k - 1) (omega arith) (inside (k - j - 2) (omega arith) (at-step j at (carries.ampersand j (begins b j k value lt within is)))) in
          at-same-place (k - 1 + 1) k (omega arith)
          (at-step (k - 1) open_at (carries.whole (k - 1) j value
          (ap (λ x. progress_of (slice_range b j x)) (let e : k - 1 + 1 ≡ k = omega arith in e) ∙ reference-whole _ value is)))

    pub over-characters : {i j : ℕ} {text : List ℕ} → IsCharacters b stop i j text → At most b i (of_run None) → At most b j (of_run None)
    over-characters IsCharacters.none at = at
    over-characters (IsCharacters.plain {j = j} chars lt less other amp) at = at-step j (over-characters chars at) (carries.plain j less other amp)
    over-characters (IsCharacters.reference {j = j} {k = k} {n = n} chars within is) at = over-reference j k n (reference-lt b j k n is) within is (over-characters chars at)
