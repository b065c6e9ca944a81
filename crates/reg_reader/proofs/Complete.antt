-- What is spelled is read.
use Rattle.std.proofs.Common.{◌≡◌, ℕ, ◌+◌, ◌-◌, ◌<◌, ◌≤◌, ◌⊎◌, inl, inr, true, false, List, [], ◌∷◌, ◌++◌, length, Option, Some, None, refl, sym, ap, subst, ◌∙◌, arith}
use Rattle.std.specs.Prelude.{slice_index, nat_lt, ◌==◌}
use Rattle.std.specs.Option.{option_map}
use Rattle.std.proofs.lemmas.Bool.{cond-true, cond-false, cond_both, eqb-true, eq-eqb, ne_eqb, lt-ltb, le-ltb, cases_lt, false≢true}
use Rattle.vkb_bytes.specs.Bytes.{is_white}
use Rattle.reg_reader.specs.Markup.{is_name_start, is_name_byte, part_of, run_of, is_taken, Each, IsWhite, IsBlank, IsCharacters, IsAttribute, AreAttributes, IsStartTag, IsCopy, IsEndTag, IsElement, ArePieces, IsHead, Spells}
use Rattle.reg_reader.specs.Machine.{State, Next, fresh_run, after_reference, run_after, in_tag_end, with_children, with_attribute, opened, put, closed, move_of, step}
use Rattle.reg_reader.specs.declared.markup.Part.{Part}
use Rattle.reg_reader.specs.declared.markup.Node.{Node}
use Rattle.reg_reader.specs.declared.markup.Node.TheVariants as node
use Rattle.reg_reader.specs.declared.phase.Phase.{Phase}
use Rattle.reg_reader.specs.declared.phase.Phase.TheVariants as phase
use Rattle.reg_reader.specs.declared.phase.Act.TheVariants as act
use Rattle.reg_reader.specs.declared.reader.Open.{Open}
use Rattle.reg_reader.proofs.Reached.{open_of}
use Rattle.reg_reader.proofs.Sound.{each-le}
use Rattle.reg_reader.proofs.SoundSteps.{copy-sums}
use Rattle.reg_reader.proofs.Tokens.{state, white-cases, At, at-step, over-white-outside, over-white-tag, over-white-equals, over-white-quote, over-white-end, over-name, over-attribute-name, over-comment, over-declaration, Carries, over-characters}

abbrev pub text_state : List Open → ℕ → Option ℕ → State
text_state opens from reference = state (phase.Text (record { from = from; reference = reference })) opens None

abbrev pub value_state : List Open → Part → ℕ → ℕ → Option ℕ → State
value_state opens name mark from reference = state (phase.Value name mark (record { from = from; reference = reference })) opens None

module _ (most : ℕ) (b : List ℕ) where
  -- ---- characters in an element and in a value

  run-plain : (n from : ℕ) → (slice_index b n ≡ 60 → ⊥) → (slice_index b n ≡ 38 → ⊥) → run_after b n from None ≡ Some (fresh_run from)
  run-plain n from less amp =
      cond-false (slice_index b n == 60) _ _ (ne_eqb (slice_index b n) 60 less) ∙ cond-false (slice_index b n == 38) _ _ (ne_eqb (slice_index b n) 38 amp)

  pub text-carries : (opens : List Open) (from : ℕ) → Carries most b 60 from (text_state opens from)
  text-carries opens from = record {
    plain = λ n less other amp.
        ap (move_of n opens None) (cond-false (slice_index b n == 60) _ _ (ne_eqb (slice_index b n) 60 less)
        ∙ ap (option_map (λ run. act.Go (phase.Text run))) (run-plain n from less amp));
    ampersand = λ n e. rw e refl;
    partial = λ n place e. ap (λ p. move_of n opens None (option_map (λ run. act.Go (phase.Text run)) (after_reference from place p))) e;
    whole = λ n place value e. ap (λ p. move_of n opens None (option_map (λ run. act.Go (phase.Text run)) (after_reference from place p))) e;
  }

  quote-isnt : (mark : ℕ) → (mark ≡ 34) ⊎ (mark ≡ 39) → mark ≡ 38 → ⊥
  quote-isnt mark quotes e = elim quotes [ inl x ↦ omega arith | inr x ↦ omega arith ]

  pub value-carries : (opens : List Open) (name : Part) (mark from : ℕ) → (mark ≡ 34) ⊎ (mark ≡ 39) → Carries most b mark from (value_state opens name mark from)
  value-carries opens name mark from quotes = record {
    plain = λ n less other amp.
        ap (move_of n opens None) (cond-false (slice_index b n == mark) _ _ (ne_eqb (slice_index b n) mark other)
        ∙ ap (option_map (λ run. act.Go (phase.Value name mark run))) (run-plain n from less amp));
    ampersand = λ n e.
        ap (move_of n opens None) (cond-false (slice_index b n == mark) _ _ (ne_eqb (slice_index b n) mark (λ h. quote-isnt mark quotes (sym h ∙ e)))
        ∙ ap (option_map (λ run. act.Go (phase.Value name mark run)))
        (cond-false (slice_index b n == 60) _ _ (ne_eqb (slice_index b n) 60 (λ h. omega arith)) ∙ cond-true (slice_index b n == 38) _ _ (eq-eqb (slice_index b n) 38 e)));
    partial = λ n place e. ap (λ p. move_of n opens None (option_map (λ run. act.Go (phase.Value name mark run)) (after_reference from place p))) e;
    whole = λ n place value e. ap (λ p. move_of n opens None (option_map (λ run. act.Go (phase.Value name mark run)) (after_reference from place p))) e;
  }

  -- ---- start tags

  -- the byte at a place may go on with a start tag whose name or value has ended
  abbrev IsReady : ℕ → List Open → Type 0
  IsReady i opens = (next : Phase) → in_tag_end i (slice_index b i) ≡ Some next → At most b (i + 1) (state next opens None)

  -- what ends a name or a value is no byte of a name
  tag-end-byte : (i : ℕ) (next : Phase) (c : ℕ) → in_tag_end i c ≡ Some next → is_name_byte c ≡ false
  tag-end-byte i next c =
      cond_both (is_white c) _ _ (λ o. o ≡ Some next → is_name_byte c ≡ false)
      (λ w _. white-cases c w (λ e. rw e refl) (λ e. rw e refl) (λ e. rw e refl) (λ e. rw e refl))
      (λ _. cond_both (c == 47) _ _ (λ o. o ≡ Some next → is_name_byte c ≡ false) (λ e _. rw (eqb-true c 47 e) refl)
      (λ _. cond_both (c == 62) _ _ (λ o. o ≡ Some next → is_name_byte c ≡ false) (λ e _. rw (eqb-true c 62 e) refl) (λ _ h. cc)))

  tag-end-start : (i : ℕ) (next : Phase) (c : ℕ) → in_tag_end i c ≡ Some next → is_name_start c ≡ false
  tag-end-start i next c =
      cond_both (is_white c) _ _ (λ o. o ≡ Some next → is_name_start c ≡ false)
      (λ w _. white-cases c w (λ e. rw e refl) (λ e. rw e refl) (λ e. rw e refl) (λ e. rw e refl))
      (λ _. cond_both (c == 47) _ _ (λ o. o ≡ Some next → is_name_start c ≡ false) (λ e _. rw (eqb-true c 47 e) refl)
      (λ _. cond_both (c == 62) _ _ (λ o. o ≡ Some next → is_name_start c ≡ false) (λ e _. rw (eqb-true c 62 e) refl) (λ _ h. cc)))

  tag-ready : (i : ℕ) (opens : List Open) → At most b i (state phase.Tag opens None) → IsReady i opens
  tag-ready i opens at next e =
      at-step most b i at (ap (move_of i opens None) (cond-false (is_name_start (slice_index b i)) _ _ (tag-end-start i next (slice_index b i) e) ∙ ap (option_map (λ x. act.Go x)) e))

  value-ready : (i : ℕ) (opens : List Open) → At most b i (state phase.ValueEnd opens None) → IsReady i opens
  value-ready i opens at next e = at-step most b i at (ap (λ o. move_of i opens None (option_map (λ x. act.Go x) o)) e)

  name-ready : (i from : ℕ) (opens : List Open) → At most b i (state (phase.Name from) opens None) → IsReady i (opened from i opens)
  name-ready i from opens at next e =
      at-step most b i at (ap (move_of i opens None) (cond-false (is_name_byte (slice_index b i)) _ _ (tag-end-byte i next (slice_index b i) e) ∙ ap (option_map (λ x. act.Open from x)) e))

  white-end : (i : ℕ) → is_white (slice_index b i) ≡ true → in_tag_end i (slice_index b i) ≡ Some phase.Tag
  white-end i w = cond-true (is_white (slice_index b i)) _ _ w

  -- white space leads into the tag
  into-tag : (opens : List Open) {i j : ℕ} → IsWhite b i j → i < j → IsReady i opens → At most b j (state phase.Tag opens None)
  into-tag opens Each.none lt ready = absurd (omega arith)
  into-tag opens {i} (Each.more {j = j} each w) lt ready =
      elim (cases_lt i j) [
        | inl before ↦ over-white-tag most b opens (Each.more Each.none w) (into-tag opens each before ready)
        | inr after ↦ (let le : i ≤ j = each-le each in let e : i ≡ j = omega arith in
            subst (λ x. At most b (x + 1) (state phase.Tag opens None)) e (ready phase.Tag (white-end i (subst (λ x. is_white (slice_index b x) ≡ true) (sym e) w))))
      ]

  white-ready : (opens : List Open) {i j : ℕ} → IsWhite b i j → IsReady i opens → IsReady j opens
  white-ready opens {i} {j} each ready =
      elim (cases_lt i j) [
        | inl before ↦ tag-ready j opens (into-tag opens each before ready)
        | inr after ↦ (let le : i ≤ j = each-le each in subst (λ x. IsReady x opens) (let e : i ≡ j = omega arith in e) ready)
      ]

  start-byte : (c : ℕ) → is_name_start c ≡ true → (x : ℕ) → is_name_start x ≡ false → c ≡ x → ⊥
  start-byte c e x isnt same = false≢true (sym isnt ∙ ap is_name_start (sym same) ∙ e)

  attribute-begins : (opens : List Open) (n : ℕ) → At most b n (state phase.Tag opens None) → is_name_start (slice_index b n) ≡ true → At most b (n + 1) (state (phase.Attribute n) opens None)
  attribute-begins opens n at e = at-step most b n at (ap (move_of n opens None) (cond-true (is_name_start (slice_index b n)) _ _ e))

  -- the byte behind an attribute's name
  module _ (top : Open) (rest : List Open) (from n : ℕ) (new : is_taken b top.attributes from n ≡ false) (at : At most b n (state (phase.Attribute from) (top ∷ rest) None)) where
    name-white : is_white (slice_index b n) ≡ true → At most b (n + 1) (state (phase.Equals (part_of from n)) (top ∷ rest) None)
    name-white w =
        at-step most b n at (ap (move_of n (top ∷ rest) None)
        (cond-false (is_name_byte (slice_index b n)) _ _ (white-cases (slice_index b n) w (λ e. rw e refl) (λ e. rw e refl) (λ e. rw e refl) (λ e. rw e refl))
        ∙ cond-false (is_taken b top.attributes from n) _ _ new ∙ cond-true (is_white (slice_index b n)) _ _ w))

    name-equals : slice_index b n ≡ 61 → At most b (n + 1) (state (phase.Quote (part_of from n)) (top ∷ rest) None)
    name-equals e =
        at-step most b n at (ap (move_of n (top ∷ rest) None)
        (cond-false (is_name_byte (slice_index b n)) _ _ (rw e refl)
        ∙ cond-false (is_taken b top.attributes from n) _ _ new
        ∙ cond-false (is_white (slice_index b n)) _ _ (rw e refl)
        ∙ cond-true (slice_index b n == 61) _ _ (eq-eqb (slice_index b n) 61 e)))

    into-equals : {m : ℕ} → IsWhite b n m → n < m → At most b m (state (phase.Equals (part_of from n)) (top ∷ rest) None)
    into-equals Each.none lt = absurd (omega arith)
    into-equals (Each.more {j = j} each w) lt =
        elim (cases_lt n j) [
          | inl before ↦ over-white-equals most b (part_of from n) (top ∷ rest) (Each.more Each.none w) (into-equals each before)
          | inr after ↦ (let le : n ≤ j = each-le each in let e : n ≡ j = omega arith in
              subst (λ x. At most b (x + 1) (state (phase.Equals (part_of from n)) (top ∷ rest) None)) e (name-white (subst (λ x. is_white (slice_index b x) ≡ true) (sym e) w)))
        ]

    over-equals : {m : ℕ} → IsWhite b n m → slice_index b m ≡ 61 → At most b (m + 1) (state (phase.Quote (part_of from n)) (top ∷ rest) None)
    over-equals {m} each e =
        elim (cases_lt n m) [
          | inl before ↦ at-step most b m (into-equals each before) (ap (move_of m (top ∷ rest) None) (cond-false (is_white (slice_index b m)) _ _ (rw e refl) ∙ cond-true (slice_index b m == 61) _ _ (eq-eqb (slice_index b m) 61 e)))
          | inr after ↦ (let le : n ≤ m = each-le each in let same : n ≡ m = omega arith in
              subst (λ x. At most b (x + 1) (state (phase.Quote (part_of from n)) (top ∷ rest) None)) same (name-equals (ap (slice_index b) same ∙ e)))
        ]

  quote-begins : (opens : List Open) (name : Part) (n mark : ℕ) → slice_index b n ≡ mark → (mark ≡ 34) ⊎ (mark ≡ 39) → At most b n (state (phase.Quote name) opens None) → At most b (n + 1) (value_state opens name mark (n + 1) None)
  quote-begins opens name n mark is quotes at =
      elim quotes [
        | inl x ↦ at-step most b n at (rw (is, x) refl)
        | inr x ↦ at-step most b n at (rw (is, x) refl)
      ]

  value-ends : (opens : List Open) (name : Part) (n mark from : ℕ) → slice_index b n ≡ mark → At most b n (value_state opens name mark from None) → At most b (n + 1) (state phase.ValueEnd (with_attribute (name, part_of from n) opens) None)
  value-ends opens name n mark from is at =
      at-step most b n at (ap (move_of n opens None) (cond-true (slice_index b n == mark) _ _ (eq-eqb (slice_index b n) mark is)))

  over-attribute : (top : Open) (rest : List Open) (i j : ℕ) (name value : Part) → IsAttribute b top.attributes i name value j → IsReady i (top ∷ rest) → IsReady j (with_attribute (name, value) (top ∷ rest))
  over-attribute top rest i j name value is ready =
      let mark : ℕ = slice_index b is.quote in
      let tag = into-tag (top ∷ rest) is.white is.some ready in
      let begun = attribute-begins (top ∷ rest) name.from tag is.named.start in
      let named = over-attribute-name most b name.from (top ∷ rest) is.named.rest begun in
      let equals = over-equals top rest name.from name.to is.new named is.before_equals is.equals_is in
      let quoted = over-white-quote most b name (top ∷ rest) is.after_equals equals in
      let opened_value : At most b value.from (value_state (top ∷ rest) name mark value.from None) =
      subst (λ x. At most b x (value_state (top ∷ rest) name mark x None)) (sym is.value_from) (quote-begins (top ∷ rest) name is.quote mark refl is.quote_is quoted) in
      let read = over-characters most b mark value.from (value_state (top ∷ rest) name mark value.from) (value-carries (top ∷ rest) name mark value.from is.quote_is) is.characters opened_value in
      subst (λ x. IsReady x (with_attribute (name, value) (top ∷ rest))) (sym is.whole)
      (value-ready (value.to + 1) (with_attribute (name, value) (top ∷ rest)) (value-ends (top ∷ rest) name value.to mark value.from is.closed read))

  over-attributes : (at : ℕ) (element : Part) (rest : List Open) {i j : ℕ} {attributes : List (Part × Part)} → AreAttributes b i j attributes → IsReady i (open_of at element [] [] ∷ rest) → IsReady j (open_of at element attributes [] ∷ rest)
  over-attributes at element rest AreAttributes.none ready = ready
  over-attributes at element rest (AreAttributes.more {j = j} {k = k} {attributes = attributes} {name = name} {value = value} before is) ready =
      over-attribute (open_of at element attributes []) rest j k name value is (over-attributes at element rest before ready)

  -- a start tag, of which the `<` was read
  over-start-tag : (rest : List Open) (i j : ℕ) (name : Part) (attributes : List (Part × Part)) → length rest < most → IsStartTag b i name attributes j → At most b (i + 1) (state phase.Markup rest None) → IsReady j (open_of i name attributes [] ∷ rest)
  over-start-tag rest i j name attributes deep tag at =
      let start_is : is_name_start (slice_index b (i + 1)) ≡ true = subst (λ x. is_name_start (slice_index b x) ≡ true) tag.name_from tag.named.start in
      let begun : At most b (i + 1 + 1) (state (phase.Name (i + 1)) rest None) =
      at-step most b (i + 1) at (ap (move_of (i + 1) rest None)
      (cond-false (slice_index b (i + 1) == 33) _ _ (ne_eqb (slice_index b (i + 1)) 33 (start-byte (slice_index b (i + 1)) start_is 33 refl))
      ∙ cond-true (is_name_start (slice_index b (i + 1))) _ _ start_is
      ∙ cond-true (nat_lt (length rest) most) _ _ (lt-ltb (length rest) most deep))) in
      let named : At most b name.to (state (phase.Name (i + 1)) rest None) = over-name most b (i + 1) rest (subst (λ x. Each b is_name_byte (x + 1) name.to) tag.name_from tag.named.rest) begun in
      let ready : IsReady name.to (open_of (i + 1 - 1) (part_of (i + 1) name.to) [] [] ∷ rest) = name-ready name.to (i + 1) rest named in
      let ready' : IsReady name.to (open_of i (part_of (i + 1) name.to) [] [] ∷ rest) = subst (λ x. IsReady name.to (open_of x (part_of (i + 1) name.to) [] [] ∷ rest)) (let e : i + 1 - 1 ≡ i = omega arith in e) ready in
      let ready'' : IsReady name.to (open_of i name [] [] ∷ rest) = subst (λ x. IsReady name.to (open_of i (part_of x name.to) [] [] ∷ rest)) (sym tag.name_from) ready' in
      white-ready (open_of i name attributes [] ∷ rest) tag.white (over-attributes i name rest tag.listed ready'')

  -- the `>` of a start tag
  tag-greater : (opens : List Open) (j : ℕ) → slice_index b j ≡ 62 → IsReady j opens → At most b (j + 1) (text_state opens (j + 1) None)
  tag-greater opens j e ready = ready (phase.Text (fresh_run (j + 1))) (rw e refl)

  tag-slash : (opens : List Open) (j : ℕ) → slice_index b j ≡ 47 → IsReady j opens → At most b (j + 1) (state phase.Slash opens None)
  tag-slash opens j e ready = ready phase.Slash (rw e refl)

  over-text : (opens : List Open) {i j : ℕ} {text : List ℕ} → IsCharacters b 60 i j text → At most b i (text_state opens i None) → At most b j (text_state opens i None)
  over-text opens {i} chars at = over-characters most b 60 i (text_state opens i) (text-carries opens i) chars at

  -- a `<` in an element
  text-less : (opens : List Open) (i j : ℕ) → slice_index b j ≡ 60 → At most b j (text_state opens i None) → At most b (j + 1) (state phase.Markup (with_children (run_of i j) opens) None)
  text-less opens i j e at = at-step most b j at (ap (move_of j opens None) (cond-true (slice_index b j == 60) _ _ (eq-eqb (slice_index b j) 60 e)))

  -- ---- end tags

  module _ (top : Open) (rest : List Open) where
    copy-step : (from n to : ℕ) → top.name.from + (n - from) ≡ to → to < top.name.to → slice_index b n ≡ slice_index b to → step most b n (state (phase.EndName from) (top ∷ rest) None) ≡ Next (state (phase.EndName from) (top ∷ rest) None)
    copy-step from n to at lt e =
        ap (move_of n (top ∷ rest) None)
        (cond-true (nat_lt (top.name.from + (n - from)) top.name.to) _ _ (lt-ltb (top.name.from + (n - from)) top.name.to (omega arith))
        ∙ cond-true (slice_index b n == slice_index b (top.name.from + (n - from))) _ _ (eq-eqb (slice_index b n) (slice_index b (top.name.from + (n - from))) (e ∙ ap (slice_index b) (sym at))))

    over-copy : {from i to j : ℕ} → from ≡ top.name.from → IsCopy b from to i j → to ≤ top.name.to → At most b i (state (phase.EndName i) (top ∷ rest) None) → At most b j (state (phase.EndName i) (top ∷ rest) None)
    over-copy e IsCopy.none le at = at
    over-copy {from} {i} e (IsCopy.more {to = to} {j = j} copy same) le at =
        let sums = copy-sums copy in
        at-step most b j (over-copy e copy (omega arith) at) (copy-step i j to (omega (arith, sums.0, sums.1, e)) (omega arith) same)

    white-step : (n : ℕ) → is_white (slice_index b n) ≡ true → step most b n (state phase.EndWhite (top ∷ rest) None) ≡ Next (state phase.EndWhite (top ∷ rest) None)
    white-step n w = ap (move_of n (top ∷ rest) None) (cond-true (is_white (slice_index b n)) _ _ w)

    greater-step : (n : ℕ) → slice_index b n ≡ 62 → step most b n (state phase.EndWhite (top ∷ rest) None) ≡ Next (closed (n + 1) (top ∷ rest) None)
    greater-step n e = ap (move_of n (top ∷ rest) None) (cond-false (is_white (slice_index b n)) _ _ (rw e refl) ∙ cond-true (slice_index b n == 62) _ _ (eq-eqb (slice_index b n) 62 e))

    -- the byte behind the name of an end tag does what it does behind white space
    end-step : (from n : ℕ) (s : State) → top.name.to ≤ top.name.from + (n - from) → At most b n (state (phase.EndName from) (top ∷ rest) None) → step most b n (state phase.EndWhite (top ∷ rest) None) ≡ Next s → At most b (n + 1) s
    end-step from n s le at e =
        at-step most b n at (ap (move_of n (top ∷ rest) None) (cond-false (nat_lt (top.name.from + (n - from)) top.name.to) _ _ (le-ltb (top.name.from + (n - from)) top.name.to le)) ∙ e)

    module _ (from n : ℕ) (le : top.name.to ≤ top.name.from + (n - from)) (at : At most b n (state (phase.EndName from) (top ∷ rest) None)) where
      into-white : {m : ℕ} → IsWhite b n m → n < m → At most b m (state phase.EndWhite (top ∷ rest) None)
      into-white Each.none lt = absurd (omega arith)
      into-white (Each.more {j = j} each w) lt =
          elim (cases_lt n j) [
            | inl before ↦ over-white-end most b (top ∷ rest) (Each.more Each.none w) (into-white each before)
            | inr after ↦ (let low : n ≤ j = each-le each in let e : n ≡ j = omega arith in
                subst (λ x. At most b (x + 1) (state phase.EndWhite (top ∷ rest) None)) e (end-step from n _ le at (white-step n (subst (λ x. is_white (slice_index b x) ≡ true) (sym e) w))))
          ]

      over-end : {m : ℕ} → IsWhite b n m → slice_index b m ≡ 62 → At most b (m + 1) (closed (m + 1) (top ∷ rest) None)
      over-end {m} each e =
          elim (cases_lt n m) [
            | inl before ↦ at-step most b m (into-white each before) (greater-step m e)
            | inr after ↦ (let low : n ≤ m = each-le each in let same : n ≡ m = omega arith in
                subst (λ x. At most b (x + 1) (closed (x + 1) (top ∷ rest) None)) same (end-step from n _ le at (greater-step n (ap (slice_index b) same ∙ e))))
          ]

    -- an end tag, of which the `<` was read
    over-end-tag : (i j : ℕ) → IsEndTag b top.name i j → At most b (i + 1) (state phase.Markup (top ∷ rest) None) → At most b j (closed j (top ∷ rest) None)
    over-end-tag i j tag at =
        let begun : At most b (i + 1 + 1) (state (phase.EndName (i + 1 + 1)) (top ∷ rest) None) =
        at-step most b (i + 1) at (ap (move_of (i + 1) (top ∷ rest) None)
        (cond-false (slice_index b (i + 1) == 33) _ _ (rw tag.slash refl)
        ∙ cond-false (is_name_start (slice_index b (i + 1))) _ _ (rw tag.slash refl)
        ∙ cond-true (nat_lt 0 (length (top ∷ rest))) _ _ (lt-ltb 0 (length (top ∷ rest)) (omega arith))
        ∙ cond-true (slice_index b (i + 1) == 47) _ _ (eq-eqb (slice_index b (i + 1)) 47 tag.slash))) in
        let begun' : At most b (i + 2) (state (phase.EndName (i + 2)) (top ∷ rest) None) = subst (λ x. At most b x (state (phase.EndName x) (top ∷ rest) None)) (let e : i + 1 + 1 ≡ i + 2 = omega arith in e) begun in
        let sums = copy-sums tag.named in
        let named : At most b tag.named_to (state (phase.EndName (i + 2)) (top ∷ rest) None) = over-copy refl tag.named (omega arith) begun' in
        subst (λ x. At most b x (closed x (top ∷ rest) None)) (sym tag.whole) (over-end (i + 2) tag.named_to (omega (arith, sums.0, sums.1)) named tag.white tag.greater_is)

  -- ---- elements

  element-less : {outer i j : ℕ} {child : Node} → IsElement b most outer i j child → slice_index b i ≡ 60
  element-less (IsElement.empty deep tag slash greater) = tag.less
  element-less (IsElement.filled deep tag greater pieces chars end) = tag.less

  mutual
    over-element : (rest : List Open) {outer i j : ℕ} {child : Node} → outer ≡ length rest → IsElement b most outer i j child → At most b (i + 1) (state phase.Markup rest None) → At most b j (put j child rest)
    over-element rest {i = i} e (IsElement.empty {j = j} {name = name} {attributes = attributes} deep tag slash greater) at =
        let opens : List Open = open_of i name attributes [] ∷ rest in
        let slashed = tag-slash opens j slash (over-start-tag rest i j name attributes (omega arith) tag at) in
        subst (λ x. At most b x (put x (node.Element i name attributes []) rest)) (let h : j + 1 + 1 ≡ j + 2 = omega arith in h)
        (at-step most b (j + 1) slashed (ap (move_of (j + 1) opens None) (cond-true (slice_index b (j + 1) == 62) _ _ (eq-eqb (slice_index b (j + 1)) 62 greater))))
    over-element rest {i = i} e (IsElement.filled {j = j} {k = k} {m = m} {n = n} {name = name} {attributes = attributes} {children = children} deep tag greater pieces chars end) at =
        let inside = tag-greater (open_of i name attributes [] ∷ rest) j greater (over-start-tag rest i j name attributes (omega arith) tag at) in
        let content = over-pieces i name attributes rest (ap (λ x. x + 1) e) pieces inside in
        let text = over-text (open_of i name attributes children ∷ rest) chars content in
        let less = text-less (open_of i name attributes children ∷ rest) k m end.less text in
        over-end-tag (open_of i name attributes (children ++ run_of k m)) rest m n end less

    over-pieces : (at : ℕ) (name : Part) (attributes : List (Part × Part)) (rest : List Open) {outer i j : ℕ} {nodes : List Node} → outer ≡ length rest + 1 → ArePieces b most outer i j nodes → At most b i (text_state (open_of at name attributes [] ∷ rest) i None) → At most b j (text_state (open_of at name attributes nodes ∷ rest) j None)
    over-pieces at name attributes rest e ArePieces.none begun = begun
    over-pieces at name attributes rest e (ArePieces.comment {j = j} {k = k} {m = m} {nodes = nodes} pieces chars c) begun =
        let opens : List Open = open_of at name attributes nodes ∷ rest in
        let text = over-text opens chars (over-pieces at name attributes rest e pieces begun) in
        over-comment most b (open_of at name attributes (nodes ++ run_of j k) ∷ rest) None k m c (text-less opens j k c.less text)
    over-pieces at name attributes rest e (ArePieces.element {j = j} {k = k} {m = m} {nodes = nodes} {child = child} pieces chars element) begun =
        let opens : List Open = open_of at name attributes nodes ∷ rest in
        let text = over-text opens chars (over-pieces at name attributes rest e pieces begun) in
        over-element (open_of at name attributes (nodes ++ run_of j k) ∷ rest) (e ∙ (let h : length rest + 1 ≡ length (open_of at name attributes (nodes ++ run_of j k) ∷ rest) = omega arith in h)) element (text-less opens j k (element-less element) text)

  -- ---- the whole text

  outside-less : (root : Option Node) (n : ℕ) → slice_index b n ≡ 60 → At most b n (state phase.Outside [] root) → At most b (n + 1) (state phase.Markup [] root)
  outside-less root n e at = at-step most b n at (ap (move_of n [] root) (cond-false (is_white (slice_index b n)) _ _ (rw e refl) ∙ cond-true (slice_index b n == 60) _ _ (eq-eqb (slice_index b n) 60 e)))

  over-blank : (root : Option Node) {i j : ℕ} → IsBlank b i j → At most b i (state phase.Outside [] root) → At most b j (state phase.Outside [] root)
  over-blank root IsBlank.none at = at
  over-blank root (IsBlank.white {j = j} blank w) at = over-white-outside most b root j w (over-blank root blank at)
  over-blank root (IsBlank.comment {j = j} {k = k} blank c) at = over-comment most b [] root j k c (outside-less root j c.less (over-blank root blank at))

  over-head : {i : ℕ} → IsHead b i → At most b i (state phase.Outside [] None)
  over-head head =
      over-blank None head.blank
      (elim head.declared [ inl e ↦ subst (λ x. At most b x (state phase.Outside [] None)) (sym e) refl | inr d ↦ over-declaration most b head.end d ])

  -- what is spelled is read
  pub spelled-runs : (root : Node) → Spells most root b → At most b (length b) (state phase.Outside [] (Some root))
  spelled-runs root spells =
      over-blank (Some root) spells.blank (over-element [] refl spells.element (outside-less None spells.from (element-less spells.element) (over-head spells.head)))
