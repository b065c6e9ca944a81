-- Whatever can be read goes on to a whole text.
use Rattle.std.proofs.Common.{◌≡◌, ℕ, zero, suc, ◌+◌, ◌-◌, ◌<◌, ◌≤◌, ◌⊎◌, inl, inr, false, ◌&&◌, List, [], ◌∷◌, ◌++◌, length, take, drop, Option, Some, None, refl, sym, ap, subst, ◌∙◌, arith, length-append, length-take, length-drop, append_assoc}
use Rattle.std.specs.Prelude.{slice_index, slice_range, nat_lt, nat_le, ◌==◌}
use Rattle.std.specs.List.{AllByRecursion}
use Rattle.std.specs.Str.{bytes_eq}
use Rattle.std.proofs.Math.Seq.{get_or-append_seam}
use Rattle.std.proofs.lemmas.List.{get_or_append_left}
use Rattle.std.proofs.lemmas.Slice.Eq.{bytes_eq-Decides}
use Rattle.std.proofs.lemmas.Bool.{cond-true, cond-false, cond_both, eq-eqb, ne_eqb, lt-ltb, le-ltb, le-leb, and_from, and_right, or_from, cases_lt, false_from_ne_true}
use Rattle.vkb_bytes.specs.Bytes.{is_white}
use Rattle.reg_reader.specs.Within.{AreWithin}
use Rattle.reg_reader.specs.Bounds.{IsOpenWithin}
use Rattle.reg_reader.specs.Markup.{is_name_byte, is_name_start, is_taken, part_of, run_of, Spells, IsFrontWithin, IsReference}
use Rattle.reg_reader.specs.References.{progress_of}
use Rattle.reg_reader.specs.Machine.{State, Next, between, declared_byte, in_end_white, with_children, element_of, put, closed, move_of, step, run}
use Rattle.reg_reader.specs.declared.markup.Part.{Part}
use Rattle.reg_reader.specs.declared.markup.Node.{Node}
use Rattle.reg_reader.specs.declared.phase.Phase.TheVariants as phase
use Rattle.reg_reader.specs.declared.reader.Open.{Open}
use Rattle.reg_reader.specs.declared.reference.Progress.TheVariants as progress
use Rattle.reg_reader.proofs.Tokens.{state, Carries}
use Rattle.reg_reader.proofs.Complete.{text_state, value_state}
use Rattle.reg_reader.proofs.SoundSteps.{ends}
use Rattle.reg_reader.proofs.Running.{run-next, run-reached}
use Rattle.reg_reader.proofs.Agree.{agree-append, run-agree}
use Rattle.reg_reader.proofs.ReferenceFronts.{reference-whole, reference-partial}
use Rattle.reg_reader.proofs.ReferenceEnds.{completes}
use Rattle.reg_reader.proofs.WithinLemmas.{opens-more, all-more, all-append}

-- from a state that some text leads to, more text leads to the end
pub data Ends (most : ℕ) : List ℕ → State → Type 0 where
  done : {p : List ℕ} {root : Node} → Ends most p (state phase.Outside [] (Some root))
  more : {p : List ℕ} {s t : State} (byte : ℕ) → step most (p ++ byte ∷ []) (length p) s ≡ Next t → Ends most (p ++ byte ∷ []) t → Ends most p s

pub append-nil : (p : List ℕ) → p ++ [] ≡ p
append-nil [] = refl
append-nil (x ∷ p) = ap (λ l. x ∷ l) (append-nil p)

pub longer : (p : List ℕ) (byte : ℕ) → length (p ++ byte ∷ []) ≡ length p + 1
longer p byte = omega (arith, length-append p (byte ∷ []))

pub ends-front : (most : ℕ) (p : List ℕ) (s : State) → Ends most p s → run most p (length p) ≡ Next s → IsFrontWithin most p
ends-front most p s (Ends.done {root = root}) here =
    ([], root, subst (Spells most root) (sym (append-nil p)) (ends p most (run-reached most p (length p) _ (omega arith) here)))
ends-front most p s (Ends.more {t = t} byte e rest) here =
    let q : List ℕ = p ++ byte ∷ [] in
    let at : run most q (length p) ≡ Next s = sym (run-agree most p q (length p) (agree-append p (byte ∷ [])) (omega arith)) ∙ here in
    let after : run most q (length q) ≡ Next t = ap (run most q) (longer p byte) ∙ run-next most q (length p) s at ∙ e in
    let front = ends-front most q t rest after in
    (byte ∷ front.0, front.1, subst (Spells most front.1) (append_assoc p (byte ∷ []) front.0) front.2)

seam : (p : List ℕ) (byte : ℕ) → slice_index (p ++ byte ∷ []) (length p) ≡ byte
seam p byte = get_or-append_seam p byte [] 0

old : (p : List ℕ) (byte k : ℕ) → k < length p → slice_index (p ++ byte ∷ []) k ≡ slice_index p k
old p byte k lt = get_or_append_left p (byte ∷ []) 0 k lt

whole-partial : (value : ℕ) → progress.Whole value ≡ progress.Partial → ⊥
whole-partial value e = cc

take-length : (n : ℕ) (xs : List ℕ) → length xs ≤ n → take n xs ≡ xs
take-length zero [] le = refl
take-length zero (x ∷ xs) le = absurd (omega arith)
take-length (suc n) [] le = refl
take-length (suc n) (x ∷ xs) le = ap (λ l. x ∷ l) (take-length n xs (omega arith))

take-append-whole : (xs ys : List ℕ) → take (length xs) (xs ++ ys) ≡ xs
take-append-whole [] ys = refl
take-append-whole (x ∷ xs) ys = ap (λ l. x ∷ l) (take-append-whole xs ys)

drop-append-le : (n : ℕ) (xs ys : List ℕ) → n ≤ length xs → drop n (xs ++ ys) ≡ drop n xs ++ ys
drop-append-le zero xs ys le = refl
drop-append-le (suc n) [] ys le = absurd (omega arith)
drop-append-le (suc n) (x ∷ xs) ys le = drop-append-le n xs ys (omega arith)

abbrev pub AllOpen : ℕ → List Open → Type 0
AllOpen n = AllByRecursion (IsOpenWithin n)

module _ (most : ℕ) where
  -- ---- end tags

  module _ (top : Open) (rest : List Open) (from : ℕ) where
    end-greater : (p : List ℕ) → top.name.to ≤ top.name.from + (length p - from) → Ends most (p ++ 62 ∷ []) (closed (length p + 1) (top ∷ rest) None) → Ends most p (state (phase.EndName from) (top ∷ rest) None)
    end-greater p le =
        Ends.more 62 (ap (move_of (length p) (top ∷ rest) None)
        (cond-false (nat_lt (top.name.from + (length p - from)) top.name.to) _ _ (le-ltb (top.name.from + (length p - from)) top.name.to le)
        ∙ ap in_end_white (seam p 62)))

    end-name : (m : ℕ) (p : List ℕ) → from ≤ length p → top.name.to ≤ length p → top.name.to ≤ top.name.from + (length p - from) + m → ((q : List ℕ) → length p ≤ length q → Ends most q (closed (length q) (top ∷ rest) None)) → Ends most p (state (phase.EndName from) (top ∷ rest) None)
    end-name zero p low within le closes =
        end-greater p (omega arith) (subst (λ x. Ends most (p ++ 62 ∷ []) (closed x (top ∷ rest) None)) (longer p 62) (closes (p ++ 62 ∷ []) (omega (arith, longer p 62))))
    end-name (suc m) p low within le closes =
        elim (cases_lt (top.name.from + (length p - from)) top.name.to) [
          | inr ge ↦ end-greater p (omega arith) (subst (λ x. Ends most (p ++ 62 ∷ []) (closed x (top ∷ rest) None)) (longer p 62) (closes (p ++ 62 ∷ []) (omega (arith, longer p 62))))
          | inl lt ↦ (
              let place : ℕ = top.name.from + (length p - from) in
              let byte : ℕ = slice_index p (top.name.from + (length p - from)) in
              Ends.more (slice_index p (top.name.from + (length p - from)))
              (ap (move_of (length p) (top ∷ rest) None)
              (cond-true (nat_lt (top.name.from + (length p - from)) top.name.to) _ _ (lt-ltb (top.name.from + (length p - from)) top.name.to (omega arith))
              ∙ cond-true (slice_index (p ++ slice_index p (top.name.from + (length p - from)) ∷ []) (length p) == slice_index (p ++ slice_index p (top.name.from + (length p - from)) ∷ []) (top.name.from + (length p - from))) _ _
              (eq-eqb _ _ (seam p (slice_index p (top.name.from + (length p - from))) ∙ sym (old p (slice_index p (top.name.from + (length p - from))) (top.name.from + (length p - from)) (omega arith))))))
              (end-name m (p ++ slice_index p (top.name.from + (length p - from)) ∷ []) (omega (arith, longer p (slice_index p (top.name.from + (length p - from))))) (omega (arith, longer p (slice_index p (top.name.from + (length p - from))))) (omega (arith, longer p (slice_index p (top.name.from + (length p - from)))))
              (λ q long. closes q (omega (arith, longer p (slice_index p (top.name.from + (length p - from))))))))
        ]

  with-node : (n : ℕ) (top : Open) (rest : List Open) (nodes : List Node) → AllOpen n (top ∷ rest) → AllOpen n (with_children nodes (top ∷ rest))
  with-node n top rest nodes h = h

  end-markup : (top : Open) (rest : List Open) (p : List ℕ) → Ends most (p ++ 47 ∷ []) (state (phase.EndName (length p + 1)) (top ∷ rest) None) → Ends most p (state phase.Markup (top ∷ rest) None)
  end-markup top rest p =
      Ends.more 47 (ap (move_of (length p) (top ∷ rest) None)
      (cond-false (slice_index (p ++ 47 ∷ []) (length p) == 33) _ _ (rw (seam p 47) refl)
      ∙ cond-false (is_name_start (slice_index (p ++ 47 ∷ []) (length p))) _ _ (rw (seam p 47) refl)
      ∙ cond-true (nat_lt 0 (length (top ∷ rest))) _ _ (lt-ltb 0 (length (top ∷ rest)) (omega arith))
      ∙ cond-true (slice_index (p ++ 47 ∷ []) (length p) == 47) _ _ (eq-eqb (slice_index (p ++ 47 ∷ []) (length p)) 47 (seam p 47))))

  text-less : (opens : List Open) (from : ℕ) (p : List ℕ) → Ends most (p ++ 60 ∷ []) (state phase.Markup (with_children (run_of from (length p)) opens) None) → Ends most p (text_state opens from None)
  text-less opens from p =
      Ends.more 60 (ap (move_of (length p) opens None) (cond-true (slice_index (p ++ 60 ∷ []) (length p) == 60) _ _ (eq-eqb (slice_index (p ++ 60 ∷ []) (length p)) 60 (seam p 60))))

  -- an element that ended goes on to a whole text
  abbrev Closes : List Open → ℕ → Type 0
  Closes rest n = (child : Node) (q : List ℕ) → n ≤ length q → Ends most q (put (length q) child rest)

  markup-then : (top : Open) (rest : List Open) (p : List ℕ) → top.name.to ≤ length p → Closes rest (length p) → Ends most p (state phase.Markup (top ∷ rest) None)
  markup-then top rest p within closes =
      end-markup top rest p
      (end-name top rest (length p + 1) top.name.to (p ++ 47 ∷ []) (omega (arith, longer p 47)) (omega (arith, longer p 47)) (omega arith)
      (λ r long. closes (element_of top) r (omega (arith, longer p 47))))

  open-then : (top : Open) (rest : List Open) (from : ℕ) (p : List ℕ) → top.name.to ≤ length p → Closes rest (length p) → Ends most p (text_state (top ∷ rest) from None)
  open-then top rest from p within closes =
      text-less (top ∷ rest) from p
      (markup-then (record { at = top.at; name = top.name; attributes = top.attributes; children = top.children ++ run_of from (length p) }) rest (p ++ 60 ∷ [])
      (omega (arith, longer p 60)) (λ child q le. closes child q (omega (arith, longer p 60))))

  -- all open elements end
  pub ends-put : (rest : List Open) (n : ℕ) → AllOpen n rest → Closes rest n
  ends-put [] n within child p le = Ends.done
  ends-put (top ∷ rest) n within child p le =
      open-then (record { at = top.at; name = top.name; attributes = top.attributes; children = top.children ++ child ∷ [] }) rest (length p) p (omega (arith, within.0.1))
      (λ next q long. ends-put rest n within.1 next q (omega arith))

  pub ends-markup : (top : Open) (rest : List Open) (p : List ℕ) → AllOpen (length p) (top ∷ rest) → Ends most p (state phase.Markup (top ∷ rest) None)
  ends-markup top rest p within = markup-then top rest p (omega (arith, within.0.1)) (ends-put rest (length p) within.1)

  pub ends-open : (top : Open) (rest : List Open) (from : ℕ) (p : List ℕ) → AllOpen (length p) (top ∷ rest) → Ends most p (text_state (top ∷ rest) from None)
  ends-open top rest from p within = open-then top rest from p (omega (arith, within.0.1)) (ends-put rest (length p) within.1)

  pub ends-close : (top : Open) (rest : List Open) (p : List ℕ) (s : State) → AllOpen (length p) (top ∷ rest) → step most (p ++ 62 ∷ []) (length p) s ≡ Next (closed (length p + 1) (top ∷ rest) None) → Ends most p s
  ends-close top rest p s within e =
      Ends.more 62 e (subst (λ x. Ends most (p ++ 62 ∷ []) (closed x (top ∷ rest) None)) (longer p 62)
      (ends-put rest (length p) within.1 (element_of top) (p ++ 62 ∷ []) (omega (arith, longer p 62))))

  pub ends-slash : (top : Open) (rest : List Open) (p : List ℕ) → AllOpen (length p) (top ∷ rest) → Ends most p (state phase.Slash (top ∷ rest) None)
  ends-slash top rest p within = ends-close top rest p _ within (rw (seam p 62) refl)

  pub ends-end-white : (top : Open) (rest : List Open) (p : List ℕ) → AllOpen (length p) (top ∷ rest) → Ends most p (state phase.EndWhite (top ∷ rest) None)
  ends-end-white top rest p within = ends-close top rest p _ within (rw (seam p 62) refl)

  pub ends-end-name : (top : Open) (rest : List Open) (from : ℕ) (p : List ℕ) → from ≤ length p → AllOpen (length p) (top ∷ rest) → Ends most p (state (phase.EndName from) (top ∷ rest) None)
  ends-end-name top rest from p low within =
      end-name top rest from top.name.to p low (omega (arith, within.0.1)) (omega arith)
      (λ r long. ends-put rest (length p) within.1 (element_of top) r long)

  -- ---- start tags

  -- a `>` ends a start tag
  pub ends-greater : (top : Open) (rest : List Open) (p : List ℕ) (s : State) → AllOpen (length p) (top ∷ rest) → step most (p ++ 62 ∷ []) (length p) s ≡ Next (text_state (top ∷ rest) (length p + 1) None) → Ends most p s
  ends-greater top rest p s within e =
      Ends.more 62 e (ends-open top rest (length p + 1) (p ++ 62 ∷ []) (opens-more (length p) (length (p ++ 62 ∷ [])) (omega (arith, longer p 62)) (top ∷ rest) within))

  pub ends-tag : (top : Open) (rest : List Open) (p : List ℕ) → AllOpen (length p) (top ∷ rest) → Ends most p (state phase.Tag (top ∷ rest) None)
  ends-tag top rest p within = ends-greater top rest p _ within (rw (seam p 62) refl)

  pub ends-value-end : (top : Open) (rest : List Open) (p : List ℕ) → AllOpen (length p) (top ∷ rest) → Ends most p (state phase.ValueEnd (top ∷ rest) None)
  ends-value-end top rest p within = ends-greater top rest p _ within (rw (seam p 62) refl)

  pub ends-name : (from : ℕ) (rest : List Open) (p : List ℕ) → from ≤ length p → AllOpen (length p) rest → Ends most p (state (phase.Name from) rest None)
  ends-name from rest p le within =
      ends-greater (record { at = from - 1; name = part_of from (length p); attributes = []; children = [] }) rest p _ ((le, omega arith, tt), within) (rw (seam p 62) refl)

  -- ---- attributes

  range-short : (b : List ℕ) (i j : ℕ) → length (slice_range b i j) ≤ j - i
  range-short b i j = omega (arith, length-take (j - i) (drop i b))

  -- a name that is longer than all places before is new
  new-name : (b : List ℕ) (n from to : ℕ) → to ≤ length b → n < to - from → (attributes : List (Part × Part)) → AreWithin n attributes → is_taken b attributes from to ≡ false
  new-name b n from to within long [] h = refl
  new-name b n from to within long (x ∷ xs) h =
      or_from (bytes_eq (slice_range b x.0.from x.0.to) (slice_range b from to)) _
      (false_from_ne_true (bytes_eq (slice_range b x.0.from x.0.to) (slice_range b from to)) (λ e.
      let same : length (slice_range b x.0.from x.0.to) ≡ length (slice_range b from to) = ap length ((bytes_eq-Decides (slice_range b x.0.from x.0.to) (slice_range b from to)).0 e) in
      omega (arith, h.0.1, range-short b x.0.from x.0.to, length-take (to - from) (drop from b), length-drop from b)))
      (new-name b n from to within long xs h.1)

  module _ (top : Open) (rest : List Open) where
    quote-mark : (name : Part) (p : List ℕ) → Ends most (p ++ 34 ∷ []) (value_state (top ∷ rest) name 34 (length p + 1) None) → Ends most p (state (phase.Quote name) (top ∷ rest) None)
    quote-mark name p = Ends.more 34 (rw (seam p 34) refl)

    pub close-mark : (name : Part) (mark from : ℕ) (p : List ℕ) → name.from ≤ name.to → name.to ≤ length p → AllOpen (length p) (top ∷ rest) → Ends most p (value_state (top ∷ rest) name mark from None)
    close-mark name mark from p order le within =
        Ends.more mark (ap (move_of (length p) (top ∷ rest) None) (cond-true (slice_index (p ++ mark ∷ []) (length p) == mark) _ _ (eq-eqb (slice_index (p ++ mark ∷ []) (length p)) mark (seam p mark))))
        (ends-value-end (record { at = top.at; name = top.name; attributes = top.attributes ++ (name, part_of from (length p)) ∷ []; children = top.children }) rest (p ++ mark ∷ []) (
          (within.0.0, omega (arith, within.0.1, longer p mark), all-append (length (p ++ mark ∷ [])) top.attributes (name, part_of from (length p)) (all-more (length p) (length (p ++ mark ∷ [])) (omega (arith, longer p mark)) top.attributes within.0.2) order (omega (arith, longer p mark))),
          opens-more (length p) (length (p ++ mark ∷ [])) (omega (arith, longer p mark)) rest within.1,
        ))

    pub ends-quote : (name : Part) (p : List ℕ) → name.from ≤ name.to → name.to ≤ length p → AllOpen (length p) (top ∷ rest) → Ends most p (state (phase.Quote name) (top ∷ rest) None)
    ends-quote name p order le within =
        quote-mark name p (close-mark name 34 (length p + 1) (p ++ 34 ∷ []) order (omega (arith, longer p 34)) (opens-more (length p) (length (p ++ 34 ∷ [])) (omega (arith, longer p 34)) (top ∷ rest) within))

    pub ends-equals : (name : Part) (p : List ℕ) → name.from ≤ name.to → name.to ≤ length p → AllOpen (length p) (top ∷ rest) → Ends most p (state (phase.Equals name) (top ∷ rest) None)
    ends-equals name p order le within =
        Ends.more 61 (rw (seam p 61) refl) (ends-quote name (p ++ 61 ∷ []) order (omega (arith, longer p 61)) (opens-more (length p) (length (p ++ 61 ∷ [])) (omega (arith, longer p 61)) (top ∷ rest) within))

    attribute-equals : (from : ℕ) (p : List ℕ) → is_taken (p ++ 61 ∷ []) top.attributes from (length p) ≡ false → Ends most (p ++ 61 ∷ []) (state (phase.Quote (part_of from (length p))) (top ∷ rest) None) → Ends most p (state (phase.Attribute from) (top ∷ rest) None)
    attribute-equals from p new =
        Ends.more 61 (ap (move_of (length p) (top ∷ rest) None)
        (cond-false (is_name_byte (slice_index (p ++ 61 ∷ []) (length p))) _ _ (rw (seam p 61) refl)
        ∙ cond-false (is_taken (p ++ 61 ∷ []) top.attributes from (length p)) _ _ new
        ∙ cond-false (is_white (slice_index (p ++ 61 ∷ []) (length p))) _ _ (rw (seam p 61) refl)
        ∙ cond-true (slice_index (p ++ 61 ∷ []) (length p) == 61) _ _ (eq-eqb (slice_index (p ++ 61 ∷ []) (length p)) 61 (seam p 61))))

    -- more letters make the name a new one
    pub ends-attribute : (m n from : ℕ) (p : List ℕ) → n ≤ length p → from ≤ length p → n + 1 ≤ length p - from + m → AllOpen n (top ∷ rest) → Ends most p (state (phase.Attribute from) (top ∷ rest) None)
    ends-attribute zero n from p le low long within =
        attribute-equals from p (new-name (p ++ 61 ∷ []) n from (length p) (omega (arith, longer p 61)) (omega arith) top.attributes within.0.2)
        (ends-quote (part_of from (length p)) (p ++ 61 ∷ []) low (omega (arith, longer p 61)) (opens-more n (length (p ++ 61 ∷ [])) (omega (arith, longer p 61)) (top ∷ rest) within))
    ends-attribute (suc m) n from p le low long within =
        Ends.more 97 (ap (move_of (length p) (top ∷ rest) None) (cond-true (is_name_byte (slice_index (p ++ 97 ∷ []) (length p))) _ _ (rw (seam p 97) refl)))
        (ends-attribute m n from (p ++ 97 ∷ []) (omega (arith, longer p 97)) (omega (arith, longer p 97)) (omega (arith, longer p 97)) within)

  -- ---- references

  range-snoc : (p : List ℕ) (byte place : ℕ) → place ≤ length p → slice_range (p ++ byte ∷ []) place (length p + 1) ≡ slice_range p place (length p) ++ byte ∷ []
  range-snoc p byte place le =
      ap (λ xs. take (length p + 1 - place) xs) (drop-append-le place p (byte ∷ []) le)
      ∙ take-length (length p + 1 - place) (drop place p ++ byte ∷ []) (omega (arith, length-append (drop place p) (byte ∷ []), length-drop place p))
      ∙ ap (λ xs. xs ++ byte ∷ []) (sym (take-length (length p - place) (drop place p) (omega (arith, length-drop place p))))

  whole-range : (p : List ℕ) (byte place : ℕ) → place ≤ length p → length (slice_range p place (length p) ++ byte ∷ []) ≡ length p - place + 1
  whole-range p byte place le = omega (arith, length-append (slice_range p place (length p)) (byte ∷ []), length-take (length p - place) (drop place p), length-drop place p)

  module _ (stop from : ℕ) (of_run : Option ℕ → State) (carries : (b : List ℕ) → Carries most b stop from of_run) where
    pub ends-reference : (others : List ℕ) (byte place value : ℕ) (p : List ℕ) → place < length p → IsReference (slice_range p place (length p) ++ byte ∷ others) value → ((q : List ℕ) → length p ≤ length q → Ends most q (of_run None)) → Ends most p (of_run (Some place))
    ends-reference [] byte place value p lt is goes =
        Ends.more byte ((carries (p ++ byte ∷ [])).whole (length p) place value (ap progress_of (range-snoc p byte place (omega arith)) ∙ reference-whole _ value is)) (goes (p ++ byte ∷ []) (omega (arith, longer p byte)))
    ends-reference (next ∷ others) byte place value p lt is goes =
        let text : List ℕ = slice_range p place (length p) in
        let regrouped : slice_range p place (length p) ++ byte ∷ next ∷ others ≡ (slice_range p place (length p) ++ byte ∷ []) ++ next ∷ others = sym (append_assoc (slice_range p place (length p)) (byte ∷ []) (next ∷ others)) in
        let is' : IsReference ((slice_range p place (length p) ++ byte ∷ []) ++ next ∷ others) value = subst (λ x. IsReference x value) regrouped is in
        let long = whole-range p byte place (omega arith) in
        let front : progress_of (slice_range p place (length p) ++ byte ∷ []) ≡ progress.Partial =
        ap progress_of (sym (take-append-whole (slice_range p place (length p) ++ byte ∷ []) (next ∷ others)))
        ∙ reference-partial _ value (length (slice_range p place (length p) ++ byte ∷ [])) is' (omega (arith, whole-range p byte place (omega arith))) (omega (arith, length-append (slice_range p place (length p) ++ byte ∷ []) (next ∷ others))) in
        let same : slice_range p place (length p) ++ byte ∷ [] ≡ slice_range (p ++ byte ∷ []) place (length (p ++ byte ∷ [])) = sym (range-snoc p byte place (omega arith)) ∙ ap (slice_range (p ++ byte ∷ []) place) (sym (longer p byte)) in
        Ends.more byte ((carries (p ++ byte ∷ [])).partial (length p) place (ap progress_of (range-snoc p byte place (omega arith)) ∙ front))
        (ends-reference others next place value (p ++ byte ∷ []) (omega (arith, longer p byte)) (subst (λ x. IsReference (x ++ next ∷ others) value) same is')
        (λ q le. goes q (omega (arith, longer p byte))))

    partial-then : (others : List ℕ) (value place : ℕ) (p : List ℕ) → place < length p → progress_of (slice_range p place (length p)) ≡ progress.Partial → IsReference (slice_range p place (length p) ++ others) value → ((q : List ℕ) → length p ≤ length q → Ends most q (of_run None)) → Ends most p (of_run (Some place))
    partial-then [] value place p lt e is goes = absurd (whole-partial value (sym (reference-whole _ value is) ∙ ap progress_of (append-nil (slice_range p place (length p))) ∙ e))
    partial-then (byte ∷ others) value place p lt e is goes = ends-reference others byte place value p lt is goes

    pub ends-partial : (place : ℕ) (p : List ℕ) → place < length p → progress_of (slice_range p place (length p)) ≡ progress.Partial → ((q : List ℕ) → length p ≤ length q → Ends most q (of_run None)) → Ends most p (of_run (Some place))
    ends-partial place p lt e goes = let c = completes (slice_range p place (length p)) e in partial-then c.more c.value place p lt e c.is goes

  -- ---- comments and the declaration

  module _ (opens : List Open) (root : Option Node) (from : ℕ) where
    comment-dash : (p : List ℕ) → Ends most (p ++ 45 ∷ []) (state (phase.Comment from) opens root) → Ends most p (state (phase.Comment from) opens root)
    comment-dash p =
        Ends.more 45 (cond_both (nat_lt (length p) (from + 4)) _ _ (λ a. move_of (length p) opens root a ≡ Next (state (phase.Comment from) opens root))
        (λ _. ap (move_of (length p) opens root) (cond-true (slice_index (p ++ 45 ∷ []) (length p) == 45) _ _ (eq-eqb (slice_index (p ++ 45 ∷ []) (length p)) 45 (seam p 45))))
        (λ _. ap (move_of (length p) opens root) (cond-false (nat_le (from + 6) (length p) && (slice_index (p ++ 45 ∷ []) (length p) == 62 && (slice_index (p ++ 45 ∷ []) (length p - 1) == 45 && slice_index (p ++ 45 ∷ []) (length p - 2) == 45))) _ _
        (and_right (nat_le (from + 6) (length p)) _ (rw (seam p 45) refl)))))

    -- after two dashes a `>` ends the comment
    comment-greater : (p : List ℕ) → from + 4 ≤ length p → Ends most (((p ++ 45 ∷ []) ++ 45 ∷ []) ++ 62 ∷ []) (state (between opens (length ((p ++ 45 ∷ []) ++ 45 ∷ []) + 1)) opens root) → Ends most ((p ++ 45 ∷ []) ++ 45 ∷ []) (state (phase.Comment from) opens root)
    comment-greater p low =
        let q : List ℕ = (p ++ 45 ∷ []) ++ 45 ∷ [] in
        let one = longer p 45 in
        let two = longer (p ++ 45 ∷ []) 45 in
        let n : ℕ = length ((p ++ 45 ∷ []) ++ 45 ∷ []) in
        let b : List ℕ = ((p ++ 45 ∷ []) ++ 45 ∷ []) ++ 62 ∷ [] in
        let last : slice_index (((p ++ 45 ∷ []) ++ 45 ∷ []) ++ 62 ∷ []) (length ((p ++ 45 ∷ []) ++ 45 ∷ []) - 1) ≡ 45 =
        ap (slice_index b) (let e : length ((p ++ 45 ∷ []) ++ 45 ∷ []) - 1 ≡ length (p ++ 45 ∷ []) = omega (arith, longer (p ++ 45 ∷ []) 45) in e)
        ∙ old q 62 (length (p ++ 45 ∷ [])) (omega (arith, longer (p ++ 45 ∷ []) 45)) ∙ seam (p ++ 45 ∷ []) 45 in
        let first : slice_index (((p ++ 45 ∷ []) ++ 45 ∷ []) ++ 62 ∷ []) (length ((p ++ 45 ∷ []) ++ 45 ∷ []) - 2) ≡ 45 =
        ap (slice_index b) (let e : length ((p ++ 45 ∷ []) ++ 45 ∷ []) - 2 ≡ length p = omega (arith, longer p 45, longer (p ++ 45 ∷ []) 45) in e)
        ∙ old q 62 (length p) (omega (arith, longer p 45, longer (p ++ 45 ∷ []) 45)) ∙ old (p ++ 45 ∷ []) 45 (length p) (omega (arith, longer p 45)) ∙ seam p 45 in
        Ends.more 62 (ap (move_of n opens root)
        (cond-false (nat_lt n (from + 4)) _ _ (le-ltb n (from + 4) (omega (arith, longer p 45, longer (p ++ 45 ∷ []) 45)))
        ∙ cond-true (nat_le (from + 6) n && (slice_index b n == 62 && (slice_index b (n - 1) == 45 && slice_index b (n - 2) == 45))) _ _
        (and_from (nat_le (from + 6) n) _ (le-leb (from + 6) n (omega (arith, longer p 45, longer (p ++ 45 ∷ []) 45)))
        (and_from (slice_index b n == 62) _ (eq-eqb (slice_index b n) 62 (seam q 62))
        (and_from (slice_index b (n - 1) == 45) _ (eq-eqb (slice_index b (n - 1)) 45 last) (eq-eqb (slice_index b (n - 2)) 45 first))))))

    pub ends-comment : (p : List ℕ) → from + 2 ≤ length p → ((q : List ℕ) → length p ≤ length q → Ends most q (state (between opens (length q)) opens root)) → Ends most p (state (phase.Comment from) opens root)
    ends-comment p low goes =
        let one : List ℕ = p ++ 45 ∷ [] in
        let two : List ℕ = (p ++ 45 ∷ []) ++ 45 ∷ [] in
        let three : List ℕ = ((p ++ 45 ∷ []) ++ 45 ∷ []) ++ 45 ∷ [] in
        let four : List ℕ = (((p ++ 45 ∷ []) ++ 45 ∷ []) ++ 45 ∷ []) ++ 45 ∷ [] in
        comment-dash p (comment-dash one (comment-dash two (comment-dash three
        (comment-greater two (omega (arith, longer p 45, longer (p ++ 45 ∷ []) 45))
        (subst (λ x. Ends most (four ++ 62 ∷ []) (state (between opens x) opens root)) (longer four 62)
        (goes (four ++ 62 ∷ []) (omega (arith, longer p 45, longer one 45, longer two 45, longer three 45, longer four 62))))))))

  -- the root may begin
  pub markup-root : 0 < most → (p : List ℕ) → Ends most p (state phase.Markup [] None)
  markup-root deep p =
      Ends.more 97 (ap (move_of (length p) [] None)
      (cond-false (slice_index (p ++ 97 ∷ []) (length p) == 33) _ _ (rw (seam p 97) refl)
      ∙ cond-true (is_name_start (slice_index (p ++ 97 ∷ []) (length p))) _ _ (rw (seam p 97) refl)
      ∙ cond-true (nat_lt 0 most) _ _ (lt-ltb 0 most deep)))
      (ends-name (length p) [] (p ++ 97 ∷ []) (omega (arith, longer p 97)) tt)

  pub ends-before : 0 < most → (p : List ℕ) → Ends most p (state phase.Outside [] None)
  ends-before deep p = Ends.more 60 (rw (seam p 60) refl) (markup-root deep (p ++ 60 ∷ []))

  pub ends-outside : 0 < most → (root : Option Node) (p : List ℕ) → Ends most p (state phase.Outside [] root)
  ends-outside deep None p = ends-before deep p
  ends-outside deep (Some root) p = Ends.done

  -- what a comment may stand between
  pub ends-between : 0 < most → (opens : List Open) (root : Option Node) (n : ℕ) (p : List ℕ) → AllOpen n opens → (length opens ≡ 0) ⊎ (root ≡ None) → n ≤ length p → Ends most p (state (between opens (length p)) opens root)
  ends-between deep [] root n p within y le = ends-outside deep root p
  ends-between deep (top ∷ rest) root n p within (inl e) le = absurd (omega arith)
  ends-between deep (top ∷ rest) root n p within (inr e) le =
      subst (λ r. Ends most p (state (between (top ∷ rest) (length p)) (top ∷ rest) r)) (sym e)
      (ends-open top rest (length p) p (opens-more n (length p) le (top ∷ rest) within))

  -- behind a `<` a comment may begin, also where the root has ended
  pub markup-comment : (opens : List Open) (root : Option Node) (p : List ℕ) → 1 ≤ length p → ((q : List ℕ) → length p ≤ length q → Ends most q (state (between opens (length q)) opens root)) → Ends most p (state phase.Markup opens root)
  markup-comment opens root p low goes =
      Ends.more 33 (ap (move_of (length p) opens root) (cond-true (slice_index (p ++ 33 ∷ []) (length p) == 33) _ _ (eq-eqb (slice_index (p ++ 33 ∷ []) (length p)) 33 (seam p 33))))
      (ends-comment opens root (length p - 1) (p ++ 33 ∷ []) (omega (arith, longer p 33)) (λ q le. goes q (omega (arith, longer p 33))))

  declaration-byte : (p : List ℕ) → length p < 5 → Ends most (p ++ declared_byte (length p) ∷ []) (state phase.Declaration [] None) → Ends most p (state phase.Declaration [] None)
  declaration-byte p lt =
      Ends.more (declared_byte (length p)) (ap (move_of (length p) [] None)
      (cond-true (nat_lt (length p) 5) _ _ (lt-ltb (length p) 5 lt)
      ∙ cond-true (slice_index (p ++ declared_byte (length p) ∷ []) (length p) == declared_byte (length p)) _ _ (eq-eqb _ (declared_byte (length p)) (seam p (declared_byte (length p))))))

  declaration-white : (p : List ℕ) → length p ≡ 5 → Ends most (p ++ 32 ∷ []) (state phase.Declaration [] None) → Ends most p (state phase.Declaration [] None)
  declaration-white p e =
      Ends.more 32 (ap (move_of (length p) [] None)
      (cond-false (nat_lt (length p) 5) _ _ (le-ltb (length p) 5 (omega arith)) ∙ cond-true (length p == 5) _ _ (eq-eqb (length p) 5 e)
      ∙ cond-true (is_white (slice_index (p ++ 32 ∷ []) (length p))) _ _ (rw (seam p 32) refl)))

  declaration-ends : 0 < most → (p : List ℕ) → 6 ≤ length p → Ends most p (state phase.Declaration [] None)
  declaration-ends deep p low =
      let q : List ℕ = p ++ 63 ∷ [] in
      let b : List ℕ = (p ++ 63 ∷ []) ++ 62 ∷ [] in
      let n : ℕ = length (p ++ 63 ∷ []) in
      let last : slice_index ((p ++ 63 ∷ []) ++ 62 ∷ []) (length (p ++ 63 ∷ []) - 1) ≡ 63 =
      ap (slice_index b) (let e : length (p ++ 63 ∷ []) - 1 ≡ length p = omega (arith, longer p 63) in e) ∙ old q 62 (length p) (omega (arith, longer p 63)) ∙ seam p 63 in
      Ends.more 63 (ap (move_of (length p) [] None)
      (cond-false (nat_lt (length p) 5) _ _ (le-ltb (length p) 5 (omega arith)) ∙ cond-false (length p == 5) _ _ (ne_eqb (length p) 5 (λ e. omega arith))
      ∙ cond-false (nat_le 7 (length p) && (slice_index (p ++ 63 ∷ []) (length p) == 62 && slice_index (p ++ 63 ∷ []) (length p - 1) == 63)) _ _ (and_right (nat_le 7 (length p)) _ (rw (seam p 63) refl))))
      (Ends.more 62 (ap (move_of n [] None)
      (cond-false (nat_lt n 5) _ _ (le-ltb n 5 (omega (arith, longer p 63))) ∙ cond-false (n == 5) _ _ (ne_eqb n 5 (λ e. omega (arith, longer p 63)))
      ∙ cond-true (nat_le 7 n && (slice_index b n == 62 && slice_index b (n - 1) == 63)) _ _
      (and_from (nat_le 7 n) _ (le-leb 7 n (omega (arith, longer p 63))) (and_from (slice_index b n == 62) _ (eq-eqb (slice_index b n) 62 (seam q 62)) (eq-eqb (slice_index b (n - 1)) 63 last)))))
      (ends-before deep b))

  pub ends-declaration : 0 < most → (m : ℕ) (p : List ℕ) → 5 ≤ length p + m → Ends most p (state phase.Declaration [] None)
  ends-declaration deep zero p low =
      elim (cases_lt 5 (length p)) [
        | inl lt ↦ declaration-ends deep p (omega arith)
        | inr ge ↦ declaration-white p (omega arith) (declaration-ends deep (p ++ 32 ∷ []) (omega (arith, longer p 32)))
      ]
  ends-declaration deep (suc m) p low =
      elim (cases_lt (length p) 5) [
        | inl lt ↦ declaration-byte p lt (ends-declaration deep m (p ++ declared_byte (length p) ∷ []) (omega (arith, longer p (declared_byte (length p)))))
        | inr ge ↦ ends-declaration deep m p (omega arith)
      ]
