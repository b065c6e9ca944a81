-- Each step leads to what was read.
use Rattle.std.proofs.Common.{◌≡◌, ℕ, ◌+◌, ◌-◌, ◌<◌, ◌≤◌, ◌⊎◌, inl, inr, Bool, true, false, ◌&&◌, ◌||◌, cond, List, [], ◌∷◌, ◌++◌, length, take, drop, Option, Some, None, refl, sym, ap, subst, ◌∙◌, arith, drop-cons}
use Rattle.std.specs.Prelude.{slice_index, slice_range, nat_lt, nat_le, ◌==◌}
use Rattle.std.specs.Option.{option_map}
use Rattle.std.proofs.lemmas.Bool.{cond_both, eqb-true, eqb-false, ltb-true, ltb-false, leb-true, leb-false, and_parts, and_cases, or_cases, cases_lt}
use Rattle.vkb_bytes.specs.Bytes.{is_white}
use Rattle.reg_reader.specs.Markup.{is_name_start, is_name_byte, part_of, is_taken, Each, IsWhite, IsName, IsCommentEnd, IsComment, IsDeclarationEnd, IsDeclaration, IsBlank, IsCharacters, AreAttributes, IsStartTag, ArePieces, IsHead}
use Rattle.reg_reader.specs.References.{progress_of}
use Rattle.reg_reader.specs.Machine.{fresh_run, after_reference, run_after, in_outside, in_text, between, in_comment, declared_byte, in_declaration, in_tag_end, in_name, in_tag, in_attribute, in_equals, in_quote, in_value, opened, move_of}
use Rattle.reg_reader.specs.declared.markup.Part.{Part}
use Rattle.reg_reader.specs.declared.markup.Node.{Node}
use Rattle.reg_reader.specs.declared.phase.Run.{Run}
use Rattle.reg_reader.specs.declared.phase.Phase.{Phase}
use Rattle.reg_reader.specs.declared.phase.Phase.TheVariants as phase
use Rattle.reg_reader.specs.declared.phase.Act.{Act}
use Rattle.reg_reader.specs.declared.phase.Act.TheVariants as act
use Rattle.reg_reader.specs.declared.reader.Open.{Open}
use Rattle.reg_reader.specs.declared.reference.Progress.{Progress}
use Rattle.reg_reader.specs.declared.reference.Progress.TheVariants as progress
use Rattle.reg_reader.proofs.Reached.{open_of, Upto, IsRun, IsTagged, IsAttributeName, IsCommentFront, IsDeclarationFront, Reached, Leads}
use Rattle.reg_reader.proofs.ReferenceLemmas.{whole-reference}

pub at-same : (b : List ℕ) (i j v : ℕ) → i ≡ j → slice_index b j ≡ v → slice_index b i ≡ v
at-same b i j v e h = ap (slice_index b) e ∙ h

pub slice-one : (b : List ℕ) (n : ℕ) → n < length b → slice_range b n (n + 1) ≡ slice_index b n ∷ []
slice-one b n lt =
    ap (λ k. take k (drop n b)) (let e : n + 1 - n ≡ 1 = omega arith in e) ∙ ap (take 1) (drop-cons b n 0 lt)

pub ampersand : (b : List ℕ) (n : ℕ) → n < length b → slice_index b n ≡ 38 → progress_of (slice_range b n (n + 1)) ≡ progress.Partial
ampersand b n lt e = ap progress_of (slice-one b n lt ∙ ap (λ c. c ∷ []) e)

-- ---- white space and comments

head-white : (b : List ℕ) (n : ℕ) → IsHead b n → is_white (slice_index b n) ≡ true → IsHead b (n + 1)
head-white b n head e = record { end = head.end; declared = head.declared; blank = IsBlank.white head.blank e }

head-comment : (b : List ℕ) (n m : ℕ) → IsHead b n → IsComment b n m → IsHead b m
head-comment b n m head c = record { end = head.end; declared = head.declared; blank = IsBlank.comment head.blank c }

module _ {b : List ℕ} {most : ℕ} where
  upto-white : {n : ℕ} {root : Option Node} → Upto b most [] root n → is_white (slice_index b n) ≡ true → Upto b most [] root (n + 1)
  upto-white {n} (Upto.before head) e = Upto.before (head-white b n head e)
  upto-white (Upto.after head element blank) e = Upto.after head element (IsBlank.white blank e)

  after-comment : {n m : ℕ} {opens : List Open} {root : Option Node} → Upto b most opens root n → IsComment b n m → Reached b most (between opens m) opens root m
  after-comment {n} {m} (Upto.before head) c = Reached.outside (Upto.before (head-comment b n m head c))
  after-comment (Upto.after head element blank) c = Reached.outside (Upto.after head element (IsBlank.comment blank c))
  after-comment (Upto.inside deep tag ends pieces chars outer) c =
      Reached.text deep tag ends (ArePieces.comment pieces chars c) (IsRun.whole IsCharacters.none) outer

-- ---- the steps from each phase

abbrev pub Good : List ℕ → ℕ → ℕ → List Open → Option Node → Option Act → Type 0
Good b most n opens root a = Leads b most (move_of n opens root a) (n + 1)

abbrev pub RunLeads : List ℕ → ℕ → ℕ → ℕ → Option Run → Type 0
RunLeads b n stop from None = Unit {0}
RunLeads b n stop from (Some run) = (run.from ≡ from) × IsRun b stop run.from run.reference (n + 1)

step_field : (k n : ℕ) (P : ℕ → Type 0) → (k < n → P k) → (n ≡ k → P n) → k < n + 1 → P k
step_field k n P old new lt =
    elim (cases_lt k n) [ inl before ↦ old before | inr after ↦ (let e : n ≡ k = omega arith in subst P e (new e)) ]

abbrev ends_comment : List ℕ → ℕ → ℕ → Bool
ends_comment b n from = nat_le (from + 6) n && (slice_index b n == 62 && (slice_index b (n - 1) == 45 && slice_index b (n - 2) == 45))

comment-ends : (b : List ℕ) (n from : ℕ) → IsCommentFront b from n → from + 4 ≤ n → ends_comment b n from ≡ true → IsComment b from (n + 1)
comment-ends b n from front behind e =
    let parts = and_parts (nat_le (from + 6) n) _ e in
    let long : from + 6 ≤ n = leb-true (from + 6) n parts.0 in
    let bytes = and_parts (slice_index b n == 62) _ parts.1 in
    let dashes = and_parts (slice_index b (n - 1) == 45) (slice_index b (n - 2) == 45) bytes.1 in
    record {
      less = front.less;
      mark = front.mark;
      first = front.first (omega arith);
      second = front.second (omega arith);
      end = n - 2;
      behind = omega arith;
      ends = record {
        first = eqb-true (slice_index b (n - 2)) 45 dashes.1;
        second = at-same b (n - 2 + 1) (n - 1) 45 (omega arith) (eqb-true (slice_index b (n - 1)) 45 dashes.0);
        third = at-same b (n - 2 + 2) n 62 (omega arith) (eqb-true (slice_index b n) 62 bytes.0);
      };
      nearest = λ k low high end. front.nearest k low (omega arith) end;
      whole = omega arith;
    }

comment-not : (b : List ℕ) (n from k : ℕ) → ends_comment b n from ≡ false → from + 4 ≤ k → k + 2 ≡ n → IsCommentEnd b k → ⊥
comment-not b n from k e low at end =
    elim (and_cases (nat_le (from + 6) n) _ e) [
      | inl isnt ↦ (let short : n < from + 6 = leb-false (from + 6) n isnt in omega arith)
      | inr rest ↦ elim (and_cases (slice_index b n == 62) _ rest) [
        | inl isnt ↦ eqb-false (slice_index b n) 62 isnt (at-same b n (k + 2) 62 (sym at) end.third)
        | inr dashes ↦ elim (and_cases (slice_index b (n - 1) == 45) _ dashes) [
          | inl isnt ↦ eqb-false (slice_index b (n - 1)) 45 isnt (at-same b (n - 1) (k + 1) 45 (omega arith) end.second)
          | inr isnt ↦ eqb-false (slice_index b (n - 2)) 45 isnt (at-same b (n - 2) k 45 (omega arith) end.first)
        ]
      ]
    ]

comment-goes : (b : List ℕ) (n from : ℕ) → IsCommentFront b from n → (from + 4 ≤ n → ends_comment b n from ≡ false) → (n < from + 4 → slice_index b n ≡ 45) → IsCommentFront b from (n + 1)
comment-goes b n from front unended dash = record {
  behind = omega (arith, front.behind);
  less = front.less;
  mark = front.mark;
  first = step_field (from + 2) n (λ i. slice_index b i ≡ 45) front.first (λ e. dash (omega arith));
  second = step_field (from + 3) n (λ i. slice_index b i ≡ 45) front.second (λ e. dash (omega arith));
  nearest = λ k low lt end. elim (cases_lt (k + 2) n) [
    | inl before ↦ front.nearest k low before end
    | inr after ↦ comment-not b n from k (unended (omega arith)) low (omega arith) end
  ];
}

abbrev ends_declaration : List ℕ → ℕ → Bool
ends_declaration b n = nat_le 7 n && (slice_index b n == 62 && slice_index b (n - 1) == 63)

declaration-ends : (b : List ℕ) (n : ℕ) → IsDeclarationFront b n → ends_declaration b n ≡ true → IsDeclaration b (n + 1)
declaration-ends b n front e =
    let parts = and_parts (nat_le 7 n) _ e in
    let long : 7 ≤ n = leb-true 7 n parts.0 in
    let bytes = and_parts (slice_index b n == 62) (slice_index b (n - 1) == 63) parts.1 in
    record {
      less = front.less;
      mark = front.mark;
      x = front.x (omega arith);
      m = front.m (omega arith);
      l = front.l (omega arith);
      white = front.white (omega arith);
      end = n - 1;
      behind = omega arith;
      ends = record {
        first = eqb-true (slice_index b (n - 1)) 63 bytes.1;
        second = at-same b (n - 1 + 1) n 62 (omega arith) (eqb-true (slice_index b n) 62 bytes.0);
      };
      nearest = λ k low high end. front.nearest k low (omega arith) end;
      whole = omega arith;
    }

declaration-not : (b : List ℕ) (n k : ℕ) → ends_declaration b n ≡ false → 6 ≤ k → k + 1 ≡ n → IsDeclarationEnd b k → ⊥
declaration-not b n k e low at end =
    elim (and_cases (nat_le 7 n) _ e) [
      | inl isnt ↦ (let short : n < 7 = leb-false 7 n isnt in omega arith)
      | inr rest ↦ elim (and_cases (slice_index b n == 62) _ rest) [
        | inl isnt ↦ eqb-false (slice_index b n) 62 isnt (at-same b n (k + 1) 62 (sym at) end.second)
        | inr isnt ↦ eqb-false (slice_index b (n - 1)) 63 isnt (at-same b (n - 1) k 63 (omega arith) end.first)
      ]
    ]

declaration-goes : (b : List ℕ) (n : ℕ) → IsDeclarationFront b n → (n < 5 → slice_index b n ≡ declared_byte n) → (n ≡ 5 → is_white (slice_index b n) ≡ true) → (6 ≤ n → ends_declaration b n ≡ false) → IsDeclarationFront b (n + 1)
declaration-goes b n front byte white unended = record {
  behind = omega (arith, front.behind);
  less = front.less;
  mark = front.mark;
  x = step_field 2 n (λ i. slice_index b i ≡ declared_byte i) front.x (λ e. byte (omega arith));
  m = step_field 3 n (λ i. slice_index b i ≡ declared_byte i) front.m (λ e. byte (omega arith));
  l = step_field 4 n (λ i. slice_index b i ≡ declared_byte i) front.l (λ e. byte (omega arith));
  white = step_field 5 n (λ i. is_white (slice_index b i) ≡ true) front.white white;
  nearest = λ k low lt end. elim (cases_lt (k + 1) n) [
    | inl before ↦ front.nearest k low before end
    | inr after ↦ declaration-not b n k (unended (omega arith)) low (omega arith) end
  ];
}

abbrev pub PhaseLeads : List ℕ → ℕ → ℕ → List Open → Option Phase → Type 0
PhaseLeads b most n opens None = Unit {0}
PhaseLeads b most n opens (Some next) = Reached b most next opens None (n + 1)

pub each-le : {b : List ℕ} {p : ℕ → Bool} {i j : ℕ} → Each b p i j → i ≤ j
each-le Each.none = omega arith
each-le (Each.more each e) = omega (arith, each-le each)

pub tag-of : {b : List ℕ} {most : ℕ} (top : Open) (rest : List Open) (l n : ℕ) → IsTagged b most top rest l → IsWhite b l n → IsStartTag b top.at top.name top.attributes n
tag-of top rest l n tagged white = record { less = tagged.less; name_from = tagged.name_from; named = tagged.named; end = l; listed = tagged.listed; white = white }

module _ (b : List ℕ) (most n : ℕ) (within : n < length b) where
  pub sound-outside : (root : Option Node) → Upto b most [] root n → Good b most n [] root (in_outside (slice_index b n))
  sound-outside root upto =
      cond_both _ _ _ (Good b most n [] root) (λ e. Reached.outside (upto-white upto e))
      (λ _. cond_both _ _ _ (Good b most n [] root) (λ e. Reached.markup upto (eqb-true (slice_index b n) 60 e)) (λ _. tt))

  after-leads : (stop from place : ℕ) (text : List ℕ) → IsCharacters b stop from place text → place < n → (p : Progress) → progress_of (slice_range b place (n + 1)) ≡ p → RunLeads b n stop from (after_reference from place p)
  after-leads stop from place text chars lt (progress.Whole value) e =
      (refl, IsRun.whole (IsCharacters.reference chars (omega arith) (whole-reference _ value e)))
  after-leads stop from place text chars lt progress.Partial e = (refl, IsRun.partial chars (omega arith) e)
  after-leads stop from place text chars lt progress.Wrong e = tt

  pub sound-whole : (stop from : ℕ) (text : List ℕ) → IsCharacters b stop from n text → (slice_index b n ≡ stop → ⊥) → RunLeads b n stop from (run_after b n from None)
  sound-whole stop from text chars other =
      cond_both (slice_index b n == 60) None (cond (slice_index b n == 38) (Some (record { from = from; reference = Some n })) (Some (fresh_run from))) (RunLeads b n stop from) (λ _. tt)
      (λ less. cond_both (slice_index b n == 38) (Some (record { from = from; reference = Some n })) (Some (fresh_run from)) (RunLeads b n stop from)
      (λ e. (refl, IsRun.partial chars (omega arith) (ampersand b n within (eqb-true (slice_index b n) 38 e))))
      (λ amp. (refl, IsRun.whole (IsCharacters.plain chars within (eqb-false (slice_index b n) 60 less) other (eqb-false (slice_index b n) 38 amp)))))

  run-goes : (opens : List Open) (root : Option Node) (stop from : ℕ) (wrap : Run → Act) (o : Option Run) → RunLeads b n stop from o → ((run : Run) → run.from ≡ from → IsRun b stop run.from run.reference (n + 1) → Good b most n opens root (Some (wrap run))) → Good b most n opens root (option_map wrap o)
  run-goes opens root stop from wrap None leads f = tt
  run-goes opens root stop from wrap (Some run) leads f = f run leads.0 leads.1

  module _ {at j : ℕ} {name : Part} {attributes : List (Part × Part)} {children : List Node} {rest : List Open} (deep : length rest < most) (tag : IsStartTag b at name attributes j) (ends : slice_index b j ≡ 62) (outer : Upto b most rest None at) where
    text-goes : (from : ℕ) → ArePieces b most (length rest + 1) (j + 1) from children → (o : Option Run) → RunLeads b n 60 from o → Good b most n (open_of at name attributes children ∷ rest) None (option_map (λ run. act.Go (phase.Text run)) o)
    text-goes from pieces o leads =
        run-goes (open_of at name attributes children ∷ rest) None 60 from (λ run. act.Go (phase.Text run)) o leads
        (λ run e r. Reached.text deep tag ends (subst (λ x. ArePieces b most (length rest + 1) (j + 1) x children) (sym e) pieces) r outer)

    pub sound-text : (from : ℕ) (reference : Option ℕ) → ArePieces b most (length rest + 1) (j + 1) from children → IsRun b 60 from reference n → Good b most n (open_of at name attributes children ∷ rest) None (in_text b n from reference)
    sound-text from None pieces (IsRun.whole chars) =
        cond_both (slice_index b n == 60) (Some (act.Cut from)) (option_map (λ run. act.Go (phase.Text run)) (run_after b n from None)) (Good b most n (open_of at name attributes children ∷ rest) None)
        (λ e. Reached.markup (Upto.inside deep tag ends pieces chars outer) (eqb-true (slice_index b n) 60 e))
        (λ ne. text-goes from pieces _ (sound-whole 60 from _ chars (eqb-false (slice_index b n) 60 ne)))
    sound-text from (Some place) pieces (IsRun.partial chars lt p) = text-goes from pieces _ (after-leads 60 from place _ chars lt _ refl)

  pub sound-comment : (opens : List Open) (root : Option Node) (from : ℕ) → Upto b most opens root from → IsCommentFront b from n → Good b most n opens root (in_comment b n from (between opens (n + 1)))
  sound-comment opens root from upto front =
      cond_both (nat_lt n (from + 4)) _ _ (Good b most n opens root)
      (λ e. let early : n < from + 4 = ltb-true n (from + 4) e in
      cond_both (slice_index b n == 45) _ _ (Good b most n opens root)
      (λ d. Reached.comment upto (comment-goes b n from front (λ late. absurd (omega arith)) (λ _. eqb-true (slice_index b n) 45 d))) (λ _. tt))
      (λ e. let late : from + 4 ≤ n = ltb-false n (from + 4) e in
      cond_both (ends_comment b n from) _ _ (Good b most n opens root)
      (λ d. after-comment upto (comment-ends b n from front late d))
      (λ d. Reached.comment upto (comment-goes b n from front (λ _. d) (λ early. absurd (omega arith)))))

  pub sound-declaration : IsDeclarationFront b n → Good b most n [] None (in_declaration b n)
  sound-declaration front =
      cond_both (nat_lt n 5) _ _ (Good b most n [] None)
      (λ e. let early : n < 5 = ltb-true n 5 e in
      cond_both (slice_index b n == declared_byte n) _ _ (Good b most n [] None)
      (λ d. Reached.declaration (declaration-goes b n front (λ _. eqb-true (slice_index b n) (declared_byte n) d) (λ five. absurd (omega arith)) (λ late. absurd (omega arith)))) (λ _. tt))
      (λ e. let late : 5 ≤ n = ltb-false n 5 e in
      cond_both (n == 5) _ _ (Good b most n [] None)
      (λ five. let at : n ≡ 5 = eqb-true n 5 five in
      cond_both (is_white (slice_index b n)) _ _ (Good b most n [] None)
      (λ w. Reached.declaration (declaration-goes b n front (λ early. absurd (omega arith)) (λ _. w) (λ more. absurd (omega arith)))) (λ _. tt))
      (λ six. let other : n ≡ 5 → ⊥ = eqb-false n 5 six in
      cond_both (ends_declaration b n) _ _ (Good b most n [] None)
      (λ d. Reached.outside (Upto.before (record { end = n + 1; declared = inr (declaration-ends b n front d); blank = IsBlank.none })))
      (λ d. Reached.declaration (declaration-goes b n front (λ early. absurd (omega arith)) (λ at. absurd (other at)) (λ _. d)))))

  pub tag-end : (top : Open) (rest : List Open) (l : ℕ) → IsTagged b most top rest l → IsWhite b l n → PhaseLeads b most n (top ∷ rest) (in_tag_end n (slice_index b n))
  tag-end top rest l tagged white =
      cond_both (is_white (slice_index b n)) _ _ (PhaseLeads b most n (top ∷ rest))
      (λ e. let long : l ≤ n = each-le white in Reached.tag tagged (Each.more white e) (omega arith))
      (λ _. cond_both (slice_index b n == 47) _ _ (PhaseLeads b most n (top ∷ rest))
      (λ e. Reached.slash tagged white (eqb-true (slice_index b n) 47 e))
      (λ _. cond_both (slice_index b n == 62) _ _ (PhaseLeads b most n (top ∷ rest))
      (λ e. Reached.text tagged.deep (tag-of top rest l n tagged white) (eqb-true (slice_index b n) 62 e) (subst (ArePieces b most (length rest + 1) (n + 1) (n + 1)) (sym tagged.childless) ArePieces.none) (IsRun.whole IsCharacters.none) tagged.outer)
      (λ _. tt)))

  pub go-next : (opens : List Open) (o : Option Phase) → PhaseLeads b most n opens o → Good b most n opens None (option_map (λ next. act.Go next) o)
  go-next opens None leads = tt
  go-next opens (Some next) leads = leads

  open-next : (at : ℕ) (opens : List Open) (o : Option Phase) → PhaseLeads b most n (opened at n opens) o → Good b most n opens None (option_map (λ next. act.Open at next) o)
  open-next at opens None leads = tt
  open-next at opens (Some next) leads = leads

  pub sound-name : (at : ℕ) (opens : List Open) → length opens < most → slice_index b at ≡ 60 → IsName b (at + 1) n → Upto b most opens None at → Good b most n opens None (in_name n (slice_index b n) (at + 1))
  sound-name at opens deep less named upto =
      cond_both (is_name_byte (slice_index b n)) _ _ (Good b most n opens None)
      (λ e. Reached.name deep less (record { start = named.start; rest = Each.more named.rest e }) upto)
      (λ _. open-next (at + 1) opens _ (tag-end (open_of (at + 1 - 1) (part_of (at + 1) n) [] []) opens n
      (subst (λ x. IsTagged b most (open_of x (part_of (at + 1) n) [] []) opens n) (let e : at ≡ at + 1 - 1 = omega arith in e)
      (record { deep = deep; less = less; name_from = refl; named = named; listed = AreAttributes.none; childless = refl; outer = upto })) Each.none))

  pub sound-tag : (top : Open) (rest : List Open) (l : ℕ) → IsTagged b most top rest l → IsWhite b l n → l < n → Good b most n (top ∷ rest) None (in_tag n (slice_index b n))
  sound-tag top rest l tagged white lt =
      cond_both (is_name_start (slice_index b n)) _ _ (Good b most n (top ∷ rest) None)
      (λ e. Reached.attribute tagged white lt (record { start = e; rest = Each.none }))
      (λ _. go-next (top ∷ rest) _ (tag-end top rest l tagged white))

  pub sound-attribute : (top : Open) (rest : List Open) (l from : ℕ) → IsTagged b most top rest l → IsWhite b l from → l < from → IsName b from n → Good b most n (top ∷ rest) None (in_attribute b n top.attributes from)
  sound-attribute top rest l from tagged white lt named =
      cond_both (is_name_byte (slice_index b n)) _ _ (Good b most n (top ∷ rest) None)
      (λ e. Reached.attribute tagged white lt (record { start = named.start; rest = Each.more named.rest e }))
      (λ _. cond_both (is_taken b top.attributes from n) _ _ (Good b most n (top ∷ rest) None) (λ _. tt)
      (λ new. let is_name : IsAttributeName b top.attributes l (part_of from n) = record { white = white; some = lt; named = named; new = new } in
      cond_both (is_white (slice_index b n)) _ _ (Good b most n (top ∷ rest) None)
      (λ e. Reached.equals tagged is_name (Each.more Each.none e))
      (λ _. cond_both (slice_index b n == 61) _ _ (Good b most n (top ∷ rest) None)
      (λ e. Reached.quote tagged is_name Each.none (eqb-true (slice_index b n) 61 e) Each.none) (λ _. tt))))

  pub sound-equals : (top : Open) (rest : List Open) (l : ℕ) (name : Part) → IsTagged b most top rest l → IsAttributeName b top.attributes l name → IsWhite b name.to n → Good b most n (top ∷ rest) None (in_equals (slice_index b n) name)
  sound-equals top rest l name tagged is_name white =
      cond_both (is_white (slice_index b n)) _ _ (Good b most n (top ∷ rest) None)
      (λ e. Reached.equals tagged is_name (Each.more white e))
      (λ _. cond_both (slice_index b n == 61) _ _ (Good b most n (top ∷ rest) None)
      (λ e. Reached.quote tagged is_name white (eqb-true (slice_index b n) 61 e) Each.none) (λ _. tt))

  quote_is : slice_index b n == 34 || slice_index b n == 39 ≡ true → (slice_index b n ≡ 34) ⊎ (slice_index b n ≡ 39)
  quote_is e = elim (or_cases (slice_index b n == 34) (slice_index b n == 39) e) [ inl x ↦ inl (eqb-true (slice_index b n) 34 x) | inr x ↦ inr (eqb-true (slice_index b n) 39 x) ]

  pub sound-quote : (top : Open) (rest : List Open) (l e : ℕ) (name : Part) → IsTagged b most top rest l → IsAttributeName b top.attributes l name → IsWhite b name.to e → slice_index b e ≡ 61 → IsWhite b (e + 1) n → Good b most n (top ∷ rest) None (in_quote n (slice_index b n) name)
  sound-quote top rest l e name tagged is_name before equals white =
      cond_both (is_white (slice_index b n)) _ _ (Good b most n (top ∷ rest) None)
      (λ w. Reached.quote tagged is_name before equals (Each.more white w))
      (λ _. cond_both (slice_index b n == 34 || slice_index b n == 39) _ _ (Good b most n (top ∷ rest) None)
      (λ q. Reached.value tagged is_name before equals white (quote_is q) refl refl (IsRun.whole IsCharacters.none)) (λ _. tt))

  module _ (top : Open) (rest : List Open) (l e q mark : ℕ) (name : Part) (tagged : IsTagged b most top rest l) (is_name : IsAttributeName b top.attributes l name) (before : IsWhite b name.to e) (equals : slice_index b e ≡ 61) (behind : IsWhite b (e + 1) q) (quotes : (mark ≡ 34) ⊎ (mark ≡ 39)) (opens : slice_index b q ≡ mark) where
    value-goes : (from : ℕ) → from ≡ q + 1 → (o : Option Run) → RunLeads b n mark from o → Good b most n (top ∷ rest) None (option_map (λ run. act.Go (phase.Value name mark run)) o)
    value-goes from at o leads =
        run-goes (top ∷ rest) None mark from (λ run. act.Go (phase.Value name mark run)) o leads
        (λ run f r. Reached.value tagged is_name before equals behind quotes opens (f ∙ at) r)

    value-ends : (from : ℕ) (text : List ℕ) → from ≡ q + 1 → IsCharacters b mark from n text → slice_index b n ≡ mark → IsTagged b most (open_of top.at top.name (top.attributes ++ (name, part_of from n) ∷ []) top.children) rest (n + 1)
    value-ends from text at chars closes = record {
      deep = tagged.deep;
      less = tagged.less;
      name_from = tagged.name_from;
      named = tagged.named;
      listed = AreAttributes.more tagged.listed (record {
        white = is_name.white;
        some = is_name.some;
        named = is_name.named;
        new = is_name.new;
        equals = e;
        before_equals = before;
        equals_is = equals;
        quote = q;
        after_equals = behind;
        quote_is = elim quotes [ inl x ↦ inl (opens ∙ x) | inr x ↦ inr (opens ∙ x) ];
        value_from = at;
        text = text;
        characters = subst (λ x. IsCharacters b x from n text) (sym opens) chars;
        closed = closes ∙ sym opens;
        whole = refl;
      });
      childless = tagged.childless;
      outer = tagged.outer;
    }

    pub sound-value : (from : ℕ) (reference : Option ℕ) → from ≡ q + 1 → IsRun b mark from reference n → Good b most n (top ∷ rest) None (in_value b n name mark from reference)
    sound-value from None at (IsRun.whole chars) =
        cond_both (slice_index b n == mark) _ _ (Good b most n (top ∷ rest) None)
        (λ c. Reached.value_end (value-ends from _ at chars (eqb-true (slice_index b n) mark c)))
        (λ c. value-goes from at _ (sound-whole mark from _ chars (eqb-false (slice_index b n) mark c)))
    sound-value from (Some place) at (IsRun.partial chars lt p) = value-goes from at _ (after-leads mark from place _ chars lt _ refl)
