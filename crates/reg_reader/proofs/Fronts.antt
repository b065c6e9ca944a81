-- What the run reaches is a front, and what is too deep at one limit is not at another.
use Rattle.std.proofs.Common.{◌≡◌, ℕ, ◌+◌, ◌-◌, ◌<◌, ◌≤◌, ◌⊎◌, inl, inr, Bool, true, false, ◌&&◌, ◌||◌, cond, List, [], ◌∷◌, ◌++◌, length, take, Option, Some, None, is_some, refl, sym, ap, subst, ◌∙◌, arith, length-take}
use Rattle.std.specs.Prelude.{slice_index, slice_range, Err, nat_lt, nat_le, ◌==◌}
use Rattle.std.specs.Option.{option_map}
use Rattle.std.proofs.lemmas.Bool.{cond_both, cond-true, lt-ltb}
use Rattle.vkb_bytes.specs.Bytes.{is_white}
use Rattle.reg_reader.specs.Bounds.{IsWithin}
use Rattle.reg_reader.specs.Markup.{IsFrontWithin, IsFront, is_name_byte, is_name_start, is_taken}
use Rattle.reg_reader.specs.References.{progress_of}
use Rattle.reg_reader.specs.Machine.{State, Move, Next, Bad, Deep, run_after, in_text, between, in_comment, declared_byte, in_declaration, in_tag_end, in_attribute, in_equals, in_quote, in_value, in_end_white, in_end_name, top_attributes, top_name, move_of, step, run}
use Rattle.reg_reader.specs.Reading.{IsRead}
use Rattle.reg_reader.specs.declared.markup.Part.{Part}
use Rattle.reg_reader.specs.declared.markup.Node.{Node}
use Rattle.reg_reader.specs.declared.markup.MarkupFault.TheVariants as fault
use Rattle.reg_reader.specs.declared.phase.Phase.{Phase}
use Rattle.reg_reader.specs.declared.phase.Phase.TheVariants as phase
use Rattle.reg_reader.specs.declared.phase.Act.{Act}
use Rattle.reg_reader.specs.declared.phase.Act.TheVariants as act
use Rattle.reg_reader.specs.declared.reader.Open.{Open}
use Rattle.reg_reader.proofs.Reached.{open_of, Upto, IsRun, Reached}
use Rattle.reg_reader.proofs.Sound.{each-le}
use Rattle.reg_reader.proofs.Tokens.{state}
use Rattle.reg_reader.proofs.Complete.{text_state, value_state, text-carries, value-carries}
use Rattle.reg_reader.proofs.Running.{run-reached, run-within, run-next}
use Rattle.reg_reader.proofs.WithinLemmas.{opens-more}
use Rattle.reg_reader.proofs.Agree.{agree-front, run-agree, run-more}
use Rattle.reg_reader.proofs.Outcomes.{deep-behind}
use Rattle.reg_reader.proofs.Endings.{Ends, ends-front, append-nil, AllOpen, ends-open, ends-markup, markup-root, markup-comment, ends-slash, ends-end-white, ends-end-name, ends-tag, ends-value-end, ends-name, close-mark, ends-quote, ends-equals, ends-attribute, ends-partial, ends-comment, ends-outside, ends-between, ends-declaration}

-- the root isn't there while elements are open
rootless : {b : List ℕ} {most n : ℕ} {opens : List Open} {root : Option Node} → Upto b most opens root n → (length opens ≡ 0) ⊎ (root ≡ None)
rootless (Upto.before head) = inr refl
rootless (Upto.after head element blank) = inl refl
rootless (Upto.inside deep tag ends pieces chars outer) = inr refl

module _ (most : ℕ) (deep : 0 < most) (p : List ℕ) where
  markup-ends : {opens : List Open} {root : Option Node} {k : ℕ} → 1 ≤ length p → Upto p most opens root k → AllOpen (length p) opens → Ends most p (state phase.Markup opens root)
  markup-ends low (Upto.before head) within = markup-root most deep p
  markup-ends low (Upto.after {root = root} head element blank) within = markup-comment most [] (Some root) p low (λ q le. Ends.done)
  markup-ends low (Upto.inside {at = at} {k = k} {n = n} {name = name} {attributes = attributes} {children = children} {rest = rest} inner tag ends pieces chars outer) within = ends-markup most _ rest p within

  reached-ends : {n : ℕ} {does : Phase} {opens : List Open} {root : Option Node} → n ≡ length p → Reached p most does opens root n → IsWithin (length p) (state does opens root) → Ends most p (state does opens root)
  reached-ends e (Reached.outside {root = root} upto) within = ends-outside most deep root p
  reached-ends e (Reached.text {at = at} {from = from} {name = name} {attributes = attributes} {children = children} {rest = rest} inner tag ends pieces (IsRun.whole chars) outer) within =
      ends-open most (open_of at name attributes children) rest from p within.opens
  reached-ends e (Reached.text {at = at} {from = from} {name = name} {attributes = attributes} {children = children} {rest = rest} inner tag ends pieces (IsRun.partial {place = place} chars lt partly) outer) within =
      let opens : List Open = open_of at name attributes children ∷ rest in
      ends-partial most 60 from (text_state opens from) (λ b. text-carries most b opens from) place p (omega arith) (ap (λ x. progress_of (slice_range p place x)) (sym e) ∙ partly)
      (λ q le. ends-open most (open_of at name attributes children) rest from q (opens-more (length p) (length q) le opens within.opens))
  reached-ends e (Reached.markup upto less) within = markup-ends (omega arith) upto within.opens
  reached-ends e (Reached.comment {from = from} {opens = opens} {root = root} upto front) within =
      ends-comment most opens root from p (omega (arith, front.behind)) (λ q le. ends-between most deep opens root (length p) q within.opens (rootless upto) le)
  reached-ends e (Reached.declaration front) within = ends-declaration most deep 5 p (omega arith)
  reached-ends e (Reached.name {at = at} {opens = opens} inner less named upto) within = ends-name most (at + 1) opens p (omega (arith, each-le named.rest)) within.opens
  reached-ends e (Reached.tag {top = top} {rest = rest} tagged white some) within = ends-tag most top rest p within.opens
  reached-ends e (Reached.attribute {from = from} {top = top} {rest = rest} tagged white some named) within =
      ends-attribute most top rest (length p + 1) (length p) from p (omega arith) within.phase (omega arith) within.opens
  reached-ends e (Reached.equals {name = name} {top = top} {rest = rest} tagged is_name white) within = ends-equals most top rest name p within.phase.0 within.phase.1 within.opens
  reached-ends e (Reached.quote {name = name} {top = top} {rest = rest} tagged is_name before equals white) within = ends-quote most top rest name p within.phase.0 within.phase.1 within.opens
  reached-ends e (Reached.value {from = from} {mark = mark} {name = name} {top = top} {rest = rest} tagged is_name before equals behind quotes opens at (IsRun.whole chars)) within =
      close-mark most top rest name mark from p within.phase.0 within.phase.1 within.opens
  reached-ends e (Reached.value {from = from} {mark = mark} {name = name} {top = top} {rest = rest} tagged is_name before equals behind quotes opens at (IsRun.partial {place = place} chars lt partly)) within =
      ends-partial most mark from (value_state (top ∷ rest) name mark from) (λ b. value-carries most b (top ∷ rest) name mark from quotes) place p (omega arith) (ap (λ x. progress_of (slice_range p place x)) (sym e) ∙ partly)
      (λ q le. close-mark most top rest name mark from q within.phase.0 (omega (arith, within.phase.1)) (opens-more (length p) (length q) le (top ∷ rest) within.opens))
  reached-ends e (Reached.value_end {top = top} {rest = rest} tagged) within = ends-value-end most top rest p within.opens
  reached-ends e (Reached.slash {top = top} {rest = rest} tagged white slash) within = ends-slash most top rest p within.opens
  reached-ends e (Reached.end_name {k = k} {top = top} {rest = rest} upto less slash copy le) within = ends-end-name most top rest (k + 2) p within.phase within.opens
  reached-ends e (Reached.end_white {top = top} {rest = rest} upto less slash copy white) within = ends-end-white most top rest p within.opens

  whole-front : (s : State) → run most p (length p) ≡ Next s → IsFrontWithin most p
  whole-front s here =
      ends-front most p s (reached-ends refl (run-reached most p (length p) s (omega arith) here) (run-within most p (length p) s (omega arith) here)) here

-- what the run reaches is a front
pub run-front : (most : ℕ) → 0 < most → (b : List ℕ) (n : ℕ) (s : State) → n ≤ length b → run most b n ≡ Next s → IsFrontWithin most (take n b)
run-front most deep b n s le here =
    let long : length (take n b) ≡ n = omega (arith, length-take n b) in
    let same = run-agree most b (take n b ++ []) n (agree-front b [] n le) le in
    whole-front most deep (take n b) s
    (ap (run most (take n b)) long ∙ ap (λ x. run most x n) (sym (append-nil (take n b))) ∙ sym same ∙ here)

-- ---- what is too deep

never : {P : Type 0} {s : State} → Next s ≡ Deep → P
never e = cc

bad-never : {P : Type 0} → Bad ≡ Deep → P
bad-never e = cc

module _ (n : ℕ) (opens : List Open) (root : Option Node) where
  abbrev Shallow : Option Act → Type 0
  Shallow a = move_of n opens root a ≡ Deep → ⊥

  none-shallow : Shallow None
  none-shallow = bad-never

  map-shallow : {A : Type 0} (f : A → Act) → ((x : A) → Shallow (Some (f x))) → (o : Option A) → Shallow (option_map f o)
  map-shallow f h None = bad-never
  map-shallow f h (Some x) = h x

  tag-end-shallow : (wrap : Phase → Act) → ((x : Phase) → Shallow (Some (wrap x))) → (c : ℕ) → Shallow (option_map wrap (in_tag_end n c))
  tag-end-shallow wrap h c = map-shallow wrap h (in_tag_end n c)

  end-white-shallow : (c : ℕ) → Shallow (in_end_white c)
  end-white-shallow c = cond_both (is_white c) _ _ Shallow (λ _. never) (λ _. cond_both (c == 62) _ _ Shallow (λ _. never) (λ _. bad-never))

  text-shallow : (b : List ℕ) (from : ℕ) (reference : Option ℕ) → Shallow (in_text b n from reference)
  text-shallow b from None =
      cond_both (slice_index b n == 60) (Some (act.Cut from)) (option_map (λ run. act.Go (phase.Text run)) (run_after b n from None)) Shallow (λ _. never)
      (λ _. map-shallow (λ run. act.Go (phase.Text run)) (λ run. never) (run_after b n from None))
  text-shallow b from (Some place) = map-shallow (λ run. act.Go (phase.Text run)) (λ run. never) (run_after b n from (Some place))

  value-shallow : (b : List ℕ) (name : Part) (quote from : ℕ) (reference : Option ℕ) → Shallow (in_value b n name quote from reference)
  value-shallow b name quote from None =
      cond_both (slice_index b n == quote) (Some (act.Attribute name from)) (option_map (λ run. act.Go (phase.Value name quote run)) (run_after b n from None)) Shallow (λ _. never)
      (λ _. map-shallow (λ run. act.Go (phase.Value name quote run)) (λ run. never) (run_after b n from None))
  value-shallow b name quote from (Some place) = map-shallow (λ run. act.Go (phase.Value name quote run)) (λ run. never) (run_after b n from (Some place))

  comment-shallow : (b : List ℕ) (from : ℕ) (next : Phase) → Shallow (in_comment b n from next)
  comment-shallow b from next =
      cond_both (nat_lt n (from + 4)) _ _ Shallow (λ _. cond_both (slice_index b n == 45) _ _ Shallow (λ _. never) (λ _. bad-never))
      (λ _. cond_both (nat_le (from + 6) n && (slice_index b n == 62 && (slice_index b (n - 1) == 45 && slice_index b (n - 2) == 45))) _ _ Shallow (λ _. never) (λ _. never))

  declaration-shallow : (b : List ℕ) → Shallow (in_declaration b n)
  declaration-shallow b =
      cond_both (nat_lt n 5) _ _ Shallow (λ _. cond_both (slice_index b n == declared_byte n) _ _ Shallow (λ _. never) (λ _. bad-never))
      (λ _. cond_both (n == 5) _ _ Shallow (λ _. cond_both (is_white (slice_index b n)) _ _ Shallow (λ _. never) (λ _. bad-never))
      (λ _. cond_both (nat_le 7 n && (slice_index b n == 62 && slice_index b (n - 1) == 63)) _ _ Shallow (λ _. never) (λ _. never)))

  attribute-shallow : (b : List ℕ) (attributes : List (Part × Part)) (from : ℕ) → Shallow (in_attribute b n attributes from)
  attribute-shallow b attributes from =
      cond_both (is_name_byte (slice_index b n)) _ _ Shallow (λ _. never)
      (λ _. cond_both (is_taken b attributes from n) _ _ Shallow (λ _. bad-never)
      (λ _. cond_both (is_white (slice_index b n)) _ _ Shallow (λ _. never)
      (λ _. cond_both (slice_index b n == 61) _ _ Shallow (λ _. never) (λ _. bad-never))))

  equals-shallow : (c : ℕ) (name : Part) → Shallow (in_equals c name)
  equals-shallow c name = cond_both (is_white c) _ _ Shallow (λ _. never) (λ _. cond_both (c == 61) _ _ Shallow (λ _. never) (λ _. bad-never))

  quote-shallow : (c : ℕ) (name : Part) → Shallow (in_quote n c name)
  quote-shallow c name = cond_both (is_white c) _ _ Shallow (λ _. never) (λ _. cond_both (c == 34 || c == 39) _ _ Shallow (λ _. never) (λ _. bad-never))

  end-name-shallow : (b : List ℕ) (name : Part) (from : ℕ) → Shallow (in_end_name b n name from)
  end-name-shallow b name from =
      cond_both (nat_lt (name.from + (n - from)) name.to) _ _ Shallow
      (λ _. cond_both (slice_index b n == slice_index b (name.from + (n - from))) _ _ Shallow (λ _. never) (λ _. bad-never))
      (λ _. end-white-shallow (slice_index b n))

-- a deeper limit takes what is too deep
record Deeper (most : ℕ) (b : List ℕ) (n : ℕ) (s : State) : Type 0 where
  limit : ℕ
  le : most ≤ limit
  next : State
  steps : step limit b n s ≡ Next next

deeper-choice : (first second third : Bool) (a r : Option Act) (x y : Option Act) (f : Option Act → Move) (next : State) → (f a ≡ Deep → ⊥) → (f None ≡ Deep → ⊥) → (f r ≡ Deep → ⊥) → f y ≡ Next next → f (cond first a (cond second None (cond third x r))) ≡ Deep → f (cond first a (cond second None (cond third y r))) ≡ Next next
deeper-choice true second third a r x y f next ha hn hr hy e = absurd (ha e)
deeper-choice false true third a r x y f next ha hn hr hy e = absurd (hn e)
deeper-choice false false true a r x y f next ha hn hr hy e = hy
deeper-choice false false false a r x y f next ha hn hr hy e = absurd (hr e)

module _ (most : ℕ) (b : List ℕ) (n : ℕ) where
  deeper-markup : (opens : List Open) (root : Option Node) → step most b n (state phase.Markup opens root) ≡ Deep → Deeper most b n (state phase.Markup opens root)
  deeper-markup opens root e =
      let limit : ℕ = most + length opens + 1 in
      record {
        limit = most + length opens + 1;
        le = omega arith;
        next = state (phase.Name n) opens root;
        steps = deeper-choice (slice_index b n == 33) (is_some root) (is_name_start (slice_index b n)) _ _ _ _ (move_of n opens root) (state (phase.Name n) opens root) never bad-never
            (cond_both (nat_lt 0 (length opens)) _ _ (Shallow n opens root)
            (λ _. cond_both (slice_index b n == 47) _ _ (Shallow n opens root) (λ _. never) (λ _. bad-never))
            (λ _. cond_both (slice_index b n == 63 && n == 1) _ _ (Shallow n opens root) (λ _. never) (λ _. bad-never)))
            (ap (move_of n opens root) (cond-true (nat_lt (length opens) (most + length opens + 1)) _ _ (lt-ltb (length opens) (most + length opens + 1) (omega arith))))
            e;
      }

  deeper-in : (does : Phase) (opens : List Open) (root : Option Node) → step most b n (state does opens root) ≡ Deep → Deeper most b n (state does opens root)
  deeper-in phase.Outside opens root e = absurd (cond_both (is_white (slice_index b n)) _ _ (Shallow n opens root) (λ _. never) (λ _. cond_both (slice_index b n == 60) _ _ (Shallow n opens root) (λ _. never) (λ _. bad-never)) e)
  deeper-in (phase.Text run) opens root e = absurd (text-shallow n opens root b run.from run.reference e)
  deeper-in phase.Markup opens root e = deeper-markup opens root e
  deeper-in (phase.Comment from) opens root e = absurd (comment-shallow n opens root b from (between opens (n + 1)) e)
  deeper-in phase.Declaration opens root e = absurd (declaration-shallow n opens root b e)
  deeper-in (phase.Name from) opens root e = absurd (cond_both (is_name_byte (slice_index b n)) _ _ (Shallow n opens root) (λ _. never) (λ _. tag-end-shallow n opens root (λ next. act.Open from next) (λ x. never) (slice_index b n)) e)
  deeper-in phase.Tag opens root e = absurd (cond_both (is_name_start (slice_index b n)) _ _ (Shallow n opens root) (λ _. never) (λ _. tag-end-shallow n opens root (λ next. act.Go next) (λ x. never) (slice_index b n)) e)
  deeper-in (phase.Attribute from) opens root e = absurd (attribute-shallow n opens root b (top_attributes opens) from e)
  deeper-in (phase.Equals name) opens root e = absurd (equals-shallow n opens root (slice_index b n) name e)
  deeper-in (phase.Quote name) opens root e = absurd (quote-shallow n opens root (slice_index b n) name e)
  deeper-in (phase.Value name quote run) opens root e = absurd (value-shallow n opens root b name quote run.from run.reference e)
  deeper-in phase.ValueEnd opens root e = absurd (tag-end-shallow n opens root (λ next. act.Go next) (λ x. never) (slice_index b n) e)
  deeper-in phase.Slash opens root e = absurd (cond_both (slice_index b n == 62) _ _ (Shallow n opens root) (λ _. never) (λ _. bad-never) e)
  deeper-in (phase.EndName from) opens root e = absurd (end-name-shallow n opens root b (top_name opens) from e)
  deeper-in phase.EndWhite opens root e = absurd (end-white-shallow n opens root (slice_index b n) e)

-- ---- the two faults

pub bad-front : (b : List ℕ) (at : ℕ) → IsRead b (Err (fault.BadMarkup at)) → IsFrontWithin 32 (take at b)
bad-front b at read = run-front 32 (omega arith) b at read.1.0 read.0 read.1.1

pub deep-shallow : (b : List ℕ) (at : ℕ) → IsRead b (Err (fault.TooDeep at)) → IsFrontWithin 32 (take (at + 1) b)
deep-shallow b at read =
    let low : 1 ≤ read.0 = deep-behind b read.0 read.3.0 read.3.1 read.3.2 in
    subst (λ x. IsFrontWithin 32 (take x b)) (let e : read.0 ≡ at + 1 = omega (arith, read.2) in e)
    (run-front 32 (omega arith) b read.0 read.3.0 (omega (arith, read.1)) read.3.1)

pub deep-front : (b : List ℕ) (at : ℕ) → IsRead b (Err (fault.TooDeep at)) → IsFront (take (at + 2) b)
deep-front b at read =
    let low : 1 ≤ read.0 = deep-behind b read.0 read.3.0 read.3.1 read.3.2 in
    let deeper = deeper-in 32 b read.0 read.3.0.phase read.3.0.opens read.3.0.root read.3.2 in
    let here = run-more 32 deeper.limit deeper.le b read.0 read.3.0 read.3.1 in (
      deeper.limit,
      subst (λ x. IsFrontWithin deeper.limit (take x b)) (let e : read.0 + 1 ≡ at + 2 = omega (arith, read.2) in e)
          (run-front deeper.limit (omega (arith, deeper.le)) b (read.0 + 1) deeper.next (omega (arith, read.1)) (run-next deeper.limit b read.0 read.3.0 here ∙ deeper.steps)),
    )
