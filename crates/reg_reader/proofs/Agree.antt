-- A step reads no byte behind its own, and a deeper limit changes nothing but what is too deep.
use Rattle.std.proofs.Common.{◌≡◌, ℕ, zero, suc, ◌+◌, ◌-◌, ◌<◌, ◌≤◌, inl, inr, Bool, true, false, ◌||◌, cond, List, [], ◌∷◌, ◌++◌, length, take, drop, Option, Some, None, is_some, refl, sym, ap, ◌∙◌, arith, length-take}
use Rattle.std.specs.Prelude.{slice_index, slice_range, nat_lt, ◌==◌, if◌then◌else◌}
use Rattle.std.specs.Option.{option_map}
use Rattle.std.specs.List.{AllByRecursion}
use Rattle.std.specs.Str.{bytes_eq}
use Rattle.std.proofs.lemmas.List.{take-take, take-append-le, drop-take, get_or_append_left, get_or-take}
use Rattle.std.proofs.lemmas.Bool.{cond-true, cond-false, cond_both, ltb-true, lt-ltb, cases_lt}
use Rattle.reg_reader.specs.Within.{AreWithin}
use Rattle.reg_reader.specs.Bounds.{IsPhaseWithin, IsOpenWithin, IsWithin}
use Rattle.reg_reader.specs.Markup.{is_taken, is_name_start}
use Rattle.reg_reader.specs.References.{progress_of}
use Rattle.reg_reader.specs.Machine.{State, Move, Next, Bad, Deep, go, after_reference, in_text, in_markup, in_attribute, in_value, in_end_name, in_end_white, top_attributes, top_name, act_in, move_of, step, run, then_step}
use Rattle.reg_reader.specs.declared.markup.Part.{Part}
use Rattle.reg_reader.specs.declared.markup.Node.{Node}
use Rattle.reg_reader.specs.declared.phase.Phase.{Phase}
use Rattle.reg_reader.specs.declared.phase.Phase.TheVariants as phase
use Rattle.reg_reader.specs.declared.phase.Act.{Act}
use Rattle.reg_reader.specs.declared.phase.Act.TheVariants as act
use Rattle.reg_reader.specs.declared.reader.Open.{Open}
use Rattle.reg_reader.proofs.Running.{run-within}

-- two texts have the same bytes before a place
pub record Agree (b d : List ℕ) (m : ℕ) : Type 0 where
  pub at : (k : ℕ) → k < m → slice_index b k ≡ slice_index d k
  pub part : (i j : ℕ) → j ≤ m → slice_range b i j ≡ slice_range d i j

range-take : (b : List ℕ) (i j : ℕ) → i ≤ j → slice_range b i j ≡ drop i (take j b)
range-take b i j le =
    sym (drop-take i (j - i) b) ∙ ap (λ k. drop i (take k b)) (let e : i + (j - i) ≡ j = omega arith in e)

range-none : (b : List ℕ) (i j : ℕ) → j ≤ i → slice_range b i j ≡ []
range-none b i j le = ap (λ k. take k (drop i b)) (let e : j - i ≡ 0 = omega arith in e)

take-front : (b rest : List ℕ) (m j : ℕ) → m ≤ length b → j ≤ m → take j (take m b ++ rest) ≡ take j b
take-front b rest m j within le =
    take-append-le j (take m b) rest (omega (arith, length-take m b)) ∙ take-take j m b le

pub agree-front : (b rest : List ℕ) (m : ℕ) → m ≤ length b → Agree b (take m b ++ rest) m
agree-front b rest m within = record {
  at = λ k lt. sym (get_or_append_left (take m b) rest 0 k (omega (arith, length-take m b)) ∙ get_or-take m b k 0 lt);
  part = λ i j le. elim (cases_lt i j) [
    | inl lt ↦ range-take b i j (omega arith) ∙ ap (drop i) (sym (take-front b rest m j within le)) ∙ sym (range-take (take m b ++ rest) i j (omega arith))
    | inr ge ↦ range-none b i j ge ∙ sym (range-none (take m b ++ rest) i j ge)
  ];
}

pub agree-append : (b rest : List ℕ) → Agree b (b ++ rest) (length b)
agree-append b rest = record {
  at = λ k lt. sym (get_or_append_left b rest 0 k lt);
  part = λ i j le. elim (cases_lt i j) [
    | inl lt ↦ range-take b i j (omega arith) ∙ ap (drop i) (sym (take-append-le j b rest le)) ∙ sym (range-take (b ++ rest) i j (omega arith))
    | inr ge ↦ range-none b i j ge ∙ sym (range-none (b ++ rest) i j ge)
  ];
}

pub agree-less : {b d : List ℕ} {m : ℕ} (n : ℕ) → n ≤ m → Agree b d m → Agree b d n
agree-less n le agree = record { at = λ k lt. agree.at k (omega arith); part = λ i j h. agree.part i j (omega arith) }

taken-agree : (b d : List ℕ) (m from to : ℕ) → Agree b d m → to ≤ m → (attributes : List (Part × Part)) → AreWithin m attributes → is_taken b attributes from to ≡ is_taken d attributes from to
taken-agree b d m from to agree le [] h = refl
taken-agree b d m from to agree le (x ∷ xs) h =
    ap (λ y. bytes_eq y (slice_range b from to) || is_taken b xs from to) (agree.part x.0.from x.0.to (omega (arith, h.0.1)))
    ∙ ap (λ y. bytes_eq (slice_range d x.0.from x.0.to) y || is_taken b xs from to) (agree.part from to le)
    ∙ ap (λ y. bytes_eq (slice_range d x.0.from x.0.to) (slice_range d from to) || y) (taken-agree b d m from to agree le xs h.1)

attributes-more : (n m : ℕ) → n ≤ m → (attributes : List (Part × Part)) → AreWithin n attributes → AreWithin m attributes
attributes-more n m le [] h = tt
attributes-more n m le (x ∷ xs) h = ((h.0.0, omega (arith, h.0.1)), attributes-more n m le xs h.1)

top-within : (n : ℕ) (opens : List Open) → AllByRecursion (IsOpenWithin n) opens → AreWithin n (top_attributes opens) × ((top_name opens).to ≤ n)
top-within n [] h = (tt, omega arith)
top-within n (top ∷ rest) h = (h.0.2, h.0.1)

module _ (most : ℕ) (b d : List ℕ) (n : ℕ) (agree : Agree b d (n + 1)) where
  here : slice_index b n ≡ slice_index d n
  here = agree.at n (omega arith)

  before : slice_index b (n - 1) ≡ slice_index d (n - 1)
  before = agree.at (n - 1) (omega arith)

  before_two : slice_index b (n - 2) ≡ slice_index d (n - 2)
  before_two = agree.at (n - 2) (omega arith)

  text-agree : (from : ℕ) (reference : Option ℕ) → in_text b n from reference ≡ in_text d n from reference
  text-agree from None = rw here refl
  text-agree from (Some place) = ap (λ x. option_map (λ run. act.Go (phase.Text run)) (after_reference from place (progress_of x))) (agree.part place (n + 1) (omega arith))

  value-agree : (name : Part) (quote from : ℕ) (reference : Option ℕ) → in_value b n name quote from reference ≡ in_value d n name quote from reference
  value-agree name quote from None = rw here refl
  value-agree name quote from (Some place) = ap (λ x. option_map (λ run. act.Go (phase.Value name quote run)) (after_reference from place (progress_of x))) (agree.part place (n + 1) (omega arith))

  attribute-agree : (attributes : List (Part × Part)) (from : ℕ) → AreWithin n attributes → in_attribute b n attributes from ≡ in_attribute d n attributes from
  attribute-agree attributes from h = rw (here, taken-agree b d (n + 1) from n agree (omega arith) attributes (attributes-more n (n + 1) (omega arith) attributes h)) refl

  end-agree : (name : Part) (from : ℕ) → name.to ≤ n → in_end_name b n name from ≡ in_end_name d n name from
  end-agree name from le =
      cond_both (nat_lt (name.from + (n - from)) name.to)
      (if◌then◌else◌ (slice_index b n == slice_index b (name.from + (n - from))) (go (phase.EndName from)) None) (in_end_white (slice_index b n))
      (λ x. x ≡ in_end_name d n name from)
      (λ e. let lt : name.from + (n - from) < name.to = ltb-true _ name.to e in
      ap (λ x. if◌then◌else◌ (x == slice_index b (name.from + (n - from))) (go (phase.EndName from)) None) here
      ∙ ap (λ x. if◌then◌else◌ (slice_index d n == x) (go (phase.EndName from)) None) (agree.at (name.from + (n - from)) (omega arith))
      ∙ sym (cond-true _ _ _ e))
      (λ e. ap in_end_white here ∙ sym (cond-false _ _ _ e))

  act-agree : (does : Phase) (opens : List Open) (root : Option Node) → IsPhaseWithin n does → AllByRecursion (IsOpenWithin n) opens → act_in most b n opens root does ≡ act_in most d n opens root does
  act-agree phase.Outside opens root h k = rw here refl
  act-agree (phase.Text run) opens root h k = text-agree run.from run.reference
  act-agree phase.Markup opens root h k = ap (λ x. in_markup most n x (length opens) (is_some root)) here
  act-agree (phase.Comment from) opens root h k = rw (here, before, before_two) refl
  act-agree phase.Declaration opens root h k = rw (here, before) refl
  act-agree (phase.Name from) opens root h k = rw here refl
  act-agree phase.Tag opens root h k = rw here refl
  act-agree (phase.Attribute from) opens root h k = attribute-agree (top_attributes opens) from (top-within n opens k).0
  act-agree (phase.Equals name) opens root h k = rw here refl
  act-agree (phase.Quote name) opens root h k = rw here refl
  act-agree (phase.Value name quote run) opens root h k = value-agree name quote run.from run.reference
  act-agree phase.ValueEnd opens root h k = rw here refl
  act-agree phase.Slash opens root h k = rw here refl
  act-agree (phase.EndName from) opens root h k = end-agree (top_name opens) from (top-within n opens k).1
  act-agree phase.EndWhite opens root h k = rw here refl

  pub step-agree : (s : State) → IsWithin n s → step most b n s ≡ step most d n s
  step-agree s within = ap (move_of n s.opens s.root) (act-agree s.phase s.opens s.root within.phase within.opens)

-- the run over one text is the run over another as far as they agree
then-agree : (most : ℕ) (b d : List ℕ) (m : ℕ) → Agree b d (m + 1) → m ≤ length b → (move : Move) → run most b m ≡ move → then_step most b m move ≡ then_step most d m move
then-agree most b d m agree le (Next s) e = step-agree most b d m agree s (run-within most b m s le e)
then-agree most b d m agree le Bad e = refl
then-agree most b d m agree le Deep e = refl

pub run-agree : (most : ℕ) (b d : List ℕ) (m : ℕ) → Agree b d m → m ≤ length b → run most b m ≡ run most d m
run-agree most b d zero agree le = refl
run-agree most b d (suc m) agree le =
    then-agree most b d m (agree-less (m + 1) (omega arith) agree) (omega arith) (run most b m) refl
    ∙ ap (then_step most d m) (run-agree most b d m (agree-less m (omega arith) agree) (omega arith))

-- ---- limits

choose-more : (first second third : Bool) (a r x y : Option Act) (f : Option Act → Move) (m : Move) → (f x ≡ m → f y ≡ m) → f (cond first a (cond second None (cond third x r))) ≡ m → f (cond first a (cond second None (cond third y r))) ≡ m
choose-more true second third a r x y f m h e = e
choose-more false true third a r x y f m h e = e
choose-more false false true a r x y f m h e = h e
choose-more false false false a r x y f m h e = e

module _ (most more : ℕ) (le : most ≤ more) (b : List ℕ) (n : ℕ) where
  deep-more : (opens : List Open) (root : Option Node) (m : Move) → (m ≡ Deep → ⊥) → move_of n opens root (cond (nat_lt (length opens) most) (go (phase.Name n)) (Some act.TooDeep)) ≡ m → move_of n opens root (cond (nat_lt (length opens) more) (go (phase.Name n)) (Some act.TooDeep)) ≡ m
  deep-more opens root m other =
      cond_both (nat_lt (length opens) most) (go (phase.Name n)) (Some act.TooDeep)
      (λ x. move_of n opens root x ≡ m → move_of n opens root (cond (nat_lt (length opens) more) (go (phase.Name n)) (Some act.TooDeep)) ≡ m)
      (λ e h. let lt : length opens < most = ltb-true (length opens) most e in
      ap (move_of n opens root) (cond-true (nat_lt (length opens) more) (go (phase.Name n)) (Some act.TooDeep) (lt-ltb (length opens) more (omega arith))) ∙ h)
      (λ e h. absurd (other (sym h)))

  act-more : (does : Phase) (opens : List Open) (root : Option Node) (m : Move) → (m ≡ Deep → ⊥) → move_of n opens root (act_in most b n opens root does) ≡ m → move_of n opens root (act_in more b n opens root does) ≡ m
  act-more phase.Outside opens root m other h = h
  act-more (phase.Text run) opens root m other h = h
  act-more phase.Markup opens root m other h = choose-more (slice_index b n == 33) (is_some root) (is_name_start (slice_index b n)) _ _ _ _ (move_of n opens root) m (deep-more opens root m other) h
  act-more (phase.Comment from) opens root m other h = h
  act-more phase.Declaration opens root m other h = h
  act-more (phase.Name from) opens root m other h = h
  act-more phase.Tag opens root m other h = h
  act-more (phase.Attribute from) opens root m other h = h
  act-more (phase.Equals name) opens root m other h = h
  act-more (phase.Quote name) opens root m other h = h
  act-more (phase.Value name quote run) opens root m other h = h
  act-more phase.ValueEnd opens root m other h = h
  act-more phase.Slash opens root m other h = h
  act-more (phase.EndName from) opens root m other h = h
  act-more phase.EndWhite opens root m other h = h

  pub step-more : (s : State) (m : Move) → (m ≡ Deep → ⊥) → step most b n s ≡ m → step more b n s ≡ m
  step-more s m other h = act-more s.phase s.opens s.root m other h

next-deep : {s : State} → Next s ≡ Deep → ⊥
next-deep e = cc

pub bad-deep : Bad ≡ Deep → ⊥
bad-deep e = cc

pub next-bad : {P : Type 0} {s : State} → Next s ≡ Bad → P
next-bad e = cc

bad-next : {P : Type 0} {s : State} → Bad ≡ Next s → P
bad-next e = cc

deep-next : {P : Type 0} {s : State} → Deep ≡ Next s → P
deep-next e = cc

then-more : (most more : ℕ) → most ≤ more → (b : List ℕ) (n : ℕ) (s : State) (move move' : Move) → ((t : State) → move ≡ Next t → move' ≡ Next t) → then_step most b n move ≡ Next s → then_step more b n move' ≡ Next s
then-more most more le b n s (Next t) move' same h = ap (then_step more b n) (same t refl) ∙ step-more most more le b n t (Next s) next-deep h
then-more most more le b n s Bad move' same h = bad-next h
then-more most more le b n s Deep move' same h = deep-next h

pub run-more : (most more : ℕ) → most ≤ more → (b : List ℕ) (n : ℕ) (s : State) → run most b n ≡ Next s → run more b n ≡ Next s
run-more most more le b zero s h = h
run-more most more le b (suc n) s h = then-more most more le b n s (run most b n) (run more b n) (λ t e. run-more most more le b n t e) h

-- what runs to a place runs to each place before it
then-alive : (most : ℕ) (b : List ℕ) (n : ℕ) (s : State) (move : Move) → then_step most b n move ≡ Next s → (t : State) × (move ≡ Next t)
then-alive most b n s (Next t) h = (t, refl)
then-alive most b n s Bad h = bad-next h
then-alive most b n s Deep h = deep-next h

pub run-alive : (most : ℕ) (b : List ℕ) (n m : ℕ) (s : State) → run most b (n + m) ≡ Next s → (t : State) × (run most b n ≡ Next t)
run-alive most b n zero s h = (s, ap (run most b) (let e : n ≡ n + zero = omega arith in e) ∙ h)
run-alive most b n (suc m) s h =
    let last = then-alive most b (n + m) s (run most b (n + m)) (ap (run most b) (let e : suc (n + m) ≡ n + suc m = omega arith in e) ∙ h) in
    run-alive most b n m last.0 last.1
