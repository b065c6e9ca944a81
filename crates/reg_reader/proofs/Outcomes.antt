-- What each answer of a reading says, in the words of the definitions.
use Rattle.std.proofs.Common.{◌≡◌, ℕ, zero, suc, ◌+◌, ◌<◌, ◌≤◌, inl, inr, List, [], ◌++◌, length, take, drop, Some, None, sym, ap, subst, ◌∙◌, arith, length-append, length-take}
use Rattle.std.specs.Prelude.{slice_index, Err}
use Rattle.std.specs.Prelude.{◌==◌}
use Rattle.std.proofs.lemmas.Bool.{cond_both, cases_lt}
use Rattle.std.proofs.lemmas.List.{take-append-drop}
use Rattle.vkb_bytes.specs.Bytes.{is_white}
use Rattle.reg_reader.specs.Markup.{Spells, IsElement, ArePieces, IsFrontWithin, IsFront, IsNoMarkup}
use Rattle.reg_reader.specs.Machine.{State, Next, Bad, Deep, step, run, move_of, in_outside}
use Rattle.reg_reader.specs.Reading.{IsRead}
use Rattle.reg_reader.specs.declared.markup.Node.{Node}
use Rattle.reg_reader.specs.declared.markup.MarkupFault.TheVariants as fault
use Rattle.reg_reader.specs.declared.phase.Phase.TheVariants as phase
use Rattle.reg_reader.proofs.Tokens.{state}
use Rattle.reg_reader.proofs.Complete.{spelled-runs}
use Rattle.reg_reader.proofs.Running.{run-next}
use Rattle.reg_reader.proofs.Agree.{agree-front, run-agree, run-more, run-alive, step-more, bad-deep, next-bad}

mutual
  element-more : {b : List ℕ} {most more outer i j : ℕ} {child : Node} → most ≤ more → IsElement b most outer i j child → IsElement b more outer i j child
  element-more le (IsElement.empty deep tag slash greater) = IsElement.empty (omega arith) tag slash greater
  element-more le (IsElement.filled deep tag greater pieces chars end) = IsElement.filled (omega arith) tag greater (pieces-more le pieces) chars end

  pieces-more : {b : List ℕ} {most more outer i j : ℕ} {nodes : List Node} → most ≤ more → ArePieces b most outer i j nodes → ArePieces b more outer i j nodes
  pieces-more le ArePieces.none = ArePieces.none
  pieces-more le (ArePieces.comment pieces chars c) = ArePieces.comment (pieces-more le pieces) chars c
  pieces-more le (ArePieces.element pieces chars child) = ArePieces.element (pieces-more le pieces) chars (element-more le child)

-- what nests so deep at most nests deeper at most
pub spells-more : (most more : ℕ) (root : Node) (b : List ℕ) → most ≤ more → Spells most root b → Spells more root b
spells-more most more root b le spells = record { from = spells.from; head = spells.head; to = spells.to; element = element-more le spells.element; blank = spells.blank }

next-same : {s t : State} → Next s ≡ Next t → s ≡ t
next-same e = cc

deep-next : {P : Type 0} {s : State} → Deep ≡ Next s → P
deep-next e = cc

some-same : {x y : Node} → Some x ≡ Some y → x ≡ y
some-same e = cc

-- one text spells one tree
pub one-tree : (b : List ℕ) (most other : ℕ) (root tree : Node) → Spells most root b → Spells other tree b → root ≡ tree
one-tree b most other root tree first second =
    let deep : ℕ = most + other in
    let one = spelled-runs deep b root (spells-more most deep root b (omega arith) first) in
    let two = spelled-runs deep b tree (spells-more other deep tree b (omega arith) second) in
    some-same (ap (λ (s : State). s.root) (next-same (sym one ∙ two)))

-- a front is run over
pub front-alive : (most : ℕ) (b : List ℕ) (m : ℕ) → m ≤ length b → IsFrontWithin most (take m b) → (s : State) × (run most b m ≡ Next s)
front-alive most b m le front =
    let text : List ℕ = take m b ++ front.0 in
    let whole = spelled-runs most text front.1 front.2 in
    let long : length text ≡ m + length front.0 = omega (arith, length-append (take m b) front.0, length-take m b) in
    let alive = run-alive most text m (length front.0) _ (ap (run most text) (sym long) ∙ whole) in
    (alive.0, run-agree most b text m (agree-front b front.0 m le) le ∙ alive.1)

-- where a byte can't go on, nothing of any depth does
pub stop-last : (b : List ℕ) (at : ℕ) (s : State) → at < length b → run 32 b at ≡ Next s → step 32 b at s ≡ Bad → IsFront (take (at + 1) b) → ⊥
stop-last b at s lt here bad front =
    let deep : ℕ = front.0 + 32 in
    let wide : IsFrontWithin deep (take (at + 1) b) = (front.1.0, front.1.1, spells-more front.0 deep front.1.1 _ (omega arith) front.1.2) in
    let alive = front-alive deep b (at + 1) (omega arith) wide in
    let next = run-next deep b at s (run-more 32 deep (omega arith) b at s here) in
    next-bad (sym alive.1 ∙ next ∙ step-more 32 deep (omega arith) b at s Bad bad-deep bad)

-- what is spelled ends in one state
spelled-end : (b : List ℕ) (s : State) (most : ℕ) (root : Node) → run 32 b (length b) ≡ Next s → Spells most root b → s ≡ state phase.Outside [] (Some root)
spelled-end b s most root here spells =
    let deep : ℕ = most + 32 in
    next-same (sym (run-more 32 deep (omega arith) b (length b) s here) ∙ spelled-runs deep b root (spells-more most deep root b (omega arith) spells))

-- a front leads through the whole text
whole-front : (b : List ℕ) (at most : ℕ) (root : Node) → at < length b → Spells most root b → IsFront (take (at + 1) b)
whole-front b at most root lt spells = (most, (drop (at + 1) b, root, subst (Spells most root) (sym (take-append-drop (at + 1) b)) spells))

pub bad-none : (b : List ℕ) (at : ℕ) → IsRead b (Err (fault.BadMarkup at)) → IsNoMarkup b
bad-none b at read most root spells =
    elim (cases_lt at (length b)) [
      | inl lt ↦ stop-last b at read.1.0 lt read.1.1 (read.1.2.0 lt) (whole-front b at most root lt spells)
      | inr ge ↦ (let e : at ≡ length b = omega (arith, read.0) in
          let end = spelled-end b read.1.0 most root (ap (run 32 b) (sym e) ∙ read.1.1) spells in
          read.1.2.1 e root (ap (λ (s : State). s.phase) end) (ap (λ (s : State). s.root) end))
    ]

pub bad-last : (b : List ℕ) (at : ℕ) → IsRead b (Err (fault.BadMarkup at)) → at < length b → IsFront (take (at + 1) b) → ⊥
bad-last b at read lt front = stop-last b at read.1.0 lt read.1.1 (read.1.2.0 lt) front

-- a byte outside the root opens nothing that is too deep
outside-deep : (n byte : ℕ) → move_of n [] None (in_outside byte) ≡ Deep → ⊥
outside-deep n byte =
    cond_both (is_white byte) _ _ (λ a. move_of n [] None a ≡ Deep → ⊥) (λ _ h. cc)
    (λ _. cond_both (byte == 60) _ _ (λ a. move_of n [] None a ≡ Deep → ⊥) (λ _ h. cc) (λ _ h. cc))

-- what is too deep stands behind a `<`
pub deep-behind : (b : List ℕ) (n : ℕ) (s : State) → run 32 b n ≡ Next s → step 32 b n s ≡ Deep → 1 ≤ n
deep-behind b zero s here deep = absurd (outside-deep zero (slice_index b zero) (subst (λ x. step 32 b zero x ≡ Deep) (sym (next-same here)) deep))
deep-behind b (suc n) s here deep = omega arith

pub deep-last : (b : List ℕ) (at : ℕ) → IsRead b (Err (fault.TooDeep at)) → (at + 2 ≤ length b) × (IsFrontWithin 32 (take (at + 2) b) → ⊥)
deep-last b at read =
    let n : ℕ = read.0 in
    let low : 1 ≤ read.0 = deep-behind b read.0 read.3.0 read.3.1 read.3.2 in
    let e : at + 2 ≡ read.0 + 1 = omega (arith, read.2) in (
      omega (arith, read.1, read.2),
      λ front. let alive = front-alive 32 b (read.0 + 1) (omega (arith, read.1)) (subst (λ x. IsFrontWithin 32 (take x b)) e front) in
          deep-next (sym read.3.2 ∙ sym (run-next 32 b read.0 read.3.0 read.3.1) ∙ alive.1),
    )
