-- What is true of all texts and their trees.
use Rattle.std.proofs.Common.{◌≡◌, ℕ, zero, suc, ◌+◌, ◌-◌, ◌<◌, ◌⊎◌, inl, inr, List, [], ◌∷◌, length, drop, Some, None, Option, refl, sym, ap, subst, ◌∙◌, arith, length-append}
use Rattle.std.proofs.lemmas.List.{take-append-drop}
use Rattle.std.specs.Prelude.{Ok, Err, slice_index}
use Rattle.reg_reader.specs.Markup.{Spells, IsTooDeep, IsCharacters}
use Rattle.reg_reader.specs.Machine.{State, Move, Next, Bad, Deep, step, run, start}
use Rattle.reg_reader.specs.Reading.{IsRead}
use Rattle.reg_reader.specs.Views.{Element, elements_in}
use Rattle.reg_reader.specs.Shown.{content_of}
use Rattle.reg_reader.specs.Laws.{Answer, IsAnswer, OneAnswer, FrontsEndAtTheStop, CharactersAreNoLonger, CharactersAreUndone, OneElement}
use Rattle.reg_reader.specs.declared.markup.Node.{Node}
use Rattle.reg_reader.specs.declared.markup.MarkupFault.TheVariants as fault
use Rattle.reg_reader.specs.declared.phase.Phase.{Phase}
use Rattle.reg_reader.specs.declared.phase.Phase.TheVariants as phase
use Rattle.reg_reader.specs.declared.reader.Stop.TheVariants as stop
use Rattle.reg_reader.proofs.CharactersLemmas.{over-characters}
use Rattle.reg_reader.proofs.WithinLemmas.{reference-lt}
use Rattle.reg_reader.proofs.Running.{run-next, stopped, ended, read-spells}
use Rattle.reg_reader.proofs.Contract.{one, stop-of, deep-of, front-less, any-less, stop-before, deep-before, one-fault, same-place}

-- ---- characters

pub no-longer : CharactersAreNoLonger
no-longer b stop from to text IsCharacters.none = omega arith
no-longer b stop from to text (IsCharacters.plain {j = j} {text = before} chars within less other amp) = omega (arith, no-longer b stop from j before chars, length-append before (slice_index b j ∷ []))
no-longer b stop from to text (IsCharacters.reference {j = j} {k = k} {n = n} {text = before} chars within is) = omega (arith, no-longer b stop from j before chars, length-append before (n ∷ []), reference-lt b j k n is)

pub are-undone : CharactersAreUndone
are-undone b stop part text chars = ap (λ (x : Option ℕ × List ℕ). x.1) (over-characters b part.from chars)

-- ---- fronts

pub fronts-end : FrontsEndAtTheStop
fronts-end b at n stop le = (
  λ low. front-less 32 b n at low stop.front,
  λ high front. stop.last (omega (arith, high, le)) (any-less b (at + 1) n (omega (arith, high)) front),
)

-- ---- one answer

cases-move : (m : Move) → ((s : State) × (m ≡ Next s)) ⊎ ((m ≡ Bad) ⊎ (m ≡ Deep))
cases-move (Next s) = inl (s, refl)
cases-move Bad = inr (inl refl)
cases-move Deep = inr (inr refl)

cases-phase : (p : Phase) → (p ≡ phase.Outside) ⊎ (p ≡ phase.Outside → ⊥)
cases-phase phase.Outside = inl refl
cases-phase (phase.Text run) = inr (λ e. cc)
cases-phase phase.Markup = inr (λ e. cc)
cases-phase (phase.Comment from) = inr (λ e. cc)
cases-phase phase.Declaration = inr (λ e. cc)
cases-phase (phase.Name from) = inr (λ e. cc)
cases-phase phase.Tag = inr (λ e. cc)
cases-phase (phase.Attribute from) = inr (λ e. cc)
cases-phase (phase.Equals name) = inr (λ e. cc)
cases-phase (phase.Quote name) = inr (λ e. cc)
cases-phase (phase.Value name quote run) = inr (λ e. cc)
cases-phase phase.ValueEnd = inr (λ e. cc)
cases-phase phase.Slash = inr (λ e. cc)
cases-phase (phase.EndName from) = inr (λ e. cc)
cases-phase phase.EndWhite = inr (λ e. cc)

cases-root : (root : Option Node) → ((node : Node) × (root ≡ Some node)) ⊎ ((node : Node) → root ≡ Some node → ⊥)
cases-root (Some node) = inl (node, refl)
cases-root None = inr (λ node e. cc)

abbrev HasAnswer : List ℕ → Type 0
HasAnswer b = (answer : Answer) × IsAnswer b answer

bad-answer : (b : List ℕ) (at : ℕ) → IsRead b (Err (fault.BadMarkup at)) → HasAnswer b
bad-answer b at read = (Answer.stop at, stop-of b at read)

deep-answer : (b : List ℕ) (at : ℕ) → IsRead b (Err (fault.TooDeep at)) → HasAnswer b
deep-answer b at read = (Answer.deep at, deep-of b at read)

tree-answer : (b : List ℕ) (root : Node) → IsRead b (Ok root) → HasAnswer b
tree-answer b root read = (Answer.tree root, read-spells b root read)

at-end : (b : List ℕ) (s : State) → run 32 b (length b) ≡ Next s → (s.phase ≡ phase.Outside) ⊎ (s.phase ≡ phase.Outside → ⊥) → ((root : Node) × (s.root ≡ Some root)) ⊎ ((root : Node) → s.root ≡ Some root → ⊥) → HasAnswer b
at-end b s at (inl outside) (inl whole) = tree-answer b whole.0 (ended b (length b) s (Ok whole.0) refl at (outside, whole.1))
at-end b s at (inl outside) (inr none) = bad-answer b (length b) (ended b (length b) s (Err (fault.BadMarkup (length b))) refl at (refl, λ root _ r. none root r))
at-end b s at (inr inside) whole = bad-answer b (length b) (ended b (length b) s (Err (fault.BadMarkup (length b))) refl at (refl, λ root o _. inside o))

answer-from : (b : List ℕ) (m n : ℕ) (s : State) → n + m ≡ length b → run 32 b n ≡ Next s → HasAnswer b
answer-from b zero n s e at =
    at-end b s (ap (run 32 b) (let h : length b ≡ n = omega (arith, e) in h) ∙ at) (cases-phase s.phase) (cases-root s.root)
answer-from b (suc m) n s e at =
    let lt : n < length b = omega (arith, e) in
    elim (cases-move (step 32 b n s)) [
      | inl next ↦ answer-from b m (n + 1) next.0 (omega (arith, e)) (run-next 32 b n s at ∙ next.1)
      | inr (inl bad) ↦ bad-answer b n (stopped b n s s stop.Wrong (fault.BadMarkup n) lt at bad refl)
      | inr (inr deep) ↦ deep-answer b (n - 1) (stopped b n s s stop.TooDeep (fault.TooDeep (n - 1)) lt at deep refl)
    ]

tree-not-deep : (b : List ℕ) (root : Node) (at : ℕ) → Spells 32 root b → IsTooDeep b at → ⊥
tree-not-deep b root at spells deeper = deeper.deep (drop (at + 2) b, root, subst (Spells 32 root) (sym (take-append-drop (at + 2) b)) spells)

same-answer : (b : List ℕ) (answer other : Answer) → IsAnswer b answer → IsAnswer b other → other ≡ answer
same-answer b (Answer.tree root) (Answer.tree other) first second = ap Answer.tree (one b 32 32 other root second first)
same-answer b (Answer.tree root) (Answer.stop at) first second = absurd (second.none 32 root first)
same-answer b (Answer.tree root) (Answer.deep at) first second = absurd (tree-not-deep b root at first second)
same-answer b (Answer.stop at) (Answer.tree root) first second = absurd (first.none 32 root second)
same-answer b (Answer.stop at) (Answer.stop other) first second = ap Answer.stop (same-place at other (stop-before b at other first second) (stop-before b other at second first))
same-answer b (Answer.stop at) (Answer.deep other) first second = absurd (one-fault b at other first second)
same-answer b (Answer.deep at) (Answer.tree root) first second = absurd (tree-not-deep b root at second first)
same-answer b (Answer.deep at) (Answer.stop other) first second = absurd (one-fault b other at second first)
same-answer b (Answer.deep at) (Answer.deep other) first second = ap Answer.deep (same-place at other (deep-before b at other first second) (deep-before b other at second first))

pub one-answer : OneAnswer
one-answer b =
    let found = answer-from b (length b) 0 start (omega arith) refl in
    (found.0, found.1, λ other is. same-answer b found.0 other found.1 is)

-- ---- one element

head-same : {element other : Element} → other ∷ [] ≡ element ∷ [] → other ≡ element
head-same e = cc

pub one-element : OneElement
one-element b element other first second =
    head-same (sym second.2 ∙ ap (λ root. elements_in (content_of b (root ∷ []))) (one b 32 32 second.0 first.0 second.1 first.1) ∙ first.2)
