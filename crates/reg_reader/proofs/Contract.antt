-- The clauses of reading, from what the run says.
use Rattle.std.proofs.Common.{◌≡◌, ℕ, ◌+◌, ◌<◌, ◌≤◌, ◌⊎◌, inl, inr, List, ◌++◌, length, take, drop, refl, sym, ap, subst, ◌∙◌, arith, append_assoc}
use Rattle.std.specs.Prelude.{Result, Ok, Err, IfOk}
use Rattle.std.proofs.lemmas.Bool.{cases_lt}
use Rattle.std.proofs.lemmas.List.{take-append-drop, take-take}
use Rattle.reg_reader.specs.Markup.{Spells, IsStop, IsTooDeep, IsFrontWithin, IsFront, OneTree}
use Rattle.reg_reader.specs.Reading.{IsRead}
use Rattle.reg_reader.specs.declared.markup.Node.{Node}
use Rattle.reg_reader.specs.declared.markup.MarkupFault.{MarkupFault}
use Rattle.reg_reader.specs.declared.markup.MarkupFault.TheVariants as fault
use Rattle.reg_reader.proofs.Running.{read-spells}
use Rattle.reg_reader.proofs.Outcomes.{one-tree, bad-none, bad-last, deep-last}
use Rattle.reg_reader.proofs.Fronts.{bad-front, deep-shallow, deep-front}

pub one : OneTree
one b most other root tree first second = one-tree b most other root tree first second

pub only : (b : List ℕ) (r : Result Node MarkupFault) → IsRead b r → IfOk r (λ root. (most : ℕ) (other : Node) → Spells most other b → other ≡ root)
only b (Ok root) read = λ most other spells. one-tree b most 32 other root spells (read-spells b root read)
only b (Err f) read = tt

pub stop-of : (b : List ℕ) (at : ℕ) → IsRead b (Err (fault.BadMarkup at)) → IsStop b at
stop-of b at read = record { within = read.0; front = bad-front b at read; last = bad-last b at read; none = bad-none b at read }

pub deep-of : (b : List ℕ) (at : ℕ) → IsRead b (Err (fault.TooDeep at)) → IsTooDeep b at
deep-of b at read = let last = deep-last b at read in record { within = last.0; shallow = deep-shallow b at read; front = deep-front b at read; deep = last.1 }

pub bad : (b : List ℕ) (r : Result Node MarkupFault) → IsRead b r → (at : ℕ) → r ≡ Err (fault.BadMarkup at) → IsStop b at
bad b r read at e = stop-of b at (subst (IsRead b) e read)

pub deep : (b : List ℕ) (r : Result Node MarkupFault) → IsRead b r → (at : ℕ) → r ≡ Err (fault.TooDeep at) → IsTooDeep b at
deep b r read at e = deep-of b at (subst (IsRead b) e read)

-- what is spelled is read, unless memory runs out
pub spelled : (b : List ℕ) (r : Result Node MarkupFault) → IsRead b r → (root : Node) → Spells 32 root b → (r ≡ Ok root) ⊎ (r ≡ Err fault.Memory)
spelled b (Ok found) read root spells = inl (ap Ok (one-tree b 32 32 found root (read-spells b found read) spells))
spelled b (Err (fault.BadMarkup at)) read root spells = absurd (bad-none b at read 32 root spells)
spelled b (Err (fault.TooDeep at)) read root spells =
    absurd ((deep-last b at read).1 (drop (at + 2) b, root, subst (Spells 32 root) (sym (take-append-drop (at + 2) b)) spells))
spelled b (Err fault.Memory) read root spells = inr refl

-- ---- each fault comes exactly where it may

-- what a front begins with is a front
pub front-less : (most : ℕ) (b : List ℕ) (m n : ℕ) → m ≤ n → IsFrontWithin most (take n b) → IsFrontWithin most (take m b)
front-less most b m n le front =
    let regrouped : take m b ++ (drop m (take n b) ++ front.0) ≡ take n b ++ front.0 =
    sym (append_assoc (take m b) (drop m (take n b)) front.0)
    ∙ ap (λ x. (x ++ drop m (take n b)) ++ front.0) (sym (take-take m n b le))
    ∙ ap (λ x. x ++ front.0) (take-append-drop m (take n b)) in
    (drop m (take n b) ++ front.0, front.1, subst (Spells most front.1) (sym regrouped) front.2)

pub any-less : (b : List ℕ) (m n : ℕ) → m ≤ n → IsFront (take n b) → IsFront (take m b)
any-less b m n le front = (front.0, front-less front.0 b m n le front.1)

pub stop-before : (b : List ℕ) (at other : ℕ) → IsStop b at → IsStop b other → at < other → ⊥
stop-before b at other first second lt =
    let within : other ≤ length b = second.within in
    first.last (omega arith) (32, front-less 32 b (at + 1) other (omega arith) second.front)

pub deep-before : (b : List ℕ) (at other : ℕ) → IsTooDeep b at → IsTooDeep b other → at < other → ⊥
deep-before b at other first second lt = first.deep (front-less 32 b (at + 2) (other + 1) (omega arith) second.shallow)

pub one-fault : (b : List ℕ) (at other : ℕ) → IsStop b at → IsTooDeep b other → ⊥
one-fault b at other stop deeper =
    let within : other + 2 ≤ length b = deeper.within in
    elim (cases_lt at (other + 2)) [
      | inl lt ↦ stop.last (omega arith) (any-less b (at + 1) (other + 2) (omega arith) deeper.front)
      | inr ge ↦ deeper.deep (front-less 32 b (other + 2) at ge stop.front)
    ]

pub same-place : (at other : ℕ) → (at < other → ⊥) → (other < at → ⊥) → other ≡ at
same-place at other first second = omega arith

pub stops : (b : List ℕ) (r : Result Node MarkupFault) → IsRead b r → (at : ℕ) → IsStop b at → (r ≡ Err (fault.BadMarkup at)) ⊎ (r ≡ Err fault.Memory)
stops b (Ok root) read at stop = absurd (stop.none 32 root (read-spells b root read))
stops b (Err (fault.BadMarkup other)) read at stop =
    inl (ap (λ x. Err (fault.BadMarkup x)) (same-place at other (stop-before b at other stop (stop-of b other read)) (stop-before b other at (stop-of b other read) stop)))
stops b (Err (fault.TooDeep other)) read at stop = absurd (one-fault b at other stop (deep-of b other read))
stops b (Err fault.Memory) read at stop = inr refl

pub deeps : (b : List ℕ) (r : Result Node MarkupFault) → IsRead b r → (at : ℕ) → IsTooDeep b at → (r ≡ Err (fault.TooDeep at)) ⊎ (r ≡ Err fault.Memory)
deeps b (Ok root) read at deeper =
    absurd (deeper.deep (drop (at + 2) b, root, subst (Spells 32 root) (sym (take-append-drop (at + 2) b)) (read-spells b root read)))
deeps b (Err (fault.BadMarkup other)) read at deeper = absurd (one-fault b other at (stop-of b other read) deeper)
deeps b (Err (fault.TooDeep other)) read at deeper =
    inl (ap (λ x. Err (fault.TooDeep x)) (same-place at other (deep-before b at other deeper (deep-of b other read)) (deep-before b other at (deep-of b other read) deeper)))
deeps b (Err fault.Memory) read at deeper = inr refl
