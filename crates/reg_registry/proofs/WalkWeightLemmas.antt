-- How much a walk may still put ahead.
use Rattle.std.proofs.Common.{◌≡◌, ◌≢◌, ℕ, zero, suc, ◌+◌, ◌⊎◌, inl, inr, ⊎_elim, List, [], ◌∷◌, ◌++◌, length, set, slice_get, Some, Contains, refl, sym, ap, subst, ◌∙◌, length-set, arith}
use Rattle.std.proofs.lemmas.Option.{same_Some}
use Rattle.reg_registry.specs.declared.registry.Row.{Row}
use Rattle.reg_registry.specs.declared.circles.walk.Mark.{Mark}
use Rattle.reg_registry.specs.declared.circles.walk.Mark.TheVariants.{Unseen, OnPath, Done}
use Rattle.reg_registry.specs.Walks.{IsDone, weight_of, with_done}
use Rattle.reg_registry.proofs.PlacedLemmas.{Contains-cases, Contains-first, Contains-rest, set-other, set-place, set-same}

pub same-or-not : (x y : ℕ) → (x ≡ y) ⊎ (x ≢ y)
same-or-not zero zero = inl refl
same-or-not zero (suc y) = inr (λ q. omega (arith, q))
same-or-not (suc x) zero = inr (λ q. omega (arith, q))
same-or-not (suc x) (suc y) = ⊎_elim (λ e. inl (ap suc e)) (λ n. inr (λ q. n (omega (arith, q)))) (same-or-not x y)

-- a name is entered
pub weight-enter : (rows : List Row) (marks : List Mark) (name place : ℕ) (row : Row) → slice_get rows name ≡ Some row → slice_get marks name ≡ Some Unseen
    → weight_of rows (set marks name (OnPath place)) + length row.named + 2 ≡ weight_of rows marks
weight-enter [] marks name place row r m = absurd (cc)
weight-enter (x ∷ rows) [] name place row r m = absurd (cc)
weight-enter (x ∷ rows) (Unseen ∷ marks) zero place row r m =
    let e : x ≡ row = same_Some x row r in let l : length x.named ≡ length row.named = ap (λ (y : Row). length y.named) e in omega (arith, l)
weight-enter (x ∷ rows) (OnPath p ∷ marks) zero place row r m = absurd (cc (m))
weight-enter (x ∷ rows) (Done ∷ marks) zero place row r m = absurd (cc (m))
weight-enter (x ∷ rows) (Unseen ∷ marks) (suc name) place row r m = omega (arith, weight-enter rows marks name place row r m)
weight-enter (x ∷ rows) (OnPath p ∷ marks) (suc name) place row r m = weight-enter rows marks name place row r m
weight-enter (x ∷ rows) (Done ∷ marks) (suc name) place row r m = weight-enter rows marks name place row r m

weight-set : (rows : List Row) (marks : List Mark) (name : ℕ) → (slice_get marks name ≡ Some Unseen → ⊥) → weight_of rows (set marks name Done) ≡ weight_of rows marks
weight-set [] marks name n = refl
weight-set (x ∷ rows) [] name n = refl
weight-set (x ∷ rows) (Unseen ∷ marks) zero n = absurd (n refl)
weight-set (x ∷ rows) (OnPath p ∷ marks) zero n = refl
weight-set (x ∷ rows) (Done ∷ marks) zero n = refl
weight-set (x ∷ rows) (Unseen ∷ marks) (suc name) n = omega (arith, weight-set rows marks name n)
weight-set (x ∷ rows) (OnPath p ∷ marks) (suc name) n = weight-set rows marks name n
weight-set (x ∷ rows) (Done ∷ marks) (suc name) n = weight-set rows marks name n

-- a mark is one that was there, or of one of the names that are done
pub done-was : (names : List ℕ) (marks : List Mark) (name : ℕ) (m : Mark) → slice_get (with_done names marks) name ≡ Some m
    → (Contains names name × (m ≡ Done)) ⊎ (slice_get marks name ≡ Some m)
done-was [] marks name m e = inr e
done-was (n ∷ names) marks name m e =
    ⊎_elim (λ h. inl (subst (λ (x : ℕ). Contains (x ∷ names) name) h.0 (Contains-first name names), sym h.1))
    (λ h. ⊎_elim (λ r. inl (Contains-rest n names name r.0, r.1)) (λ r. inr r) (done-was names marks name m h.1))
    (set-place (with_done names marks) n name Done m e)

set-done : (marks : List Mark) (n name : ℕ) (m : Mark) → slice_get marks name ≡ Some m
    → ((name ≡ n) × IsDone (set marks n Done) name) ⊎ (slice_get (set marks n Done) name ≡ Some m)
set-done marks n name m e =
    ⊎_elim
    (λ (q : name ≡ n). inl (q, subst (λ (x : ℕ). IsDone (set marks x Done) name) q (set-same marks name Done m e)))
    (λ (d : name ≢ n). inr (set-other marks n name Done d ∙ e))
    (same-or-not name n)

-- a mark stays, or its name is one of those that are done
pub done-stays : (names : List ℕ) (marks : List Mark) (name : ℕ) (m : Mark) → slice_get marks name ≡ Some m
    → ((Contains names name) × IsDone (with_done names marks) name) ⊎ (slice_get (with_done names marks) name ≡ Some m)
done-stays [] marks name m e = inr e
done-stays (n ∷ names) marks name m e =
    ⊎_elim
    (λ h. inl (Contains-rest n names name h.0, ⊎_elim (λ q. q.1) (λ d. d) (set-done (with_done names marks) n name Done h.1)))
    (λ h. ⊎_elim (λ q. inl (subst (λ (x : ℕ). Contains (x ∷ names) name) q.0 (Contains-first name names), q.1)) (λ d. inr d) (set-done (with_done names marks) n name m h))
    (done-stays names marks name m e)

pub done-in : (names : List ℕ) (marks : List Mark) (name : ℕ) (m : Mark) → slice_get marks name ≡ Some m → Contains names name → IsDone (with_done names marks) name
done-in [] marks name m e c = absurd (omega (arith, c.1))
done-in (n ∷ names) marks name m e c =
    ⊎_elim
    (λ (q : n ≡ name).
    subst (λ (x : ℕ). IsDone (set (with_done names marks) x Done) name) (sym q)
    (⊎_elim (λ h. set-same (with_done names marks) name Done Done h.1) (λ h. set-same (with_done names marks) name Done m h) (done-stays names marks name m e)))
    (λ (r : Contains names name). ⊎_elim (λ q. q.1) (λ d. d) (set-done (with_done names marks) n name Done (done-in names marks name m e r)))
    (Contains-cases n names name c)

pub done-keeps : (names : List ℕ) (marks : List Mark) (name : ℕ) → IsDone marks name → IsDone (with_done names marks) name
done-keeps names marks name e = ⊎_elim (λ h. h.1) (λ h. h) (done-stays names marks name Done e)

pub length-done : (names : List ℕ) (marks : List Mark) → length (with_done names marks) ≡ length marks
length-done [] marks = refl
length-done (n ∷ names) marks = length-set (with_done names marks) n Done ∙ length-done names marks

pub weight-done : (rows : List Row) (names : List ℕ) (marks : List Mark) → ((name : ℕ) → Contains names name → slice_get marks name ≡ Some Unseen → ⊥)
    → weight_of rows (with_done names marks) ≡ weight_of rows marks
weight-done rows [] marks seen = refl
weight-done rows (n ∷ names) marks seen =
    weight-set rows (with_done names marks) n
    (λ u. ⊎_elim (λ h. absurd (cc (h.1))) (λ h. seen n (Contains-first n names) h) (done-was names marks n Unseen u))
    ∙ weight-done rows names marks (λ name c. seen name (Contains-rest n names name c))

-- the last of the names is done first
pub done-push : (names : List ℕ) (name : ℕ) (marks : List Mark) → with_done (names ++ name ∷ []) marks ≡ with_done names (set marks name Done)
done-push [] name marks = refl
done-push (n ∷ names) name marks = ap (λ (x : List Mark). set x n Done) (done-push names name marks)
