-- One more step of the loops of a walk.
use Rattle.std.proofs.Common.{◌≡◌, ℕ, ◌+◌, ◌<◌, ◌≤◌, ◌⊎◌, inl, inr, ⊎_elim, List, [], ◌∷◌, ◌++◌, length, get_or, take, drop, set, Option, Some, All, Contains, sym, ap, subst, ◌∙◌, length-append, length-set, arith}
use Rattle.std.specs.Option.{IsSomeAnd}
use Rattle.std.proofs.lemmas.List.{drop-append-le, take-append-le, take_more}
use Rattle.std.proofs.lemmas.List.Elements.{All-more, All-push, All-take, All-weaker, Contains-append_left, Contains-push}
use Rattle.std.proofs.Math.Seq.{take-append_seam}
use Rattle.reg_registry.specs.declared.circles.walk.Mark.{Mark}
use Rattle.reg_registry.specs.declared.circles.walk.Mark.TheVariants.{Done}
use Rattle.reg_registry.specs.Walks.{with_done}
use Rattle.reg_registry.proofs.WalkCloseLemmas.{and-less, before-or-not, some-and}
use Rattle.reg_registry.proofs.WalkWeightLemmas.{done-push}

module _ (xs ys : List ℕ) (name start : ℕ) (e : xs ≡ ys ++ name ∷ []) (l : start < length xs) where
  pub finish-from : start ≤ length ys
  finish-from = omega (arith, l, ap (λ (z : List ℕ). length z) e, length-append ys (name ∷ []))

  pub finish-path : take start ys ≡ take start xs
  finish-path = sym (take-append-le start ys (name ∷ []) finish-from) ∙ ap (λ (z : List ℕ). take start z) (sym e)

  pub finish-marks : (marks : List Mark) → with_done (drop start ys) (set marks name Done) ≡ with_done (drop start xs) marks
  finish-marks marks =
      sym (done-push (drop start ys) name marks) ∙ ap (λ (z : List ℕ). with_done z marks) (sym (drop-append-le start ys (name ∷ []) finish-from))
      ∙ ap (λ (z : List ℕ). with_done (drop start z) marks) (sym e)

  pub finish-known : (marks : List Mark) → All (λ n. n < length marks) xs → All (λ n. n < length (set marks name Done)) ys
  finish-known marks all =
      subst (λ (k : ℕ). All (λ n. n < k) ys) (sym (length-set marks name Done))
      (subst (All (λ n. n < length marks)) (take-append_seam ys (name ∷ []))
      (All-take (λ n. n < length marks) (length ys) (ys ++ name ∷ []) (subst (All (λ n. n < length marks)) e all)))

pub number-below : (ns ms : List ℕ) (n : ℕ) → ms ≡ ns ++ n ∷ [] → All (λ x. x < n) ns → All (λ x. x < n + 1) ms
number-below ns ms n e all =
    subst (All (λ x. x < n + 1)) (sym e)
    (All-push (λ x. x < n + 1) ns n (All-weaker (λ x. x < n) (λ x. x < n + 1) (λ x l. omega (arith, l)) ns all) (omega arith))

pub number-each : (ns ms : List ℕ) (n : ℕ) → ms ≡ ns ++ n ∷ [] → ((x : ℕ) → x < n → Contains ns x) → (x : ℕ) → x < n + 1 → Contains ms x
number-each ns ms n e each x l =
    subst (λ (z : List ℕ). Contains z x) (sym e)
    (⊎_elim (λ (b : x < n). Contains-append_left ns (n ∷ []) x (each x b))
    (λ (b : n ≤ x). let same : n ≡ x = omega (arith, b, l) in subst (λ (y : ℕ). Contains (ns ++ n ∷ []) y) same (Contains-push ns n))
    (before-or-not x n))

-- the least so far is no more than a number, and so is the next least
least-kept : (old new : Option ℕ) → ((x : ℕ) → old ≡ Some x → IsSomeAnd new (λ least. least ≤ x)) → (x : ℕ) → IsSomeAnd old (λ least. least ≤ x) → IsSomeAnd new (λ least. least ≤ x)
least-kept old new before x s = let m = some-and old x s in and-less new m.0 x m.2 (before m.0 m.1)

module _ (names : List ℕ) (i : ℕ) (l : i < length names) (first old new : Option ℕ) (here : IsSomeAnd new (λ least. least ≤ get_or names i 0))
    (before : (x : ℕ) → old ≡ Some x → IsSomeAnd new (λ least. least ≤ x)) where
  pub least-among : All (λ name. IsSomeAnd old (λ least. least ≤ name)) (take i names) → All (λ name. IsSomeAnd new (λ least. least ≤ name)) (take (i + 1) names)
  least-among all =
      All-more (λ name. IsSomeAnd new (λ least. least ≤ name)) names i 0 l
      (All-weaker (λ name. IsSomeAnd old (λ least. least ≤ name)) (λ name. IsSomeAnd new (λ least. least ≤ name)) (least-kept old new before) (take i names) all) here

  pub least-before : ((x : ℕ) → first ≡ Some x → IsSomeAnd old (λ least. least ≤ x)) → (x : ℕ) → first ≡ Some x → IsSomeAnd new (λ least. least ≤ x)
  least-before b x e = least-kept old new before x (b x e)

pub least-one : (names : List ℕ) (i : ℕ) → i < length names → (first old new : Option ℕ) → ((x : ℕ) → new ≡ Some x → (get_or names i 0 ≡ x) ⊎ (old ≡ Some x))
    → ((x : ℕ) → old ≡ Some x → Contains (take i names) x ⊎ (first ≡ Some x)) → (x : ℕ) → new ≡ Some x → Contains (take (i + 1) names) x ⊎ (first ≡ Some x)
least-one names i l first old new one was x e =
    ⊎_elim
    (λ (q : get_or names i 0 ≡ x). inl (rw more (subst (λ (y : ℕ). Contains (take i names ++ get_or names i 0 ∷ []) y) q (Contains-push (take i names) (get_or names i 0)))))
    (λ (q : old ≡ Some x). ⊎_elim (λ c. inl (rw more (Contains-append_left (take i names) (get_or names i 0 ∷ []) x c))) (λ f. inr f) (was x q))
    (one x e)
  where
    more : take (i + 1) names ≡ take i names ++ get_or names i 0 ∷ []
    more = take_more names i 0 l
