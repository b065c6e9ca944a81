-- Lists by their places, and what a row names.
use Rattle.std.proofs.Common.{◌≡◌, ◌≢◌, ℕ, zero, suc, ◌<◌, ◌⊎◌, inl, inr, ⊎_elim, List, [], ◌∷◌, ◌++◌, length, map, take, set, slice_get, Option, Some, Contains, refl, sym, ap, subst, ◌∙◌, arith}
use Rattle.std.specs.Option.{IsSomeAnd}
use Rattle.std.proofs.lemmas.Option.{same_Some, slice_get_within, slice_get-get_or, get_or_from_slice_get}
use Rattle.reg_registry.specs.Naming.{Names}
use Rattle.reg_registry.specs.Rows.{id_at}
use Rattle.reg_registry.specs.declared.registry.Row.{Row}

module _ {X : Type 0} where
  pub push-place : (xs : List X) (x y : X) (k : ℕ) → slice_get (xs ++ x ∷ []) k ≡ Some y → (slice_get xs k ≡ Some y) ⊎ ((k ≡ length xs) × (x ≡ y))
  push-place [] x y zero e = inr (refl, same_Some x y e)
  push-place [] x y (suc k) e = absurd (cc)
  push-place (z ∷ zs) x y zero e = inl e
  push-place (z ∷ zs) x y (suc k) e = ⊎_elim inl (λ p. inr (ap suc p.0, p.1)) (push-place zs x y k e)

  pub left-place : (xs ys : List X) (k : ℕ) (y : X) → slice_get xs k ≡ Some y → slice_get (xs ++ ys) k ≡ Some y
  left-place [] ys k y e = absurd (cc)
  left-place (x ∷ xs) ys zero y e = e
  left-place (x ∷ xs) ys (suc k) y e = left-place xs ys k y e

  pub seam-place : (xs : List X) (x : X) (ys : List X) → slice_get (xs ++ x ∷ ys) (length xs) ≡ Some x
  seam-place [] x ys = refl
  seam-place (z ∷ zs) x ys = seam-place zs x ys

  pub place-of : (xs : List X) (x : X) → Contains xs x → (k : ℕ) × (slice_get xs k ≡ Some x)
  place-of xs x c = (c.0, slice_get-get_or xs c.0 x c.1 ∙ ap Some c.2)

  pub Contains-at : (xs : List X) (k : ℕ) (x : X) → slice_get xs k ≡ Some x → Contains xs x
  Contains-at xs k x e = (k, slice_get_within xs k x e, get_or_from_slice_get xs k x x e)

  pub take-place : (xs : List X) (n k : ℕ) (y : X) → slice_get (take n xs) k ≡ Some y → (k < n) × (slice_get xs k ≡ Some y)
  take-place xs zero k y e = absurd (cc)
  take-place [] (suc n) k y e = absurd (cc)
  take-place (x ∷ xs) (suc n) zero y e = (omega arith, e)
  take-place (x ∷ xs) (suc n) (suc k) y e = let r = take-place xs n k y e in (omega (arith, r.0), r.1)

  pub place-take : (xs : List X) (n k : ℕ) (y : X) → k < n → slice_get xs k ≡ Some y → slice_get (take n xs) k ≡ Some y
  place-take xs zero k y l e = absurd (omega (arith, l))
  place-take [] (suc n) k y l e = absurd (cc)
  place-take (x ∷ xs) (suc n) zero y l e = e
  place-take (x ∷ xs) (suc n) (suc k) y l e = place-take xs n k y (omega (arith, l)) e

  pub set-same : (xs : List X) (k : ℕ) (x y : X) → slice_get xs k ≡ Some y → slice_get (set xs k x) k ≡ Some x
  set-same [] k x y e = absurd (cc)
  set-same (z ∷ zs) zero x y e = refl
  set-same (z ∷ zs) (suc k) x y e = set-same zs k x y e

  pub set-other : (xs : List X) (k j : ℕ) (x : X) → j ≢ k → slice_get (set xs k x) j ≡ slice_get xs j
  set-other [] k j x n = refl
  set-other (z ∷ zs) zero zero x n = absurd (n refl)
  set-other (z ∷ zs) zero (suc j) x n = refl
  set-other (z ∷ zs) (suc k) zero x n = refl
  set-other (z ∷ zs) (suc k) (suc j) x n = set-other zs k j x (λ e. n (ap suc e))

  pub set-place : (xs : List X) (k j : ℕ) (x y : X) → slice_get (set xs k x) j ≡ Some y → ((j ≡ k) × (x ≡ y)) ⊎ ((j ≢ k) × (slice_get xs j ≡ Some y))
  set-place [] k j x y e = absurd (cc)
  set-place (z ∷ zs) zero zero x y e = inl (refl, same_Some x y e)
  set-place (z ∷ zs) zero (suc j) x y e = inr ((λ q. omega (arith, q)), e)
  set-place (z ∷ zs) (suc k) zero x y e = inr ((λ q. omega (arith, q)), e)
  set-place (z ∷ zs) (suc k) (suc j) x y e =
      ⊎_elim (λ p. inl (ap suc p.0, p.1)) (λ p. inr ((λ q. p.0 (omega (arith, q))), p.1)) (set-place zs k j x y e)

  pub Contains-cases : (x : X) (xs : List X) (y : X) → Contains (x ∷ xs) y → (x ≡ y) ⊎ Contains xs y
  Contains-cases x xs y c = split (place-of (x ∷ xs) y c).0 (place-of (x ∷ xs) y c).1
    where
      split : (k : ℕ) → slice_get (x ∷ xs) k ≡ Some y → (x ≡ y) ⊎ Contains xs y
      split zero e = inl (same_Some x y e)
      split (suc k) e = inr (Contains-at xs k y e)

  pub Contains-first : (x : X) (xs : List X) → Contains (x ∷ xs) x
  Contains-first x xs = Contains-at (x ∷ xs) 0 x refl

  pub Contains-rest : (x : X) (xs : List X) (y : X) → Contains xs y → Contains (x ∷ xs) y
  Contains-rest x xs y c = let p = place-of xs y c in Contains-at (x ∷ xs) (suc p.0) y p.1

module _ {X Y : Type 0} (f : X → Y) where
  pub Contains-map : (xs : List X) (x : X) → Contains xs x → Contains (map f xs) (f x)
  Contains-map [] x c = absurd (omega (arith, c.1))
  Contains-map (z ∷ xs) x c =
      ⊎_elim (λ (e : z ≡ x). subst (λ (y : X). Contains (f y ∷ map f xs) (f x)) (sym e) (Contains-first (f x) (map f xs)))
      (λ r. Contains-rest (f z) (map f xs) (f x) (Contains-map xs x r)) (Contains-cases z xs x c)

pub names-in : (rows : List Row) (name : ℕ) (row : Row) → slice_get rows name ≡ Some row → (other : ℕ) → Names rows name other → Contains row.named (id_at other)
names-in rows name row e other n = subst (λ (o : Option Row). IsSomeAnd o (λ r. Contains r.named (id_at other))) e n

pub in-names : (rows : List Row) (name : ℕ) (row : Row) → slice_get rows name ≡ Some row → (other : ℕ) → Contains row.named (id_at other) → Names rows name other
in-names rows name row e other c = subst (λ (o : Option Row). IsSomeAnd o (λ r. Contains r.named (id_at other))) (sym e) c
