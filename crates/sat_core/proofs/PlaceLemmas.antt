-- Lists by their places, and entries of a trail with those before them.
use Rattle.std.proofs.Common.{◌≡◌, ℕ, zero, suc, ◌<◌, ◌⊎◌, inl, inr, ⊎_elim, Bool, true, List, [], ◌∷◌, ◌++◌, length, map, take, filter, slice_get, Some, All, Contains, refl, sym, ap, subst, ◌∙◌, append_assoc, append-nil, length-take, get_or-take, arith}
use Rattle.std.proofs.lemmas.Bool.{cases_Bool}
use Rattle.std.proofs.lemmas.List.{take-append-le}
use Rattle.std.proofs.lemmas.List.Elements.{All-nil, All-cons, All-contains, All-weaker, Contains-append_right, Contains-append_cases, Contains-push_cases}
use Rattle.std.proofs.lemmas.Option.{none-some, same_Some, slice_get_within, slice_get-get_or, get_or_from_slice_get}
use Rattle.std.proofs.Math.Seq.{take-append_seam}
use Rattle.sat_core.specs.declared.entry.Entry.{Entry}

module _ {X : Type 0} (P : List X → Type 0) (more : (xs : List X) (x : X) → P xs → P (xs ++ x ∷ [])) where
  grown : (xs ys : List X) → P xs → P (xs ++ ys)
  grown xs [] p = subst P (sym (append-nil xs)) p
  grown xs (y ∷ ys) p = subst P (append_assoc xs (y ∷ []) ys) (grown (xs ++ y ∷ []) ys (more xs y p))

  -- induction that puts one more last
  pub by-pushes : P [] → (xs : List X) → P xs
  by-pushes none xs = grown [] xs none

module _ {X : Type 0} where
  pub push-place : (xs : List X) (x y : X) (k : ℕ) → slice_get (xs ++ x ∷ []) k ≡ Some y → (slice_get xs k ≡ Some y) ⊎ ((k ≡ length xs) × (x ≡ y))
  push-place [] x y zero e = inr (refl, same_Some x y e)
  push-place [] x y (suc k) e = absurd (cc)
  push-place (z ∷ zs) x y zero e = inl e
  push-place (z ∷ zs) x y (suc k) e = ⊎_elim inl (λ p. inr (ap suc p.0, p.1)) (push-place zs x y k e)

  pub left-place : (xs ys : List X) (k : ℕ) (y : X) → slice_get xs k ≡ Some y → slice_get (xs ++ ys) k ≡ Some y
  left-place [] ys k y e = absurd (cc)
  left-place (x ∷ xs) ys zero y e = e
  left-place (x ∷ xs) ys (suc k) y e = left-place xs ys k y e

  pub seam-place : (xs : List X) (x : X) (ys : List X) → slice_get (xs ++ x ∷ ys) (length xs) ≡ Some x
  seam-place [] x ys = refl
  seam-place (z ∷ zs) x ys = seam-place zs x ys

  pub Contains-at : (xs : List X) (k : ℕ) (x : X) → slice_get xs k ≡ Some x → Contains xs x
  Contains-at xs k x e = (k, slice_get_within xs k x e, get_or_from_slice_get xs k x x e)

  pub place-of : (xs : List X) (x : X) → Contains xs x → (k : ℕ) × (slice_get xs k ≡ Some x)
  place-of xs x c = (c.0, slice_get-get_or xs c.0 x c.1 ∙ ap Some c.2)

  -- what stands before a place
  pub Contains-before : (xs : List X) (i j : ℕ) (x : X) → i < j → slice_get xs i ≡ Some x → Contains (take j xs) x
  Contains-before xs i j x lt e =
      (i, omega (arith, lt, slice_get_within xs i x e, length-take j xs), get_or-take j xs i x lt ∙ get_or_from_slice_get xs i x x e)

  pub before-place : (xs : List X) (j : ℕ) (x : X) → Contains (take j xs) x → (i : ℕ) × (i < j) × (slice_get xs i ≡ Some x)
  before-place xs j x c =
      let both : (c.0 < j) × (c.0 < length xs) = omega (arith, c.1, length-take j xs) in
      (c.0, both.0, slice_get-get_or xs c.0 x both.1 ∙ ap Some (sym (get_or-take j xs c.0 x both.0) ∙ c.2))

  pub Contains-filter : (p : X → Bool) (xs : List X) → All (λ x. p x ≡ true → Contains (filter p xs) x) xs
  Contains-filter p [] = All-nil (λ x. p x ≡ true → Contains (filter p []) x)
  Contains-filter p (y ∷ ys) =
      All-cons (λ x. p x ≡ true → Contains (filter p (y ∷ ys)) x) y ys (λ e. rw e (0, omega arith, refl))
      (All-weaker (λ x. p x ≡ true → Contains (filter p ys) x) (λ x. p x ≡ true → Contains (filter p (y ∷ ys)) x)
      (λ x h e. ⊎_elim (λ t. rw t (Contains-append_right (y ∷ []) (filter p ys) x (h e))) (λ f. rw f (h e)) (cases_Bool (p y)))
      ys (Contains-filter p ys))

module _ {X Y : Type 0} (f : X → Y) where
  pub Contains-map : (xs : List X) (x : X) → Contains xs x → Contains (map f xs) (f x)
  Contains-map xs x c = All-contains (λ y. Contains (map f xs) (f y)) xs x (each xs) c
    where
      each : (ys : List X) → All (λ y. Contains (map f ys) (f y)) ys
      each [] = All-nil (λ y. Contains (map f []) (f y))
      each (y ∷ ys) =
          All-cons (λ z. Contains (map f (y ∷ ys)) (f z)) y ys (0, omega arith, refl)
          (All-weaker (λ z. Contains (map f ys) (f z)) (λ z. Contains (map f (y ∷ ys)) (f z)) (λ z h. Contains-append_right (f y ∷ []) (map f ys) (f z) h) ys (each ys))

  pub map-Contains : (xs : List X) (y : Y) → Contains (map f xs) y → (x : X) × Contains xs x × (f x ≡ y)
  map-Contains [] y c = absurd (omega (arith, c.1))
  map-Contains (x ∷ xs) y c = ⊎_elim (λ h. let e : f x ≡ y = one (f x) y h in (x, (0, omega arith, refl), e)) (λ h. let r = map-Contains xs y h in (r.0, Contains-append_right (x ∷ []) xs r.0 r.1, r.2)) (Contains-append_cases (f x ∷ []) (map f xs) y c)
    where
      one : (a b : Y) → Contains (a ∷ []) b → a ≡ b
      one a b h = ⊎_elim (λ none. absurd (omega (arith, none.1))) (λ e. e) (Contains-push_cases [] a b h)

-- Each entry with those before it.

abbrev pub Each : (List Entry → Entry → Type 0) → List Entry → Type 0
Each P entries = (place : ℕ) (entry : Entry) → slice_get entries place ≡ Some entry → P (take place entries) entry

module _ (P : List Entry → Entry → Type 0) where
  pub Each-nil : Each P []
  Each-nil place entry e = absurd (none-some entry e)

  -- one more that stands behind the others
  pub Each-push : (xs : List Entry) (x : Entry) → Each P xs → P xs x → Each P (xs ++ x ∷ [])
  Each-push xs x each last place entry e =
      ⊎_elim
      (λ old. subst (λ ys. P ys entry) (sym (take-append-le place xs (x ∷ []) (omega (arith, slice_get_within xs place entry old)))) (each place entry old))
      (λ new. let front : take place (xs ++ x ∷ []) ≡ xs = ap (λ n. take n (xs ++ x ∷ [])) new.0 ∙ take-append_seam xs (x ∷ []) in subst (λ ys. P ys entry) (sym front) (subst (P xs) new.1 last))
      (push-place xs x entry place e)

  -- the first of them
  pub Each-front : (xs ys : List Entry) → Each P (xs ++ ys) → Each P xs
  Each-front xs ys each place entry e =
      subst (λ zs. P zs entry) (take-append-le place xs ys (omega (arith, slice_get_within xs place entry e))) (each place entry (left-place xs ys place entry e))

  -- one of them, behind those that stand before it
  pub Each-at : (xs : List Entry) (x : Entry) (ys : List Entry) → Each P (xs ++ x ∷ ys) → P xs x
  Each-at xs x ys each = subst (λ zs. P zs x) (take-append_seam xs (x ∷ ys)) (each (length xs) x (seam-place xs x ys))
