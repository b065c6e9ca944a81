-- The least of the numbers of features, with one more feature.
use Rattle.std.proofs.Common.{◌≡◌, ◌⊎◌, ℕ, ◌+◌, ◌<◌, ◌≤◌, inl, inr, ⊎_elim, Bool, true, false, List, Option, Some, None, slice_get, IfSome, refl, sym, subst, ◌∙◌, arith}
use Rattle.std.proofs.lemmas.Bool.{cases_lt}
use Rattle.std.proofs.lemmas.Option.{none-some, same_Some}
use Rattle.reg_registry.specs.declared.registry.OptionRow.{OptionRow}
use Rattle.reg_closure.specs.Closure.{IsIn}
use Rattle.reg_permit.specs.Lowest.{IsLeast, IsLeastWith, IsLeftOut, IsNumber}
use Rattle.reg_permit.specs.Permitted.{IsFeature, IsLower}
use Rattle.reg_permit.proofs.OrderLemmas.{lower-split, one-number}

module _ (P : ℕ × ℕ → Type 0) where
  -- none that passes is below the least
  pub none-below : (least : Option (ℕ × ℕ)) (bound : ℕ × ℕ) → IsLeast P least → IfSome least (λ low. IsLower low bound → ⊥)
      → (version : ℕ × ℕ) → P version → IsLower version bound → ⊥
  none-below None bound least above version p l = least version p
  none-below (Some low) bound least above version p l = ⊎_elim (λ (a : IsLower version low). least.1 version p a) above (lower-split version low bound l)

  module _ (Q : ℕ × ℕ → Type 0) where
    pub least-same : (least : Option (ℕ × ℕ)) → IsLeast P least → ((v : ℕ × ℕ) → P v → Q v) → ((v : ℕ × ℕ) → Q v → P v) → IsLeast Q least
    least-same None h to from = λ v q. h v (from v q)
    least-same (Some low) h to from = (to low h.0, λ v q. h.1 v (from v q))

    pub least-with : (old new : Option (ℕ × ℕ)) (version : ℕ × ℕ) → IsLeast P old → IsLeastWith old version new → ((v : ℕ × ℕ) → P v → Q v) → Q version
        → ((v : ℕ × ℕ) → Q v → P v ⊎ (version ≡ v)) → IsLeast Q new
    least-with old None version h w to here from = absurd w
    least-with None (Some low) version h w to here from = (
      ⊎_elim (λ (e : low ≡ version). subst Q (sym e) here) (λ (e : None ≡ Some low). absurd (none-some low e)) w.one,
      λ v q l. ⊎_elim (λ (p : P v). h v p) (λ (e : version ≡ v). w.here (subst (λ (x : ℕ × ℕ). IsLower x low) (sym e) l)) (from v q),
    )
    least-with (Some least) (Some low) version h w to here from = (
      ⊎_elim (λ (e : low ≡ version). subst Q (sym e) here) (λ (e : Some least ≡ Some low). to low (subst P (same_Some least low e) h.0)) w.one,
      λ v q l. ⊎_elim
          (λ (p : P v). ⊎_elim (λ (a : IsLower v least). h.1 v p a) (λ (a : IsLower least low). w.before a) (lower-split v least low l))
          (λ (e : version ≡ v). w.here (subst (λ (x : ℕ × ℕ). IsLower x low) (sym e) l))
          (from v q),
    )

-- one more option
module _ (options : List OptionRow) (chosen : List Bool) (place : ℕ) (o : OptionRow) (at : slice_get options place ≡ Some o) where
  number-old : (v : ℕ × ℕ) → IsNumber options place v → IsNumber options (place + 1) v
  number-old v n = (n.0, omega (arith, n.1), n.2)

  left-old : (v : ℕ × ℕ) → IsLeftOut options chosen place v → IsLeftOut options chosen (place + 1) v
  left-old v n = (n.0, omega (arith, n.1), n.2, n.3)

  here-version : (k : ℕ) (v : ℕ × ℕ) → place ≤ k → k < place + 1 → IsFeature options k v → o.version ≡ Some v
  here-version k v l m f = let same : k ≡ place = omega (arith, l, m) in one-number options place o v at (subst (λ (x : ℕ). IsFeature options x v) same f)

  number-cases : (v : ℕ × ℕ) → IsNumber options (place + 1) v → IsNumber options place v ⊎ (o.version ≡ Some v)
  number-cases v n = ⊎_elim (λ (l : n.0 < place). inl (n.0, l, n.2)) (λ (l : place ≤ n.0). inr (here-version n.0 v l n.1 n.2)) (cases_lt n.0 place)

  left-cases : (v : ℕ × ℕ) → IsLeftOut options chosen (place + 1) v → IsLeftOut options chosen place v ⊎ ((o.version ≡ Some v) × (IsIn chosen place → ⊥))
  left-cases v n =
      ⊎_elim (λ (l : n.0 < place). inl (n.0, l, n.2, n.3))
      (λ (l : place ≤ n.0). let same : n.0 ≡ place = omega (arith, l, n.1) in inr (here-version n.0 v l n.1 n.2, subst (λ (x : ℕ). IsIn chosen x → ⊥) same n.3))
      (cases_lt n.0 place)

  pub all-skip : (least : Option (ℕ × ℕ)) → o.version ≡ None → IsLeast (IsNumber options place) least → IsLeast (IsNumber options (place + 1)) least
  all-skip least none h =
      least-same (IsNumber options place) (IsNumber options (place + 1)) least h number-old
      (λ v n. ⊎_elim (λ (a : IsNumber options place v). a) (λ (e : o.version ≡ Some v). absurd (none-some v (sym none ∙ e))) (number-cases v n))

  pub left-skip : (least : Option (ℕ × ℕ)) → o.version ≡ None → IsLeast (IsLeftOut options chosen place) least → IsLeast (IsLeftOut options chosen (place + 1)) least
  left-skip least none h =
      least-same (IsLeftOut options chosen place) (IsLeftOut options chosen (place + 1)) least h left-old
      (λ v n. ⊎_elim (λ (a : IsLeftOut options chosen place v). a)
      (λ (e : (o.version ≡ Some v) × (IsIn chosen place → ⊥)). absurd (none-some v (sym none ∙ e.0))) (left-cases v n))

  module _ (version : ℕ × ℕ) (is : o.version ≡ Some version) where
    pub all-more : (old new : Option (ℕ × ℕ)) → IsLeast (IsNumber options place) old → IsLeastWith old version new → IsLeast (IsNumber options (place + 1)) new
    all-more old new h w =
        least-with (IsNumber options place) (IsNumber options (place + 1)) old new version h w number-old (place, omega arith, (o, at, is))
        (λ v n. ⊎_elim (λ (a : IsNumber options place v). inl a) (λ (e : o.version ≡ Some v). inr (same_Some version v (sym is ∙ e))) (number-cases v n))

    pub left-more : (old new : Option (ℕ × ℕ)) → (IsIn chosen place → ⊥) → IsLeast (IsLeftOut options chosen place) old → IsLeastWith old version new
        → IsLeast (IsLeftOut options chosen (place + 1)) new
    left-more old new out h w =
        least-with (IsLeftOut options chosen place) (IsLeftOut options chosen (place + 1)) old new version h w left-old (place, omega arith, (o, at, is), out)
        (λ v n. ⊎_elim (λ (a : IsLeftOut options chosen place v). inl a)
        (λ (e : (o.version ≡ Some v) × (IsIn chosen place → ⊥)). inr (same_Some version v (sym is ∙ e.0))) (left-cases v n))

    pub left-chosen : (old new : Option (ℕ × ℕ)) → IsIn chosen place → IsLeast (IsLeftOut options chosen place) old → new ≡ old
        → IsLeast (IsLeftOut options chosen (place + 1)) new
    left-chosen old new chosen-here h same =
        subst (λ (x : Option (ℕ × ℕ)). IsLeast (IsLeftOut options chosen (place + 1)) x) (sym same)
        (least-same (IsLeftOut options chosen place) (IsLeftOut options chosen (place + 1)) old h left-old
        (λ v n. ⊎_elim (λ (a : IsLeftOut options chosen place v). a)
        (λ (e : (o.version ≡ Some v) × (IsIn chosen place → ⊥)). absurd (e.1 chosen-here)) (left-cases v n)))

    -- chosen or not
    pub left-either : (old new : Option (ℕ × ℕ)) (b : Bool) → slice_get chosen place ≡ Some b → IsLeast (IsLeftOut options chosen place) old
        → (b ≡ true → new ≡ old) → (b ≡ false → IsLeastWith old version new) → IsLeast (IsLeftOut options chosen (place + 1)) new
    left-either old new true here h same more = left-chosen old new here h (same refl)
    left-either old new false here h same more = left-more old new (λ e. cc (here, e)) h (more refl)
