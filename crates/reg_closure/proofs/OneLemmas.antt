-- There is one closure, and one order.
use Rattle.std.proofs.Common.{◌≡◌, ℕ, suc, ◌<◌, ⊎_elim, Bool, true, false, List, [], ◌∷◌, ◌++◌, length, refl, sym, ap, subst, ◌∙◌, append_assoc, append-nil, arith}
use Rattle.std.proofs.Math.Seq.{take-append_seam}
use Rattle.std.proofs.lemmas.Bool.{cases_order, true≢false}
use Rattle.std.proofs.lemmas.Option.{same_Some}
use Rattle.vkb_bytes.specs.First.{IsFirst}
use Rattle.reg_registry.specs.declared.registry.Row.{Row}
use Rattle.reg_closure.proofs.PlacedLemmas.{seam-place}
use Rattle.reg_closure.specs.Closure.{IsIn, named}
use Rattle.reg_closure.specs.Laws.{ClosuresAreClosed, ClosuresAreOne, OrdersAreOne}
use Rattle.reg_closure.specs.Orders.{IsOrder, MayStand}

same-sets : (xs ys : List Bool) → length xs ≡ length ys → ((k : ℕ) → IsIn xs k → IsIn ys k) → ((k : ℕ) → IsIn ys k → IsIn xs k) → xs ≡ ys
same-sets [] [] l f g = refl
same-sets [] (y ∷ ys) l f g = absurd (omega (arith, l))
same-sets (x ∷ xs) [] l f g = absurd (omega (arith, l))
same-sets (true ∷ xs) (true ∷ ys) l f g = ap (λ (zs : List Bool). true ∷ zs) (same-sets xs ys (omega (arith, l)) (λ k. f (suc k)) (λ k. g (suc k)))
same-sets (true ∷ xs) (false ∷ ys) l f g = absurd (true≢false (sym (same_Some false true (f 0 refl))))
same-sets (false ∷ xs) (true ∷ ys) l f g = absurd (true≢false (sym (same_Some false true (g 0 refl))))
same-sets (false ∷ xs) (false ∷ ys) l f g = ap (λ (zs : List Bool). false ∷ zs) (same-sets xs ys (omega (arith, l)) (λ k. f (suc k)) (λ k. g (suc k)))

pub closures-one : ClosuresAreOne
closures-one r chosen set other a b =
    same-sets set other (a.count ∙ sym b.count) (λ k i. b.has_all k (a.has_only k i)) (λ k i. a.has_all k (b.has_only k i))

pub closures-closed : ClosuresAreClosed
closures-closed r chosen set c place other i n = c.has_all other (named (c.has_only place i) n)

pub same-first : (P : ℕ → Type 0) (x y : ℕ) → IsFirst P x → IsFirst P y → x ≡ y
same-first P x y a b =
    ⊎_elim (λ (e : x ≡ y). e) (λ o. ⊎_elim (λ (l : x < y). absurd (b.first x l a.here))
    (λ (l : y < x). absurd (a.first y l b.here)) o) (cases_order x y)

module _ (rows : List Row) (set : List Bool) where
  -- the first behind those at the front
  pub order-next : (front : List ℕ) (x : ℕ) (rest : List ℕ) → IsOrder rows set (front ++ x ∷ rest) → IsFirst (MayStand rows set front) x
  order-next front x rest o =
      subst (λ (placed : List ℕ). IsFirst (MayStand rows set placed) x) (take-append_seam front (x ∷ rest)) (o.each (length front) x (seam-place front x rest))

  on : (front : List ℕ) (x : ℕ) (rest : List ℕ) → IsOrder rows set (front ++ x ∷ rest) → IsOrder rows set ((front ++ x ∷ []) ++ rest)
  on front x rest o = subst (IsOrder rows set) (sym (append_assoc front (x ∷ []) rest)) o

  end : (front : List ℕ) → IsOrder rows set (front ++ []) → (place : ℕ) → MayStand rows set front place → ⊥
  end front o place m = o.whole place (subst (λ (placed : List ℕ). MayStand rows set placed place) (sym (append-nil front)) m)

  behind : (front rest other : List ℕ) → IsOrder rows set (front ++ rest) → IsOrder rows set (front ++ other) → rest ≡ other
  behind front [] [] a b = refl
  behind front [] (y ∷ other) a b = absurd (end front a y (order-next front y other b).here)
  behind front (x ∷ rest) [] a b = absurd (end front b x (order-next front x rest a).here)
  behind front (x ∷ rest) (y ∷ other) a b =
      let e : x ≡ y = same-first (MayStand rows set front) x y (order-next front x rest a) (order-next front y other b) in
      let b2 : IsOrder rows set (front ++ x ∷ other) = subst (λ (z : ℕ). IsOrder rows set (front ++ z ∷ other)) (sym e) b in
      ap (λ (z : ℕ). z ∷ rest) e ∙ ap (λ (zs : List ℕ). y ∷ zs) (behind (front ++ x ∷ []) rest other (on front x rest a) (on front x other b2))

pub orders-one : OrdersAreOne
orders-one rows set order other a b = behind rows set [] order other a b
