-- The order of a closed part is the order of the whole, without the names that aren't in the part.
use Rattle.std.proofs.Common.{◌≡◌, ℕ, zero, suc, ⊎_elim, Bool, true, false, List, [], ◌∷◌, take, filter, get_or, slice_get, Some, Contains, refl, sym, ap, subst, ◌∙◌, cond, arith}
use Rattle.std.proofs.lemmas.Bool.{true≢false, cases_Bool}
use Rattle.std.proofs.lemmas.Option.{none-some, same_Some, get_or_from_slice_get}
use Rattle.vkb_bytes.specs.First.{IsFirst}
use Rattle.reg_registry.specs.declared.registry.Row.{Row}
use Rattle.reg_closure.proofs.PlacedLemmas.{Contains-cases, Contains-first, Contains-rest, Contains-at, place-of}
use Rattle.reg_closure.specs.Closure.{IsIn}
use Rattle.reg_closure.specs.Laws.{OrdersOfParts}
use Rattle.reg_closure.specs.Orders.{IsClosedSet, IsOrder, IsPart, MayStand}

-- where a filtered list has an element, the list has it, and what stands before it is filtered too
record IsKept (p : ℕ → Bool) (xs : List ℕ) (at x : ℕ) : Type 0 where
  place : ℕ
  here : slice_get xs place ≡ Some x
  passes : p x ≡ true
  front : take at (filter p xs) ≡ filter p (take place xs)

module _ (p : ℕ → Bool) where
  filter-yes : (x : ℕ) (xs : List ℕ) → p x ≡ true → filter p (x ∷ xs) ≡ x ∷ filter p xs
  filter-yes x xs e = ap (λ (b : Bool). cond b (x ∷ filter p xs) (filter p xs)) e

  filter-no : (x : ℕ) (xs : List ℕ) → p x ≡ false → filter p (x ∷ xs) ≡ filter p xs
  filter-no x xs e = ap (λ (b : Bool). cond b (x ∷ filter p xs) (filter p xs)) e

  kept : (xs : List ℕ) (at x : ℕ) → slice_get (filter p xs) at ≡ Some x → IsKept p xs at x
  kept [] at x e = absurd (none-some x e)
  kept (y ∷ ys) at x e =
      ⊎_elim
      (λ (t : p y ≡ true). yes (λ n g. kept ys n x g) t at (subst (λ (zs : List ℕ). slice_get zs at ≡ Some x) (filter-yes y ys t) e))
      (λ (f : p y ≡ false).
      let k = kept ys at x (subst (λ (zs : List ℕ). slice_get zs at ≡ Some x) (filter-no y ys f) e) in
      record {
        place = suc k.place;
        here = k.here;
        passes = k.passes;
        front = ap (take at) (filter-no y ys f) ∙ k.front ∙ sym (filter-no y (take k.place ys) f);
      })
      (cases_Bool (p y))
    where
      yes : ((n : ℕ) → slice_get (filter p ys) n ≡ Some x → IsKept p ys n x) → p y ≡ true
          → (n : ℕ) → slice_get (y ∷ filter p ys) n ≡ Some x → IsKept p (y ∷ ys) n x
      yes more t zero g =
          let s : y ≡ x = same_Some y x g in
          record { place = 0; here = ap Some s; passes = subst (λ (z : ℕ). p z ≡ true) s t; front = refl }
      yes more t (suc n) g =
          let k = more n g in
          record {
            place = suc k.place;
            here = k.here;
            passes = k.passes;
            front = ap (take (suc n)) (filter-yes y ys t) ∙ ap (λ (zs : List ℕ). y ∷ zs) k.front ∙ sym (filter-yes y (take k.place ys) t);
          }

  in-filter : (xs : List ℕ) (x : ℕ) → Contains xs x → p x ≡ true → Contains (filter p xs) x
  in-filter [] x c t = absurd (omega (arith, c.1))
  in-filter (y ∷ ys) x c t =
      ⊎_elim
      (λ (e : y ≡ x). subst (λ (zs : List ℕ). Contains zs x) (sym (filter-yes y ys (subst (λ (z : ℕ). p z ≡ true) (sym e) t))) (subst
      (λ (z : ℕ). Contains (z ∷ filter p ys) x) (sym e) (Contains-first x (filter p ys))))
      (λ d. let k = in-filter ys x d t in
      ⊎_elim
      (λ (b : p y ≡ true). subst (λ (zs : List ℕ). Contains zs x) (sym (filter-yes y ys b)) (Contains-rest y (filter p ys) x k))
      (λ (b : p y ≡ false). subst (λ (zs : List ℕ). Contains zs x) (sym (filter-no y ys b)) k)
      (cases_Bool (p y)))
      (Contains-cases y ys x c)

  from-filter : (xs : List ℕ) (x : ℕ) → Contains (filter p xs) x → Contains xs x
  from-filter xs x c =
      let at = place-of (filter p xs) x c in
      let k = kept xs at.0 x at.1 in Contains-at xs k.place x k.here

module _ (rows : List Row) (part set : List Bool) (closed : IsClosedSet rows part) (inside : IsPart part set) where
  abbrev chosen : ℕ → Bool
  chosen place = get_or part place false

  in-part : (place : ℕ) → chosen place ≡ true → IsIn part place
  in-part place t =
      by part place t
    where
      by : (xs : List Bool) (k : ℕ) → get_or xs k false ≡ true → slice_get xs k ≡ Some true
      by [] k e = absurd (true≢false (sym e))
      by (x ∷ xs) zero e = ap Some e
      by (x ∷ xs) (suc k) e = by xs k e

  part-in : (place : ℕ) → IsIn part place → chosen place ≡ true
  part-in place i = get_or_from_slice_get part place true false i

  -- what may stand behind the part's names that are placed may stand behind all that are placed, and the other way round
  may-more : (placed : List ℕ) (place : ℕ) → MayStand rows part (filter chosen placed) place → MayStand rows set placed place
  may-more placed place m = record {
    one = inside place m.one;
    new = λ c. m.new (in-filter chosen placed place c (part-in place m.one));
    after = λ other n. from-filter chosen placed other (m.after other n);
  }

  may-less : (placed : List ℕ) (place : ℕ) → IsIn part place → MayStand rows set placed place → MayStand rows part (filter chosen placed) place
  may-less placed place i m = record {
    one = i;
    new = λ c. m.new (from-filter chosen placed place c);
    after = λ other n. in-filter chosen placed other (m.after other n) (part-in other (closed place other i n));
  }

  of-part : (order : List ℕ) → IsOrder rows set order → IsOrder rows part (filter chosen order)
  of-part order o = record {
    each = λ at place e.
        let k = kept chosen order at place e in
        let first = o.each k.place place k.here in
        subst (λ (placed : List ℕ). IsFirst (MayStand rows part placed) place) (sym k.front) (record {
          here = may-less (take k.place order) place (in-part place k.passes) first.here;
          first = λ before l m. first.first before l (may-more (take k.place order) before m);
        });
    whole = λ place m. o.whole place (may-more order place m);
  }

pub orders-of-parts : OrdersOfParts
orders-of-parts rows part set order closed inside o = of-part rows part set closed inside order o
