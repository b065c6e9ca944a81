-- How many elements of a list pass a test.
use Rattle.std.proofs.Common.{◌≡◌, ◌∙◌, refl, sym, ap, subst, ℕ, zero, suc, ◌+◌, Bool, true, false, ◌&&◌, cond, eqb, List, [], ◌∷◌, ◌++◌, map, slice_get, get_or, Some, All, zero-add, arith}
use Rattle.std.specs.Prelude.{count_by, filter}
use Rattle.std.proofs.lemmas.Bool.{eq-eqb, ne_eqb}
use Rattle.std.proofs.lemmas.List.Elements.{All-head, All-tail}
use Rattle.std.proofs.lemmas.List.Sums.{sum_by-append, sum_by-cons}
use Rattle.std.proofs.lemmas.Option.{same_Some, slice_get-get_or, slice_get_within}

-- ---- any test

pub count-cons : {X : Type 0} (p : X → Bool) (x : X) (xs : List X) → count_by p (x ∷ xs) ≡ cond (p x) 1 0 + count_by p xs
count-cons p x xs = sum_by-cons (λ y. cond (p y) 1 0) x xs

pub count-append : {X : Type 0} (p : X → Bool) (xs ys : List X) → count_by p (xs ++ ys) ≡ count_by p xs + count_by p ys
count-append p xs ys = sum_by-append (λ y. cond (p y) 1 0) xs ys

pub count-map : {X Y : Type 0} (p : Y → Bool) (f : X → Y) (xs : List X) → count_by p (map f xs) ≡ count_by (λ x. p (f x)) xs
count-map p f [] = refl
count-map p f (x ∷ xs) = count-cons p (f x) (map f xs) ∙ (ap (λ (n : ℕ). cond (p (f x)) 1 0 + n) (count-map p f xs) ∙ sym (count-cons (λ x. p (f x)) x xs))

-- tests that agree at each element count alike
pub count-alike : {X : Type 0} (p q : X → Bool) (xs : List X) → All (λ x. p x ≡ q x) xs → count_by p xs ≡ count_by q xs
count-alike p q [] same = refl
count-alike p q (x ∷ xs) same =
    count-cons p x xs ∙ (ap (λ (b : Bool). cond b 1 0 + count_by p xs) (All-head (λ x. p x ≡ q x) x xs same)
    ∙ (ap (λ (n : ℕ). cond (q x) 1 0 + n) (count-alike p q xs (All-tail (λ x. p x ≡ q x) x xs same)) ∙ sym (count-cons q x xs)))

-- what a first element adds to a count, if it is kept
first-counted : {X : Type 0} (p : X → Bool) (kept : Bool) (x : X) (xs : List X) → count_by p (cond kept (x ∷ xs) xs) ≡ cond (kept && p x) 1 0 + count_by p xs
first-counted p true x xs = count-cons p x xs
first-counted p false x xs = sym (zero-add (count_by p xs))

-- what is counted among those that pass another test
pub count-filter : {X : Type 0} (p kept : X → Bool) (xs : List X) → count_by p (filter kept xs) ≡ count_by (λ x. kept x && p x) xs
count-filter p kept [] = refl
count-filter p kept (x ∷ xs) =
    first-counted p (kept x) x (filter kept xs)
    ∙ (ap (λ (n : ℕ). cond (kept x && p x) 1 0 + n) (count-filter p kept xs) ∙ sym (count-cons (λ y. kept y && p y) x xs))

count-none : {X : Type 0} (p : X → Bool) (xs : List X) → All (λ x. p x ≡ false) xs → count_by p xs ≡ 0
count-none p [] none = refl
count-none p (x ∷ xs) none =
    count-cons p x xs ∙ (ap (λ (b : Bool). cond b 1 0 + count_by p xs) (All-head (λ x. p x ≡ false) x xs none)
    ∙ (zero-add (count_by p xs) ∙ count-none p xs (All-tail (λ x. p x ≡ false) x xs none)))

and-true : (b : Bool) → (b && true) ≡ b
and-true true = refl
and-true false = refl

and-false : (b : Bool) → (b && false) ≡ false
and-false true = refl
and-false false = refl

-- where what is asked besides is the same of each element
pub count-also : {X : Type 0} (p : X → Bool) (b : Bool) (xs : List X) → count_by (λ x. p x && b) xs ≡ cond b (count_by p xs) 0
count-also p true xs = count-alike (λ x. p x && true) p xs (λ k d within. and-true (p (get_or xs k d)))
count-also p false xs = count-none (λ x. p x && false) xs (λ k d within. and-false (p (get_or xs k d)))

-- ---- a number that no two elements have

-- no two elements have the same number
abbrev pub HaveOnce : {X : Type 0} → (X → ℕ) → List X → Type 0
HaveOnce {X} number xs = (i j : ℕ) (x y : X) → slice_get xs i ≡ Some x → slice_get xs j ≡ Some y → number x ≡ number y → i ≡ j

once-tail : {X : Type 0} (number : X → ℕ) (x : X) (xs : List X) → HaveOnce number (x ∷ xs) → HaveOnce number xs
once-tail number x xs once i j y z there also same = let both : suc i ≡ suc j = once (suc i) (suc j) y z there also same in omega (arith, both)

others-differ : {X : Type 0} (number : X → ℕ) (x : X) (xs : List X) → HaveOnce number (x ∷ xs) → All (λ y. eqb (number y) (number x) ≡ false) xs
others-differ number x xs once k d within =
    ne_eqb (number (get_or xs k d)) (number x)
    (λ same. let both : zero ≡ suc k = once zero (suc k) x (get_or xs k d) refl (slice_get-get_or xs k d within) (sym same) in absurd (omega (arith, both)))

-- the number of some element is that of one
pub count-one : {X : Type 0} (number : X → ℕ) (xs : List X) (n i : ℕ) (x : X) → HaveOnce number xs → slice_get xs i ≡ Some x → number x ≡ n → count_by (λ y. eqb (number y) n) xs ≡ 1
count-one number [] n i x once here is = let within = slice_get_within [] i x here in absurd (omega (arith, within))
count-one {X} number (y ∷ ys) n zero x once here is =
    let same : number y ≡ n = ap number (same_Some y x here) ∙ is in
    let none : All (λ z. eqb (number z) n ≡ false) ys = subst (λ (m : ℕ). All (λ (z : X). eqb (number z) m ≡ false) ys) same (others-differ number y ys once) in
    count-cons (λ z. eqb (number z) n) y ys ∙ (ap (λ (b : Bool). cond b 1 0 + count_by (λ z. eqb (number z) n) ys) (eq-eqb (number y) n same) ∙ ap (λ (m : ℕ). 1 + m) (count-none (λ z. eqb (number z) n) ys none))
count-one number (y ∷ ys) n (suc i) x once here is =
    let other : eqb (number y) n ≡ false = ne_eqb (number y) n (λ same. let both : zero ≡ suc i = once zero (suc i) y x refl here (same ∙ sym is) in absurd (omega (arith, both))) in
    count-cons (λ z. eqb (number z) n) y ys ∙ (ap (λ (b : Bool). cond b 1 0 + count_by (λ z. eqb (number z) n) ys) other
    ∙ (zero-add (count_by (λ z. eqb (number z) n) ys) ∙ count-one number ys n i x (once-tail number y ys once) here is))
