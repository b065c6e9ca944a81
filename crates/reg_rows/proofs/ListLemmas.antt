-- What holds of each thing of a list that is made of others, and how long it is.
use Rattle.std.proofs.Common.{◌≡◌, ◌≤◌, ◌<◌, ℕ, zero, suc, Bool, true, false, not, ◌==◌, cond, List, [], ◌∷◌, ◌++◌, length, filter, take, slice_get, All, Option, Some, None, refl, ap, ◌∙◌, arith}
use Rattle.std.specs.List.{cons_option, filter_map, flat_map}
use Rattle.std.specs.Option.{IfSome}
use Rattle.std.proofs.lemmas.Bool.{cond_both, both_ways}
use Rattle.std.proofs.lemmas.List.Elements.{All-append, All-cons, All-filter, All-head, All-nil, All-tail}
use Rattle.std.proofs.lemmas.Option.{none-some, same_Some}
use Rattle.reg_rows.specs.Lists.{each_number}

-- of two lists that are nothing together each is nothing
pub nil-parts : {X : Type 0} (xs ys : List X) → xs ++ ys ≡ [] → (xs ≡ []) × (ys ≡ [])
nil-parts [] ys e = (refl, e)
nil-parts (x ∷ xs) ys e = absurd (cc)

pub length-filter-le : {X : Type 0} (p : X → Bool) (xs : List X) → length (filter p xs) ≤ length xs
length-filter-le p [] = omega arith
length-filter-le p (x ∷ xs) =
    cond_both (p x) (x ∷ filter p xs) (filter p xs) (λ kept. length kept ≤ suc (length xs)) (λ passes. omega (arith, length-filter-le p xs)) (λ fails. omega (arith, length-filter-le p xs))

pub all-numbers : (P : ℕ → Type 0) (ns : List ℕ) → All P ns → All P (each_number ns)
all-numbers P [] h = All-nil P
all-numbers P (n ∷ ns) h =
    All-cons P n (filter (λ other. not (other == n)) (each_number ns)) (All-head P n ns h) (All-filter (λ other. not (other == n)) P (each_number ns) (all-numbers P ns (All-tail P n ns h)))

pub length-numbers : (ns : List ℕ) → length (each_number ns) ≤ length ns
length-numbers [] = omega arith
length-numbers (n ∷ ns) = omega (arith, length-filter-le (λ other. not (other == n)) (each_number ns), length-numbers ns)

module _ {X Y : Type 0} (h : X → Option Y) where
  all-option : (P : Y → Type 0) (o : Option Y) (ys : List Y) → IfSome o P → All P ys → All P (cons_option o ys)
  all-option P None ys p a = a
  all-option P (Some y) ys p a = All-cons P y ys p a

  length-option : (o : Option Y) (ys : List Y) → length (cons_option o ys) ≤ suc (length ys)
  length-option None ys = omega arith
  length-option (Some y) ys = omega arith

  pub all-filter_map : (P : Y → Type 0) → ((x : X) → IfSome (h x) P) → (xs : List X) → All P (filter_map h xs)
  all-filter_map P each [] = All-nil P
  all-filter_map P each (x ∷ xs) = all-option P (h x) (filter_map h xs) (each x) (all-filter_map P each xs)

  pub length-filter_map : (xs : List X) → length (filter_map h xs) ≤ length xs
  length-filter_map [] = omega arith
  length-filter_map (x ∷ xs) = omega (arith, length-option (h x) (filter_map h xs), length-filter_map xs)

pub all-flat_map : {X Y : Type 0} (h : X → List Y) (P : Y → Type 0) (Q : X → Type 0) → ((x : X) → Q x → All P (h x)) → (xs : List X) → All Q xs → All P (flat_map h xs)
all-flat_map h P Q each [] all = All-nil P
all-flat_map h P Q each (x ∷ xs) all =
    All-append P (h x) (flat_map h xs) (each x (All-head Q x xs all)) (all-flat_map h P Q each xs (All-tail Q x xs all))

module _ {X : Type 0} (p : X → Bool) where
  -- fewer things pass before one that passes than in all
  pub fewer-before : (xs : List X) (place : ℕ) (x : X) → slice_get xs place ≡ Some x → p x ≡ true → length (filter p (take place xs)) < length (filter p xs)
  fewer-before [] place x e passes = absurd (none-some x e)
  fewer-before (first ∷ xs) zero x e passes =
      cond_both (p first) (first ∷ filter p xs) (filter p xs) (λ kept. 0 < length kept)
      (λ t. omega arith) (λ fails. absurd (both_ways (p first) fails (ap p (same_Some first x e) ∙ passes)))
  fewer-before (first ∷ xs) (suc place) x e passes =
      step (p first) (filter p (take place xs)) (filter p xs) (fewer-before xs place x e passes)
    where
      step : (b : Bool) (some all : List X) → length some < length all → length (cond b (first ∷ some) some) < length (cond b (first ∷ all) all)
      step true some all less = omega arith
      step false some all less = less
