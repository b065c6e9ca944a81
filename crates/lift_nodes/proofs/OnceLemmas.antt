-- Of ids that stand once, exactly one is a mark's.
use Rattle.std.proofs.Common.{◌≡◌, ◌∙◌, refl, sym, ap, ⊎_elim, ℕ, zero, suc, zero-add, ◌+◌, ◌<◌, ◌≤◌, Bool, true, false, not, ◌||◌, cond, List, [], ◌∷◌, map, slice_get, Some, All, Contains, arith}
use Rattle.std.specs.Prelude.{count_by, filter}
use Rattle.std.specs.Bool.{Decides}
use Rattle.std.specs.List.{list_any}
use Rattle.std.specs.Str.{bytes_eq}
use Rattle.std.proofs.lemmas.Bool.{cases_Bool, or_right}
use Rattle.std.proofs.lemmas.Bool.Decides.{same_from_decides}
use Rattle.std.proofs.lemmas.List.Elements.{All-head, All-tail}
use Rattle.std.proofs.lemmas.List.Sums.{sum_by-cons}
use Rattle.std.proofs.lemmas.Option.{same_Some}
use Rattle.std.proofs.lemmas.Slice.Eq.{bytes_eq-Decides}
use Rattle.vkb_formula.specs.Names.{AreDifferent}
use Rattle.vkb_formula.specs.declared.pool.NodeId.{NodeId}
use Rattle.doc_tree.specs.Names.{each_once}
use Rattle.lift_nodes.specs.declared.ids.Giver.{Giver}
use Rattle.lift_nodes.specs.Giving.{id_from}

-- ---- counts

pub count-cons : {X : Type 0} (p : X → Bool) (x : X) (xs : List X) → count_by p (x ∷ xs) ≡ cond (p x) 1 0 + count_by p xs
count-cons p x xs = sum_by-cons (λ y. cond (p y) 1 0) x xs

pub count-map : {X Y : Type 0} (p : Y → Bool) (f : X → Y) (xs : List X) → count_by p (map f xs) ≡ count_by (λ x. p (f x)) xs
count-map p f [] = refl
count-map p f (x ∷ xs) = count-cons p (f x) (map f xs) ∙ (ap (λ (n : ℕ). cond (p (f x)) 1 0 + n) (count-map p f xs) ∙ sym (count-cons (λ x. p (f x)) x xs))

pub count-alike : {X : Type 0} (p q : X → Bool) (xs : List X) → All (λ x. p x ≡ q x) xs → count_by p xs ≡ count_by q xs
count-alike p q [] same = refl
count-alike p q (x ∷ xs) same =
    count-cons p x xs ∙ (ap (λ (b : Bool). cond b 1 0 + count_by p xs) (All-head (λ x. p x ≡ q x) x xs same)
    ∙ (ap (λ (n : ℕ). cond (q x) 1 0 + n) (count-alike p q xs (All-tail (λ x. p x ≡ q x) x xs same)) ∙ sym (count-cons q x xs)))

-- ---- ids that are the same

same_bytes : (a b : List ℕ) → bytes_eq a b ≡ true → a ≡ b
same_bytes a b is = (bytes_eq-Decides a b).0 is

turned : (a b : List ℕ) → bytes_eq a b ≡ bytes_eq b a
turned a b =
    let other = bytes_eq-Decides b a in
    let back : Decides (bytes_eq b a) (a ≡ b) = (λ is. sym (other.0 is), λ same. other.1 (sym same)) in
    same_from_decides (bytes_eq a b) (bytes_eq b a) (bytes_eq-Decides a b) back

-- how often an id stands among those that are not the first
rest-count : (first id x : List ℕ) (xs : List (List ℕ)) (is : Bool) → bytes_eq x first ≡ is → (is ≡ true → bytes_eq x id ≡ bytes_eq first id) → (n : ℕ)
    → count_by (λ other. bytes_eq other id) (filter (λ other. not (bytes_eq other first)) xs) ≡ n
    → count_by (λ other. bytes_eq other id) (cond (not is) (x ∷ filter (λ other. not (bytes_eq other first)) xs) (filter (λ other. not (bytes_eq other first)) xs)) ≡ cond (not is) (cond (bytes_eq x id) 1 0 + n) n
rest-count first id x xs true was same n rest = rest
rest-count first id x xs false was same n rest =
    count-cons (λ other. bytes_eq other id) x (filter (λ other. not (bytes_eq other first)) xs) ∙ ap (λ (k : ℕ). cond (bytes_eq x id) 1 0 + k) rest

-- the first does not stand among the others
none-left : (first id : List ℕ) (ids : List (List ℕ)) → first ≡ id → count_by (λ other. bytes_eq other id) (filter (λ other. not (bytes_eq other first)) ids) ≡ 0
none-left first id [] same = refl
none-left first id (x ∷ xs) same =
    rest-count first id x xs (bytes_eq x first) refl (λ is. ap (λ (y : List ℕ). bytes_eq y id) (same_bytes x first is)) 0 (none-left first id xs same)
    ∙ finish (bytes_eq x first) (bytes_eq x id) (ap (bytes_eq x) same)
  where
    finish : (a b : Bool) → a ≡ b → cond (not a) (cond b 1 0 + 0) 0 ≡ 0
    finish true b e = refl
    finish false true e = absurd (cc)
    finish false false e = refl

-- another id stands among them as often as among all
all-left : (first id : List ℕ) (ids : List (List ℕ)) → bytes_eq first id ≡ false → count_by (λ other. bytes_eq other id) (filter (λ other. not (bytes_eq other first)) ids) ≡ count_by (λ other. bytes_eq other id) ids
all-left first id [] isnt = refl
all-left first id (x ∷ xs) isnt =
    let same : bytes_eq x first ≡ true → bytes_eq x id ≡ bytes_eq first id = λ is. ap (λ (y : List ℕ). bytes_eq y id) (same_bytes x first is) in
    rest-count first id x xs (bytes_eq x first) refl same (count_by (λ other. bytes_eq other id) xs) (all-left first id xs isnt)
    ∙ (finish (bytes_eq x first) (bytes_eq x id) (count_by (λ other. bytes_eq other id) xs) (λ is. same is ∙ isnt) ∙ sym (count-cons (λ other. bytes_eq other id) x xs))
  where
    finish : (a b : Bool) (n : ℕ) → (a ≡ true → b ≡ false) → cond (not a) (cond b 1 0 + n) n ≡ cond b 1 0 + n
    finish true b n e = sym (ap (λ (c : Bool). cond c 1 0 + n) (e refl) ∙ zero-add n)
    finish false b n e = refl

-- ---- each once

once-step : (is : Bool) (first id : List ℕ) (ids : List (List ℕ)) → bytes_eq first id ≡ is
    → count_by (λ other. bytes_eq other id) (each_once ids) ≡ cond (list_any (bytes_eq id) ids) 1 0
    → cond is 1 0 + count_by (λ other. bytes_eq other id) (filter (λ other. not (bytes_eq other first)) (each_once ids)) ≡ cond (is || list_any (bytes_eq id) ids) 1 0
once-step true first id ids was rest = ap (λ (n : ℕ). 1 + n) (none-left first id (each_once ids) (same_bytes first id was))
once-step false first id ids was rest = zero-add (count_by (λ other. bytes_eq other id) (filter (λ other. not (bytes_eq other first)) (each_once ids))) ∙ all-left first id (each_once ids) was ∙ rest

-- an id that is among some stands once among those that stand once, and another not at all
pub count-once : (ids : List (List ℕ)) (id : List ℕ) → count_by (λ other. bytes_eq other id) (each_once ids) ≡ cond (list_any (bytes_eq id) ids) 1 0
count-once [] id = refl
count-once (first ∷ ids) id =
    count-cons (λ other. bytes_eq other id) first (filter (λ other. not (bytes_eq other first)) (each_once ids))
    ∙ (once-step (bytes_eq first id) first id ids refl (count-once ids id) ∙ ap (λ (b : Bool). cond (b || list_any (bytes_eq id) ids) 1 0) (turned first id))

-- what stands somewhere is counted
pub counted-there : (ids : List (List ℕ)) (id : List ℕ) → 0 < count_by (λ other. bytes_eq other id) ids → Contains ids id
counted-there [] id some = absurd (omega (arith, some))
counted-there (x ∷ xs) id some =
    ⊎_elim
    (λ (is : bytes_eq x id ≡ true). (0, omega arith, same_bytes x id is))
    (λ (isnt : bytes_eq x id ≡ false).
    let there = counted-there xs id (omega (arith, some, count-cons (λ other. bytes_eq other id) x xs, ap {B = ℕ} (λ (b : Bool). cond b 1 0) isnt)) in
    (suc there.0, omega (arith, there.1), there.2))
    (cases_Bool (bytes_eq x id))

at-counts : (ids : List (List ℕ)) (place : ℕ) (id : List ℕ) → slice_get ids place ≡ Some id → 0 < count_by (λ other. bytes_eq other id) ids
at-counts [] place id here = absurd (cc)
at-counts (x ∷ xs) zero id here =
    let is : bytes_eq x id ≡ true = (bytes_eq-Decides x id).1 (same_Some x id here) in
    omega (arith, count-cons (λ other. bytes_eq other id) x xs, ap {B = ℕ} (λ (b : Bool). cond b 1 0) is)
at-counts (x ∷ xs) (suc place) id here = omega (arith, count-cons (λ other. bytes_eq other id) x xs, at-counts xs place id here)

-- ids of which each stands once at most are different
different-once : (ids : List (List ℕ)) → ((id : List ℕ) → count_by (λ other. bytes_eq other id) ids ≤ 1) → AreDifferent ids
different-once [] once i j id a b = absurd (cc)
different-once (x ∷ xs) once zero zero id a b = refl
different-once (x ∷ xs) once zero (suc j) id a b =
    let is : bytes_eq x id ≡ true = (bytes_eq-Decides x id).1 (same_Some x id a) in
    absurd (omega (arith, once id, count-cons (λ other. bytes_eq other id) x xs, ap {B = ℕ} (λ (b : Bool). cond b 1 0) is, at-counts xs j id b))
different-once (x ∷ xs) once (suc i) zero id a b =
    let is : bytes_eq x id ≡ true = (bytes_eq-Decides x id).1 (same_Some x id b) in
    absurd (omega (arith, once id, count-cons (λ other. bytes_eq other id) x xs, ap {B = ℕ} (λ (b : Bool). cond b 1 0) is, at-counts xs i id a))
different-once (x ∷ xs) once (suc i) (suc j) id a b =
    ap suc (different-once xs (λ id'. omega (arith, once id', count-cons (λ other. bytes_eq other id') x xs)) i j id a b)

pub once-different : (ids : List (List ℕ)) → AreDifferent (each_once ids)
once-different ids = different-once (each_once ids) (λ id. omega (arith, count-once ids id, at-most (list_any (bytes_eq id) ids)))
  where
    at-most : (b : Bool) → cond b 1 0 ≤ 1
    at-most true = omega arith
    at-most false = omega arith

-- ---- the id that givers leave

either-given : (is : Bool) (id start given : List ℕ) (rest : Bool) → (bytes_eq id (cond is given start) || rest) ≡ true → (bytes_eq id start || (bytes_eq id given || rest)) ≡ true
either-given true id start given rest there = or_right (bytes_eq id start) (bytes_eq id given || rest) there
either-given false id start given rest there = skip (bytes_eq id start) (bytes_eq id given) rest there
  where
    skip : (x y z : Bool) → (x || z) ≡ true → (x || (y || z)) ≡ true
    skip true y z e = refl
    skip false y z e = or_right y z e

-- it is one of theirs, or the one before them
pub id_from-among : (is_kept : NodeId → Bool) (start : List ℕ) (givers : List Giver) → list_any (bytes_eq (id_from is_kept start givers)) (start ∷ map (λ giver. giver.id) givers) ≡ true
id_from-among is_kept start [] = ap (λ (b : Bool). b || false) ((bytes_eq-Decides start start).1 refl)
id_from-among is_kept start (g ∷ gs) =
    either-given (is_kept g.line) (id_from is_kept (cond (is_kept g.line) g.id start) gs) start g.id
    (list_any (bytes_eq (id_from is_kept (cond (is_kept g.line) g.id start) gs)) (map (λ giver. giver.id) gs)) (id_from-among is_kept (cond (is_kept g.line) g.id start) gs)
