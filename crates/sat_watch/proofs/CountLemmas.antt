-- How often a watcher is in a list, and in all lists.
use Rattle.std.proofs.Common.{◌≡◌, ◌≢◌, ℕ, zero, suc, ◌+◌, ◌<◌, ◌≤◌, List, [], ◌∷◌, ◌++◌, length, get_or, set, refl, ap, ⊎_elim, arith, replicate, Some}
use Rattle.std.proofs.lemmas.Bool.{eq-eqb, ne_eqb, cases_eq}
use Rattle.sat_watch.specs.Watching.{rest_from}
use Rattle.sat_watch.specs.Linking.{times, times_among, total_length}

times-same : (w : ℕ) (xs : List ℕ) → times w (w ∷ xs) ≡ 1 + times w xs
times-same w xs = rw (eq-eqb w w refl) refl

pub times-other : (w x : ℕ) (xs : List ℕ) → x ≢ w → times w (x ∷ xs) ≡ times w xs
times-other w x xs ne = rw (ne_eqb x w ne) (omega arith)

pub times-tail : (w x : ℕ) (xs : List ℕ) → times w xs ≤ times w (x ∷ xs)
times-tail w x xs = omega arith

pub times-append : (w : ℕ) (xs ys : List ℕ) → times w (xs ++ ys) ≡ times w xs + times w ys
times-append w [] ys = omega arith
times-append w (x ∷ xs) ys = omega (arith, times-append w xs ys)

pub times-at : (w : ℕ) (xs ys : List ℕ) → times w (xs ++ w ∷ ys) ≡ 1 + times w xs + times w ys
times-at w xs ys = omega (arith, times-append w xs (w ∷ ys), times-same w ys)

-- a watcher that is nowhere among some isn't the first of them
pub times-none : (w x : ℕ) (xs : List ℕ) → times w (x ∷ xs) ≡ 0 → (x ≢ w) × (times w xs ≡ 0)
times-none w x xs none =
    (λ same. absurd (omega (arith, none, times-same w xs, ap (λ y. times w (y ∷ xs)) same)), omega (arith, none))

-- where a watcher is in a list
pub times-found : (w : ℕ) (xs : List ℕ) → 0 < times w xs → (passed : List ℕ) × (rest : List ℕ) × (xs ≡ passed ++ w ∷ rest)
times-found w [] some = absurd (omega arith)
times-found w (x ∷ xs) some =
    ⊎_elim (λ same. ([], xs, ap (λ y. y ∷ xs) same))
    (λ ne. let found = times-found w xs (omega (arith, times-other w x xs ne)) in (x ∷ found.0, found.1, ap (λ ys. x ∷ ys) found.2))
    (cases_eq x w)

pub times-among-found : (w : ℕ) (lists : List (List ℕ)) → 0 < times_among w lists → (list : ℕ) × (0 < times w (get_or lists list []))
times-among-found w [] some = absurd (omega arith)
times-among-found w (xs ∷ lists) some =
    ⊎_elim (λ none. let found = times-among-found w lists (omega arith) in (suc found.0, found.1))
    (λ here. (0, omega arith))
    (cases_eq (times w xs) 0)

pub times-le : (w : ℕ) (lists : List (List ℕ)) (list : ℕ) → times w (get_or lists list []) ≤ times_among w lists
times-le w [] list = omega arith
times-le w (xs ∷ lists) zero = omega arith
times-le w (xs ∷ lists) (suc list) = omega (arith, times-le w lists list)

-- what is in two lists is there twice
pub times-two : (w : ℕ) (lists : List (List ℕ)) (list other : ℕ) → list ≢ other
    → times w (get_or lists list []) + times w (get_or lists other []) ≤ times_among w lists
times-two w [] list other ne = omega arith
times-two w (xs ∷ lists) zero zero ne = absurd (ne refl)
times-two w (xs ∷ lists) zero (suc other) ne = omega (arith, times-le w lists other)
times-two w (xs ∷ lists) (suc list) zero ne = omega (arith, times-le w lists list)
times-two w (xs ∷ lists) (suc list) (suc other) ne = omega (arith, times-two w lists list other (λ same. ne (ap suc same)))

pub times-set : (w : ℕ) (lists : List (List ℕ)) (list : ℕ) (ys : List ℕ) → list < length lists
    → times_among w (set lists list ys) + times w (get_or lists list []) ≡ times_among w lists + times w ys
times-set w [] list ys within = absurd (omega arith)
times-set w (xs ∷ lists) zero ys within = omega arith
times-set w (xs ∷ lists) (suc list) ys within = omega (arith, times-set w lists list ys (omega arith))

pub total-set : (lists : List (List ℕ)) (list : ℕ) (ys : List ℕ) → list < length lists
    → total_length (set lists list ys) + length (get_or lists list []) ≡ total_length lists + length ys
total-set [] list ys within = absurd (omega arith)
total-set (xs ∷ lists) zero ys within = omega arith
total-set (xs ∷ lists) (suc list) ys within = omega (arith, total-set lists list ys (omega arith))

pub length-le-total : (lists : List (List ℕ)) (list : ℕ) → length (get_or lists list []) ≤ total_length lists
length-le-total [] list = omega arith
length-le-total (xs ∷ lists) zero = omega arith
length-le-total (xs ∷ lists) (suc list) = omega (arith, length-le-total lists list)

pub times-empty : (w n : ℕ) → times_among w (replicate n []) ≡ 0
times-empty w zero = refl
times-empty w (suc n) = omega (arith, times-empty w n)

pub total-empty : (n : ℕ) → total_length (replicate {A = List ℕ} n []) ≡ 0
total-empty zero = refl
total-empty (suc n) = omega (arith, total-empty n)

-- a watcher that is in a list once is in one place of it
pub split-once : (w : ℕ) (before behind passed rest : List ℕ) → before ++ w ∷ behind ≡ passed ++ w ∷ rest
    → times w (before ++ w ∷ behind) ≤ 1 → (before ≡ passed) × (behind ≡ rest)
split-once w [] behind [] rest same once = (refl, cc)
split-once w [] behind (y ∷ passed) rest same once =
    let tail : behind ≡ passed ++ w ∷ rest = cc in
    absurd (omega (arith, once, times-same w behind, ap (times w) tail, times-at w passed rest))
split-once w (x ∷ before) behind [] rest same once =
    let tail : before ++ w ∷ behind ≡ rest = cc in
    let head : x ≡ w = cc in
    absurd (omega (arith, once, times-same w (before ++ w ∷ behind), ap (λ y. times w (y ∷ (before ++ w ∷ behind))) head, times-at w before behind))
split-once w (x ∷ before) behind (y ∷ passed) rest same once =
    let head : x ≡ y = cc in
    let tail : before ++ w ∷ behind ≡ passed ++ w ∷ rest = cc in
    let both = split-once w before behind passed rest tail (omega (arith, once, times-tail w x (before ++ w ∷ behind))) in
    let front = both.0 in
    (cc, both.1)

-- the rest from a watcher on, which isn't among those that are passed
pub rest-from-at : (w : ℕ) (passed rest : List ℕ) → times w passed ≡ 0 → rest_from (passed ++ w ∷ rest) (Some w) ≡ w ∷ rest
rest-from-at w [] rest none = rw (eq-eqb w w refl) refl
rest-from-at w (x ∷ passed) rest none =
    let absent = times-none w x passed none in
    rw (ne_eqb x w absent.0) (rest-from-at w passed rest absent.1)
