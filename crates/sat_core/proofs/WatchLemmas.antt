-- How often clauses stand in the lists of literals, and what a move changes.
use Rattle.std.proofs.Common.{◌≡◌, ◌≢◌, ℕ, zero, suc, ◌+◌, ◌*◌, ◌<◌, cond, eqb, List, [], ◌∷◌, ◌++◌, length, get_or, set, Option, Some, None, Contains, All, refl, sym, ap, subst, ◌∙◌, inl, inr, ⊎_elim, arith, length-append, length-set, append_assoc}
use Rattle.std.specs.List.{count_by}
use Rattle.std.proofs.lemmas.Bool.{eq-eqb, ne_eqb, cases_eq, cases_lt}
use Rattle.std.proofs.lemmas.List.{get_or-set_same, get_or-set_other, get_or_past}
use Rattle.std.proofs.lemmas.List.Elements.{All-contains}
use Rattle.std.proofs.lemmas.List.Sums.{sum_by-append, sum_by-cons}
use Rattle.sat_cnf.specs.declared.lit.Lit.{Lit}
use Rattle.sat_cnf.specs.Clauses.{IsWithin}
use Rattle.sat_watch.specs.Watching.{StandsAt, StandsOnce, Watched, list_at}
use Rattle.sat_core.specs.declared.pair.Pair.{Pair}
use Rattle.sat_core.specs.Watching.{times_in, watches_at}
use Rattle.sat_core.specs.Walking.{HasLit, IsPassed, clause_of, left_from}
use Rattle.sat_core.proofs.LiteralLemmas.{same-lit}

-- 1 where two numbers are the same, and 0 where they differ
abbrev pub same : ℕ → ℕ → ℕ
same a b = cond (eqb a b) 1 0

pub same-yes : (a b : ℕ) → a ≡ b → same a b ≡ 1
same-yes a b e = rw (eq-eqb a b e) refl

pub same-no : (a b : ℕ) → a ≢ b → same a b ≡ 0
same-no a b ne = rw (ne_eqb a b ne) refl

-- how many watchers of a list are for a clause
abbrev pub hits : List ℕ → ℕ → List ℕ → ℕ
hits clauses number watchers = count_by (λ watcher. eqb (get_or clauses watcher 0) number) watchers

pub hits-cons : (clauses : List ℕ) (number watcher : ℕ) (watchers : List ℕ)
    → hits clauses number (watcher ∷ watchers) ≡ same (get_or clauses watcher 0) number + hits clauses number watchers
hits-cons clauses number watcher watchers = sum_by-cons (λ w. cond (eqb (get_or clauses w 0) number) 1 0) watcher watchers

hits-append : (clauses : List ℕ) (number : ℕ) (xs ys : List ℕ) → hits clauses number (xs ++ ys) ≡ hits clauses number xs + hits clauses number ys
hits-append clauses number xs ys = sum_by-append (λ w. cond (eqb (get_or clauses w 0) number) 1 0) xs ys

pub hits-split : (clauses : List ℕ) (number watcher : ℕ) (passed rest : List ℕ)
    → hits clauses number (passed ++ watcher ∷ rest) ≡ same (get_or clauses watcher 0) number + hits clauses number (passed ++ rest)
hits-split clauses number watcher passed rest =
    let a = hits-append clauses number passed (watcher ∷ rest) in
    let b = hits-append clauses number passed rest in
    let c = hits-cons clauses number watcher rest in
    omega (arith, a, b, c)

-- a clause that is hit has a watcher
pub hit-by : (clauses : List ℕ) (number : ℕ) (watchers : List ℕ) → 0 < hits clauses number watchers
    → (watcher : ℕ) × Contains watchers watcher × (get_or clauses watcher 0 ≡ number)
hit-by clauses number [] some = absurd (omega arith)
hit-by clauses number (watcher ∷ watchers) some =
    ⊎_elim
    (λ here. (watcher, (0, omega arith, refl), here))
    (λ ne.
    let found = hit-by clauses number watchers (omega (arith, some, hits-cons clauses number watcher watchers, same-no (get_or clauses watcher 0) number ne)) in
    (found.0, (suc (found.1).0, omega (arith, (found.1).1), (found.1).2), found.2))
    (cases_eq (get_or clauses watcher 0) number)

pub times-has : (pair : Option Pair) (lit : Lit) → 0 < times_in pair lit → (found : Pair) × (pair ≡ Some found) × HasLit found lit
times-has None lit some = absurd (omega arith)
times-has (Some pair) lit some = (
  pair,
  refl,
  ⊎_elim (λ e. inl (same-lit pair.first lit e))
      (λ ne.
      ⊎_elim (λ e. inr (same-lit pair.second lit e))
      (λ no. absurd (omega (arith, some, same-no pair.first.0 lit.0 ne, same-no pair.second.0 lit.0 no)))
      (cases_eq pair.second.0 lit.0))
      (cases_eq pair.first.0 lit.0),
)

times-some : (pair : Pair) (lit : Lit) → HasLit pair lit → 0 < times_in (Some pair) lit
times-some pair lit has =
    ⊎_elim (λ e. omega (arith, same-yes pair.first.0 lit.0 (ap (λ l. l.0) e))) (λ e. omega (arith, same-yes pair.second.0 lit.0 (ap (λ l. l.0) e))) has

passed-where : (known : List Lit) (lit : Lit) (pair : Option Pair) → (0 < times_in pair lit → IsPassed known lit pair) → IsPassed known lit pair
passed-where known lit None h = tt
passed-where known lit (Some pair) h = (λ e. (h (times-some pair lit (inl e))).0 e, λ e. (h (times-some pair lit (inr e))).1 e)

pub some-within : {X : Type 0} (xs : List (Option X)) (k : ℕ) (x : X) → get_or xs k None ≡ Some x → k < length xs
some-within xs k x e =
    ⊎_elim (λ h. h) (λ past. let none : get_or xs k None ≡ None = get_or_past xs k None past in absurd (cc)) (cases_lt k (length xs))

-- where the pairs are those at which clauses are watched
module _ (vars : ℕ) (watches : Watched) (pairs : List (Option Pair))
    (lists : (number : ℕ) (lit : Lit) → IsWithin vars lit → watches_at watches lit number ≡ times_in (get_or pairs number None) lit) where
  -- a literal is one of the two of each clause in its list
  pub watched-has : (lit : Lit) (watcher : ℕ) (passed rest : List ℕ) → IsWithin vars lit → StandsAt watches.lists lit.0 passed watcher rest
      → (pair : Pair) × (get_or pairs (clause_of watches watcher) None ≡ Some pair) × HasLit pair lit
  watched-has lit watcher passed rest within at =
      let k = clause_of watches watcher in
      let count = lists k lit within in
      let here = ap (hits watches.clauses k) at in
      let split = hits-split watches.clauses k watcher passed rest in
      let one = same-yes k k refl in
      times-has (get_or pairs k None) lit (omega (arith, count, here, split, one))

  -- what holds of all clauses in a literal's list holds of all clauses
  pub passed-all : (known : List Lit) (lit : Lit) (passed : List ℕ) → IsWithin vars lit → list_at watches.lists lit.0 ≡ passed
      → All (λ watcher. IsPassed known lit (get_or pairs (clause_of watches watcher) None)) passed
      → (number : ℕ) → IsPassed known lit (get_or pairs number None)
  passed-all known lit passed within all done number =
      passed-where known lit (get_or pairs number None) (λ some.
      let found = hit-by watches.clauses number passed (omega (arith, some, lists number lit within, ap (hits watches.clauses number) all)) in
      let P : ℕ → Type 0 = λ watcher. IsPassed known lit (get_or pairs (clause_of watches watcher) None) in
      subst (λ n. IsPassed known lit (get_or pairs n None)) found.2 (All-contains P passed found.0 done found.1))

abbrev pub moved : List (List ℕ) → ℕ → List ℕ → ℕ → ℕ → List (List ℕ)
moved lists list left watcher to = set (set lists list left) to (watcher ∷ list_at lists to)

-- how a move changes the hits in each list
moved-hits : (clauses : List ℕ) (number : ℕ) (lists : List (List ℕ)) (list watcher to : ℕ) (passed rest : List ℕ) (other : ℕ)
    → StandsAt lists list passed watcher rest → list < length lists → to < length lists → to ≢ list
    → hits clauses number (list_at (moved lists list (passed ++ rest) watcher to) other) + same list other * same (get_or clauses watcher 0) number
    ≡ hits clauses number (list_at lists other) + same to other * same (get_or clauses watcher 0) number
moved-hits clauses number lists list watcher to passed rest other at within inside ne =
    let k = get_or clauses watcher 0 in
    ⊎_elim
    (λ e.
    let new : hits clauses number (list_at (moved lists list (passed ++ rest) watcher to) other) ≡ hits clauses number (watcher ∷ list_at lists to) =
    ap (hits clauses number) (ap (list_at (moved lists list (passed ++ rest) watcher to)) (sym e)
    ∙ get_or-set_same (set lists list (passed ++ rest)) to (watcher ∷ list_at lists to) [] (omega (arith, inside, length-set lists list (passed ++ rest)))) in
    let old = ap (λ o. hits clauses number (list_at lists o)) e in
    let a : same to other ≡ 1 = same-yes to other e in
    let b : same list other ≡ 0 = same-no list other (λ same. ne (e ∙ sym same)) in
    rw (a, b) (omega (arith, new, old, hits-cons clauses number watcher (list_at lists to))))
    (λ no.
    let a : same to other ≡ 0 = same-no to other no in
    let skip : list_at (moved lists list (passed ++ rest) watcher to) other ≡ list_at (set lists list (passed ++ rest)) other =
    get_or-set_other (set lists list (passed ++ rest)) to other (watcher ∷ list_at lists to) [] (λ e. no (sym e)) in
    ⊎_elim
    (λ e.
    let b : same list other ≡ 1 = same-yes list other e in
    let new = ap (hits clauses number) (skip ∙ ap (list_at (set lists list (passed ++ rest))) (sym e) ∙ get_or-set_same lists list (passed ++ rest) [] within) in
    let old = ap (hits clauses number) (ap (list_at lists) (sym e) ∙ at) in
    rw (a, b) (omega (arith, new, old, hits-split clauses number watcher passed rest)))
    (λ none.
    let b : same list other ≡ 0 = same-no list other none in
    let new = ap (hits clauses number) (skip ∙ get_or-set_other lists list other (passed ++ rest) [] (λ e. none (sym e))) in
    rw (a, b) (omega (arith, new)))
    (cases_eq list other))
    (cases_eq to other)

-- a clause that was watched at a literal and another is watched at a third and the other
pub moved-lists : (vars : ℕ) (clauses : List ℕ) (lists : List (List ℕ)) (pairs : List (Option Pair)) (pair : Pair) (lit other to : Lit) (watcher : ℕ) (passed rest : List ℕ)
    → ((number : ℕ) (l : Lit) → IsWithin vars l → hits clauses number (list_at lists l.0) ≡ times_in (get_or pairs number None) l)
    → get_or pairs (get_or clauses watcher 0) None ≡ Some pair
    → ((l : Lit) → times_in (Some pair) l ≡ same lit.0 l.0 + same other.0 l.0)
    → StandsAt lists lit.0 passed watcher rest → lit.0 < length lists → to.0 < length lists → to.0 ≢ lit.0
    → (number : ℕ) (l : Lit) → IsWithin vars l
    → hits clauses number (list_at (moved lists lit.0 (passed ++ rest) watcher to.0) l.0)
    ≡ times_in (get_or (set pairs (get_or clauses watcher 0) (Some (record { first = other; second = to }))) number None) l
moved-lists vars clauses lists pairs pair lit other to watcher passed rest counts pair-is times at within inside ne number l l-within =
    let k = get_or clauses watcher 0 in
    let p = moved-hits clauses number lists lit.0 watcher to.0 passed rest l.0 at within inside ne in
    let old = counts number l l-within in
    ⊎_elim
    (λ e.
    let one : same k number ≡ 1 = same-yes k number (sym e) in
    let new : get_or (set pairs k (Some (record { first = other; second = to }))) number None ≡ Some (record { first = other; second = to }) =
    ap (λ n. get_or (set pairs k (Some (record { first = other; second = to }))) n None) e ∙ get_or-set_same pairs k (Some (record { first = other; second = to })) None (some-within pairs k pair pair-is) in
    let before = ap (λ o. times_in o l) (ap (λ n. get_or pairs n None) e ∙ pair-is) ∙ times l in
    rw new (omega (arith, rw one at p, old, before)))
    (λ (no : number ≢ k).
    let none : same k number ≡ 0 = same-no k number (λ e. no (sym e)) in
    rw (get_or-set_other pairs k number (Some (record { first = other; second = to })) None no) (omega (arith, rw none at p, old)))
    (cases_eq number k)

-- where an element of a list stands
split-of : (xs : List ℕ) (x : ℕ) → Contains xs x → (front : List ℕ) × (behind : List ℕ) × (xs ≡ front ++ x ∷ behind)
split-of [] x c = absurd (omega (arith, c.1))
split-of (y ∷ xs) x (zero, h, e) = ([], xs, ap (λ z. z ∷ xs) e)
split-of (y ∷ xs) x (suc k, h, e) =
    let found = split-of xs x (k, omega (arith, h), e) in (y ∷ found.0, found.1, ap (λ ys. y ∷ ys) found.2)

-- a watcher isn't among those that are passed
pub not-passed : (watched : Watched) (list watcher : ℕ) (passed rest : List ℕ) → StandsOnce watched → StandsAt watched.lists list passed watcher rest → ¬ Contains passed watcher
not-passed watched list watcher passed rest o at c =
    let found = split-of passed watcher c in
    let again : StandsAt watched.lists list found.0 watcher (found.1 ++ watcher ∷ rest) =
    at ∙ ap (λ xs. xs ++ watcher ∷ rest) found.2 ∙ append_assoc found.0 (watcher ∷ found.1) (watcher ∷ rest) in
    let same = (o.once watcher list list passed rest found.0 (found.1 ++ watcher ∷ rest) at again).1 in
    omega (arith, ap length same, ap length found.2, length-append found.0 (watcher ∷ found.1))

pub left-here : (passed rest : List ℕ) (at : ℕ) → ¬ Contains passed at → left_from (passed ++ at ∷ rest) (Some at) ≡ length rest + 1
left-here [] rest at h = rw (eq-eqb at at refl) refl
left-here (watcher ∷ passed) rest at h =
    let ne : watcher ≢ at = λ e. h (0, omega arith, e) in
    rw (ne_eqb watcher at ne) (left-here passed rest at (λ c. h (suc c.0, omega (arith, c.1), c.2)))
