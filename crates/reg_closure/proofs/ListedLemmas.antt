-- Under each name the places of what lists it.
use Rattle.std.proofs.Common.{◌≡◌, ◌≢◌, ◌∙◌, refl, sym, ap, subst, ℕ, zero, suc, ◌+◌, ◌<◌, ◌≤◌, Bool, true, false, ◌&&◌, ◌||◌, cond, eqb, List, [], ◌∷◌, ◌++◌, length, map, take, set, get_or, All, Contains, ⊎_elim, arith}
use Rattle.std.specs.Prelude.{sum_by}
use Rattle.std.specs.List.{list_any, filter}
use Rattle.std.proofs.lemmas.Bool.{cases_eq, eq-eqb, ne_eqb, or_from}
use Rattle.std.proofs.lemmas.List.{get_or-map, get_or-set_other, get_or-set_same, length-map, length-set, length-take-le, length_push, take_more}
use Rattle.std.proofs.lemmas.List.Elements.{All-cons, All-nil}
use Rattle.std.proofs.lemmas.List.Folds.{list_any_more}
use Rattle.std.proofs.lemmas.List.Sums.{sum_by-cons, sum_by-set, sum_by_push}
use Rattle.vkb_formula.specs.declared.name_table.NameId.{NameId}
use Rattle.reg_registry.specs.Naming.{NoneTwice}
use Rattle.reg_closure.specs.Closure.{has_name}
use Rattle.reg_closure.specs.Listed.{AreListed, PutsUnder, list_at, places_from}

-- ---- a place under each of some names

-- a name that comes later isn't among those before it
fresh : (ids : List NameId) (i : ℕ) (d : NameId) → i < length ids → NoneTwice (map (λ id. id.0) ids) → has_name (take i ids) (get_or ids i d).0 ≡ false
fresh [] i d below once = absurd (omega arith)
fresh (x ∷ xs) zero d below once = refl
fresh (x ∷ xs) (suc i) d below once =
    or_from (eqb x.0 (get_or xs i d).0) (has_name (take i xs) (get_or xs i d).0)
    (ne_eqb x.0 (get_or xs i d).0 (λ e. once.0 (i, omega (arith, below, length-map xs (λ (id : NameId). id.0)), get_or-map (λ (id : NameId). id.0) xs i d x.0 (omega arith) ∙ sym e)))
    (fresh xs i d (omega arith) once.1)

or-false : (a : Bool) → (a || false) ≡ a
or-false true = refl
or-false false = refl

or-true : (a : Bool) → (a || true) ≡ true
or-true true = refl
or-true false = refl

pub under-more : (place : ℕ) (ids : List NameId) (i : ℕ) (id : NameId) (first old new : List (List ℕ)) → id ≡ get_or ids i id → i < length ids → NoneTwice (map (λ id. id.0) ids) → id.0 < length first
    → PutsUnder place (has_name (take i ids)) i first old → new ≡ set old id.0 (get_or old id.0 [] ++ place ∷ []) → PutsUnder place (has_name (take (i + 1) ids)) (i + 1) first new
under-more place ids i id first old new is below once held before put =
    let list = get_or old id.0 [] ++ place ∷ [] in
    let more : (name : ℕ) → has_name (take (i + 1) ids) name ≡ (has_name (take i ids) name || eqb id.0 name) = λ name.
    list_any_more (λ (other : NameId). eqb other.0 name) ids i id below ∙ ap (λ (other : NameId). has_name (take i ids) name || eqb other.0 name) (sym is) in
    let new-here : has_name (take i ids) id.0 ≡ false = ap (λ (other : NameId). has_name (take i ids) other.0) is ∙ fresh ids i id below once in
    let there : id.0 < length old = omega (arith, before.count, held) in
    record {
      count = ap length put ∙ length-set old id.0 list ∙ before.count;
      each = λ name within. ⊎_elim
          (λ (here : name ≡ id.0).
          ap (λ n. list_at new n) here ∙ ap (λ t. list_at t id.0) put ∙ get_or-set_same old id.0 list [] there
          ∙ ap (λ ls. ls ++ place ∷ []) (before.each id.0 held ∙ ap (λ b. cond b (list_at first id.0 ++ place ∷ []) (list_at first id.0)) new-here)
          ∙ sym (ap (λ n. cond (has_name (take (i + 1) ids) n) (list_at first n ++ place ∷ []) (list_at first n)) here
          ∙ ap (λ b. cond b (list_at first id.0 ++ place ∷ []) (list_at first id.0)) (more id.0 ∙ ap (λ b. has_name (take i ids) id.0 || b) (eq-eqb id.0 id.0 refl) ∙ or-true (has_name (take i ids) id.0))))
          (λ (apart : name ≡ id.0 → ⊥).
          let differs : name ≢ id.0 = apart in
          ap (λ t. list_at t name) put ∙ get_or-set_other old id.0 name list [] differs ∙ before.each name within
          ∙ ap (λ b. cond b (list_at first name ++ place ∷ []) (list_at first name))
          (sym (more name ∙ ap (λ b. has_name (take i ids) name || b) (ne_eqb id.0 name (λ e. apart (sym e))) ∙ or-false (has_name (take i ids) name))))
          (cases_eq name id.0);
      total = omega (arith, ap (sum_by length) put, sum_by-set length old id.0 list [] there, length_push (get_or old id.0 []) place, before.total);
    }

-- ---- tables

pushes : (p q : Bool) (at end : ℕ) (list : List ℕ) → cond p (at ∷ cond q (list ++ end ∷ []) list) (cond q (list ++ end ∷ []) list) ≡ cond q (cond p (at ∷ list) list ++ end ∷ []) (cond p (at ∷ list) list)
pushes true true at end list = refl
pushes true false at end list = refl
pushes false true at end list = refl
pushes false false at end list = refl

module _ {A : Type 0} (passes : A → Bool) where
  places-push : (at end : ℕ) (xs : List A) (x : A) → end ≡ at + length xs → places_from passes at (xs ++ x ∷ []) ≡ cond (passes x) (places_from passes at xs ++ end ∷ []) (places_from passes at xs)
  places-push at end [] x is = let same : at ≡ end = omega (arith, is) in ap (λ n. cond (passes x) (n ∷ []) []) same
  places-push at end (y ∷ ys) x is =
      ap (λ ls. cond (passes y) (at ∷ ls) ls) (places-push (at + 1) end ys x (omega (arith, is))) ∙ pushes (passes y) (passes x) at end (places_from passes (at + 1) ys)

  places-within : (at : ℕ) (xs : List A) (end : ℕ) → end ≡ at + length xs → All (λ place. place < end) (places_from passes at xs)
  places-within at [] end is = All-nil (λ place. place < end)
  places-within at (y ∷ ys) end is =
      let rest = places-within (at + 1) ys end (omega (arith, is)) in
      both-within (passes y) at end (places_from passes (at + 1) ys) (omega (arith, is)) rest
    where
      both-within : (p : Bool) (at end : ℕ) (list : List ℕ) → at < end → All (λ place. place < end) list → All (λ place. place < end) (cond p (at ∷ list) list)
      both-within true at end list below rest = All-cons (λ place. place < end) at list below rest
      both-within false at end list below rest = rest

  pub within-list : (xs : List A) → All (λ place. place < length xs) (places_from passes 0 xs)
  within-list xs = places-within 0 xs (length xs) (omega arith)

  -- what holds of the places is what holds of what stands there
  pub any-places : (f : ℕ → Bool) (g : A → Bool) (at : ℕ) (xs : List A) → ((k : ℕ) (d : A) → k < length xs → f (at + k) ≡ g (get_or xs k d)) → list_any f (places_from passes at xs) ≡ list_any (λ x. passes x && g x) xs
  any-places f g at [] same = refl
  any-places f g at (y ∷ ys) same =
      let rest = any-places f g (at + 1) ys (λ k d below. let next : at + 1 + k ≡ at + suc k = omega arith in ap f next ∙ same (suc k) d (omega (arith, below))) in
      let zeroth : at ≡ at + 0 = omega arith in
      either (passes y) at (places_from passes (at + 1) ys) (g y) (list_any (λ x. passes x && g x) ys) (ap f zeroth ∙ same 0 y (omega arith)) rest
    where
      either : (p : Bool) (at : ℕ) (list : List ℕ) (a b : Bool) → f at ≡ a → list_any f list ≡ b → list_any f (cond p (at ∷ list) list) ≡ ((p && a) || b)
      either true at list a b e e' = ap (λ v. v || list_any f list) e ∙ ap (λ v. a || v) e'
      either false at list a b e e' = e'

  pub sum-places : (f : ℕ → ℕ) (g : A → ℕ) (at : ℕ) (xs : List A) → ((k : ℕ) (d : A) → k < length xs → f (at + k) ≤ g (get_or xs k d)) → length (places_from passes at xs) + sum_by f (places_from passes at xs) ≤ sum_by (λ x. cond (passes x) (1 + g x) 0) xs
  sum-places f g at [] same = omega arith
  sum-places f g at (y ∷ ys) same =
      let rest = sum-places f g (at + 1) ys (λ k d below. let next : at + 1 + k ≡ at + suc k = omega arith in subst (λ n. f n ≤ g (get_or ys k d)) (sym next) (same (suc k) d (omega (arith, below)))) in
      let zeroth : at + 0 ≡ at = omega arith in
      let here : f at ≤ g y = subst (λ n. f n ≤ g y) zeroth (same 0 y (omega arith)) in
      omega (arith, both (passes y) at (places_from passes (at + 1) ys) (g y) here, rest, sum_by-cons (λ x. cond (passes x) (1 + g x) 0) y ys)
    where
      both : (p : Bool) (at : ℕ) (list : List ℕ) (w : ℕ) → f at ≤ w → length (cond p (at ∷ list) list) + sum_by f (cond p (at ∷ list) list) ≤ cond p (1 + w) 0 + (length list + sum_by f list)
      both true at list w le = omega (arith, le, sum_by-cons f at list)
      both false at list w le = omega arith

  pub length-places : (at : ℕ) (xs : List A) → length (places_from passes at xs) ≡ length (filter passes xs)
  length-places at [] = refl
  length-places at (y ∷ ys) = same-length (passes y) at y (places_from passes (at + 1) ys) (filter passes ys) (length-places (at + 1) ys)
    where
      same-length : (p : Bool) (at : ℕ) (y : A) (list : List ℕ) (ys : List A) → length list ≡ length ys → length (cond p (at ∷ list) list) ≡ length (cond p (y ∷ ys) ys)
      same-length true at y list ys e = ap suc e
      same-length false at y list ys e = e

  abbrev IsPassing : ℕ → List A → ℕ → Type 0
  IsPassing at xs place = (k : ℕ) × (k < length xs) × (place ≡ at + k) × ((d : A) → passes (get_or xs k d) ≡ true)

  passing-rest : (at : ℕ) (y : A) (ys : List A) (place : ℕ) → IsPassing (at + 1) ys place → IsPassing at (y ∷ ys) place
  passing-rest at y ys place found = (suc found.0, omega (arith, found.1), omega (arith, found.2), λ d. found.3 d)

  passing-cases : (p : Bool) (at : ℕ) (y : A) (ys : List A) (places : List ℕ) (place : ℕ) → passes y ≡ p → (Contains places place → IsPassing (at + 1) ys place) → Contains (cond p (at ∷ places) places) place → IsPassing at (y ∷ ys) place
  passing-cases true at y ys places place is rest has = go has.0 has.1 has.2
    where
      go : (k : ℕ) → k < length (at ∷ places) → get_or (at ∷ places) k place ≡ place → IsPassing at (y ∷ ys) place
      go zero below e = (0, omega arith, omega (arith, e), λ d. is)
      go (suc k) below e = passing-rest at y ys place (rest (k, omega (arith, below), e))
  passing-cases false at y ys places place is rest has = passing-rest at y ys place (rest has)

  -- a place is there exactly where what stands there passes
  pub place-passes : (at : ℕ) (xs : List A) (place : ℕ) → Contains (places_from passes at xs) place → IsPassing at xs place
  place-passes at [] place has = absurd (omega (arith, has.1))
  place-passes at (y ∷ ys) place has = passing-cases (passes y) at y ys (places_from passes (at + 1) ys) place refl (λ later. place-passes (at + 1) ys place later) has

  place-first : (p : Bool) (at : ℕ) (places : List ℕ) → p ≡ true → Contains (cond p (at ∷ places) places) (at + 0)
  place-first true at places is = (0, omega arith, omega arith)
  place-first false at places is = absurd (cc)

  place-rest : (p : Bool) (at k : ℕ) (places : List ℕ) → Contains places (at + 1 + k) → Contains (cond p (at ∷ places) places) (at + suc k)
  place-rest true at k places has =
      let same : at + 1 + k ≡ at + suc k = omega arith in (suc has.0, omega (arith, has.1), subst (λ n. get_or places has.0 n ≡ n) same has.2)
  place-rest false at k places has = let same : at + 1 + k ≡ at + suc k = omega arith in subst (Contains places) same has

  pub passes-place : (at : ℕ) (xs : List A) (k : ℕ) (d : A) → k < length xs → passes (get_or xs k d) ≡ true → Contains (places_from passes at xs) (at + k)
  passes-place at [] k d below is = absurd (omega arith)
  passes-place at (y ∷ ys) zero d below is = place-first (passes y) at (places_from passes (at + 1) ys) is
  passes-place at (y ∷ ys) (suc k) d below is = place-rest (passes y) at k (places_from passes (at + 1) ys) (passes-place (at + 1) ys k d (omega (arith, below)) is)

module _ {A : Type 0} (lists : ℕ → A → Bool) (pairs : A → ℕ) (many : ℕ) where
  pub listed-more : (xs : List A) (i : ℕ) (x : A) (old new : List (List ℕ)) → x ≡ get_or xs i x → i < length xs → AreListed lists pairs many (take i xs) old → PutsUnder i (λ name. lists name x) (pairs x) old new
      → AreListed lists pairs many (take (i + 1) xs) new
  listed-more xs i x old new is below before put =
      let more : take (i + 1) xs ≡ take i xs ++ x ∷ [] = take_more xs i x below ∙ ap (λ y. take i xs ++ y ∷ []) (sym is) in
      record {
        count = put.count ∙ before.count;
        each = λ name within.
            put.each name (omega (arith, within, before.count))
            ∙ ap (λ ls. cond (lists name x) (ls ++ i ∷ []) ls) (before.each name within)
            ∙ sym (ap (places_from (lists name) 0) more ∙ places-push (lists name) 0 i (take i xs) x (omega (arith, length-take-le i xs (omega arith))));
        total = omega (arith, put.total, before.total, ap (sum_by pairs) more, sum_by_push pairs (take i xs) x);
      }
