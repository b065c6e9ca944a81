-- A walk along a list from which watchers are moved.
use Rattle.std.proofs.Common.{◌≡◌, ℕ, ◌<◌, List, [], ◌∷◌, ◌++◌, length, Option, Some, None, refl, sym, ap, ◌∙◌, arith}
use Rattle.std.proofs.lemmas.List.{append_assoc}
use Rattle.sat_watch.specs.Watching.{BeginsWith, EndsWith, StandsBehind, rest_from}

-- a walk stands between two watchers of a list, or at its start or its end
pub record IsWalk (list : List ℕ) (before at : Option ℕ) : Type 0 where
  pub passed : List ℕ
  pub rest : List ℕ
  pub split : list ≡ passed ++ rest
  pub last : EndsWith passed before
  pub first : BeginsWith rest at

abbrev pub IsNext : List ℕ → ℕ → Option ℕ → Type 0
IsNext list w next = (passed rest : List ℕ) → list ≡ passed ++ w ∷ rest → BeginsWith rest next

abbrev pub IsFound : List ℕ → Type 0
IsFound list = (w : ℕ) (passed rest : List ℕ) → list ≡ passed ++ w ∷ rest → rest_from list (Some w) ≡ w ∷ rest

pub walk-starts : (list : List ℕ) (first : Option ℕ) → BeginsWith list first → IsWalk list None first
walk-starts list first begins = record { passed = []; rest = list; split = refl; last = refl; first = begins }

abbrev pub walk-place : (list : List ℕ) (before : Option ℕ) (w : ℕ) → IsWalk list before (Some w) → StandsBehind list before w
walk-place list before w walk = record {
  passed = walk.passed;
  rest = walk.first.0;
  split = walk.split ∙ ap (λ xs. walk.passed ++ xs) walk.first.1;
  last = walk.last;
}

-- the watcher stays, and is passed
abbrev pub walk-next : (list : List ℕ) (before : Option ℕ) (w : ℕ) (next : Option ℕ) → IsWalk list before (Some w) → IsNext list w next → IsWalk list (Some w) next
walk-next list before w next walk is_next =
    let place = walk-place list before w walk in
    record {
      passed = place.passed ++ w ∷ [];
      rest = place.rest;
      split = place.split ∙ sym (append_assoc place.passed (w ∷ []) place.rest);
      last = (place.passed, refl);
      first = is_next place.passed place.rest place.split;
    }

-- the watcher has gone to another list
abbrev pub walk-move : (list new : List ℕ) (before : Option ℕ) (w : ℕ) (next : Option ℕ) → IsWalk list before (Some w) → IsNext list w next
    → ((passed rest : List ℕ) → list ≡ passed ++ w ∷ rest → new ≡ passed ++ rest) → IsWalk new before next
walk-move list new before w next walk is_next moved =
    let place = walk-place list before w walk in
    record {
      passed = place.passed;
      rest = place.rest;
      split = moved place.passed place.rest place.split;
      last = place.last;
      first = is_next place.passed place.rest place.split;
    }

-- how much is left
left : (list passed rest : List ℕ) (at : Option ℕ) → list ≡ passed ++ rest → BeginsWith rest at → IsFound list → length (rest_from list at) ≡ length rest
left list passed rest None split begins found = omega (arith, ap length begins)
left list passed rest (Some w) split begins found =
    ap length (found w passed begins.0 (split ∙ ap (λ xs. passed ++ xs) begins.1)) ∙ sym (ap length begins.1)

pub next-shorter : (list passed : List ℕ) (w : ℕ) (rest : List ℕ) (next : Option ℕ) → list ≡ passed ++ w ∷ rest → IsNext list w next → IsFound list
    → length (rest_from list next) < length (rest_from list (Some w))
next-shorter list passed w rest next split is_next found =
    let there = left list (passed ++ w ∷ []) rest next (split ∙ sym (append_assoc passed (w ∷ []) rest)) (is_next passed rest split) found in
    omega (arith, ap length (found w passed rest split), there)

pub move-shorter : (list new passed : List ℕ) (w : ℕ) (rest : List ℕ) (next : Option ℕ) → list ≡ passed ++ w ∷ rest → IsNext list w next → IsFound list
    → new ≡ passed ++ rest → IsFound new → length (rest_from new next) < length (rest_from list (Some w))
move-shorter list new passed w rest next split is_next found moved new_found =
    let there = left new passed rest next moved (is_next passed rest split) new_found in
    omega (arith, ap length (found w passed rest split), there)
