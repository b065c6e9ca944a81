-- The conditions round a condition, and which cover which.
use Rattle.std.proofs.Common.{◌≡◌, ◌∙◌, refl, sym, ap, ℕ, zero, suc, ◌+◌, ◌<◌, ◌≤◌, Bool, true, false, ◌&&◌, List, [], ◌∷◌, ◌++◌, length, get_or, slice_get, Option, Some, None, arith, subst}
use Rattle.std.specs.List.{list_all}
use Rattle.std.specs.Option.{option_map_or}
use Rattle.std.proofs.lemmas.List.{get_or_append_left, get_or_push, length_push}
use Rattle.std.proofs.lemmas.Option.{slice_get_read}
use Rattle.doc_tree.specs.declared.Cond.{Cond}
use Rattle.doc_tree.specs.declared.CondId.{CondId}
use Rattle.doc_tree.specs.Flat.{Condition, is_met}
use Rattle.doc_tree.specs.Loaded.{IsBefore, condition_of, round_at, rounds_from}
use Rattle.lift_survey.specs.Keeping.{AreOrdered, Covers}

pub wider-before : (n m : ℕ) (within : Option CondId) → n ≤ m → IsBefore n within → IsBefore m within
wider-before n m None less before = tt
wider-before n m (Some cond) less before = omega (arith, less, before)

round-pushed : (made : List (List Condition)) (next : List Condition) (within : Option CondId) → IsBefore (length made) within → round_at (made ++ next ∷ []) within ≡ round_at made within
round-pushed made next None before = refl
round-pushed made next (Some cond) before = get_or_append_left made (next ∷ []) [] cond.0 before

-- what was made stays
rounds-stay : (table : List (List ℕ)) (made : List (List Condition)) (conds : List Cond) (place : ℕ) → place < length made → get_or (rounds_from table made conds) place [] ≡ get_or made place []
rounds-stay table made [] place below = refl
rounds-stay table made (cond ∷ conds) place below =
    let next : List Condition = round_at made cond.within ++ condition_of table cond ∷ [] in
    rounds-stay table (made ++ next ∷ []) conds place (omega (arith, below, length_push made next))
    ∙ get_or_append_left made (next ∷ []) [] place below

round-stays : (table : List (List ℕ)) (made : List (List Condition)) (conds : List Cond) (within : Option CondId) → IsBefore (length made) within → round_at (rounds_from table made conds) within ≡ round_at made within
round-stays table made conds None before = refl
round-stays table made conds (Some cond) before = rounds-stay table made conds cond.0 before

-- the conditions round a condition and it
rounds-at : (table : List (List ℕ)) (made : List (List Condition)) (conds : List Cond) (place : ℕ) (cond : Cond) → slice_get conds place ≡ Some cond → IsBefore (length made + place) cond.within
    → get_or (rounds_from table made conds) (length made + place) [] ≡ round_at (rounds_from table made conds) cond.within ++ condition_of table cond ∷ []
rounds-at table made [] place cond there before = absurd cc
rounds-at table made (first ∷ conds) zero cond there before =
    let same : first ≡ cond = cc in
    let next : List Condition = round_at made first.within ++ condition_of table first ∷ [] in
    let at : length made + 0 ≡ length made = omega arith in
    let earlier : IsBefore (length made) first.within = subst (λ (c : Cond). IsBefore (length made) c.within) (sym same) (subst (λ n. IsBefore n cond.within) at before) in
    let wider : IsBefore (length (made ++ next ∷ [])) first.within = wider-before (length made) (length (made ++ next ∷ [])) first.within (omega (arith, length_push made next)) earlier in
    ap (λ n. get_or (rounds_from table (made ++ next ∷ []) conds) n []) at
    ∙ rounds-stay table (made ++ next ∷ []) conds (length made) (omega (arith, length_push made next))
    ∙ get_or_push made next [] (length made) refl
    ∙ ap (λ (r : List Condition). r ++ condition_of table first ∷ []) (sym (round-stays table (made ++ next ∷ []) conds first.within wider ∙ round-pushed made next first.within earlier))
    ∙ ap (λ (c : Cond). round_at (rounds_from table (made ++ next ∷ []) conds) c.within ++ condition_of table c ∷ []) same
rounds-at table made (first ∷ conds) (suc place) cond there before =
    let next : List Condition = round_at made first.within ++ condition_of table first ∷ [] in
    let at : length made + suc place ≡ length (made ++ next ∷ []) + place = omega (arith, length_push made next) in
    ap (λ n. get_or (rounds_from table (made ++ next ∷ []) conds) n []) at
    ∙ rounds-at table (made ++ next ∷ []) conds place cond there (subst (λ n. IsBefore n cond.within) at before)

-- where all of some are met, the first of them are
first-met-by : (rest more : Bool) (b : Bool) → (more ≡ true → rest ≡ true) → (b && more) ≡ true → (b && rest) ≡ true
first-met-by rest more true so all = so all
first-met-by rest more false so all = all

first-met : (test : Condition → Bool) (xs : List Condition) (x : Condition) → list_all test (xs ++ x ∷ []) ≡ true → list_all test xs ≡ true
first-met test [] x all = refl
first-met test (y ∷ xs) x all = first-met-by (list_all test xs) (list_all test (xs ++ x ∷ [])) (test y) (first-met test xs x) all

pub covers-itself : (conds : List Cond) (within : Option CondId) → Covers conds within within
covers-itself conds within table names met = met

-- what is round no conditional covers all
pub covers-none : (conds : List Cond) (inner : Option CondId) → Covers conds None inner
covers-none conds inner table names met = refl

-- what is round the one that a covering one stands in covers too
pub covers-next : (conds : List Cond) (inner : Option CondId) (at : CondId) (cond : Cond) → AreOrdered conds → slice_get conds at.0 ≡ Some cond → Covers conds (Some at) inner → Covers conds cond.within inner
covers-next conds inner at cond ordered there covers table names met =
    let zero-more : 0 + at.0 ≡ at.0 = omega arith in
    let whole : round_at (rounds_from table [] conds) (Some at) ≡ round_at (rounds_from table [] conds) cond.within ++ condition_of table cond ∷ [] =
    ap (λ n. get_or (rounds_from table [] conds) n []) (sym zero-more) ∙ rounds-at table [] conds at.0 cond there (subst (λ n. IsBefore n cond.within) (sym zero-more) (ordered at.0 cond there)) in
    first-met (is_met names) (round_at (rounds_from table [] conds) cond.within) (condition_of table cond) (ap (list_all (is_met names)) (sym whole) ∙ covers table names met)

walk-within : (place : ℕ) (within : Option CondId) → IsBefore place within → option_map_or (λ (c : CondId). c.0 + 1) within 0 < place + 1
walk-within place None before = omega arith
walk-within place (Some cond) before = omega (arith, before)

pub cond-there : (conds : List Cond) (place : ℕ) (cond : Cond) → place < length conds → cond ≡ get_or conds place cond → slice_get conds place ≡ Some cond
cond-there conds place cond below is = slice_get_read conds (length conds) place cond refl below is

pub walk-smaller : (conds : List Cond) (place : ℕ) (cond : Cond) → AreOrdered conds → slice_get conds place ≡ Some cond → option_map_or (λ (c : CondId). c.0 + 1) cond.within 0 < place + 1
walk-smaller conds place cond ordered there = walk-within place cond.within (ordered place cond there)
