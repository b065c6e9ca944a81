-- The conditions round each condition, as more are put in.
use Rattle.std.proofs.Common.{◌≡◌, ◌∙◌, refl, sym, ap, ℕ, ◌+◌, ◌<◌, ◌≤◌, List, [], ◌∷◌, ◌++◌, length, map, take, drop, All, Option, Some, None, get_or, slice_get, slice_index_or, arith}
use Rattle.std.proofs.lemmas.List.{append_assoc, drop_more, get_or_at, length_push, length-take-le, take-append-drop}
use Rattle.std.proofs.lemmas.List.Elements.{All-head, All-tail}
use Rattle.std.proofs.lemmas.Option.{get_or_from_slice_get, slice_get-get_or, slice_get_within}
use Rattle.doc_tree.specs.declared.Cond.{Cond}
use Rattle.doc_tree.specs.declared.CondId.{CondId}
use Rattle.doc_tree.specs.declared.Document.{Document}
use Rattle.doc_tree.specs.Flat.{Condition}
use Rattle.doc_tree.specs.Loaded.{IsBefore, condition_of, round_at, rounds_from, rounds_of}
use Rattle.doc_tree.specs.Progress.{AreCondsThere, Extends}
use Rattle.doc_tree.proofs.NamesLemmas.{extends_itself, extends_on, map_alike, stays}

zero-plus : (n : ℕ) → 0 + n ≡ n
zero-plus n = omega arith

-- a condition with those round it, behind others
abbrev pub round_with : List (List ℕ) → List (List Condition) → Cond → List Condition
round_with names made cond = round_at made cond.within ++ condition_of names cond ∷ []

rounds_from-append : (names : List (List ℕ)) (made : List (List Condition)) (front back : List Cond) → rounds_from names made (front ++ back) ≡ rounds_from names (rounds_from names made front) back
rounds_from-append names made [] back = refl
rounds_from-append names made (cond ∷ front) back = rounds_from-append names (made ++ round_with names made cond ∷ []) front back

rounds_from-extends : (names : List (List ℕ)) (made : List (List Condition)) (conds : List Cond) → Extends made (rounds_from names made conds)
rounds_from-extends names made [] = extends_itself made
rounds_from-extends names made (cond ∷ conds) =
    extends_on made (made ++ round_with names made cond ∷ []) (rounds_from names (made ++ round_with names made cond ∷ []) conds)
    (round_with names made cond ∷ [], refl) (rounds_from-extends names (made ++ round_with names made cond ∷ []) conds)

length-rounds_from : (names : List (List ℕ)) (made : List (List Condition)) (conds : List Cond) → length (rounds_from names made conds) ≡ length made + length conds
length-rounds_from names made [] = omega arith
length-rounds_from names made (cond ∷ conds) =
    let rest = length-rounds_from names (made ++ round_with names made cond ∷ []) conds in
    let one = length_push made (round_with names made cond) in
    omega arith

-- the names of the condition stand in the table
abbrev pub IsNamed : List (List ℕ) → Cond → Type 0
IsNamed names cond = All (λ name. name.0 < length names) cond.names

pub condition-stays : (names more : List (List ℕ)) (cond : Cond) → Extends names more → IsNamed names cond → condition_of more cond ≡ condition_of names cond
condition-stays names more cond grows named =
    let same : map (λ name. slice_index_or more name.0 []) cond.names ≡ map (λ name. slice_index_or names name.0 []) cond.names =
    map_alike (λ name. slice_index_or more name.0 []) (λ name. slice_index_or names name.0 []) cond.names (λ k d below. stays names more (get_or cond.names k d).0 [] grows (named k d below)) in
    ap (λ (ns : List (List ℕ)). record { negated = cond.negated; any = cond.any; names = ns }) same

rounds_from-stays : (names more : List (List ℕ)) (made : List (List Condition)) (conds : List Cond) → Extends names more → All (IsNamed names) conds → rounds_from more made conds ≡ rounds_from names made conds
rounds_from-stays names more made [] grows named = refl
rounds_from-stays names more made (cond ∷ conds) grows named =
    let here = condition-stays names more cond grows (All-head (IsNamed names) cond conds named) in
    ap (λ (c : Condition). rounds_from more (made ++ (round_at made cond.within ++ c ∷ []) ∷ []) conds) here
    ∙ rounds_from-stays names more (made ++ round_with names made cond ∷ []) conds grows (All-tail (IsNamed names) cond conds named)

pub all_named : (d : Document) → AreCondsThere d → All (IsNamed d.names) d.conds
all_named d there k e below = (there k (get_or d.conds k e) (slice_get-get_or d.conds k e below)).each

length-rounds_of : (d : Document) → length (rounds_of d) ≡ length d.conds
length-rounds_of d = let all = length-rounds_from d.names [] d.conds in omega arith

-- what is round a condition in a list that goes on
round_at-stays : (made more : List (List Condition)) (place : ℕ) (cond : Option CondId) → Extends made more → place ≤ length made → IsBefore place cond → round_at more cond ≡ round_at made cond
round_at-stays made more place None grows upto before = refl
round_at-stays made more place (Some id) grows upto before = stays made more id.0 [] grows (omega (arith, before))

rounds_of-grow : (d e : Document) → AreCondsThere d → Extends d.names e.names → Extends d.conds e.conds → Extends (rounds_of d) (rounds_of e)
rounds_of-grow d e there names conds =
    let parts : rounds_of e ≡ rounds_from e.names (rounds_of d) conds.0 =
    ap (rounds_from e.names []) conds.1 ∙ rounds_from-append e.names [] d.conds conds.0 ∙ ap (λ (made : List (List Condition)). rounds_from e.names made conds.0) (rounds_from-stays d.names e.names [] d.conds names (all_named d there)) in
    let more = rounds_from-extends e.names (rounds_of d) conds.0 in
    (more.0, parts ∙ more.1)

-- what is round a condition stays
pub round_stays : (d e : Document) (cond : Option CondId) → AreCondsThere d → Extends d.names e.names → Extends d.conds e.conds → IsBefore (length d.conds) cond → round_at (rounds_of e) cond ≡ round_at (rounds_of d) cond
round_stays d e cond there names conds before =
    let all = length-rounds_of d in
    round_at-stays (rounds_of d) (rounds_of e) (length d.conds) cond (rounds_of-grow d e there names conds) (omega arith) before

-- a condition that was put last
round_last : (names : List (List ℕ)) (made : List (List Condition)) (conds : List Cond) (cond : Cond) → rounds_from names made (conds ++ cond ∷ []) ≡ rounds_from names made conds ++ round_with names (rounds_from names made conds) cond ∷ []
round_last names made conds cond = rounds_from-append names made conds (cond ∷ [])

-- a condition is inside the one that it stands in
pub round_opens : (d : Document) (id : CondId) (cond : Cond) → AreCondsThere d → slice_get d.conds id.0 ≡ Some cond → round_at (rounds_of d) (Some id) ≡ round_at (rounds_of d) cond.within ++ condition_of d.names cond ∷ []
round_opens d id cond there here =
    let within : id.0 < length d.conds = slice_get_within d.conds id.0 cond here in
    let front = take id.0 d.conds in
    let back = drop (id.0 + 1) d.conds in
    let read : get_or d.conds id.0 cond ≡ cond = get_or_from_slice_get d.conds id.0 cond cond here in
    let split : d.conds ≡ front ++ (cond ∷ [] ++ back) = sym (take-append-drop id.0 d.conds) ∙ ap (λ (cs : List Cond). front ++ cs) (drop_more d.conds id.0 cond within ∙ ap (λ (c : Cond). c ∷ back) read) in
    let made = rounds_from d.names [] front in
    let own = round_with d.names made cond in
    let all : rounds_of d ≡ rounds_from d.names (made ++ own ∷ []) back = ap (rounds_from d.names []) split ∙ rounds_from-append d.names [] front (cond ∷ [] ++ back) in
    let more = rounds_from-extends d.names (made ++ own ∷ []) back in
    let count : length made ≡ id.0 = length-rounds_from d.names [] front ∙ zero-plus (length front) ∙ length-take-le id.0 d.conds (omega arith) in
    let longer : Extends made (rounds_of d) = (own ∷ [] ++ more.0, all ∙ more.1 ∙ append_assoc made (own ∷ []) more.0) in
    let inside = (there id.0 cond here).within in
    let outside : round_at (rounds_of d) cond.within ≡ round_at made cond.within = round_at-stays made (rounds_of d) id.0 cond.within longer (omega arith) inside in
    let at_place : slice_index_or (rounds_of d) id.0 [] ≡ own = ap (λ (rs : List (List Condition)). slice_index_or rs id.0 []) longer.1 ∙ get_or_at made own more.0 [] id.0 count in
    at_place ∙ ap (λ (cs : List Condition). cs ++ condition_of d.names cond ∷ []) (sym outside)
