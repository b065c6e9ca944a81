-- What is written without `{refpage}` stays at each page: an empty page would take each `{refpage}` away.
use Rattle.std.proofs.Common.{◌≡◌, ◌∙◌, refl, sym, ap, ⊎_elim, ℕ, zero, suc, ◌≤◌, Bool, true, false, not, cond, List, [], ◌∷◌, ◌++◌, length, Option, Some, None, All, arith}
use Rattle.std.specs.Prelude.{filter, nat_eq}
use Rattle.std.specs.Bool.{OnTrue}
use Rattle.std.specs.List.{starts_with}
use Rattle.std.specs.Str.{bytes_eq}
use Rattle.std.proofs.lemmas.Bool.{cases_Bool}
use Rattle.std.proofs.lemmas.List.Elements.{All-head, All-tail}
use Rattle.std.proofs.lemmas.Slice.Eq.{bytes_eq-Decides}
use Rattle.doc_build.specs.Ids.{filled, filled_from, refpage}
use Rattle.doc_tree.specs.Names.{each_once}

-- an empty page makes nothing longer
shrinks : (left : ℕ) (bytes : List ℕ) → length (filled_from [] left bytes) ≤ length bytes
shrinks zero [] = omega arith
shrinks (suc left) [] = omega arith
shrinks zero (byte ∷ bytes) = each (starts_with nat_eq (byte ∷ bytes) refpage) (shrinks 8 bytes) (shrinks 0 bytes)
  where
    each : (is : Bool) → length (filled_from [] 8 bytes) ≤ length bytes → length (filled_from [] 0 bytes) ≤ length bytes
        → length (cond is ([] ++ filled_from [] 8 bytes) (byte ∷ filled_from [] 0 bytes)) ≤ length (byte ∷ bytes)
    each true named rest = omega (arith, named)
    each false named rest = omega (arith, rest)
shrinks (suc left) (byte ∷ bytes) = omega (arith, shrinks left bytes)

step : (page : List ℕ) (byte : ℕ) (bytes : List ℕ) → starts_with nat_eq (byte ∷ bytes) refpage ≡ false → filled_from page 0 (byte ∷ bytes) ≡ byte ∷ filled_from page 0 bytes
step page byte bytes isnt = ap (λ (b : Bool). cond b (page ++ filled_from page 8 bytes) (byte ∷ filled_from page 0 bytes)) isnt

-- what an empty page leaves each page leaves
pub plain-stays : (written page : List ℕ) → filled_from [] 0 written ≡ written → filled_from page 0 written ≡ written
plain-stays [] page same = refl
plain-stays (byte ∷ bytes) page same =
    ⊎_elim
    (λ (named : starts_with nat_eq (byte ∷ bytes) refpage ≡ true).
    let taken : filled_from [] 8 bytes ≡ byte ∷ bytes = sym (ap (λ (b : Bool). cond b ([] ++ filled_from [] 8 bytes) (byte ∷ filled_from [] 0 bytes)) named) ∙ same in
    absurd (omega (arith, shrinks 8 bytes, ap (λ (t : List ℕ). length t) taken)))
    (λ (isnt : starts_with nat_eq (byte ∷ bytes) refpage ≡ false).
    let both : byte ∷ filled_from [] 0 bytes ≡ byte ∷ bytes = sym (step [] byte bytes isnt) ∙ same in
    let rest : filled_from [] 0 bytes ≡ bytes = cc in
    step page byte bytes isnt ∙ ap (λ (t : List ℕ). byte ∷ t) (plain-stays bytes page rest))
    (cases_Bool (starts_with nat_eq (byte ∷ bytes) refpage))

pub any-page : (written : List ℕ) → ((page : List ℕ) → filled (Some page) written ≡ written) → (page : Option (List ℕ)) → filled page written ≡ written
any-page written plain None = refl
any-page written plain (Some page) = plain page

-- ids that are all the same are one
nothing-else : (id : List ℕ) (ids : List (List ℕ)) → All (λ other. other ≡ id) ids → filter (λ other. not (bytes_eq other id)) (each_once ids) ≡ []
nothing-else id [] same = refl
nothing-else id (first ∷ ids) same =
    let others : List ℕ → Bool = λ other. not (bytes_eq other id) in
    let rest = filter (λ other. not (bytes_eq other first)) (each_once ids) in
    let is : first ≡ id = All-head (λ other. other ≡ id) first ids same in
    ap (λ (b : Bool). cond (not b) (first ∷ filter others rest) (filter others rest)) ((bytes_eq-Decides first id).1 is)
    ∙ ap (filter others) (ap (λ (y : List ℕ). filter (λ other. not (bytes_eq other y)) (each_once ids)) is ∙ nothing-else id ids (All-tail (λ other. other ≡ id) first ids same))

pub one-id : (id : List ℕ) (ids : List (List ℕ)) → All (λ other. other ≡ id) ids → each_once (id ∷ ids) ≡ id ∷ []
one-id id ids same = ap (λ (rest : List (List ℕ)). id ∷ rest) (nothing-else id ids same)

-- so it tells that the two are the same
pub plain-told : (is : Bool) (bare written : List ℕ) → is ≡ bytes_eq bare written → bare ≡ filled_from [] 0 written → OnTrue is ((page : List ℕ) → filled_from page 0 written ≡ written)
plain-told true bare written was made = λ page. plain-stays written page (sym made ∙ (bytes_eq-Decides bare written).0 (sym was))
plain-told false bare written was made = tt
