-- The steps that stay refute the clauses too.
use Rattle.std.proofs.Common.{◌≡◌, ℕ, zero, suc, ◌+◌, ◌-◌, ◌<◌, ◌≤◌, ◌↔◌, Bool, true, false, Some, List, [], ◌∷◌, ◌++◌, length, map, take, slice_get, slice_index_or, All, Contains, refl, sym, ap, subst, ◌∙◌, ⊎_elim, arith, nat_lt, add-one}
use Rattle.std.proofs.lemmas.Bool.{cases_Bool, cases_lt, ltb-true, lt-ltb}
use Rattle.std.proofs.lemmas.List.{get_or_append_left, get_or-append-add, get_or-take, length-map, length-take-le, length_push, take-map, take-take, take_all}
use Rattle.std.proofs.lemmas.Simd.{map-map}
use Rattle.std.proofs.lemmas.List.Elements.{All-cons, All-head, All-map, All-nil, All-tail, Contains-get_or}
use Rattle.std.specs.Option.{option_map}
use Rattle.sat_cnf.specs.Clauses.{IsWithin}
use Rattle.std.proofs.lemmas.Option.{get_or_from_slice_get, slice_get-get_or, slice_get-map, slice_get_within}
use Rattle.sat_cnf.specs.declared.lit.Lit.{Lit}
use Rattle.sat_cnf.specs.Lits.{negation_of}
use Rattle.sat_proof.specs.Propagation.{Refutes}
use Rattle.sat_proof.specs.Refutations.{AreGood, AreWithin, EndsEmpty, Follows, IsRefutation, held_with, hinted}
use Rattle.sat_proof.specs.Trimming.{AreEarlier, IsReached, IsTrimmed, hinted_at, the_last, new_hint, renumbered, stay_count, staying}
use Rattle.sat_proof.specs.declared.step.Step.{Step}
use Rattle.sat_proof.proofs.JudgeLemmas.{length-held}
use Rattle.sat_proof.proofs.KeepLemmas.{map-agree}
use Rattle.sat_proof.proofs.SoundLemmas.{ends-empty}

both-ways : (a : Bool) → a ≡ true → a ≡ false → ⊥
both-ways true p q = cc
both-ways false p q = cc

-- what stays stands behind those before it that stay
stays-at : {X : Type 0} (stays : List Bool) (xs : List X) (q : ℕ) → length stays ≡ length xs → slice_index_or stays q false ≡ true
    → slice_get (staying stays xs) (stay_count (take q stays)) ≡ slice_get xs q
stays-at [] xs q e m = absurd (both-ways false m refl)
stays-at (stay ∷ stays) [] q e m = absurd (omega arith)
stays-at (true ∷ stays) (x ∷ xs) zero e m = refl
stays-at (false ∷ stays) (x ∷ xs) zero e m = absurd (both-ways false m refl)
stays-at (true ∷ stays) (x ∷ xs) (suc q) e m = rw add-one (stays-at stays xs q (omega arith) m)
stays-at (false ∷ stays) (x ∷ xs) (suc q) e m = stays-at stays xs q (omega arith) m

stay_count-lt : (stays : List Bool) (q p : ℕ) → q < p → slice_index_or stays q false ≡ true → stay_count (take q stays) < stay_count (take p stays)
stay_count-lt stays q zero lt m = absurd (omega arith)
stay_count-lt [] q (suc p) lt m = absurd (both-ways false m refl)
stay_count-lt (true ∷ stays) zero (suc p) lt m = omega arith
stay_count-lt (false ∷ stays) zero (suc p) lt m = absurd (both-ways false m refl)
stay_count-lt (true ∷ stays) (suc q) (suc p) lt m = omega (arith, stay_count-lt stays q p (omega arith) m)
stay_count-lt (false ∷ stays) (suc q) (suc p) lt m = stay_count-lt stays q p (omega arith) m

length-staying : {X : Type 0} (stays : List Bool) (xs : List X) → length stays ≡ length xs → length (staying stays xs) ≡ stay_count stays
length-staying [] xs e = refl
length-staying (stay ∷ stays) [] e = absurd (omega arith)
length-staying (true ∷ stays) (x ∷ xs) e = omega (arith, length-staying stays xs (omega arith))
length-staying (false ∷ stays) (x ∷ xs) e = length-staying stays xs (omega arith)

pub length-staying-le : {X : Type 0} (stays : List Bool) (xs : List X) → length (staying stays xs) ≤ length xs
length-staying-le [] xs = omega arith
length-staying-le (stay ∷ stays) [] = omega arith
length-staying-le (true ∷ stays) (x ∷ xs) = omega (arith, length-staying-le stays xs)
length-staying-le (false ∷ stays) (x ∷ xs) = omega (arith, length-staying-le stays xs)

-- where an element that stays came from
record Origin {X : Type 0} (stays : List Bool) (xs : List X) (j : ℕ) : Type 0 where
  place : ℕ
  item : X
  marked : slice_index_or stays place false ≡ true
  found : slice_get xs place ≡ Some item
  kept : slice_get (staying stays xs) j ≡ Some item
  before : take j (staying stays xs) ≡ staying (take place stays) (take place xs)

origin : {X : Type 0} (stays : List Bool) (xs : List X) (j : ℕ) → j < length (staying stays xs) → Origin stays xs j
origin [] xs j lt = absurd (omega arith)
origin (stay ∷ stays) [] j lt = absurd (omega arith)
origin (true ∷ stays) (x ∷ xs) zero lt = record { place = 0; item = x; marked = refl; found = refl; kept = refl; before = refl }
origin (true ∷ stays) (x ∷ xs) (suc j) lt =
    let r = origin stays xs j (omega arith) in
    record { place = suc r.place; item = r.item; marked = r.marked; found = r.found; kept = r.kept; before = ap (λ l. x ∷ l) r.before }
origin (false ∷ stays) (x ∷ xs) j lt =
    let r = origin stays xs j lt in
    record { place = suc r.place; item = r.item; marked = r.marked; found = r.found; kept = r.kept; before = r.before }

-- a hint behind the clauses means a step's clause
hinted-step : (clauses : List (List Lit)) (steps : List Step) (k : ℕ) (step : Step) → slice_get steps k ≡ Some step
    → hinted (held_with clauses steps) (length clauses + k) ≡ step.clause
hinted-step clauses steps k step found =
    get_or-append-add clauses (map (λ s. s.clause) steps) k []
    ∙ get_or_from_slice_get (map (λ s. s.clause) steps) k step.clause []
    (slice_get-map (λ (s : Step). s.clause) steps k ∙ ap (option_map (λ (s : Step). s.clause)) found)

hinted-clause : (clauses : List (List Lit)) (steps more : List Step) (hint : ℕ) → hint < length clauses
    → hinted (held_with clauses steps) hint ≡ hinted (held_with clauses more) hint
hinted-clause clauses steps more hint lt =
    get_or_append_left clauses (map (λ s. s.clause) steps) [] hint lt ∙ sym (get_or_append_left clauses (map (λ s. s.clause) more) [] hint lt)

slice_get-take : {X : Type 0} (n : ℕ) (xs : List X) (k : ℕ) → k < n → slice_get (take n xs) k ≡ slice_get xs k
slice_get-take zero xs k lt = absurd (omega arith)
slice_get-take (suc n) [] k lt = refl
slice_get-take (suc n) (x ∷ xs) zero lt = refl
slice_get-take (suc n) (x ∷ xs) (suc k) lt = slice_get-take n xs k (omega arith)

stay_count-next : (stays : List Bool) (q : ℕ) → slice_index_or stays q false ≡ true → stay_count (take (suc q) stays) ≡ stay_count (take q stays) + 1
stay_count-next [] q m = absurd (both-ways false m refl)
stay_count-next (true ∷ stays) zero m = refl
stay_count-next (false ∷ stays) zero m = absurd (both-ways false m refl)
stay_count-next (true ∷ stays) (suc q) m = ap (λ n. n + 1) (stay_count-next stays q m)
stay_count-next (false ∷ stays) (suc q) m = stay_count-next stays q m

All-staying : {X : Type 0} (P : X → Type 0) (stays : List Bool) (xs : List X) → All P xs → All P (staying stays xs)
All-staying P [] xs h = All-nil P
All-staying P (stay ∷ stays) [] h = All-nil P
All-staying P (true ∷ stays) (x ∷ xs) h = All-cons P x (staying stays xs) (All-head P x xs h) (All-staying P stays xs (All-tail P x xs h))
All-staying P (false ∷ stays) (x ∷ xs) h = All-staying P stays xs (All-tail P x xs h)

follows-at : (clauses : List (List Lit)) (steps : List Step) → IsRefutation clauses steps → (place : ℕ) (step : Step) → slice_get steps place ≡ Some step
    → Follows (held_with clauses (take place steps)) step
follows-at clauses steps r place step found =
    let g = r.good place (slice_get_within steps place step found) in
    let some : Some g.0 ≡ Some step = sym g.1 ∙ found in
    let same : g.0 ≡ step = cc in
    subst (Follows (held_with clauses (take place steps))) same g.2

-- in a refutation each hint means a clause or an earlier step
pub refutation-earlier : (clauses : List (List Lit)) (steps : List Step) → IsRefutation clauses steps → AreEarlier (length clauses) steps
refutation-earlier clauses steps r place step found k d within =
    omega (
      arith,
      (follows-at clauses steps r place step found).known k d within,
      length-held clauses (take place steps),
      length-take-le place steps (omega (arith, slice_get_within steps place step found)),
    )

module _ (clauses : List (List Lit)) (steps : List Step) (stays : List Bool) (each : length stays ≡ length steps)
    (reached : (place : ℕ) → (slice_index_or stays place false ≡ true) ↔ IsReached (length clauses) steps place) (r : IsRefutation clauses steps) where
  -- the steps before a place that stay
  abbrev kept_before : ℕ → List Step
  kept_before place = map (renumbered (length clauses) stays) (staying (take place stays) (take place steps))

  module _ (place : ℕ) (step : Step) (found : slice_get steps place ≡ Some step) (marked : slice_index_or stays place false ≡ true) where
    lengths : length (take place stays) ≡ length (take place steps)
    lengths =
        omega (
          arith,
          each,
          slice_get_within steps place step found,
          length-take-le place stays (omega (arith, each, slice_get_within steps place step found)),
          length-take-le place steps (omega (arith, slice_get_within steps place step found)),
        )

    abbrev IsSameHint : ℕ → Type 0
    IsSameHint hint =
        (new_hint (length clauses) stays hint < length clauses + stay_count (take place stays))
        × (hinted (held_with clauses (kept_before place)) (new_hint (length clauses) stays hint) ≡ hinted (held_with clauses (take place steps)) hint)

    clause-hint : (hint : ℕ) → nat_lt hint (length clauses) ≡ true → IsSameHint hint
    clause-hint hint t =
        let lt : hint < length clauses = ltb-true hint (length clauses) t in
        let same : new_hint (length clauses) stays hint ≡ hint = rw t refl in
        (omega (arith, same, lt), rw same (hinted-clause clauses (kept_before place) (take place steps) hint lt))

    step-hint : (hint : ℕ) → nat_lt hint (length clauses) ≡ false → Contains step.hints hint → hint < length clauses + place → IsSameHint hint
    step-hint hint f c below =
        let above : length clauses ≤ hint =
        ⊎_elim (λ lt. absurd (both-ways (nat_lt hint (length clauses)) (lt-ltb hint (length clauses) lt) f)) (λ ge. ge) (cases_lt hint (length clauses)) in
        let e : hint ≡ length clauses + (hint - length clauses) = omega (arith, above) in
        let new : new_hint (length clauses) stays hint ≡ length clauses + stay_count (take (hint - length clauses) stays) = rw f refl in
        let before : hint - length clauses < place = omega (arith, above, below) in
        let there : slice_index_or stays (hint - length clauses) false ≡ true =
        (reached (hint - length clauses)).1 (hinted_at ((reached place).0 marked) found (subst (Contains step.hints) e c)) in
        let item = slice_index_or steps (hint - length clauses) step in
        let item_found : slice_get (take place steps) (hint - length clauses) ≡ Some item =
        slice_get-take place steps (hint - length clauses) before
        ∙ slice_get-get_or steps (hint - length clauses) step (omega (arith, before, slice_get_within steps place step found)) in
        let kept : slice_get (staying (take place stays) (take place steps)) (stay_count (take (hint - length clauses) stays)) ≡ Some item =
        ap (λ front. slice_get (staying (take place stays) (take place steps)) (stay_count front)) (sym (take-take (hint - length clauses) place stays (omega (arith, before))))
        ∙ stays-at (take place stays) (take place steps) (hint - length clauses) lengths (get_or-take place stays (hint - length clauses) false before ∙ there)
        ∙ item_found in (
          omega (arith, new, stay_count-lt stays (hint - length clauses) place before there),
          ap (hinted (held_with clauses (kept_before place))) new
              ∙ hinted-step clauses (kept_before place) (stay_count (take (hint - length clauses) stays)) (renumbered (length clauses) stays item)
              (slice_get-map (renumbered (length clauses) stays) (staying (take place stays) (take place steps)) (stay_count (take (hint - length clauses) stays))
              ∙ ap (option_map (renumbered (length clauses) stays)) kept)
              ∙ sym (ap (hinted (held_with clauses (take place steps))) e ∙ hinted-step clauses (take place steps) (hint - length clauses) item item_found),
        )

    same-hints : All IsSameHint step.hints
    same-hints k d within =
        let hint = slice_index_or step.hints k d in
        ⊎_elim (clause-hint hint)
        (λ f. step-hint hint f (Contains-get_or step.hints k d within) (refutation-earlier clauses steps r place step found k d within))
        (cases_Bool (nat_lt hint (length clauses)))

    follows-kept : Follows (held_with clauses (kept_before place)) (renumbered (length clauses) stays step)
    follows-kept =
        let f = follows-at clauses steps r place step found in
        let held : length (held_with clauses (kept_before place)) ≡ length clauses + stay_count (take place stays) =
        length-held clauses (kept_before place)
        ∙ ap (λ n. length clauses + n) (length-map (staying (take place stays) (take place steps)) (renumbered (length clauses) stays) ∙ length-staying (take place stays) (take place steps) lengths) in
        let same : map (hinted (held_with clauses (kept_before place))) (map (new_hint (length clauses) stays) step.hints) ≡ map (hinted (held_with clauses (take place steps))) step.hints =
        map-map (hinted (held_with clauses (kept_before place))) (new_hint (length clauses) stays) step.hints
        ∙ map-agree (λ hint. hinted (held_with clauses (kept_before place)) (new_hint (length clauses) stays hint)) (hinted (held_with clauses (take place steps))) step.hints
        (λ k d within. (same-hints k d within).1) in
        record {
          consistent = f.consistent;
          known = All-map (λ hint. hint < length (held_with clauses (kept_before place))) (new_hint (length clauses) stays) step.hints
              (λ k d within. omega (arith, held, (same-hints k d within).0));
          refuted = subst (Refutes (map negation_of step.clause)) (sym same) f.refuted;
        }

  abbrev trimmed : List Step
  trimmed = map (renumbered (length clauses) stays) (staying stays steps)

  trimmed-good : AreGood clauses trimmed
  trimmed-good j lt =
      let o = origin stays steps j (omega (arith, lt, length-map (staying stays steps) (renumbered (length clauses) stays))) in (
        renumbered (length clauses) stays o.item,
        slice_get-map (renumbered (length clauses) stays) (staying stays steps) j ∙ ap (option_map (renumbered (length clauses) stays)) o.kept,
        subst (λ front. Follows (held_with clauses front) (renumbered (length clauses) stays o.item))
            (sym (take-map (renumbered (length clauses) stays) j (staying stays steps) ∙ ap (map (renumbered (length clauses) stays)) o.before))
            (follows-kept o.place o.item o.found o.marked),
      )

  trimmed-ends : EndsEmpty trimmed
  trimmed-ends =
      let (front, last, split, empty) = r.ends in
      let many : length steps ≡ length front + 1 = ap length split ∙ length_push front last in
      let found : slice_get steps (length front) ≡ Some last =
      subst (λ s. slice_get s (length front) ≡ Some last) (sym split) (last-found front last) in
      let marked : slice_index_or stays (length front) false ≡ true = (reached (length front)).1 (the_last (sym many)) in
      let all : take (suc (length front)) stays ≡ stays = take_all (suc (length front)) stays (omega (arith, each, many)) in
      let count : length trimmed - 1 ≡ stay_count (take (length front) stays) =
      omega (arith, length-map (staying stays steps) (renumbered (length clauses) stays), length-staying stays steps each, stay_count-next stays (length front) marked, ap stay_count all) in
      ends-empty trimmed (renumbered (length clauses) stays last)
      (ap (slice_get trimmed) count
      ∙ slice_get-map (renumbered (length clauses) stays) (staying stays steps) (stay_count (take (length front) stays))
      ∙ ap (option_map (renumbered (length clauses) stays)) (stays-at stays steps (length front) each marked ∙ found))
      (ap length empty)
    where
      last-found : (front : List Step) (last : Step) → slice_get (front ++ last ∷ []) (length front) ≡ Some last
      last-found [] last = refl
      last-found (s ∷ front) last = last-found front last

-- what stays of a refutation is a refutation
pub trimmed-refutes : (clauses : List (List Lit)) (steps kept : List Step) → IsRefutation clauses steps → IsTrimmed (length clauses) steps kept → IsRefutation clauses kept
trimmed-refutes clauses steps kept r t =
    subst (IsRefutation clauses) (sym t.same) (record {
      good = trimmed-good clauses steps t.stays t.each t.reached r;
      ends = trimmed-ends clauses steps t.stays t.each t.reached r;
    })

pub trimmed-within : (count vars : ℕ) (steps kept : List Step) → AreWithin vars steps → IsTrimmed count steps kept → AreWithin vars kept
trimmed-within count vars steps kept h t =
    subst (AreWithin vars) (sym t.same)
    (All-map (λ step. All (IsWithin vars) step.clause) (renumbered count t.stays) (staying t.stays steps) (All-staying (λ step. All (IsWithin vars) step.clause) t.stays steps h))

pub trimmed-fewer : (count : ℕ) (steps kept : List Step) → IsTrimmed count steps kept → length kept ≤ length steps
trimmed-fewer count steps kept t =
    omega (arith, ap length t.same, length-map (staying t.stays steps) (renumbered count t.stays), length-staying-le t.stays steps)

pub IsTrimmed-made : (count : ℕ) (steps kept : List Step) (stays slice : List Bool) (n m : ℕ) → n ≡ count → m ≡ count → length stays ≡ length steps
    → ((place : ℕ) → (slice_index_or stays place false ≡ true) ↔ IsReached n steps place) → slice ≡ stays
    → kept ≡ map (renumbered m slice) (staying slice steps) → IsTrimmed count steps kept
IsTrimmed-made count steps kept stays slice n m e f each reached same made = record {
  stays = stays;
  each = each;
  reached = subst (λ k. (place : ℕ) → (slice_index_or stays place false ≡ true) ↔ IsReached k steps place) e reached;
  same = made ∙ ap (λ k. map (renumbered k slice) (staying slice steps)) f ∙ ap (λ marks. map (renumbered count marks) (staying marks steps)) same;
}
