-- Steps that stay, and their new numbers.
use Rattle.std.proofs.Common.{◌≡◌, ℕ, ◌+◌, ◌-◌, ◌<◌, Bool, true, false, Some, List, [], ◌∷◌, ◌++◌, length, map, take, slice_get, slice_index, slice_index_or, All, refl, sym, ap, ◌∙◌, ⊎_elim, arith, nat_lt, if◌then◌else◌}
use Rattle.std.proofs.lemmas.Bool.{cases_lt}
use Rattle.std.proofs.lemmas.List.{get_or_append_left, length_push, map-append, length-take-le}
use Rattle.std.proofs.lemmas.List.Elements.{All-head, All-tail, All-weaker}
use Rattle.std.proofs.lemmas.Option.{get_or_from_slice_get}
use Rattle.sat_proof.specs.Trimming.{AreEarlier, IsKept, looked_up, new_hint, renumbered, stay_count, staying}
use Rattle.sat_proof.specs.declared.step.Step.{Step}
use Rattle.sat_proof.proofs.JudgeLemmas.{take-more}

pub map-agree : {X Y : Type 0} (f g : X → Y) (xs : List X) → All (λ x. f x ≡ g x) xs → map f xs ≡ map g xs
map-agree f g [] h = refl
map-agree f g (x ∷ xs) h =
    let first : f x ≡ g x = All-head (λ y. f y ≡ g y) x xs h in
    let rest = map-agree f g xs (All-tail (λ y. f y ≡ g y) x xs h) in
    cc

stay_count-yes : (stays : List Bool) → stay_count (stays ++ true ∷ []) ≡ stay_count stays + 1
stay_count-yes [] = refl
stay_count-yes (true ∷ stays) = ap (λ n. n + 1) (stay_count-yes stays)
stay_count-yes (false ∷ stays) = stay_count-yes stays

stay_count-no : (stays : List Bool) → stay_count (stays ++ false ∷ []) ≡ stay_count stays
stay_count-no [] = refl
stay_count-no (true ∷ stays) = ap (λ n. n + 1) (stay_count-no stays)
stay_count-no (false ∷ stays) = stay_count-no stays

staying-yes : {X : Type 0} (stays : List Bool) (xs : List X) (x : X) → length stays ≡ length xs → staying (stays ++ true ∷ []) (xs ++ x ∷ []) ≡ staying stays xs ++ x ∷ []
staying-yes [] [] x e = refl
staying-yes [] (y ∷ xs) x e = absurd (omega arith)
staying-yes (stay ∷ stays) [] x e = absurd (omega arith)
staying-yes (true ∷ stays) (y ∷ xs) x e = ap (λ l. y ∷ l) (staying-yes stays xs x (omega arith))
staying-yes (false ∷ stays) (y ∷ xs) x e = staying-yes stays xs x (omega arith)

staying-no : {X : Type 0} (stays : List Bool) (xs : List X) (x : X) → length stays ≡ length xs → staying (stays ++ false ∷ []) (xs ++ x ∷ []) ≡ staying stays xs
staying-no [] [] x e = refl
staying-no [] (y ∷ xs) x e = absurd (omega arith)
staying-no (stay ∷ stays) [] x e = absurd (omega arith)
staying-no (true ∷ stays) (y ∷ xs) x e = ap (λ l. y ∷ l) (staying-no stays xs x (omega arith))
staying-no (false ∷ stays) (y ∷ xs) x e = staying-no stays xs x (omega arith)

module _ (count : ℕ) (steps : List Step) (stays : List Bool) (each : length stays ≡ length steps) (place : ℕ) (kept : List Step) (numbers : List ℕ)
    (h : IsKept count steps stays place kept numbers) (within : place < length steps) (step : Step) (found : slice_get steps place ≡ Some step)
    (number : ℕ) (next : number ≡ count + length kept) where
  more-steps : take (place + 1) steps ≡ take place steps ++ step ∷ []
  more-steps = take-more steps place step within ∙ ap (λ s. take place steps ++ s ∷ []) (get_or_from_slice_get steps place step step found)

  more-stays : (b : Bool) → slice_index_or stays place false ≡ b → take (place + 1) stays ≡ take place stays ++ b ∷ []
  more-stays b e = take-more stays place false (omega (arith, each, within)) ∙ ap (λ s. take place stays ++ s ∷ []) e

  same-length : length (take place stays) ≡ length (take place steps)
  same-length = omega (arith, length-take-le place stays (omega (arith, each, within)), length-take-le place steps (omega (arith, within)))

  pub number-more : (other : ℕ) → other < place + 1 → slice_index (numbers ++ number ∷ []) other ≡ count + stay_count (take other stays)
  number-more other below =
      ⊎_elim
      (λ lt. get_or_append_left numbers (number ∷ []) 0 other (omega (arith, lt, h.numbered)) ∙ h.number other lt)
      (λ ge.
      let e : other ≡ length numbers = omega (arith, ge, below, h.numbered) in
      let f : other ≡ place = omega (arith, ge, below) in
      rw e (last-number numbers) ∙ next ∙ ap (λ n. count + n) (h.counted ∙ ap (λ n. stay_count (take n stays)) (sym f)))
      (cases_lt other place)
    where
      last-number : (ns : List ℕ) → slice_index (ns ++ number ∷ []) (length ns) ≡ number
      last-number [] = refl
      last-number (n ∷ ns) = last-number ns

  pub IsKept-skip : slice_index_or stays place false ≡ false → IsKept count steps stays (place + 1) kept (numbers ++ number ∷ [])
  IsKept-skip left = record {
    numbered = omega (arith, length_push numbers number, h.numbered);
    number = number-more;
    counted = h.counted ∙ sym (ap stay_count (more-stays false left) ∙ stay_count-no (take place stays));
    same = h.same ∙ ap (map (renumbered count stays)) (sym (rw (more-stays false left, more-steps) (staying-no (take place stays) (take place steps) step same-length)));
  }

  pub IsKept-more : slice_index_or stays place false ≡ true → AreEarlier count steps → (new : Step)
      → new ≡ record { clause = step.clause; hints = map (looked_up count (numbers ++ number ∷ [])) step.hints }
      → IsKept count steps stays (place + 1) (kept ++ new ∷ []) (numbers ++ number ∷ [])
  IsKept-more yes_stays earlier new made =
      let hints : map (looked_up count (numbers ++ number ∷ [])) step.hints ≡ map (new_hint count stays) step.hints =
      map-agree (looked_up count (numbers ++ number ∷ [])) (new_hint count stays) step.hints (
      All-weaker (λ hint. hint < count + place) (λ hint. looked_up count (numbers ++ number ∷ []) hint ≡ new_hint count stays hint)
      (λ hint lt. ap (λ n. if nat_lt hint count then hint else n) (number-more (hint - count) (omega (arith, lt)))) step.hints (earlier place step found)
      ) in
      let e : new ≡ renumbered count stays step = made ∙ ap (λ hs. record { clause = step.clause; hints = hs }) hints in
      let all : staying (take (place + 1) stays) (take (place + 1) steps) ≡ staying (take place stays) (take place steps) ++ step ∷ [] =
      rw (more-stays true yes_stays, more-steps) (staying-yes (take place stays) (take place steps) step same-length) in
      record {
        numbered = omega (arith, length_push numbers number, h.numbered);
        number = number-more;
        counted = omega (arith, length_push kept new, h.counted, ap stay_count (more-stays true yes_stays), stay_count-yes (take place stays));
        same = ap (λ k. k ++ new ∷ []) h.same ∙ ap (λ n. map (renumbered count stays) (staying (take place stays) (take place steps)) ++ n ∷ []) e
            ∙ sym (map-append (renumbered count stays) (staying (take place stays) (take place steps)) (step ∷ []))
            ∙ ap (map (renumbered count stays)) (sym all);
      }
