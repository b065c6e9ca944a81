-- Marking the steps that are reached.
use Rattle.std.proofs.Common.{◌≡◌, ℕ, ◌+◌, ◌-◌, ◌<◌, ◌≤◌, ◌↔◌, Bool, true, false, Some, List, [], ◌∷◌, ◌++◌, length, set, slice_get, slice_index_or, Contains, sym, ap, subst, ◌∙◌, ◌⊎◌, inl, inr, ⊎_elim, arith}
use Rattle.std.proofs.lemmas.Bool.{cases_eq}
use Rattle.std.proofs.lemmas.List.{get_or-set_same, get_or-set_other, length-set}
use Rattle.std.proofs.lemmas.List.Elements.{All-contains, Contains-append_left, Contains-push, Contains-push_cases}
use Rattle.std.proofs.lemmas.Option.{slice_get_within}
use Rattle.sat_proof.specs.Trimming.{AreEarlier, IsMarked, IsReached, the_last, hinted_at}
use Rattle.sat_proof.specs.declared.step.Step.{Step}

both-ways : (a : Bool) → a ≡ true → a ≡ false → ⊥
both-ways true p q = cc
both-ways false p q = cc

module _ (count : ℕ) (old now : List Bool) (hints : List ℕ) (hint : ℕ)
    (h : (place : ℕ) → (slice_index_or now place false ≡ true) ↔ ((slice_index_or old place false ≡ true) ⊎ Contains hints (count + place))) where
  -- a hint that means a clause
  pub marks-skip : hint < count → (place : ℕ)
      → (slice_index_or now place false ≡ true) ↔ ((slice_index_or old place false ≡ true) ⊎ Contains (hints ++ hint ∷ []) (count + place))
  marks-skip below place = (
    λ m. ⊎_elim (λ was. inl was) (λ c. inr (Contains-append_left hints (hint ∷ []) (count + place) c)) ((h place).0 m),
    λ k. (h place).1 (⊎_elim (λ was. inl was) (λ c. ⊎_elim (λ there. inr there) (λ e. absurd (omega (arith, e, below))) (Contains-push_cases hints hint (count + place) c)) k),
  )

  -- a hint that means a step
  pub marks-put : count ≤ hint → hint - count < length now → (place : ℕ)
      → (slice_index_or (set now (hint - count) true) place false ≡ true) ↔ ((slice_index_or old place false ≡ true) ⊎ Contains (hints ++ hint ∷ []) (count + place))
  marks-put above within place =
      ⊎_elim
      (λ e. (
        λ _. inr (subst (Contains (hints ++ hint ∷ [])) (omega (arith, e, above)) (Contains-push hints hint)),
        λ _. rw e (get_or-set_same now (hint - count) true false within),
      ))
      (λ ne.
      let kept : slice_index_or (set now (hint - count) true) place false ≡ slice_index_or now place false = get_or-set_other now (hint - count) place true false ne in (
        λ m. ⊎_elim (λ was. inl was) (λ c. inr (Contains-append_left hints (hint ∷ []) (count + place) c)) ((h place).0 (sym kept ∙ m)),
        λ k. kept ∙ (h place).1 (⊎_elim (λ was. inl was) (λ c. ⊎_elim (λ there. inr there) (λ e. absurd (ne (omega (arith, e)))) (Contains-push_cases hints hint (count + place) c)) k),
      ))
      (cases_eq place (hint - count))

module _ (count : ℕ) (steps : List Step) where
  -- only the last step is marked
  pub IsMarked-last : (stays : List Bool) → 0 < length steps → length stays ≡ length steps → ((place : ℕ) → slice_index_or stays place false ≡ false)
      → IsMarked count steps (length steps) (set stays (length steps - 1) true)
  IsMarked-last stays some each none = record {
    each = length-set stays (length steps - 1) true ∙ each;
    reached = λ other m.
        ⊎_elim (λ e. the_last (omega (arith, e, some)))
        (λ ne. absurd (both-ways (slice_index_or stays other false) (sym (get_or-set_other stays (length steps - 1) other true false ne) ∙ m) (none other)))
        (cases_eq other (length steps - 1));
    ends = λ other e.
        let at : other ≡ length steps - 1 = omega (arith, e) in
        rw at (get_or-set_same stays (length steps - 1) true false (omega (arith, some, each)));
    closed = λ from other step le m found c. absurd (omega (arith, le, slice_get_within steps from step found));
  }

  -- a step that isn't marked has nothing to mark
  pub IsMarked-skip : (place : ℕ) (stays : List Bool) → IsMarked count steps (place + 1) stays → slice_index_or stays place false ≡ false → IsMarked count steps place stays
  IsMarked-skip place stays h not_marked = record {
    each = h.each;
    reached = h.reached;
    ends = h.ends;
    closed = λ from other step le m found c.
        ⊎_elim (λ e. absurd (both-ways (slice_index_or stays from false) m (rw e not_marked)))
        (λ ne. h.closed from other step (omega (arith, le, ne)) m found c)
        (cases_eq from place);
  }

  -- a marked step marks what it hints at
  pub IsMarked-more : (place : ℕ) (stays more : List Bool) (step : Step) → AreEarlier count steps → IsMarked count steps (place + 1) stays
      → slice_index_or stays place false ≡ true → slice_get steps place ≡ Some step → length more ≡ length stays
      → ((other : ℕ) → (slice_index_or more other false ≡ true) ↔ ((slice_index_or stays other false ≡ true) ⊎ Contains step.hints (count + other)))
      → IsMarked count steps place more
  IsMarked-more place stays more step earlier h marked found each marks = record {
    each = each ∙ h.each;
    reached = λ other m. ⊎_elim (λ was. h.reached other was) (λ c. hinted_at (h.reached place marked) found c) ((marks other).0 m);
    ends = λ other e. (marks other).1 (inl (h.ends other e));
    closed = λ from other s le m there c.
        let known : slice_index_or stays from false ≡ true =
        ⊎_elim (λ was. was)
        (λ c'. let before : count + from < count + place = All-contains (λ hint. hint < count + place) step.hints (count + from) (earlier place step found) c' in
        absurd (omega (arith, before, le)))
        ((marks from).0 m) in
        ⊎_elim
        (λ e.
        let same : Some s ≡ Some step = sym there ∙ ap (slice_get steps) e ∙ found in
        let same_step : s ≡ step = cc in
        (marks other).1 (inr (subst (λ (x : Step). Contains x.hints (count + other)) same_step c)))
        (λ ne. (marks other).1 (inl (h.closed from other s (omega (arith, le, ne)) known there c)))
        (cases_eq from place);
  }

  -- where all have marked, what is reached is marked
  pub all-reached : (stays : List Bool) → IsMarked count steps 0 stays → (place : ℕ) → (slice_index_or stays place false ≡ true) ↔ IsReached count steps place
  all-reached stays h place = (h.reached place, complete)
    where
      complete : {place : ℕ} → IsReached count steps place → slice_index_or stays place false ≡ true
      complete (the_last {place} e) = h.ends place e
      complete (hinted_at {from} {place} {step} r found c) = h.closed from place step (omega arith) (complete r) found c
