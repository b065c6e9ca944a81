-- What is found of one entry of the trail, in the words of the calls.
use Rattle.std.proofs.Common.{◌≡◌, ℕ, suc, nat_lt, if◌then◌else◌, ◌+◌, ◌<◌, ◌≤◌, max, true, false, List, [], ◌∷◌, ◌++◌, length, set, take, Option, Some, None, slice_get, All, refl, sym, ap, subst, ◌∙◌, ◌⊎◌, inl, inr, ⊎_elim, arith}
use Rattle.std.proofs.lemmas.Bool.Decides.{leb_tells}
use Rattle.std.proofs.lemmas.List.Elements.{All-weaker}
use Rattle.std.proofs.lemmas.Option.{slice_get_within}
use Rattle.sat_cnf.specs.declared.lit.Lit.{Lit}
use Rattle.sat_cnf.specs.Lits.{negation_of}
use Rattle.sat_proof.specs.Propagation.{IsFalse}
use Rattle.sat_proof.specs.Refutations.{hinted}
use Rattle.sat_core.specs.declared.entry.Entry.{Entry}
use Rattle.sat_core.specs.Analysing.{Found, IsAnalysed, IsCounted, IsMarked, Marks, weight_of}
use Rattle.sat_core.specs.Trails.{IsReason, IsTrail, lits_of}
use Rattle.sat_core.proofs.PlaceLemmas.{Contains-at, Contains-before}
use Rattle.sat_core.proofs.TrailLemmas.{decision-le}
use Rattle.sat_core.proofs.ConflictTrailLemmas.{before-all, decided-above}
use Rattle.sat_core.proofs.ConflictCountLemmas.{marked-some}
use Rattle.sat_core.proofs.ConflictMarkLemmas.{unset-marked, marked-unset}
use Rattle.sat_core.proofs.ConflictLemmas.{analysed-keep, analysed-resolve, zero-or}

next-back : (decision last back : ℕ) → decision ≤ last
    → ((decision < last) × ((if nat_lt decision last then max back decision else back) ≡ max back decision))
    ⊎ ((decision ≡ last) × ((if nat_lt decision last then max back decision else back) ≡ back))
next-back decision last back h =
    ⊎_elim (λ p. inl (omega (arith, p.1), rw p.0 refl)) (λ p. inr (omega (arith, p.1, h), rw p.0 refl)) (leb_tells (suc decision) last)

module _ (vars : ℕ) (held : List (List Lit)) (entries : List Entry) (trail : IsTrail vars held entries) (place : ℕ) (entry : Entry)
    (found : slice_get entries place ≡ Some entry) where
  reason-of : (reason : ℕ) → entry.reason ≡ Some reason → IsReason held (take place entries) entry.lit entry.decision (Some reason)
  reason-of reason e = subst (IsReason held (take place entries) entry.lit entry.decision) e (trail place entry found).reason

  pub reason-known : (reason : ℕ) → entry.reason ≡ Some reason → reason < length held
  reason-known reason e = (reason-of reason e).1

  pub reason-denied : (reason : ℕ) → entry.reason ≡ Some reason
      → All (λ lit. ◌≡◌ {A = Option Lit} (Some entry.lit) (Some lit) ⊎ IsFalse (lits_of entries) lit) (hinted held reason)
  reason-denied reason e =
      All-weaker (λ lit. (lit ≡ entry.lit) ⊎ IsFalse (lits_of (take place entries)) lit)
      (λ lit. ◌≡◌ {A = Option Lit} (Some entry.lit) (Some lit) ⊎ IsFalse (lits_of entries) lit)
      (λ lit. ⊎_elim (λ same. inl (ap (λ l. Some l) (sym same))) (λ b. inr (before-all entries place (negation_of lit) b)))
      (hinted held reason) (reason-of reason e).2.alone

  -- what is found of an entry, in the words of the calls: it has lost its mark
  module _ (f : Found) (h : IsAnalysed held entries (place + 1) f) (marked : IsMarked f.marks place) (t : Found)
      (is : t ≡ record f { marks = set f.marks place false; pending = t.pending }) (taken : f.pending ≡ t.pending + weight_of f.last entry true) where
    unset : t.marks ≡ set f.marks place false
    unset = ap (λ (x : Found). x.marks) is

    same-last : t.last ≡ f.last
    same-last = ap (λ (x : Found). x.last) is

    pub resolve-step : (reason : ℕ) → entry.reason ≡ Some reason
        → (entry.decision ≡ 0) ⊎ ((entry.decision < t.last) ⊎ ((entry.decision ≡ t.last) × (0 < t.pending)))
        → (m : Found) → Marks entries (hinted held reason) (Some entry.lit) t m → IsAnalysed held entries place (record m { hints = m.hints ++ reason ∷ [] })
    resolve-step reason e resolves m k =
        let whole : m ≡ record f { marks = m.marks; pending = m.pending; lowest = m.lowest }
        = k.same ∙ ap (λ (x : Found). record x { marks = m.marks; pending = m.pending; lowest = m.lowest }) is in
        let within : place < length f.marks = omega (arith, h.counted.each, slice_get_within entries place entry found) in
        subst (λ (x : Found). IsAnalysed held entries place (record x { hints = x.hints ++ reason ∷ [] })) (sym whole)
        (analysed-resolve vars held entries trail place f h entry found marked t.pending taken reason (reason-of reason e) m.marks m.pending m.lowest
        (subst (IsCounted entries) whole k.counted) k.more
        (λ other ne was. k.stay other (subst (λ ms. IsMarked ms other) (sym unset) (unset-marked f.marks place other ne was)))
        (λ other new.
        ⊎_elim (λ was. inl (marked-unset f.marks place other within (subst (λ ms. IsMarked ms other) unset was))) (λ n. inr n) (k.only other new))
        k.all (subst (λ last. (entry.decision ≡ 0) ⊎ ((entry.decision < last) ⊎ ((entry.decision ≡ last) × (0 < t.pending)))) same-last resolves))

    -- an entry that was decided is the lowest under its decision
    lowest : IsCounted entries t → entry.reason ≡ None → entry.decision ≡ f.last → t.pending ≡ 0
    lowest counted e last =
        ⊎_elim (λ z. z)
        (λ some.
        let (other, denier, there, m, under) = marked-some t.last entries t.marks (omega (arith, some, counted.count)) in
        let within : place < length f.marks = omega (arith, h.counted.each, slice_get_within entries place entry found) in
        let was = marked-unset f.marks place other within (subst (λ ms. IsMarked ms other) unset m) in
        let below : other < place = omega (arith, was.1, h.before other was.0) in
        absurd (omega (
          arith,
          last,
          under,
          same-last,
          decision-le (take place entries) denier (Contains-before entries other place denier below there),
          decided-above held (take place entries) entry.lit entry.decision entry.reason e (trail place entry found).reason,
        )))
        (zero-or t.pending)

    pub keep-step : IsCounted entries t → (entry.reason ≡ None) ⊎ ((0 < entry.decision) × (entry.decision ≡ t.last → t.pending ≡ 0))
        → IsAnalysed held entries place (record t {
          clause = t.clause ++ negation_of entry.lit ∷ [];
          back = if nat_lt entry.decision t.last then max t.back entry.decision else t.back;
        })
    keep-step counted kept =
        let most : entry.decision ≤ f.last = omega (arith, h.last, decision-le entries entry (Contains-at entries place entry found)) in
        let some : 0 < entry.decision
        = ⊎_elim
        (λ e. omega (arith, decided-above held (take place entries) entry.lit entry.decision entry.reason e (trail place entry found).reason))
        (λ p. p.0) kept in
        subst (λ (x : Found). IsAnalysed held entries place (record x {
          clause = x.clause ++ negation_of entry.lit ∷ [];
          back = if nat_lt entry.decision x.last then max x.back entry.decision else x.back;
        })) (sym is)
        (analysed-keep vars held entries trail place f h entry found marked t.pending taken _ (subst (IsCounted entries) is counted) some
        (λ last. ⊎_elim (λ e. lowest counted e last) (λ p. p.1 (last ∙ sym same-last)) kept)
        (next-back entry.decision f.last f.back most))
