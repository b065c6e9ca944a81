-- Where the analysis of a conflict begins, and what is learned where it ends.
use Rattle.std.proofs.Common.{◌≡◌, ℕ, ◌<◌, ◌≤◌, Bool, false, List, [], ◌∷◌, ◌++◌, length, map, reverse, Option, Some, None, slice_index_or, All, Contains, refl, sym, ap, subst, ◌∙◌, ◌⊎◌, inl, inr, ⊎_elim, arith}
use Rattle.std.proofs.lemmas.List.{get_or_past}
use Rattle.std.proofs.lemmas.List.Elements.{All-contains, All-nil, All-push, All-weaker}
use Rattle.sat_cnf.specs.declared.lit.Lit.{Lit}
use Rattle.sat_cnf.specs.Clauses.{IsWithin}
use Rattle.sat_cnf.specs.Lits.{negation_of}
use Rattle.sat_proof.specs.Propagation.{IsFalse}
use Rattle.sat_proof.specs.Refutations.{IsConsistent, hinted}
use Rattle.sat_core.specs.declared.entry.Entry.{Entry}
use Rattle.sat_core.specs.Analysing.{DeniesAt, Found, IsAnalysed, IsCounted, IsDeniedFrom, IsFalseUpTo, IsGround, IsMarked, Marks}
use Rattle.sat_core.specs.Analysis.{IsLearnedBy}
use Rattle.sat_core.specs.Searching.{IsConflict}
use Rattle.sat_core.specs.Trails.{IsFalseUnder, IsTrail, decisions_of, lits_of}
use Rattle.sat_core.proofs.LiteralLemmas.{negation-negation, negation-within}
use Rattle.sat_core.proofs.PlaceLemmas.{Contains-map, map-Contains, place-of}
use Rattle.sat_core.proofs.ConflictTrailLemmas.{All-of, All-reverse, apart, same-at, unique}
use Rattle.sat_core.proofs.ConflictCountLemmas.{marked-none, marked-positive}

below-or : (n m : ℕ) → (n < m) ⊎ (m ≤ n)
below-or n m = grind arith

module _ (vars : ℕ) (held : List (List Lit)) (entries : List Entry) (trail : IsTrail vars held entries) where
  -- the entries that make the literals of the conflict false are marked
  module _ (conflict : ℕ) (known : conflict < length held) (struck : IsConflict entries (hinted held conflict)) (marks : List Bool) (pending lowest : ℕ)
      (counted : IsCounted entries (record { last = decisions_of entries; marks = marks; pending = pending; lowest = lowest; clause = []; hints = []; back = 0 }))
      (all : (lit : Lit) → Contains (hinted held conflict) lit → (other : ℕ) × DeniesAt entries other lit × IsMarked marks other) where
    marked-within : (other : ℕ) → IsMarked marks other → other < length entries
    marked-within other m =
        ⊎_elim (λ lt. omega (arith, lt, counted.each))
        (λ past. absurd (let off : slice_index_or marks other false ≡ false = get_or_past marks other false past in cc))
        (below-or other (length marks))

    one-pending : 0 < decisions_of entries → 0 < pending
    one-pending some =
        let (lit, stands, (denier, there, denies, under)) = struck.1 some in
        let (other, (twin, found, is), m) = all lit stands in
        let (place, at) = place-of entries denier there in
        let same : other ≡ place = unique vars held entries trail other place twin denier found at (is ∙ sym denies) in
        let under_last : twin.decision ≡ decisions_of entries
        = ap (λ (x : Entry). x.decision) (same-at entries other place twin denier found at same) ∙ under in
        omega (arith, counted.count, marked-positive (decisions_of entries) entries marks other twin found m under_last)

    pub analysed-begin : IsAnalysed held entries (length entries)
        (record { last = decisions_of entries; marks = marks; pending = pending; lowest = lowest; clause = []; hints = conflict ∷ []; back = 0 })
    analysed-begin = record {
      last = refl;
      counted = record { each = counted.each; count = counted.count; above = counted.above };
      before = marked-within;
      known = All-push (λ hint. hint < length held) [] conflict (All-nil (λ hint. hint < length held)) known;
      refuted = λ lits g. inl (All-of (IsFalse lits) (hinted held conflict)
          (λ lit c. let (other, (denier, there, is), m) = all lit c in subst (Contains lits) is (g.marked other denier there m)));
      denied = All-nil (IsDeniedFrom entries (length entries));
      none = λ e. (refl, refl);
      searched = λ some. inl (one-pending some, All-nil (IsFalseUpTo entries 0));
      earlier = λ some. some;
      greatest = inl refl;
    }

  -- all entries were looked at
  module _ (f : Found) (h : IsAnalysed held entries 0 f) where
    consistent : IsConsistent f.clause
    consistent lit c n =
        let (p, low, (a, at, is)) = All-contains (IsDeniedFrom entries 0) f.clause lit h.denied c in
        let (q, high, (b, there, are)) = All-contains (IsDeniedFrom entries 0) f.clause (negation_of lit) h.denied n in
        apart vars held entries trail p q a b at there (is ∙ sym (ap negation_of (are ∙ negation-negation lit)))

    bottom : IsGround entries 0 f.marks f.clause (map negation_of f.clause)
    bottom = record {
      marked = λ other denier there m. absurd (omega (arith, h.before other m));
      denied = λ lit c. Contains-map negation_of f.clause lit c;
      only = λ lit c.
          let (x, there, e) = map-Contains negation_of f.clause lit c in
          inr (subst (Contains f.clause) (sym (negation-negation x) ∙ ap negation_of e) there);
    }

    clause-within : All (IsWithin vars) f.clause
    clause-within =
        All-weaker (IsDeniedFrom entries 0) (IsWithin vars)
        (λ lit (p, low, (a, at, is)).
        subst (IsWithin vars) (ap negation_of is ∙ negation-negation lit) (negation-within vars a.lit (trail p a at).within)) f.clause h.denied

    -- none is left that stands under the last decision
    none-pending : f.pending ≡ 0
    none-pending = h.counted.count ∙ marked-none f.last entries f.marks (λ place m. omega (arith, h.before place m))

    pub learned-by : IsLearnedBy vars held entries (record { step = record { clause = f.clause; hints = reverse f.hints }; back = f.back })
    learned-by = record {
      follows = record {
        consistent = consistent;
        known = All-reverse (λ hint. hint < length held) f.hints h.known;
        refuted = h.refuted (map negation_of f.clause) bottom;
      };
      within = clause-within;
      none = λ e. h.none (h.last ∙ e);
      asserts = λ some.
          let last_some : 0 < f.last = omega (arith, some, h.last) in
          let below : f.back < decisions_of entries = omega (arith, h.last, h.earlier last_some) in
          ⊎_elim
          (λ p. absurd (omega (arith, p.0, none-pending)))
          (λ p.
          let (lit, stands, under, others) = p.1 in
          record {
            lit = lit;
            stands = stands;
            last = subst (IsFalseUnder entries lit) h.last under;
            earlier = below;
            others = others;
            greatest = h.greatest;
          })
          (h.searched last_some);
    }

  -- what is found first
  module _ (a : Found) (empty : a ≡ record { last = decisions_of entries; marks = a.marks; pending = 0; lowest = a.lowest; clause = []; hints = []; back = 0 })
      (each : length a.marks ≡ length entries) (none : (place : ℕ) → ¬ IsMarked a.marks place) where
    pub new-counted : IsCounted entries a
    new-counted = record {
      each = each;
      count = ap (λ (f : Found). f.pending) empty ∙ sym (marked-none a.last entries a.marks none);
      above = λ place m. absurd (none place m);
    }

    pub begin-step : (conflict : ℕ) → conflict < length held → IsConflict entries (hinted held conflict) → (m : Found)
        → Marks entries (hinted held conflict) None a m → IsAnalysed held entries (length entries) (record m { hints = m.hints ++ conflict ∷ [] })
    begin-step conflict known struck m k =
        let whole : m ≡ record { last = decisions_of entries; marks = m.marks; pending = m.pending; lowest = m.lowest; clause = []; hints = []; back = 0 }
        = k.same ∙ ap (λ (f : Found). record f { marks = m.marks; pending = m.pending; lowest = m.lowest }) empty in
        subst (λ (f : Found). IsAnalysed held entries (length entries) (record f { hints = f.hints ++ conflict ∷ [] })) (sym whole)
        (analysed-begin conflict known struck m.marks m.pending m.lowest (subst (IsCounted entries) whole k.counted)
        (λ lit c. ⊎_elim (λ e. absurd (cc)) (λ d. d) (k.all lit c)))

pub conflict-denied : (entries : List Entry) (clause : List Lit) → IsConflict entries clause → All (λ lit. ◌≡◌ {A = Option Lit} None (Some lit) ⊎ IsFalse (lits_of entries) lit) clause
conflict-denied entries clause h = All-weaker (IsFalse (lits_of entries)) (λ lit. ◌≡◌ {A = Option Lit} None (Some lit) ⊎ IsFalse (lits_of entries) lit) (λ lit f. inr f) clause h.0
