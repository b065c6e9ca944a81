-- Values and places beside a trail, as entries come and go.
use Rattle.std.proofs.Common.{◌≡◌, ℕ, ◌*◌, ◌<◌, ◌^◌, ◌⊎◌, inl, inr, ⊎_elim, Bool, true, false, List, [], ◌∷◌, ◌++◌, length, set, slice_get, slice_index_or, Option, Some, None, Contains, sym, ap, subst, ◌∙◌, length-append, length-set, arith}
use Rattle.std.proofs.lemmas.Bool.{cases_eq}
use Rattle.std.proofs.lemmas.Option.{slice_get_within}
use Rattle.std.proofs.lemmas.List.{get_or-set_same, get_or-set_other}
use Rattle.sat_cnf.specs.declared.lit.Lit.{Lit}
use Rattle.sat_cnf.specs.Clauses.{IsWithin}
use Rattle.sat_cnf.specs.Lits.{negation_of, variable_of}
use Rattle.sat_proof.specs.Propagation.{IsUndecided}
use Rattle.sat_core.specs.declared.entry.Entry.{Entry}
use Rattle.sat_core.specs.Assigning.{AreInOrder, IsKept, IsNext}
use Rattle.sat_core.specs.Trails.{Assigned, IsValueOf, decisions_of, lits_of}
use Rattle.sat_core.proofs.LiteralLemmas.{negation-differs, negation-within, same-lit, variable-within}
use Rattle.sat_core.proofs.KnownLemmas.{IsValueOf-kept, IsValueOf-left, IsValueOf-negation, IsValueOf-new, IsValueOf-none, IsUndecided-negation}
use Rattle.sat_core.proofs.PlaceLemmas.{left-place, place-of, push-place, seam-place}
use Rattle.sat_core.proofs.TrailLemmas.{decisions-few, entries-few, entry-of, in-order-at, in-order-front, in-order-push, lits_of-append, one-place}

pub same-assigned : (a b : Assigned) → a.vars ≡ b.vars → a.entries ≡ b.entries → a ≡ b
same-assigned a b vars entries = λ i. record {
  vars = vars i;
  entries = entries i;
}

-- a literal is another, or its negation, or neither
which : (lit other : Lit) → (lit ≡ other) ⊎ ((lit ≡ negation_of other) ⊎ ((lit ≡ other → ⊥) × (lit ≡ negation_of other → ⊥)))
which lit other =
    ⊎_elim (λ e. inl (same-lit lit other e))
    (λ ne. inr (⊎_elim (λ e. inl (same-lit lit (negation_of other) e)) (λ no. inr (λ e. ne (ap (λ l. l.0) e), λ e. no (ap (λ l. l.0) e))) (cases_eq lit.0 (negation_of other).0)))
    (cases_eq lit.0 other.0)

-- the values once those of a literal and its negation are written
abbrev with_values : List (Option Bool) → Lit → Option Bool → Option Bool → List (Option Bool)
with_values values lit one other = set (set values lit.0 one) (negation_of lit).0 other

module _ (vars : ℕ) (values : List (Option Bool)) (each : length values ≡ 2 * vars) (lit : Lit) (within : IsWithin vars lit) (one other : Option Bool) where
  opposite-within : (negation_of lit).0 < length (set values lit.0 one)
  opposite-within = omega (arith, each, negation-within vars lit within, length-set values lit.0 one)

  value-of_it : slice_index_or (with_values values lit one other) lit.0 None ≡ one
  value-of_it =
      get_or-set_other (set values lit.0 one) (negation_of lit).0 lit.0 other None (λ e. negation-differs lit (same-lit lit (negation_of lit) e))
      ∙ get_or-set_same values lit.0 one None (omega (arith, each, within))

  value-of_negation : slice_index_or (with_values values lit one other) (negation_of lit).0 None ≡ other
  value-of_negation = get_or-set_same (set values lit.0 one) (negation_of lit).0 other None opposite-within

  value-of_another : (another : Lit) → (another ≡ lit → ⊥) → (another ≡ negation_of lit → ⊥) → slice_index_or (with_values values lit one other) another.0 None ≡ slice_index_or values another.0 None
  value-of_another another differs unlike =
      get_or-set_other (set values lit.0 one) (negation_of lit).0 another.0 other None (λ e. unlike (same-lit another (negation_of lit) e))
      ∙ get_or-set_other values lit.0 another.0 one None (λ e. differs (same-lit another lit e))

  values-count : length (with_values values lit one other) ≡ 2 * vars
  values-count = omega (arith, each, length-set (set values lit.0 one) (negation_of lit).0 other, length-set values lit.0 one)

module _ (vars : ℕ) (values : List (Option Bool)) (places : List ℕ) (entries : List Entry) (room : ℕ) (kept : IsKept vars values places entries room) where
  pub true-within : (lit : Lit) → Contains (lits_of entries) lit → IsWithin vars lit
  true-within lit c =
      let e = entry-of entries lit c in
      let at = place-of entries e.0 e.1 in
      subst (IsWithin vars) e.2 (kept.in_order at.0 e.0 at.1).within

  pub found-place : (lit : Lit) → Contains (lits_of entries) lit → (entry : Entry) × (slice_get entries (slice_index_or places (variable_of lit) 0) ≡ Some entry) × (entry.lit ≡ lit)
  found-place lit c =
      let e = entry-of entries lit c in
      let at = place-of entries e.0 e.1 in
      let place : slice_index_or places (variable_of lit) 0 ≡ at.0 = ap (λ l. slice_index_or places (variable_of l) 0) (sym e.2) ∙ kept.places_are at.0 e.0 at.1 in
      (e.0, ap (slice_get entries) place ∙ at.1, e.2)

  pub decisions-fit : decisions_of entries < 2 ^ 31
  decisions-fit = omega (arith, kept.few_vars, decisions-few vars entries kept.in_order, entries-few vars entries kept.in_order)

  -- One more entry.
  module _ (new : Entry) (next : IsNext vars entries new) where
    order-put : AreInOrder vars (entries ++ new ∷ [])
    order-put = in-order-push vars entries new kept.in_order next

    pub room-put : length entries < room
    room-put = omega (arith, kept.room_for_all, entries-few vars (entries ++ new ∷ []) order-put, length-append entries (new ∷ []))

    put-value : (lit : Lit) (value : Option Bool) → slice_index_or (with_values values new.lit (Some true) (Some false)) lit.0 None ≡ value → IsValueOf (lits_of entries ++ new.lit ∷ []) lit value
        → IsValueOf (lits_of (entries ++ new ∷ [])) lit (slice_index_or (with_values values new.lit (Some true) (Some false)) lit.0 None)
    put-value lit value is v =
        subst (λ known. IsValueOf known lit (slice_index_or (with_values values new.lit (Some true) (Some false)) lit.0 None)) (sym (lits_of-append entries (new ∷ [])))
        (subst (IsValueOf (lits_of entries ++ new.lit ∷ []) lit) (sym is) v)

    put-values : (lit : Lit) → IsValueOf (lits_of (entries ++ new ∷ [])) lit (slice_index_or (with_values values new.lit (Some true) (Some false)) lit.0 None)
    put-values lit =
        ⊎_elim
        (λ e. put-value lit (Some true) (ap (λ l. slice_index_or (with_values values new.lit (Some true) (Some false)) l.0 None) e ∙ value-of_it vars values kept.each_value new.lit next.within (Some true) (Some false))
        (subst (λ l. IsValueOf (lits_of entries ++ new.lit ∷ []) l (Some true)) (sym e) (IsValueOf-new (lits_of entries) new.lit next.undecided)))
        (⊎_elim
        (λ e. put-value lit (Some false) (ap (λ l. slice_index_or (with_values values new.lit (Some true) (Some false)) l.0 None) e ∙ value-of_negation vars values kept.each_value new.lit next.within (Some true) (Some false))
        (subst (λ l. IsValueOf (lits_of entries ++ new.lit ∷ []) l (Some false)) (sym e) (IsValueOf-negation (lits_of entries) new.lit next.undecided)))
        (λ no. put-value lit (slice_index_or values lit.0 None) (value-of_another vars values kept.each_value new.lit next.within (Some true) (Some false) lit no.0 no.1)
        (IsValueOf-kept (lits_of entries) new.lit lit no.0 no.1 (slice_index_or values lit.0 None) (kept.values_are lit))))
        (which lit new.lit)

    put-places : (place : ℕ) (entry : Entry) → slice_get (entries ++ new ∷ []) place ≡ Some entry → slice_index_or (set places (variable_of new.lit) (length entries)) (variable_of entry.lit) 0 ≡ place
    put-places place entry e =
        ⊎_elim
        (λ old.
        let differs : variable_of entry.lit ≡ variable_of new.lit → ⊥ =
        λ same. let p : place ≡ length entries = one-place vars (entries ++ new ∷ []) order-put place (length entries) entry new e (seam-place entries new []) same in omega (arith, p, slice_get_within entries place entry old) in
        get_or-set_other places (variable_of new.lit) (variable_of entry.lit) (length entries) 0 differs ∙ kept.places_are place entry old)
        (λ last.
        ap (λ (x : Entry). slice_index_or (set places (variable_of new.lit) (length entries)) (variable_of x.lit) 0) (sym last.1)
        ∙ get_or-set_same places (variable_of new.lit) (length entries) 0 (omega (arith, kept.each_place, variable-within vars new.lit next.within))
        ∙ sym last.0)
        (push-place entries new entry place e)

    pub IsKept-put : IsKept vars (with_values values new.lit (Some true) (Some false)) (set places (variable_of new.lit) (length entries)) (entries ++ new ∷ []) room
    IsKept-put = record {
      few_vars = kept.few_vars;
      each_value = values-count vars values kept.each_value new.lit next.within (Some true) (Some false);
      each_place = length-set places (variable_of new.lit) (length entries) ∙ kept.each_place;
      in_order = order-put;
      values_are = put-values;
      places_are = put-places;
      room_for_all = kept.room_for_all;
    }

-- One entry fewer.
module _ (vars : ℕ) (values : List (Option Bool)) (places : List ℕ) (entries : List Entry) (last : Entry) (room : ℕ) (kept : IsKept vars values places (entries ++ last ∷ []) room) where
  was-next : IsNext vars entries last
  was-next = in-order-at vars entries last [] kept.in_order

  pop-value : (lit : Lit) (value : Option Bool) → slice_index_or (with_values values last.lit None None) lit.0 None ≡ value → IsValueOf (lits_of entries) lit value
      → IsValueOf (lits_of entries) lit (slice_index_or (with_values values last.lit None None) lit.0 None)
  pop-value lit value is v = subst (IsValueOf (lits_of entries) lit) (sym is) v

  pop-values : (lit : Lit) → IsValueOf (lits_of entries) lit (slice_index_or (with_values values last.lit None None) lit.0 None)
  pop-values lit =
      ⊎_elim
      (λ e. pop-value lit None (ap (λ l. slice_index_or (with_values values last.lit None None) l.0 None) e ∙ value-of_it vars values kept.each_value last.lit was-next.within None None)
      (IsValueOf-none (lits_of entries) lit (subst (IsUndecided (lits_of entries)) (sym e) was-next.undecided)))
      (⊎_elim
      (λ e. pop-value lit None (ap (λ l. slice_index_or (with_values values last.lit None None) l.0 None) e ∙ value-of_negation vars values kept.each_value last.lit was-next.within None None)
      (IsValueOf-none (lits_of entries) lit (subst (IsUndecided (lits_of entries)) (sym e) (IsUndecided-negation (lits_of entries) last.lit was-next.undecided))))
      (λ no. pop-value lit (slice_index_or values lit.0 None) (value-of_another vars values kept.each_value last.lit was-next.within None None lit no.0 no.1)
      (IsValueOf-left (lits_of entries) last.lit lit no.0 no.1 (slice_index_or values lit.0 None)
      (subst (λ known. IsValueOf known lit (slice_index_or values lit.0 None)) (lits_of-append entries (last ∷ [])) (kept.values_are lit)))))
      (which lit last.lit)

  pub IsKept-pop : IsKept vars (with_values values last.lit None None) places entries room
  IsKept-pop = record {
    few_vars = kept.few_vars;
    each_value = values-count vars values kept.each_value last.lit was-next.within None None;
    each_place = kept.each_place;
    in_order = in-order-front vars entries (last ∷ []) kept.in_order;
    values_are = pop-values;
    places_are = λ place entry e. kept.places_are place entry (left-place entries (last ∷ []) place entry e);
    room_for_all = kept.room_for_all;
  }
