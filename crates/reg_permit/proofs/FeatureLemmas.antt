-- The features of a registry by their numbers.
use Rattle.std.proofs.Common.{◌≡◌, ℕ, ◌+◌, ◌<◌, ◌≤◌, inl, inr, ⊎_elim, true, false, List, length, cond, Some, None, slice_get, refl, sym, ap, subst, ◌∙◌, arith}
use Rattle.std.specs.BTreeMap.{BTreeMap, IsEmpty, get, is_at}
use Rattle.std.specs.Ordering.{is_lt, is_eq, nat_cmp, ordering_then}
use Rattle.std.specs.declared.cmp.Ordering.{Ordering}
use Rattle.std.specs.declared.cmp.Ordering.TheVariants.{Less, Equal, Greater}
use Rattle.std.specs.Option.{IsSome, is_some}
use Rattle.std.proofs.lemmas.Bool.{cases_Bool, cases_lt}
use Rattle.std.proofs.lemmas.Cmp.{by_ranked, ranked, nat_cmp_total, tied_itself}
use Rattle.std.specs.Map.{lookup}
use Rattle.std.proofs.lemmas.Map.Lookups.{exact_pairs, exact_unsigned}
use Rattle.std.proofs.lemmas.Option.{none-some, same_Some, slice_get_within}
use Rattle.reg_registry.specs.Naming.{NumbersDiffer}
use Rattle.reg_registry.specs.declared.registry.OptionRow.{OptionRow}
use Rattle.reg_permit.specs.Nodes.{HasFeatures, IsNextLower, NoneIsLower, number_cmp}
use Rattle.reg_permit.specs.Permitted.{IsFeature, IsLower}
use Rattle.reg_permit.proofs.OrderLemmas.{one-number}

-- what the order of a map says of numbers
less-lower : (v w : ℕ × ℕ) → number_cmp v w ≡ Less → IsLower v w
less-lower v w e =
    by_ranked (v.0 < w.0) (v.0 ≡ w.0) (w.0 < v.0) (nat_cmp v.0 w.0) (ranked v.0 w.0 (nat_cmp v.0 w.0) refl)
    (λ _ l. inl l)
    (λ q same.
    let second : nat_cmp v.1 w.1 ≡ Less = ap (λ o. ordering_then o (nat_cmp v.1 w.1)) (sym q) ∙ e in
    by_ranked (v.1 < w.1) (v.1 ≡ w.1) (w.1 < v.1) (nat_cmp v.1 w.1) (ranked v.1 w.1 (nat_cmp v.1 w.1) refl)
    (λ _ l. inr (same, l)) (λ p _. absurd (cc (p, second))) (λ p _. absurd (cc (p, second))))
    (λ q _. let greater : Greater ≡ Less = ap (λ o. ordering_then o (nat_cmp v.1 w.1)) (sym q) ∙ e in absurd (cc (greater)))

lower-less : (v w : ℕ × ℕ) → IsLower v w → number_cmp v w ≡ Less
lower-less v w l =
    ⊎_elim
    (λ (a : v.0 < w.0). by_ranked (v.0 < w.0) (v.0 ≡ w.0) (w.0 < v.0) (nat_cmp v.0 w.0) (ranked v.0 w.0 (nat_cmp v.0 w.0) refl)
    (λ q _. ap (λ o. ordering_then o (nat_cmp v.1 w.1)) q) (λ _ b. absurd (omega (arith, a, b))) (λ _ b. absurd (omega (arith, a, b))))
    (λ (a : (v.0 ≡ w.0) × (v.1 < w.1)). by_ranked (v.0 < w.0) (v.0 ≡ w.0) (w.0 < v.0) (nat_cmp v.0 w.0) (ranked v.0 w.0 (nat_cmp v.0 w.0) refl)
    (λ _ b. absurd (omega (arith, a.0, b)))
    (λ q _. ap (λ o. ordering_then o (nat_cmp v.1 w.1)) q ∙ by_ranked (v.1 < w.1) (v.1 ≡ w.1) (w.1 < v.1) (nat_cmp v.1 w.1) (ranked v.1 w.1 (nat_cmp v.1 w.1) refl)
    (λ p _. p) (λ _ b. absurd (omega (arith, a.1, b))) (λ _ b. absurd (omega (arith, a.1, b))))
    (λ _ b. absurd (omega (arith, a.0, b))))
    l

tied-itself : (v : ℕ × ℕ) → is_at (number_cmp v) v ≡ true
tied-itself v = ap is_eq (ap (λ o. ordering_then o (nat_cmp v.1 v.1)) (tied_itself nat_cmp_total v.0) ∙ tied_itself nat_cmp_total v.1)

is-equal : (o : Ordering) → is_eq o ≡ true → o ≡ Equal
is-equal Less e = absurd (cc (e))
is-equal Equal e = refl
is-equal Greater e = absurd (cc (e))

tied-same : (v w : ℕ × ℕ) → is_at (number_cmp v) w ≡ true → v ≡ w
tied-same v w e = exact_pairs nat_cmp nat_cmp exact_unsigned exact_unsigned v w (is-equal (number_cmp v w) e)

pub features-none : (options : List OptionRow) (features : BTreeMap (ℕ × ℕ) ℕ) → IsEmpty features → HasFeatures options 0 features
features-none options features empty = record {
  only = λ v place e. absurd (none-some place (sym (ap (lookup (is_at (number_cmp v))) empty) ∙ e));
  all = λ v place l. absurd (omega (arith, l));
}

module _ (options : List OptionRow) (differ : NumbersDiffer options) (place : ℕ) (o : OptionRow) (at : slice_get options place ≡ Some o) (old : BTreeMap (ℕ × ℕ) ℕ) (has : HasFeatures options place old) where
  pub features-skip : o.version ≡ None → HasFeatures options (place + 1) old
  features-skip none = record {
    only = λ v k e. let h = has.only v k e in (omega (arith, h.0), h.1);
    all = λ v k l f.
        ⊎_elim (λ (a : k < place). has.all v k a f)
        (λ (a : place ≤ k). let same : k ≡ place = omega (arith, a, l) in
        absurd (none-some v (sym none ∙ one-number options place o v at (subst (λ (x : ℕ). IsFeature options x v) same f)))) (cases_lt k place);
  }

  pub features-more : (version : ℕ × ℕ) (new : BTreeMap (ℕ × ℕ) ℕ) → o.version ≡ Some version
      → ((q : ℕ × ℕ) → get number_cmp new q ≡ cond (is_at (number_cmp version) q) (Some place) (get number_cmp old q)) → HasFeatures options (place + 1) new
  features-more version new is updates = record {
    only = λ v k e. ⊎_elim
        (λ (t : is_at (number_cmp version) v ≡ true).
        let s : Some place ≡ Some k = sym (updates v ∙ ap (λ b. cond b (Some place) (get number_cmp old v)) t) ∙ e in
        let same : place ≡ k = same_Some place k s in
        (omega (arith, same), subst (λ (x : ℕ). IsFeature options x v) same (o, at, is ∙ ap (λ (x : ℕ × ℕ). Some x) (tied-same version v t))))
        (λ (t : is_at (number_cmp version) v ≡ false).
        let h = has.only v k (sym (updates v ∙ ap (λ b. cond b (Some place) (get number_cmp old v)) t) ∙ e) in (omega (arith, h.0), h.1))
        (cases_Bool (is_at (number_cmp version) v));
    all = λ v k l f. ⊎_elim
        (λ (t : is_at (number_cmp version) v ≡ true).
        let same : place ≡ k = differ place k o f.0 v at f.1 (is ∙ ap (λ (x : ℕ × ℕ). Some x) (tied-same version v t)) f.2 in
        updates v ∙ ap (λ b. cond b (Some place) (get number_cmp old v)) t ∙ ap (λ (x : ℕ). Some x) same)
        (λ (t : is_at (number_cmp version) v ≡ false).
        updates v ∙ ap (λ b. cond b (Some place) (get number_cmp old v)) t ∙ has.all v k (before v k l f t) f)
        (cases_Bool (is_at (number_cmp version) v));
  }
    where
      before : (v : ℕ × ℕ) (k : ℕ) → k < place + 1 → IsFeature options k v → is_at (number_cmp version) v ≡ false → k < place
      before v k l f t = ⊎_elim (λ (a : k < place). a)
          (λ (a : place ≤ k). let same : k ≡ place = omega (arith, a, l) in
          let one : version ≡ v = same_Some version v (sym is ∙ one-number options place o v at (subst (λ (x : ℕ). IsFeature options x v) same f)) in
          let both : true ≡ false = sym (tied-itself v) ∙ ap (λ (x : ℕ × ℕ). is_at (number_cmp x) v) (sym one) ∙ t in
          absurd (cc (both))) (cases_lt k place)

pub features-all : (options : List OptionRow) (place count : ℕ) (features : BTreeMap (ℕ × ℕ) ℕ) → place ≡ count → HasFeatures options place features → HasFeatures options count features
features-all options place count features e has = subst (λ (x : ℕ). HasFeatures options x features) e has

-- what a range below a number has
module _ (options : List OptionRow) (features : BTreeMap (ℕ × ℕ) ℕ) (version : ℕ × ℕ) (has : HasFeatures options (length options) features) where
  known : (other : ℕ) (v : ℕ × ℕ) → IsFeature options other v → get number_cmp features v ≡ Some other
  known other v f = has.all v other (slice_get_within options other f.0 f.1) f

  pub none-lower : ((q : ℕ × ℕ) → number_cmp q version ≡ Less → get number_cmp features q ≡ None) → NoneIsLower options version
  none-lower none other lower f l = none-some other (sym (none lower (lower-less lower version l)) ∙ known other lower f)

  pub last-lower : (next : ℕ × ℕ) (place : ℕ) → number_cmp next version ≡ Less → get number_cmp features next ≡ Some place
      → ((q : ℕ × ℕ) → number_cmp q version ≡ Less → IsSome (get number_cmp features q) → is_lt (number_cmp next q) ≡ false) → IsNextLower options version place
  last-lower next place less found last = (
    next,
    (has.only next place found).1,
    less-lower next version less,
    λ other lower f l above.
        let some : IsSome (get number_cmp features lower) = ap is_some (known other lower f) in
        let t : true ≡ false = sym (ap is_lt (lower-less next lower above)) ∙ last lower (lower-less lower version l) some in
        cc (t),
  )
