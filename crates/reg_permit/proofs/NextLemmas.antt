-- Rules that ask for the next lower feature alone are together those that ask for all lower ones.
use Rattle.std.proofs.Common.{◌≡◌, ◌⊎◌, ℕ, zero, suc, ◌+◌, ◌<◌, ◌≤◌, inl, inr, ⊎_elim, Bool, List, length, Option, Some, None, slice_get, refl, sym, subst, ◌∙◌, arith}
use Rattle.std.proofs.lemmas.Bool.{cases_lt}
use Rattle.std.proofs.lemmas.Option.{none-some, same_Some, slice_get_within}
use Rattle.reg_registry.specs.Naming.{AreSound}
use Rattle.reg_registry.specs.Rows.{Rows}
use Rattle.reg_registry.specs.declared.registry.OptionRow.{OptionRow}
use Rattle.reg_closure.specs.Closure.{IsIn}
use Rattle.reg_permit.specs.Nodes.{IsNextLower, KeepNextBefore, KeepsNext}
use Rattle.reg_permit.specs.Permitted.{IsFeature, IsLower, IsPermitted, KeepsRule}
use Rattle.reg_permit.proofs.OrderLemmas.{lower-itself, lower-lower, one-number, order}

-- what holds of a number where it holds of all lower ones holds of all
module _ (P : ℕ × ℕ → Type 0) (step : (v : ℕ × ℕ) → ((w : ℕ × ℕ) → IsLower w v → P w) → P v) where
  inner : (a : ℕ) → ((w : ℕ × ℕ) → w.0 < a → P w) → (b : ℕ) (v : ℕ × ℕ) → v.0 ≡ a → v.1 < b → P v
  inner a before zero v e l = absurd (omega (arith, l))
  inner a before (suc b) v e l =
      step v (λ w lw. ⊎_elim (λ (x : w.0 < v.0). before w (omega (arith, x, e))) (λ (x : (w.0 ≡ v.0) × (w.1 < v.1)). inner a before b w (x.0 ∙ e) (omega (arith, x.1, l))) lw)

  outer : (a : ℕ) (v : ℕ × ℕ) → v.0 < a → P v
  outer zero v l = absurd (omega (arith, l))
  outer (suc a) v l =
      ⊎_elim (λ (x : v.0 < a). outer a v x) (λ (x : a ≤ v.0). inner a (outer a) (v.1 + 1) v (omega (arith, x, l)) (omega arith)) (cases_lt v.0 a)

  by-number : (v : ℕ × ℕ) → P v
  by-number v = outer (v.0 + 1) v (omega arith)

pub never-both : (v w : ℕ × ℕ) → IsLower v w → IsLower w v → ⊥
never-both v w a b = ⊎_elim
    (λ (x : v.0 < w.0). ⊎_elim (λ (y : w.0 < v.0). omega (arith, x, y)) (λ (y : (w.0 ≡ v.0) × (w.1 < v.1)). omega (arith, x, y.0)) b)
    (λ (x : (v.0 ≡ w.0) × (v.1 < w.1)). ⊎_elim (λ (y : w.0 < v.0). omega (arith, x.0, y)) (λ (y : (w.0 ≡ v.0) × (w.1 < v.1)). omega (arith, x.1, y.1)) b)
    a

lower-or-not : (v w : ℕ × ℕ) → IsLower v w ⊎ (IsLower v w → ⊥)
lower-or-not v w =
    ⊎_elim
    (λ (e : v ≡ w). inr (λ l. lower-itself v (subst (IsLower v) (sym e) l)))
    (λ (o : IsLower v w ⊎ IsLower w v). ⊎_elim (λ (a : IsLower v w). inl a) (λ (b : IsLower w v). inr (λ a. never-both v w a b)) o)
    (order v w)

module _ (options : List OptionRow) (version : ℕ × ℕ) where
  -- no option before a place is a lower feature
  abbrev NoneBefore : ℕ → Type 0
  NoneBefore k = (other : ℕ) (v : ℕ × ℕ) → other < k → IsFeature options other v → IsLower v version → ⊥

  -- the next lower feature of the options before a place
  abbrev NextBefore : ℕ → Type 0
  NextBefore k =
      (place : ℕ) × (next : ℕ × ℕ) × IsFeature options place next × IsLower next version
      × ((other : ℕ) (v : ℕ × ℕ) → other < k → IsFeature options other v → IsLower v version → IsLower next v → ⊥)

  -- an option that is no lower feature
  none-stays : (k : ℕ) → ((v : ℕ × ℕ) → IsFeature options k v → IsLower v version → ⊥) → NoneBefore k → NoneBefore (k + 1)
  none-stays k here none other v l f lower =
      ⊎_elim (λ (a : other < k). none other v a f lower)
      (λ (a : k ≤ other). let same : other ≡ k = omega (arith, a, l) in here v (subst (λ (x : ℕ). IsFeature options x v) same f) lower) (cases_lt other k)

  next-stays : (k : ℕ) → (n : NextBefore k) → ((v : ℕ × ℕ) → IsFeature options k v → IsLower v version → IsLower n.1 v → ⊥) → NextBefore (k + 1)
  next-stays k n here = (
    n.0,
    n.1,
    n.2,
    n.3,
    λ other v l f lower above.
        ⊎_elim (λ (a : other < k). n.4 other v a f lower above)
        (λ (a : k ≤ other). let same : other ≡ k = omega (arith, a, l) in here v (subst (λ (x : ℕ). IsFeature options x v) same f) lower above) (cases_lt other k),
  )

  -- a lower feature above all before
  next-here : (k : ℕ) (u : ℕ × ℕ) → IsFeature options k u → IsLower u version
      → ((other : ℕ) (v : ℕ × ℕ) → other < k → IsFeature options other v → IsLower v version → IsLower u v → ⊥) → NextBefore (k + 1)
  next-here k u f lower before = (
    k,
    u,
    f,
    lower,
    λ other v l g below above.
        ⊎_elim (λ (a : other < k). before other v a g below above)
        (λ (a : k ≤ other).
        let same : other ≡ k = omega (arith, a, l) in
        let one : u ≡ v = same_Some u v (sym f.2 ∙ one-number options k f.0 v f.1 (subst (λ (x : ℕ). IsFeature options x v) same g)) in
        lower-itself u (subst (IsLower u) (sym one) above)) (cases_lt other k),
  )

  either-stays : (k : ℕ) → ((v : ℕ × ℕ) → IsFeature options k v → IsLower v version → ⊥) → NoneBefore k ⊎ NextBefore k → NoneBefore (k + 1) ⊎ NextBefore (k + 1)
  either-stays k here old =
      ⊎_elim (λ (n : NoneBefore k). inl (none-stays k here n)) (λ (n : NextBefore k). inr (next-stays k n (λ v f l _. here v f l))) old

  either-feature : (k : ℕ) (u : ℕ × ℕ) → IsFeature options k u → NoneBefore k ⊎ NextBefore k → NoneBefore (k + 1) ⊎ NextBefore (k + 1)
  either-feature k u f old =
      ⊎_elim
      (λ (l : IsLower u version). ⊎_elim
      (λ (n : NoneBefore k). inr (next-here k u f l (λ other v b g below _. n other v b g below)))
      (λ (n : NextBefore k). ⊎_elim
      (λ (a : IsLower n.1 u). inr (next-here k u f l (λ other v b g below above. n.4 other v b g below (lower-lower n.1 u v a above))))
      (λ (a : IsLower n.1 u → ⊥). inr (next-stays k n (λ v g below above. a (subst (IsLower n.1) (sym (is-one v g)) above))))
      (lower-or-not n.1 u))
      old)
      (λ (l : IsLower u version → ⊥). either-stays k (λ v g below. l (subst (λ (x : ℕ × ℕ). IsLower x version) (sym (is-one v g)) below)) old)
      (lower-or-not u version)
    where
      is-one : (v : ℕ × ℕ) → IsFeature options k v → u ≡ v
      is-one v g = same_Some u v (sym f.2 ∙ one-number options k f.0 v f.1 g)

  either-option : (k : ℕ) (o : OptionRow) (number : Option (ℕ × ℕ)) → slice_get options k ≡ Some o → o.version ≡ number
      → NoneBefore k ⊎ NextBefore k → NoneBefore (k + 1) ⊎ NextBefore (k + 1)
  either-option k o None e n old = either-stays k (λ v f. absurd (none-some v (sym n ∙ one-number options k o v e f))) old
  either-option k o (Some u) e n old = either-feature k u (o, e, n) old

  either-at : (k : ℕ) (found : Option OptionRow) → slice_get options k ≡ found → NoneBefore k ⊎ NextBefore k → NoneBefore (k + 1) ⊎ NextBefore (k + 1)
  either-at k None e old = either-stays k (λ v f. absurd (none-some f.0 (sym e ∙ f.1))) old
  either-at k (Some o) e old = either-option k o o.version e refl old

  either-before : (k : ℕ) → NoneBefore k ⊎ NextBefore k
  either-before zero = inl (λ other v l. absurd (omega (arith, l)))
  either-before (suc k) = subst (λ (x : ℕ). NoneBefore x ⊎ NextBefore x) (omega arith) (either-at k (slice_get options k) refl (either-before k))

  -- where a feature is lower there is a next lower one
  pub next-lower : (other : ℕ) (below : ℕ × ℕ) → IsFeature options other below → IsLower below version → (place : ℕ) × IsNextLower options version place
  next-lower other below f lower =
      ⊎_elim
      (λ (n : NoneBefore (length options)). absurd (n other below (slice_get_within options other f.0 f.1) f lower))
      (λ (n : NextBefore (length options)). (n.0, (n.1, n.2, n.3, λ k v g below above. n.4 k v (slice_get_within options k g.0 g.1) g below above)))
      (either-before (length options))

module _ (r : Rows) (sound : AreSound r) (chosen : List Bool) where
  -- of two features of one number both are one
  pub same-feature : (place other : ℕ) (v : ℕ × ℕ) → IsFeature r.option_rows place v → IsFeature r.option_rows other v → place ≡ other
  same-feature place other v f g = sound.numbers_differ place other f.0 g.0 v f.1 g.1 f.2 g.2

  pub same-next : (version : ℕ × ℕ) (place other : ℕ) → IsNextLower r.option_rows version place → IsNextLower r.option_rows version other → place ≡ other
  same-next version place other n m =
      ⊎_elim
      (λ (e : n.0 ≡ m.0). same-feature place other m.0 (subst (IsFeature r.option_rows place) e n.1) m.1)
      (λ (l : IsLower n.0 m.0 ⊎ IsLower m.0 n.0).
      absurd (⊎_elim (λ (a : IsLower n.0 m.0). n.3 other m.0 m.1 m.2 a) (λ (a : IsLower m.0 n.0). m.3 place n.0 n.1 n.2 a) l))
      (order n.0 m.0)

  pub keeps-next : (place : ℕ) (o : OptionRow) → slice_get r.option_rows place ≡ Some o → KeepsRule r chosen place o → KeepsNext r chosen place o
  keeps-next place o at k = record {
    feature = λ v e. record {
      lowest = λ none. (k.feature v e).lowest (v, (o, at, e), none);
      next = λ lower n here. (k.feature v e).lower here lower n.0 n.1 n.2;
    };
    depends = k.depends;
    bit = k.bit;
  }

  abbrev AllLower : ℕ × ℕ → Type 0
  AllLower v = (place : ℕ) → IsFeature r.option_rows place v → IsIn chosen place → (other : ℕ) (below : ℕ × ℕ) → IsFeature r.option_rows other below → IsLower below v
      → IsIn chosen other

  module _ (all : (place : ℕ) (o : OptionRow) → slice_get r.option_rows place ≡ Some o → KeepsNext r chosen place o) where
    lower-step : (v : ℕ × ℕ) → ((w : ℕ × ℕ) → IsLower w v → AllLower w) → AllLower v
    lower-step v before place f here other below g l = from (next-lower r.option_rows v other below g l)
      where
        from : (place : ℕ) × IsNextLower r.option_rows v place → IsIn chosen other
        from n =
            let next : IsIn chosen n.0 = ((all place f.0 f.1).feature v f.2).next n.0 n.1 here in
            ⊎_elim
            (λ (e : below ≡ n.1.0). subst (IsIn chosen) (same-feature n.0 other below (subst (IsFeature r.option_rows n.0) (sym e) n.1.1) g) next)
            (λ (o : IsLower below n.1.0 ⊎ IsLower n.1.0 below). ⊎_elim
            (λ (a : IsLower below n.1.0). before n.1.0 n.1.2 n.0 n.1.1 next other below g a)
            (λ (a : IsLower n.1.0 below). absurd (n.1.3 other below g l a)) o)
            (order below n.1.0)

    all-lower : (v : ℕ × ℕ) → AllLower v
    all-lower = by-number AllLower lower-step

    pub next-keeps : IsPermitted r chosen
    next-keeps place o at = record {
      feature = λ v e. record {
        lowest = λ l. ((all place o at).feature v e).lowest
            (λ other below g lower. l.2 other below g (subst (IsLower below) (same_Some v l.0 (sym e ∙ one-number r.option_rows place o l.0 at l.1)) lower));
        lower = λ here other below g l. all-lower v place (o, at, e) here other below g l;
      };
      depends = (all place o at).depends;
      bit = (all place o at).bit;
    }

  pub before-permitted : length r.option_rows ≡ length r.options → KeepNextBefore r chosen (length r.options) → IsPermitted r chosen
  before-permitted count all = next-keeps (λ place o at. all place o (omega (arith, count, slice_get_within r.option_rows place o at)) at)

  pub permitted-before : (place : ℕ) → IsPermitted r chosen → KeepNextBefore r chosen place
  permitted-before place permitted before o l at = keeps-next before o at (permitted before o at)
