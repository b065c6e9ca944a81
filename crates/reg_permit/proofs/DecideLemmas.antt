-- A choice is permitted or it isn't: each part of each option's rule holds or it doesn't.
use Rattle.std.proofs.Common.{◌≡◌, ◌⊎◌, ℕ, zero, suc, ◌<◌, inl, inr, ⊎_elim, Bool, true, false, List, length, Option, Some, None, slice_get, refl, sym, ap, subst, ◌∙◌, arith}
use Rattle.std.proofs.lemmas.Bool.{cases_lt, true≢false}
use Rattle.std.proofs.lemmas.Option.{none-some, same_Some, slice_get_within}
use Rattle.vkb_bytes.specs.First.{IsFirst}
use Rattle.vkb_formula.specs.Formulas.{value_of}
use Rattle.vkb_formula.specs.declared.name_table.NameId.{NameId}
use Rattle.reg_registry.specs.Laws.{AreWithin}
use Rattle.reg_registry.specs.Rows.{Rows}
use Rattle.reg_registry.specs.declared.registry.OptionRow.{OptionRow}
use Rattle.reg_closure.specs.Closure.{IsIn, IsInClosure}
use Rattle.reg_closure.specs.Laws.{InClosureOrNot}
use Rattle.reg_permit.specs.Existence.{PermittedOrFirst}
use Rattle.reg_permit.specs.Laws.{PermittedOrNot}
use Rattle.reg_permit.specs.Permitted.{BreaksRule, IsFeature, IsLower, IsLowest, IsPermitted, KeepsFeature, KeepsRule}
use Rattle.reg_permit.proofs.OrderLemmas.{lower-itself, lower-lower, one-number, order}

-- it holds or it doesn't
abbrev Decided : Type 0 → Type 0
Decided P = P ⊎ (P → ⊥)

both : (P Q : Type 0) → Decided P → Decided Q → Decided (P × Q)
both P Q p q = ⊎_elim (λ a. ⊎_elim (λ b. inl (a, b)) (λ n. inr (λ pair. n pair.1)) q) (λ n. inr (λ pair. n pair.0)) p

if-then : (P Q : Type 0) → Decided P → Decided Q → Decided (P → Q)
if-then P Q p q = ⊎_elim (λ b. inl (λ a. b)) (λ n. ⊎_elim (λ a. inr (λ f. n (f a))) (λ m. inl (λ a. absurd (m a))) p) q

below-or-last : (place n : ℕ) → place < suc n → (place < n) ⊎ (place ≡ n)
below-or-last place n below = ⊎_elim (λ l. inl l) (λ past. inr (omega (arith, below, past))) (cases_lt place n)

-- all of so many pass, or not
all-below : (P : ℕ → Type 0) → ((k : ℕ) → Decided (P k)) → (n : ℕ) → Decided ((k : ℕ) → k < n → P k)
all-below P decide zero = inl (λ k below. absurd (omega (arith, below)))
all-below P decide (suc n) =
    ⊎_elim
    (λ (all : (k : ℕ) → k < n → P k). ⊎_elim
    (λ (last : P n). inl (λ k below. ⊎_elim (λ (l : k < n). all k l) (λ (e : k ≡ n). subst P (sym e) last) (below-or-last k n below)))
    (λ none. inr (λ every. none (every n (omega arith))))
    (decide n))
    (λ none. inr (λ every. none (λ k below. every k (omega (arith, below)))))
    (all-below P decide n)

is-true-or-not : (o : Option Bool) → Decided (o ≡ Some true)
is-true-or-not None = inr (λ e. none-some true e)
is-true-or-not (Some true) = inl refl
is-true-or-not (Some false) = inr (λ e. true≢false (sym (same_Some false true e)))

in-or-not : (set : List Bool) (place : ℕ) → Decided (IsIn set place)
in-or-not set place = is-true-or-not (slice_get set place)

bool-or-not : (b : Bool) → Decided (b ≡ true)
bool-or-not true = inl refl
bool-or-not false = inr (λ e. true≢false (sym e))

lower-or-not : (v w : ℕ × ℕ) → Decided (IsLower v w)
lower-or-not v w =
    ⊎_elim (λ (e : v ≡ w). inr (λ l. lower-itself w (subst (λ (x : ℕ × ℕ). IsLower x w) e l)))
    (λ (o : IsLower v w ⊎ IsLower w v). ⊎_elim (λ l. inl l) (λ (m : IsLower w v). inr (λ l. lower-itself v (lower-lower v w v l m))) o)
    (order v w)

module _ (options : List OptionRow) where
  -- what holds of the number of the feature at a place, if one stands there
  module _ (P : ℕ × ℕ → Type 0) (decide : (version : ℕ × ℕ) → Decided (P version)) (place : ℕ) where
    with-number : (o : OptionRow) → slice_get options place ≡ Some o → (version : Option (ℕ × ℕ)) → o.version ≡ version
        → Decided ((number : ℕ × ℕ) → IsFeature options place number → P number)
    with-number o here None e = inl (λ number f. absurd (none-some number (sym e ∙ one-number options place o number here f)))
    with-number o here (Some version) e =
        ⊎_elim (λ holds. inl (λ number f. subst P (same_Some version number (sym e ∙ one-number options place o number here f)) holds))
        (λ none. inr (λ every. none (every version (o, here, e)))) (decide version)

    of-feature : (o : Option OptionRow) → slice_get options place ≡ o → Decided ((number : ℕ × ℕ) → IsFeature options place number → P number)
    of-feature None e = inl (λ number f. absurd (none-some f.0 (sym e ∙ f.1)))
    of-feature (Some o) e = with-number o e o.version refl

  -- what holds of each feature
  module _ (P : ℕ → ℕ × ℕ → Type 0) (decide : (place : ℕ) (version : ℕ × ℕ) → Decided (P place version)) where
    of-features : Decided ((place : ℕ) (number : ℕ × ℕ) → IsFeature options place number → P place number)
    of-features =
        ⊎_elim (λ (all : (place : ℕ) → place < length options → (number : ℕ × ℕ) → IsFeature options place number → P place number).
        inl (λ place number f. all place (slice_get_within options place f.0 f.1) number f))
        (λ none. inr (λ every. none (λ place below. every place)))
        (all-below (λ place. (number : ℕ × ℕ) → IsFeature options place number → P place number) (λ place. of-feature (P place) (decide place) place (slice_get options place) refl) (length options))

  lowest-or-not : (place : ℕ) (version : ℕ × ℕ) → IsFeature options place version → Decided (IsLowest options place)
  lowest-or-not place version feature =
      ⊎_elim (λ (all : (other : ℕ) (lower : ℕ × ℕ) → IsFeature options other lower → IsLower lower version → ⊥). inl (version, feature, all))
      (λ none. inr (λ lowest. none (λ other lower f l.
      let same : lowest.0 ≡ version = same_Some lowest.0 version (sym lowest.1.2 ∙ ap (λ (o : OptionRow). o.version) (same_Some lowest.1.0 feature.0 (sym lowest.1.1 ∙ feature.1)) ∙ feature.2) in
      lowest.2 other lower f (subst (IsLower lower) (sym same) l))))
      (of-features (λ other lower. IsLower lower version → ⊥) (λ other lower. if-then (IsLower lower version) ⊥ (lower-or-not lower version) (inr (λ never. never))))

  module _ (chosen : List Bool) where
    feature-or-not : (place : ℕ) (version : ℕ × ℕ) → IsFeature options place version → Decided (KeepsFeature options chosen place version)
    feature-or-not place version feature =
        ⊎_elim (λ (p : (IsLowest options place → IsIn chosen place) × (IsIn chosen place → (other : ℕ) (below : ℕ × ℕ) → IsFeature options other below → IsLower below version → IsIn chosen other)).
        inl (record { lowest = p.0; lower = p.1 }))
        (λ none. inr (λ keeps. none (keeps.lowest, keeps.lower)))
        (both (IsLowest options place → IsIn chosen place) (IsIn chosen place → (other : ℕ) (below : ℕ × ℕ) → IsFeature options other below → IsLower below version → IsIn chosen other)
        (if-then (IsLowest options place) (IsIn chosen place) (lowest-or-not place version feature) (in-or-not chosen place))
        (if-then (IsIn chosen place) ((other : ℕ) (below : ℕ × ℕ) → IsFeature options other below → IsLower below version → IsIn chosen other) (in-or-not chosen place)
        (of-features (λ other below. IsLower below version → IsIn chosen other)
        (λ other below. if-then (IsLower below version) (IsIn chosen other) (lower-or-not below version) (in-or-not chosen other)))))

module _ (inside-or-not : InClosureOrNot) (r : Rows) (chosen : List Bool) (there : AreWithin r.rows) where
  rule-or-not : (place : ℕ) (o : OptionRow) → slice_get r.option_rows place ≡ Some o → (version : Option (ℕ × ℕ)) → o.version ≡ version → (bit : Option (NameId × List ℕ)) → o.bit ≡ bit
      → Decided (KeepsRule r chosen place o)
  rule-or-not place o here (Some version) e bit b =
      ⊎_elim
      (λ (keeps : KeepsFeature r.option_rows chosen place version). inl (record {
        feature = λ v is. subst (KeepsFeature r.option_rows chosen place) (same_Some version v (sym e ∙ is)) keeps;
        depends = λ none. absurd (none-some version (sym none ∙ e));
        bit = λ none. absurd (none-some version (sym none ∙ e));
      }))
      (λ none. inr (λ (rule : KeepsRule r chosen place o). none (rule.feature version e)))
      (feature-or-not r.option_rows chosen place version (o, here, e))
  rule-or-not place o here None e None b =
      ⊎_elim
      (λ (holds : IsIn chosen place → value_of chosen o.depends ≡ true). inl (record {
        feature = λ v is. absurd (none-some v (sym e ∙ is));
        depends = λ _ _. holds;
        bit = λ _ owner member is. absurd (none-some (owner, member) (sym b ∙ is));
      }))
      (λ none. inr (λ (rule : KeepsRule r chosen place o). none (rule.depends e b)))
      (if-then (IsIn chosen place) (value_of chosen o.depends ≡ true) (in-or-not chosen place) (bool-or-not (value_of chosen o.depends)))
  rule-or-not place o here None e (Some (owner, member)) b =
      ⊎_elim
      (λ (inside : IsIn chosen place → IsInClosure r chosen owner.0). inl (record {
        feature = λ v is. absurd (none-some v (sym e ∙ is));
        depends = λ _ none. absurd (none-some (owner, member) (sym none ∙ b));
        bit = λ _ other name is in-here. subst (λ (p : NameId × List ℕ). IsInClosure r chosen p.0.0) (same_Some (owner, member) (other, name) (sym b ∙ is)) (inside in-here);
      }))
      (λ none. inr (λ (rule : KeepsRule r chosen place o). none (rule.bit e owner member b)))
      (if-then (IsIn chosen place) (IsInClosure r chosen owner.0) (in-or-not chosen place) (inside-or-not r chosen owner.0 there))

  at-place : (place : ℕ) (o : Option OptionRow) → slice_get r.option_rows place ≡ o → Decided ((o : OptionRow) → slice_get r.option_rows place ≡ Some o → KeepsRule r chosen place o)
  at-place place None e = inl (λ o here. absurd (none-some o (sym e ∙ here)))
  at-place place (Some o) e =
      ⊎_elim (λ rule. inl (λ p here. subst (KeepsRule r chosen place) (same_Some o p (sym e ∙ here)) rule)) (λ none. inr (λ every. none (every o e)))
      (rule-or-not place o e o.version refl o.bit refl)

  pub permitted-or-not : IsPermitted r chosen ⊎ (IsPermitted r chosen → ⊥)
  permitted-or-not =
      ⊎_elim
      (λ (all : (place : ℕ) → place < length r.option_rows → (o : OptionRow) → slice_get r.option_rows place ≡ Some o → KeepsRule r chosen place o).
      inl (λ place o here. all place (slice_get_within r.option_rows place o here) o here))
      (λ none. inr (λ permitted. none (λ place below. permitted place)))
      (all-below (λ place. (o : OptionRow) → slice_get r.option_rows place ≡ Some o → KeepsRule r chosen place o) (λ place. at-place place (slice_get r.option_rows place) refl) (length r.option_rows))

pub each-permitted-or-not : InClosureOrNot → PermittedOrNot
each-permitted-or-not inside-or-not r chosen there = permitted-or-not inside-or-not r chosen there

-- the first of so many that fails, or all pass
first-or-all : (P : ℕ → Type 0) (Fails : ℕ → Type 0) → ((k : ℕ) → P k → Fails k → ⊥) → ((k : ℕ) → P k ⊎ Fails k) → (n : ℕ) → ((k : ℕ) × IsFirst Fails k) ⊎ ((k : ℕ) → k < n → P k)
first-or-all P Fails apart decide zero = inr (λ k below. absurd (omega (arith, below)))
first-or-all P Fails apart decide (suc n) =
    ⊎_elim
    (λ found. inl found)
    (λ (all : (k : ℕ) → k < n → P k). ⊎_elim
    (λ (here : P n). inr (λ k below. ⊎_elim (λ (l : k < n). all k l) (λ (e : k ≡ n). subst P (sym e) here) (below-or-last k n below)))
    (λ (fails : Fails n). inl (n, record { here = fails; first = λ before l other. apart before (all before l) other }))
    (decide n))
    (first-or-all P Fails apart decide n)

module _ (inside-or-not : InClosureOrNot) (r : Rows) (chosen : List Bool) (there : AreWithin r.rows) where
  -- the rule of the option at a place, if one stands there
  abbrev KeepsAt : ℕ → Type 0
  KeepsAt place = (o : OptionRow) → slice_get r.option_rows place ≡ Some o → KeepsRule r chosen place o

  keeps-or-breaks : (place : ℕ) (o : Option OptionRow) → slice_get r.option_rows place ≡ o → KeepsAt place ⊎ BreaksRule r chosen place
  keeps-or-breaks place None e = inl (λ o here. absurd (none-some o (sym e ∙ here)))
  keeps-or-breaks place (Some o) e =
      ⊎_elim (λ rule. inl (λ p here. subst (KeepsRule r chosen place) (same_Some o p (sym e ∙ here)) rule)) (λ none. inr (o, e, none))
      (rule-or-not inside-or-not r chosen there place o e o.version refl o.bit refl)

  permitted-or-first : IsPermitted r chosen ⊎ ((place : ℕ) × IsFirst (BreaksRule r chosen) place)
  permitted-or-first =
      ⊎_elim (λ found. inr found)
      (λ (all : (place : ℕ) → place < length r.option_rows → KeepsAt place). inl (λ place o here. all place (slice_get_within r.option_rows place o here) o here))
      (first-or-all KeepsAt (BreaksRule r chosen) (λ place keeps breaks. breaks.2 (keeps breaks.0 breaks.1)) (λ place. keeps-or-breaks place (slice_get r.option_rows place) refl) (length r.option_rows))

pub each-permitted-or-first : InClosureOrNot → PermittedOrFirst
each-permitted-or-first inside-or-not r chosen there = permitted-or-first inside-or-not r chosen there
