-- Whether the rule of one option holds.
use Rattle.std.proofs.Common.{◌≡◌, ◌⊎◌, ℕ, ◌<◌, ◌≤◌, zero, suc, ◌+◌, inl, inr, ⊎_elim, Bool, true, false, not, List, [], ◌∷◌, length, Option, Some, None, slice_get, get_or, IfSome, refl, sym, ap, subst, ◌∙◌, arith}
use Rattle.std.specs.Bool.{MatchBool}
use Rattle.std.specs.Option.{IsSomeAnd, MatchOption, is_some}
use Rattle.vkb_bytes.specs.First.{IsFirst}
use Rattle.std.proofs.lemmas.Option.{none-some, same_Some, slice_get_within, slice_get-get_or}
use Rattle.std.proofs.lemmas.Bool.{cases_Bool, cases_lt}
use Rattle.vkb_formula.specs.Formulas.{value_of}
use Rattle.vkb_formula.specs.declared.name_table.NameId.{NameId}
use Rattle.reg_registry.specs.Rows.{Rows}
use Rattle.reg_registry.specs.declared.registry.OptionRow.{OptionRow}
use Rattle.reg_closure.specs.Closure.{IsClosure, IsIn}
use Rattle.reg_permit.specs.Lowest.{IsLeast, IsLeftOut, IsNumber}
use Rattle.reg_permit.specs.Permitted.{BreaksRule, IsFeature, IsLower, IsPermitted, KeepsFeature, KeepsRule}
use Rattle.reg_permit.proofs.LowestLemmas.{none-below}
use Rattle.reg_permit.proofs.OrderLemmas.{one-number}

pub in-or-not : (set : List Bool) (place : ℕ) → place < length set → IsIn set place ⊎ (IsIn set place → ⊥)
in-or-not set place l =
    ⊎_elim (λ (e : get_or set place false ≡ true). inl (slice_get-get_or set place false l ∙ ap Some e))
    (λ (e : get_or set place false ≡ false). inr (λ t. let f : slice_get set place ≡ Some false = slice_get-get_or set place false l ∙ ap Some e in cc (t, f)))
    (cases_Bool (get_or set place false))

slice_get_here : (options : List OptionRow) (place : ℕ) → place < length options → IsSomeAnd (slice_get options place) (λ _. Unit {0})
slice_get_here [] place l = absurd (omega (arith, l))
slice_get_here (o ∷ options) zero l = tt
slice_get_here (o ∷ options) (suc place) l = slice_get_here options place (omega (arith, l))

module _ (r : Rows) (chosen : List Bool) (place : ℕ) (o : OptionRow) (at : slice_get r.option_rows place ≡ Some o) where
  -- a feature
  module _ (version : ℕ × ℕ) (is : o.version ≡ Some version) (count : length chosen ≡ length r.options) (rows : length r.option_rows ≡ length r.options) where
    pub by-feature : KeepsFeature r.option_rows chosen place version → KeepsRule r chosen place o
    by-feature k = record {
      feature = λ v e. subst (KeepsFeature r.option_rows chosen place) (same_Some version v (sym is ∙ e)) k;
      depends = λ none. absurd (none-some version (sym none ∙ is));
      bit = λ none. absurd (none-some version (sym none ∙ is));
    }

    feature-within : (other : ℕ) (v : ℕ × ℕ) → IsFeature r.option_rows other v → other < length r.options
    feature-within other v f = omega (arith, slice_get_within r.option_rows other f.0 f.1, rows)

    pub chosen-keeps : (least : Option (ℕ × ℕ)) → IsLeast (IsLeftOut r.option_rows chosen (length r.options)) least
        → IfSome least (λ low. IsLower low version → ⊥) → IsIn chosen place → KeepsRule r chosen place o
    chosen-keeps least h above here = by-feature (record {
      lowest = λ _. here;
      lower = λ _ other below f l.
          ⊎_elim (λ (a : IsIn chosen other). a)
          (λ (a : IsIn chosen other → ⊥).
          absurd (none-below (IsLeftOut r.option_rows chosen (length r.options)) least version h above below (other, feature-within other below f, f, a) l))
          (in-or-not chosen other (omega (arith, feature-within other below f, count)));
    })

    pub chosen-breaks : (least : Option (ℕ × ℕ)) → IsLeast (IsLeftOut r.option_rows chosen (length r.options)) least
        → IsSomeAnd least (λ low. IsLower low version) → IsIn chosen place → KeepsRule r chosen place o → ⊥
    chosen-breaks None h low here k = low
    chosen-breaks (Some v) h low here k = h.0.3 ((k.feature version is).lower here h.0.0 v h.0.2 low)

    pub left-keeps : (least : Option (ℕ × ℕ)) → IsLeast (IsNumber r.option_rows (length r.options)) least
        → IsSomeAnd least (λ low. IsLower low version) → (IsIn chosen place → ⊥) → KeepsRule r chosen place o
    left-keeps None h low out = absurd low
    left-keeps (Some v) h low out = by-feature (record {
      lowest = λ lowest.
          absurd (lowest.2 h.0.0 v h.0.2 (subst (IsLower v) (same_Some version lowest.0 (sym is ∙ one-number r.option_rows place o lowest.0 at lowest.1)) low));
      lower = λ here. absurd (out here);
    })

    pub left-breaks : (least : Option (ℕ × ℕ)) → IsLeast (IsNumber r.option_rows (length r.options)) least
        → IfSome least (λ low. IsLower low version → ⊥) → (IsIn chosen place → ⊥) → KeepsRule r chosen place o → ⊥
    left-breaks least h above out k =
        out ((k.feature version is).lowest (
          version,
          (o, at, is),
          λ other lower f l. none-below (IsNumber r.option_rows (length r.options)) least version h above lower (other, feature-within other lower f, f) l,
        ))

    -- what is tested of a feature
    pub feature-rule : (all left : Option (ℕ × ℕ)) → IsLeast (IsNumber r.option_rows (length r.options)) all
        → IsLeast (IsLeftOut r.option_rows chosen (length r.options)) left → (b : Bool) → slice_get chosen place ≡ Some b → (result : Bool)
        → (b ≡ true → MatchBool result (IfSome left (λ low. IsLower low version → ⊥)) (IsSomeAnd left (λ low. IsLower low version)))
        → (b ≡ false → MatchBool result (IsSomeAnd all (λ low. IsLower low version)) (IfSome all (λ low. IsLower low version → ⊥)))
        → MatchBool result (KeepsRule r chosen place o) (KeepsRule r chosen place o → ⊥)
    feature-rule all left ha hl true e true h g = chosen-keeps left hl (h refl) e
    feature-rule all left ha hl true e false h g = chosen-breaks left hl (h refl) e
    feature-rule all left ha hl false e true h g = left-keeps all ha (g refl) (λ t. cc (t, e))
    feature-rule all left ha hl false e false h g = left-breaks all ha (g refl) (λ t. cc (t, e))

  -- a bit or an extension
  module _ (none : o.version ≡ None) where
    pub left-rule : (IsIn chosen place → ⊥) → KeepsRule r chosen place o
    left-rule out = record {
      feature = λ v e. absurd (none-some v (sym none ∙ e));
      depends = λ _ _ here. absurd (out here);
      bit = λ _ _ _ _ here. absurd (out here);
    }

    module _ (here : List Bool) (closure : IsClosure r chosen here) (in-here : IsIn chosen place) where
      own-keeps : ((owner : NameId) (member : List ℕ) → o.bit ≡ Some (owner, member) → IsIn here owner.0) → (o.bit ≡ None → value_of chosen o.depends ≡ true) → KeepsRule r chosen place o
      own-keeps bit depends = record {
        feature = λ v e. absurd (none-some v (sym none ∙ e));
        depends = λ _ e _. depends e;
        bit = λ _ owner member e _. closure.has_only owner.0 (bit owner member e);
      }

      own-breaks : (bit : Option (NameId × List ℕ)) → o.bit ≡ bit → ((owner : NameId) (member : List ℕ) → o.bit ≡ Some (owner, member) → slice_get here owner.0 ≡ Some false)
          → (o.bit ≡ None → value_of chosen o.depends ≡ false) → KeepsRule r chosen place o → ⊥
      own-breaks None e bit depends k = let t : value_of chosen o.depends ≡ true = k.depends none e in-here in let f : value_of chosen o.depends ≡ false = depends e in cc (t, f)
      own-breaks (Some b) e bit depends k =
          let t : IsIn here b.0.0 = closure.has_all b.0.0 (k.bit none b.0 b.1 e in-here) in let f : slice_get here b.0.0 ≡ Some false = bit b.0 b.1 e in cc (t, f)

      pub own-rule : (result : Bool) → ((owner : NameId) (member : List ℕ) → o.bit ≡ Some (owner, member) → slice_get here owner.0 ≡ Some result)
          → (o.bit ≡ None → result ≡ value_of chosen o.depends) → MatchBool result (KeepsRule r chosen place o) (KeepsRule r chosen place o → ⊥)
      own-rule true bit depends = own-keeps bit (λ e. sym (depends e))
      own-rule false bit depends = own-breaks o.bit refl bit (λ e. sym (depends e))

-- what holds of the option at a place
pub of-option : (options : List OptionRow) (P : OptionRow → Type 0) (place : ℕ) (o : OptionRow) → slice_get options place ≡ Some o → P o
    → (other : OptionRow) → slice_get options place ≡ Some other → P other
of-option options P place o at p other e = subst P (same_Some o other (sym at ∙ e)) p

-- the options one by one
module _ (r : Rows) (chosen : List Bool) (place : ℕ) (so-far : (before : ℕ) (o : OptionRow) → before < place → slice_get r.option_rows before ≡ Some o → KeepsRule r chosen before o) where
  pub keeps-more : ((o : OptionRow) → slice_get r.option_rows place ≡ Some o → KeepsRule r chosen place o)
      → (before : ℕ) (o : OptionRow) → before < place + 1 → slice_get r.option_rows before ≡ Some o → KeepsRule r chosen before o
  keeps-more here before o l e =
      ⊎_elim (λ (a : before < place). so-far before o a e)
      (λ (a : place ≤ before).
      let same : place ≡ before = omega (arith, a, l) in
      subst (λ (k : ℕ). KeepsRule r chosen k o) same (here o (subst (λ (k : ℕ). slice_get r.option_rows k ≡ Some o) (sym same) e)))
      (cases_lt before place)

  pub breaks-first : place < length r.option_rows → ((o : OptionRow) → slice_get r.option_rows place ≡ Some o → KeepsRule r chosen place o → ⊥)
      → IsFirst (BreaksRule r chosen) place
  breaks-first l here = record {
    here = some-option (slice_get r.option_rows place) refl (slice_get_here r.option_rows place l) here;
    first = λ before b broken. broken.2 (so-far before broken.0 b broken.1);
  }
    where
      some-option : (found : Option OptionRow) → slice_get r.option_rows place ≡ found → IsSomeAnd found (λ _. Unit {0})
          → ((o : OptionRow) → slice_get r.option_rows place ≡ Some o → KeepsRule r chosen place o → ⊥) → BreaksRule r chosen place
      some-option None e s h = absurd s
      some-option (Some o) e s h = (o, e, h o e)

  pub keeps-all : length r.option_rows ≤ place → IsPermitted r chosen
  keeps-all l k o e = so-far k o (omega (arith, l, slice_get_within r.option_rows k o e)) e

pub found-place : (found : Option ℕ) (none : Bool) (P : Type 0) (Q : ℕ → Type 0) → MatchOption found P (IsFirst Q) → is_some found ≡ not none → none ≡ false → (place : ℕ) × Q place
found-place None none P Q h e f = absurd (cc (e, f))
found-place (Some place) none P Q h e f = (place, h.here)
