-- Choices that are always permitted.
use Rattle.std.proofs.Common.{◌≡◌, ◌⊎◌, ℕ, zero, suc, ⊎_elim, Bool, true, List, [], ◌∷◌, map, Some, None, slice_get, sym, ap, subst, ◌∙◌}
use Rattle.std.proofs.lemmas.Option.{none-some, same_Some}
use Rattle.vkb_formula.specs.Formulas.{value_of, node_value}
use Rattle.vkb_formula.specs.declared.formula.Formula.{Formula-F, fold-roll-Formula}
use Rattle.vkb_formula.specs.declared.formula.Formula.TheVariants as formula
use Rattle.vkb_formula.specs.declared.formula.Formula.TheVariants.{rolls-Always}
use Rattle.reg_registry.specs.Naming.{AreSound}
use Rattle.reg_registry.specs.Rows.{Rows, bare_rows, free_option}
use Rattle.reg_registry.specs.declared.registry.OptionRow.{OptionRow}
use Rattle.reg_closure.specs.Closure.{IsIn}
use Rattle.reg_permit.specs.Laws.{BareIsFree, LowestIsPermitted}
use Rattle.reg_permit.specs.Permitted.{IsFeature, IsLower, IsLowest, KeepsRule}
use Rattle.reg_permit.proofs.OrderLemmas.{one-number, order}

-- two features of the lowest number are one
lowest-one : (r : Rows) → AreSound r → (place other : ℕ) → IsLowest r.option_rows place → IsLowest r.option_rows other → place ≡ other
lowest-one r sound place other a b =
    ⊎_elim
    (λ (e : a.0 ≡ b.0). sound.numbers_differ place other a.1.0 b.1.0 b.0 a.1.1 b.1.1 (a.1.2 ∙ ap Some e) b.1.2)
    (λ (l : IsLower a.0 b.0 ⊎ IsLower b.0 a.0). absurd (⊎_elim (λ (m : IsLower a.0 b.0). b.2 place a.0 a.1 m) (λ (m : IsLower b.0 a.0). a.2 other b.0 b.1 m) l))
    (order a.0 b.0)

pub lowest-permitted : LowestIsPermitted
lowest-permitted r chosen lowest sound is here only place o at = record {
  feature = λ v e. record {
    lowest = λ l. subst (IsIn chosen) (lowest-one r sound lowest place is l) here;
    lower = λ in-here other below f l. absurd (is.2 other below f (subst (IsLower below) (version-is v e in-here) l));
  };
  depends = λ none _ in-here. absurd (no-version none in-here);
  bit = λ none _ _ _ in-here. absurd (no-version none in-here);
}
  where
    is-here : IsIn chosen place → o.version ≡ Some is.0
    is-here in-here = one-number r.option_rows place o is.0 at (subst (λ (x : ℕ). IsFeature r.option_rows x is.0) (sym (only place in-here)) is.1)

    version-is : (v : ℕ × ℕ) → o.version ≡ Some v → IsIn chosen place → v ≡ is.0
    version-is v e in-here = same_Some v is.0 (sym e ∙ is-here in-here)

    no-version : o.version ≡ None → IsIn chosen place → ⊥
    no-version none in-here = none-some is.0 (sym none ∙ is-here in-here)

free-at : (options : List (List ℕ)) (place : ℕ) (o : OptionRow) → slice_get (map (λ name. free_option) options) place ≡ Some o → free_option ≡ o
free-at [] place o e = absurd (none-some o e)
free-at (name ∷ options) zero o e = same_Some free_option o e
free-at (name ∷ options) (suc place) o e = free-at options place o e

free-keeps : (r : Rows) (chosen : List Bool) (place : ℕ) → value_of chosen formula.Always ≡ true → KeepsRule r chosen place free_option
free-keeps r chosen place always = record {
  feature = λ v e. absurd (none-some v e);
  depends = λ _ _ _. always;
  bit = λ _ owner member e _. absurd (none-some (owner, member) e);
}

-- what asks for nothing holds
pub always-holds : (chosen : List Bool) → value_of chosen formula.Always ≡ true
always-holds chosen = ap (value_of chosen) (sym rolls-Always) ∙ fold-roll-Formula Bool (node_value chosen) Formula-F.Always

pub bare-free : BareIsFree
bare-free options chosen place o at =
    subst (KeepsRule (bare_rows options) chosen place) (free-at options place o at) (free-keeps (bare_rows options) chosen place (always-holds chosen))
