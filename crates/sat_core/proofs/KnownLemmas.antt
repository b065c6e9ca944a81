-- What is known, as more becomes so, and the values of literals.
use Rattle.std.proofs.Common.{◌≡◌, ⊎_elim, Bool, true, false, List, [], ◌∷◌, ◌++◌, Option, Some, None, Contains, refl, sym, ap, subst, ◌∙◌, true≢false}
use Rattle.std.proofs.lemmas.List.Elements.{All-weaker, Contains-append_left, Contains-push, Contains-push_cases}
use Rattle.std.proofs.lemmas.Option.{none-some, same_Some}
use Rattle.sat_cnf.specs.declared.lit.Lit.{Lit}
use Rattle.sat_cnf.specs.Lits.{negation_of, variable_of}
use Rattle.sat_proof.specs.Propagation.{IsFalse, IsFalsified, IsUndecided}
use Rattle.sat_core.specs.Trails.{IsValueOf}
use Rattle.sat_core.proofs.LiteralLemmas.{negation-differs, negation-negation, variable-negation}

-- more that is true makes nothing undone
pub IsFalse-append : (known more : List Lit) (lit : Lit) → IsFalse known lit → IsFalse (known ++ more) lit
IsFalse-append known more lit c = Contains-append_left known more (negation_of lit) c

pub IsFalsified-append : (known more clause : List Lit) → IsFalsified known clause → IsFalsified (known ++ more) clause
IsFalsified-append known more clause all = All-weaker (IsFalse known) (IsFalse (known ++ more)) (IsFalse-append known more) clause all

pub IsUndecided-front : (known more : List Lit) (lit : Lit) → IsUndecided (known ++ more) lit → IsUndecided known lit
IsUndecided-front known more lit u = (λ c. u.0 (Contains-append_left known more lit c), λ c. u.1 (IsFalse-append known more lit c))

-- a literal is undecided where its negation is
pub IsUndecided-negation : (known : List Lit) (lit : Lit) → IsUndecided known lit → IsUndecided known (negation_of lit)
IsUndecided-negation known lit u = (u.1, λ c. u.0 (subst (Contains known) (negation-negation lit) c))

-- one literal more decides its own variable alone
pub IsUndecided-push : (known : List Lit) (new lit : Lit) → IsUndecided known lit → (variable_of lit ≡ variable_of new → ⊥) → IsUndecided (known ++ new ∷ []) lit
IsUndecided-push known new lit u apart = (
  λ c. ⊎_elim u.0 (λ e. apart (ap variable_of (sym e))) (Contains-push_cases known new lit c),
  λ c. ⊎_elim u.1 (λ e. apart (sym (variable-negation lit) ∙ ap variable_of (sym e))) (Contains-push_cases known new (negation_of lit) c),
)

-- the value of a literal that stands last, of its negation, and of others
pub IsValueOf-new : (known : List Lit) (lit : Lit) → IsUndecided known lit → IsValueOf (known ++ lit ∷ []) lit (Some true)
IsValueOf-new known lit u = record {
  when_true = (λ _. Contains-push known lit, λ _. refl);
  when_false = (λ e. absurd (true≢false (same_Some true false e)), λ c. absurd (⊎_elim u.1 (negation-differs lit) (Contains-push_cases known lit (negation_of lit) c)));
}

pub IsValueOf-negation : (known : List Lit) (lit : Lit) → IsUndecided known lit → IsValueOf (known ++ lit ∷ []) (negation_of lit) (Some false)
IsValueOf-negation known lit u = record {
  when_true = (λ e. absurd (true≢false (sym (same_Some false true e))), λ c. absurd (⊎_elim u.1 (negation-differs lit) (Contains-push_cases known lit (negation_of lit) c)));
  when_false = (λ _. subst (Contains (known ++ lit ∷ [])) (sym (negation-negation lit)) (Contains-push known lit), λ _. refl);
}

module _ (known : List Lit) (new lit : Lit) (differs : lit ≡ new → ⊥) (unlike : lit ≡ negation_of new → ⊥) (value : Option Bool) where
  unlike-back : new ≡ negation_of lit → ⊥
  unlike-back e = unlike (sym (negation-negation lit) ∙ ap negation_of (sym e))

  pub IsValueOf-kept : IsValueOf known lit value → IsValueOf (known ++ new ∷ []) lit value
  IsValueOf-kept v = record {
    when_true = (λ e. Contains-append_left known (new ∷ []) lit (v.when_true.0 e), λ c. ⊎_elim v.when_true.1 (λ e. absurd (differs (sym e))) (Contains-push_cases known new lit c));
    when_false = (λ e. IsFalse-append known (new ∷ []) lit (v.when_false.0 e), λ c. ⊎_elim v.when_false.1 (λ e. absurd (unlike-back e)) (Contains-push_cases known new (negation_of lit) c));
  }

  pub IsValueOf-left : IsValueOf (known ++ new ∷ []) lit value → IsValueOf known lit value
  IsValueOf-left v = record {
    when_true = (λ e. ⊎_elim (λ c. c) (λ same. absurd (differs (sym same))) (Contains-push_cases known new lit (v.when_true.0 e)), λ c. v.when_true.1 (Contains-append_left known (new ∷ []) lit c));
    when_false = (λ e. ⊎_elim (λ c. c) (λ same. absurd (unlike-back same)) (Contains-push_cases known new (negation_of lit) (v.when_false.0 e)), λ c. v.when_false.1 (IsFalse-append known (new ∷ []) lit c));
  }

-- a literal has no value where it is undecided
pub IsValueOf-none : (known : List Lit) (lit : Lit) → IsUndecided known lit → IsValueOf known lit None
IsValueOf-none known lit u = record {
  when_true = (λ e. absurd (none-some true e), λ c. absurd (u.0 c));
  when_false = (λ e. absurd (none-some false e), λ c. absurd (u.1 c));
}

pub undecided-from_none : (known : List Lit) (lit : Lit) → IsValueOf known lit None → IsUndecided known lit
undecided-from_none known lit v = (λ c. none-some true (v.when_true.1 c), λ c. none-some false (v.when_false.1 c))

pub true-from_value : (known : List Lit) (lit : Lit) → IsValueOf known lit (Some true) → Contains known lit
true-from_value known lit v = v.when_true.0 refl

pub false-from_value : (known : List Lit) (lit : Lit) → IsValueOf known lit (Some false) → IsFalse known lit
false-from_value known lit v = v.when_false.0 refl
