-- How large the formula of a `depends` text is, by its words.
use Rattle.std.proofs.Common.{◌≡◌, ◌+◌, ℕ, List, [], ◌∷◌, map, sum, Option, None, Some, refl, sym, ap, ◌∙◌, inl, inr, arith}
use Rattle.std.specs.Option.{option_and_then, option_map_or}
use Rattle.std.specs.Prelude.{slice_get}
use Rattle.std.proofs.lemmas.List.Sums.{sum_by-cons}
use Rattle.vkb_formula.specs.Expressions.{Atom, Expression, Name, Group, Single, Both, Either, IsSized, formula_of, formula_of_atom, formula_of_place}
use Rattle.vkb_formula.specs.Formulas.{clauses_of, node_clauses, node_size, node_variables, size_of, variables_of}
use Rattle.vkb_formula.specs.Names.{place_of}
use Rattle.vkb_formula.specs.declared.formula.Formula.{Formula, Formula-F, fold-Formula, fold-roll-Formula}
use Rattle.vkb_formula.specs.declared.formula.Formula.TheVariants.{Always, Never, Var, All as Conjunction, Any as Disjunction, rolls-All, rolls-Any, rolls-Never, rolls-Var}
use Rattle.reg_registry.specs.Depends.{IsDepends, node_words, words_of}
use Rattle.reg_forms.specs.declared.forms.DependsText.{DependsText}
use Rattle.reg_tables.specs.Bits.{Readings}
use Rattle.reg_rows.specs.Rows.{formula_at, formula_in}

module _ (step : Formula-F ℕ → ℕ) where
  fold-Never : fold-Formula ℕ step Never ≡ step Formula-F.Never
  fold-Never = ap (fold-Formula ℕ step) (sym rolls-Never) ∙ fold-roll-Formula ℕ step Formula-F.Never

  fold-Var : (variable : ℕ) → fold-Formula ℕ step (Var variable) ≡ step (Formula-F.Var variable)
  fold-Var variable = ap (fold-Formula ℕ step) (sym (rolls-Var variable)) ∙ fold-roll-Formula ℕ step (Formula-F.Var variable)

  fold-All : (parts : List Formula) → fold-Formula ℕ step (Conjunction parts) ≡ step (Formula-F.All (map (fold-Formula ℕ step) parts))
  fold-All parts = ap (fold-Formula ℕ step) (sym (rolls-All parts)) ∙ fold-roll-Formula ℕ step (Formula-F.All parts)

  fold-Any : (parts : List Formula) → fold-Formula ℕ step (Disjunction parts) ≡ step (Formula-F.Any (map (fold-Formula ℕ step) parts))
  fold-Any parts = ap (fold-Formula ℕ step) (sym (rolls-Any parts)) ∙ fold-roll-Formula ℕ step (Formula-F.Any parts)

sum-two : (a b : ℕ) → sum (a ∷ b ∷ []) ≡ a + b
sum-two a b = omega (arith, sum_by-cons (λ (n : ℕ). n) a (b ∷ []), sum_by-cons (λ (n : ℕ). n) b [])

abbrev IsTextSized : Formula → Type 0
IsTextSized f = IsSized f (words_of f)

place-sized : (o : Option ℕ) → IsTextSized (formula_of_place o)
place-sized None = record {
  nodes = omega (arith, fold-Never node_size, fold-Never node_words);
  variables = omega (arith, fold-Never node_variables, fold-Never node_words);
  clauses = omega (arith, fold-Never node_clauses, fold-Never node_words);
}
place-sized (Some place) = record {
  nodes = omega (arith, fold-Var node_size place, fold-Var node_words place);
  variables = omega (arith, fold-Var node_variables place, fold-Var node_words place);
  clauses = omega (arith, fold-Var node_clauses place, fold-Var node_words place);
}

module _ (f g : Formula) (a : IsTextSized f) (b : IsTextSized g) where
  both-words : words_of (Conjunction (f ∷ g ∷ [])) ≡ words_of f + words_of g
  both-words = fold-All node_words (f ∷ g ∷ []) ∙ sum-two (words_of f) (words_of g)

  both-sized : IsTextSized (Conjunction (f ∷ g ∷ []))
  both-sized = record {
    nodes = omega (arith, both-words, fold-All node_size (f ∷ g ∷ []), sum-two (size_of f) (size_of g), a.nodes, b.nodes);
    variables = omega (arith, both-words, fold-All node_variables (f ∷ g ∷ []), sum-two (variables_of f) (variables_of g), a.variables, b.variables);
    clauses = omega (arith, both-words, fold-All node_clauses (f ∷ g ∷ []), sum-two (clauses_of f) (clauses_of g), a.clauses, b.clauses);
  }

  either-words : words_of (Disjunction (f ∷ g ∷ [])) ≡ words_of f + words_of g
  either-words = fold-Any node_words (f ∷ g ∷ []) ∙ sum-two (words_of f) (words_of g)

  either-sized : IsTextSized (Disjunction (f ∷ g ∷ []))
  either-sized = record {
    nodes = omega (arith, either-words, fold-Any node_size (f ∷ g ∷ []), sum-two (size_of f) (size_of g), a.nodes, b.nodes);
    variables = omega (arith, either-words, fold-Any node_variables (f ∷ g ∷ []), sum-two (variables_of f) (variables_of g), a.variables, b.variables);
    clauses = omega (arith, either-words, fold-Any node_clauses (f ∷ g ∷ []), sum-two (clauses_of f) (clauses_of g), a.clauses, b.clauses);
  }

module _ (options : List (List ℕ)) where
  mutual
    atom-sized : (a : Atom) → IsTextSized (formula_of_atom options a)
    atom-sized (Name name) = place-sized (place_of name options)
    atom-sized (Group inner) = formula-sized inner

    pub formula-sized : (e : Expression) → IsTextSized (formula_of options e)
    formula-sized (Single atom) = atom-sized atom
    formula-sized (Both left atom) = both-sized (formula_of options left) (formula_of_atom options atom) (formula-sized left) (atom-sized atom)
    formula-sized (Either left atom) = either-sized (formula_of options left) (formula_of_atom options atom) (formula-sized left) (atom-sized atom)

  text-depends : (reading : Option Expression) → IsDepends (formula_in options reading)
  text-depends None = inl refl
  text-depends (Some e) = inr (formula-sized e)

  some-depends : (o : Option (DependsText × Option Expression)) → IsDepends (option_map_or (λ reading. formula_in options reading.1) o Always)
  some-depends None = inl refl
  some-depends (Some reading) = text-depends reading.1

  -- the formula of the text at a place, or of no text
  pub formula-depends : (readings : Readings) (place : Option ℕ) → IsDepends (formula_at options readings place)
  formula-depends readings place = some-depends (option_and_then (slice_get readings) place)
