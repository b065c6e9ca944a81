-- The formula of an expression says what the expression says, and how large it is; where the names of one stand.
use Rattle.std.proofs.Common.{◌≡◌, ℕ, ◌+◌, ◌<◌, ◌≤◌, Bool, true, false, ◌&&◌, ◌||◌, List, [], ◌∷◌, ◌++◌, length, Option, Some, None, All, refl, sym, ap, subst, ◌∙◌, arith}
use Rattle.std.specs.List.{AllByRecursion}
use Rattle.std.proofs.lemmas.List.{length-append, length_push}
use Rattle.std.proofs.lemmas.List.Elements.{All-from_recursion}
use Rattle.std.proofs.lemmas.List.Sums.{sum_by-cons}
use Rattle.std.proofs.lemmas.Option.{slice_get_within}
use Rattle.vkb_formula.specs.Names.{place_of}
use Rattle.vkb_formula.specs.Formulas.{value_of, node_value, reach_of, node_reach, size_of, node_size, variables_of, node_variables, clauses_of, node_clauses}
use Rattle.vkb_formula.specs.Expressions.{Atom, Expression, Name, Group, Single, Both, Either, IsAtom, IsExpression, atom_text, expression_text, atom_words, words_in, atom_holds, holds, has_place, has_option, formula_of_place, formula_of_atom, formula_of, atom_places, places_of, Spells, IsSized}
use Rattle.vkb_formula.specs.declared.formula.Formula.{Formula}
use Rattle.vkb_formula.specs.declared.formula.Formula.TheVariants as formula
use Rattle.vkb_formula.proofs.NameLemmas.{place_of-held}
use Rattle.vkb_formula.proofs.FormulaLemmas.{value-All, value-Any, reach-All, reach-Any, size-All, size-Any, variables-All, variables-Any, clauses-All, clauses-Any, fold-Never, fold-Var}
use Rattle.vkb_formula.proofs.BuildLemmas.{some-name}

and-true : (x y : Bool) → (x && (y && true)) ≡ (x && y)
and-true x true = refl
and-true x false = refl

or-false : (x y : Bool) → (x || (y || false)) ≡ (x || y)
or-false x true = refl
or-false x false = refl

module _ (options : List (List ℕ)) where
  place-value : (set : List Bool) (o : Option ℕ) → value_of set (formula_of_place o) ≡ has_place set o
  place-value set None = fold-Never (node_value set)
  place-value set (Some place) = fold-Var (node_value set) place

  mutual
    atom-value : (a : Atom) (set : List Bool) → value_of set (formula_of_atom options a) ≡ atom_holds (has_option options set) a
    atom-value (Name name) set = place-value set (place_of name options)
    atom-value (Group inner) set = expression-value inner set

    pub expression-value : (e : Expression) (set : List Bool) → value_of set (formula_of options e) ≡ holds (has_option options set) e
    expression-value (Single atom) set = atom-value atom set
    expression-value (Both left atom) set =
        value-All set (formula_of options left ∷ formula_of_atom options atom ∷ [])
        ∙ and-true (value_of set (formula_of options left)) (value_of set (formula_of_atom options atom))
        ∙ ap (λ b. b && value_of set (formula_of_atom options atom)) (expression-value left set)
        ∙ ap (λ b. holds (has_option options set) left && b) (atom-value atom set)
    expression-value (Either left atom) set =
        value-Any set (formula_of options left ∷ formula_of_atom options atom ∷ [])
        ∙ or-false (value_of set (formula_of options left)) (value_of set (formula_of_atom options atom))
        ∙ ap (λ b. b || value_of set (formula_of_atom options atom)) (expression-value left set)
        ∙ ap (λ b. holds (has_option options set) left || b) (atom-value atom set)

  name-reach : (name : List ℕ) (o : Option ℕ) → place_of name options ≡ o → reach_of (formula_of_place o) ≤ length options
  name-reach name None e = omega (arith, fold-Never node_reach)
  name-reach name (Some place) e = omega (arith, fold-Var node_reach place, slice_get_within options place name (place_of-held name options place e))

  mutual
    atom-reach : (a : Atom) → reach_of (formula_of_atom options a) ≤ length options
    atom-reach (Name name) = name-reach name (place_of name options) refl
    atom-reach (Group inner) = expression-reach inner

    pub expression-reach : (e : Expression) → reach_of (formula_of options e) ≤ length options
    expression-reach (Single atom) = atom-reach atom
    expression-reach (Both left atom) = omega (arith, reach-All (formula_of options left ∷ formula_of_atom options atom ∷ []), expression-reach left, atom-reach atom)
    expression-reach (Either left atom) = omega (arith, reach-Any (formula_of options left ∷ formula_of_atom options atom ∷ []), expression-reach left, atom-reach atom)

  place-sized : (o : Option ℕ) → IsSized (formula_of_place o) 1
  place-sized None = record {
    nodes = omega (arith, fold-Never node_size);
    variables = omega (arith, fold-Never node_variables);
    clauses = omega (arith, fold-Never node_clauses);
  }
  place-sized (Some place) = record {
    nodes = omega (arith, fold-Var node_size place);
    variables = omega (arith, fold-Var node_variables place);
    clauses = omega (arith, fold-Var node_clauses place);
  }

  both-sized : (f g : Formula) (m n : ℕ) → IsSized f m → IsSized g n → IsSized (formula.All (f ∷ g ∷ [])) (m + n)
  both-sized f g m n a b = record {
    nodes = omega (arith, size-All (f ∷ g ∷ []), sum_by-cons size_of f (g ∷ []), sum_by-cons size_of g [], a.nodes, b.nodes);
    variables = omega (arith, variables-All (f ∷ g ∷ []), sum_by-cons variables_of f (g ∷ []), sum_by-cons variables_of g [], a.variables, b.variables);
    clauses = omega (arith, clauses-All (f ∷ g ∷ []), sum_by-cons clauses_of f (g ∷ []), sum_by-cons clauses_of g [], a.clauses, b.clauses);
  }

  either-sized : (f g : Formula) (m n : ℕ) → IsSized f m → IsSized g n → IsSized (formula.Any (f ∷ g ∷ [])) (m + n)
  either-sized f g m n a b = record {
    nodes = omega (arith, size-Any (f ∷ g ∷ []), sum_by-cons size_of f (g ∷ []), sum_by-cons size_of g [], a.nodes, b.nodes);
    variables = omega (arith, variables-Any (f ∷ g ∷ []), sum_by-cons variables_of f (g ∷ []), sum_by-cons variables_of g [], a.variables, b.variables);
    clauses = omega (arith, clauses-Any (f ∷ g ∷ []), sum_by-cons clauses_of f (g ∷ []), sum_by-cons clauses_of g [], a.clauses, b.clauses);
  }

  mutual
    atom-sized : (a : Atom) → IsSized (formula_of_atom options a) (atom_words a)
    atom-sized (Name name) = place-sized (place_of name options)
    atom-sized (Group inner) = expression-sized inner

    pub expression-sized : (e : Expression) → IsSized (formula_of options e) (words_in e)
    expression-sized (Single atom) = atom-sized atom
    expression-sized (Both left atom) = both-sized (formula_of options left) (formula_of_atom options atom) (words_in left) (atom_words atom) (expression-sized left) (atom-sized atom)
    expression-sized (Either left atom) = either-sized (formula_of options left) (formula_of_atom options atom) (words_in left) (atom_words atom) (expression-sized left) (atom-sized atom)

-- ---- places

-- these places lie between two places, and have a byte at least
abbrev AreWithin : ℕ → ℕ → List (ℕ × ℕ) → Type 0
AreWithin low high places = AllByRecursion (λ (place : ℕ × ℕ). (low ≤ place.0) × (place.0 < place.1) × (place.1 ≤ high)) places

within-append : (low mid top high : ℕ) (xs ys : List (ℕ × ℕ)) → mid ≤ high → low ≤ top → AreWithin low mid xs → AreWithin top high ys → AreWithin low high (xs ++ ys)
within-append low mid top high [] ys le ge a b = raised ys b
  where
    raised : (ys : List (ℕ × ℕ)) → AreWithin top high ys → AreWithin low high ys
    raised [] b = tt
    raised (y ∷ ys) b = ((omega (arith, b.0.0), b.0.1, b.0.2), raised ys b.1)
within-append low mid top high (x ∷ xs) ys le ge a b = ((a.0.0, a.0.1, omega (arith, a.0.2)), within-append low mid top high xs ys le ge a.1 b)

within-wider : (low high less more : ℕ) (xs : List (ℕ × ℕ)) → less ≤ low → high ≤ more → AreWithin low high xs → AreWithin less more xs
within-wider low high less more [] le ge a = tt
within-wider low high less more (x ∷ xs) le ge a = ((omega (arith, a.0.0), a.0.1, omega (arith, a.0.2)), within-wider low high less more xs le ge a.1)

mutual
  atom-within : (a : Atom) → IsAtom a → (at : ℕ) → AreWithin at (at + length (atom_text a)) (atom_places at a)
  atom-within (Name name) h at = ((omega arith, omega (arith, some-name name h), omega arith), tt)
  atom-within (Group inner) h at =
      within-wider (at + 1) ((at + 1) + length (expression_text inner)) at (at + length (atom_text (Group inner))) (places_of (at + 1) inner)
      (omega arith) (omega (arith, length_push (expression_text inner) 41)) (expression-within inner h (at + 1))

  expression-within : (e : Expression) → IsExpression e → (at : ℕ) → AreWithin at (at + length (expression_text e)) (places_of at e)
  expression-within (Single atom) h at = atom-within atom h at
  expression-within (Both left atom) h at =
      within-append at (at + length (expression_text left)) (at + length (expression_text left) + 1) (at + length (expression_text (Both left atom))) (places_of at left) (atom_places (at + length (expression_text left) + 1) atom)
      (omega (arith, length-append (expression_text left) (43 ∷ atom_text atom))) (omega arith) (expression-within left h.0 at)
      (within-wider (at + length (expression_text left) + 1) (at + length (expression_text left) + 1 + length (atom_text atom)) (at + length (expression_text left) + 1) (at + length (expression_text (Both left atom))) (atom_places (at + length (expression_text left) + 1) atom)
      (omega arith) (omega (arith, length-append (expression_text left) (43 ∷ atom_text atom))) (atom-within atom h.1 (at + length (expression_text left) + 1)))
  expression-within (Either left atom) h at =
      within-append at (at + length (expression_text left)) (at + length (expression_text left) + 1) (at + length (expression_text (Either left atom))) (places_of at left) (atom_places (at + length (expression_text left) + 1) atom)
      (omega (arith, length-append (expression_text left) (44 ∷ atom_text atom))) (omega arith) (expression-within left h.0 at)
      (within-wider (at + length (expression_text left) + 1) (at + length (expression_text left) + 1 + length (atom_text atom)) (at + length (expression_text left) + 1) (at + length (expression_text (Either left atom))) (atom_places (at + length (expression_text left) + 1) atom)
      (omega arith) (omega (arith, length-append (expression_text left) (44 ∷ atom_text atom))) (atom-within atom h.1 (at + length (expression_text left) + 1)))

all-places : (text : List ℕ) (xs : List (ℕ × ℕ)) → AreWithin 0 (0 + length text) xs → AllByRecursion (λ (place : ℕ × ℕ). (place.0 < place.1) × (place.1 ≤ length text)) xs
all-places text [] a = tt
all-places text (x ∷ xs) a = ((a.0.1, omega (arith, a.0.2)), all-places text xs a.1)

pub spelled-within : (e : Expression) (text : List ℕ) (places : List (ℕ × ℕ)) → Spells e text → places ≡ places_of 0 e → All (λ (place : ℕ × ℕ). (place.0 < place.1) × (place.1 ≤ length text)) places
spelled-within e text places s is =
    All-from_recursion (λ (place : ℕ × ℕ). (place.0 < place.1) × (place.1 ≤ length text)) places
    (subst (AllByRecursion (λ (place : ℕ × ℕ). (place.0 < place.1) × (place.1 ≤ length text))) (sym is)
    (all-places text (places_of 0 e) (subst (λ t. AreWithin 0 (0 + length t) (places_of 0 e)) (sym s.is) (expression-within e s.named 0))))
