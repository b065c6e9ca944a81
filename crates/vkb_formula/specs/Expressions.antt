-- The expressions of the attribute `depends` of the Vulkan API registry: what spells them, and what they say. The
-- registry manual, `registry.html`, has names, `+` for and, `,` for or, and parentheses. This tool's own are the rest:
-- `+` and `,` bind alike and group from the left, parentheses nest at most 64 deep, there are at most 4,096 names, and
-- `word::word` names a structure's member.
use Rattle.std.specs.Prelude.{◌≡◌, ℕ, ◌+◌, ◌*◌, ◌<◌, ◌≤◌, max, Bool, true, ◌&&◌, ◌||◌, List, [], ◌∷◌, ◌++◌, length, take, Option, Some, None, slice_index_or, false, ◌⊎◌}
use Rattle.std.specs.List.{list_all}
use Rattle.vkb_bytes.specs.Bytes.{is_word_byte}
use Rattle.vkb_formula.specs.Names.{place_of}
use Rattle.vkb_formula.specs.Formulas.{size_of, variables_of, clauses_of}
use Rattle.vkb_formula.specs.declared.formula.Formula.{Formula}
use Rattle.vkb_formula.specs.declared.formula.Formula.TheVariants as formula

mutual
  -- a name, or an expression in parentheses
  pub data Atom : Type 0 where
    Name : List ℕ → Atom
    Group : Expression → Atom

  -- an atom, `e + a`, or `e , a`
  pub data Expression : Type 0 where
    Single : Atom → Expression
    Both : Expression → Atom → Expression
    Either : Expression → Atom → Expression

-- letters, digits and `_`, at least one
abbrev pub IsWord : List ℕ → Type 0
IsWord text = (0 < length text) × (list_all is_word_byte text ≡ true)

-- two words with `::` between them, as `Struct::member`
abbrev pub IsMember : List ℕ → Type 0
IsMember text = (first second : List ℕ) × IsWord first × IsWord second × (text ≡ first ++ 58 ∷ 58 ∷ second)

abbrev pub IsName : List ℕ → Type 0
IsName text = IsWord text ⊎ IsMember text

-- each name is one
abbrev mutual
  pub IsAtom : Atom → Type 0
  IsAtom (Name name) = IsName name
  IsAtom (Group inner) = IsExpression inner

  pub IsExpression : Expression → Type 0
  IsExpression (Single atom) = IsAtom atom
  IsExpression (Both left atom) = IsExpression left × IsAtom atom
  IsExpression (Either left atom) = IsExpression left × IsAtom atom

-- the text of an atom and of an expression
abbrev mutual
  pub atom_text : Atom → List ℕ
  atom_text (Name name) = name
  atom_text (Group inner) = 40 ∷ expression_text inner ++ 41 ∷ []

  pub expression_text : Expression → List ℕ
  expression_text (Single atom) = atom_text atom
  expression_text (Both left atom) = expression_text left ++ 43 ∷ atom_text atom
  expression_text (Either left atom) = expression_text left ++ 44 ∷ atom_text atom

-- how deep parentheses nest
abbrev mutual
  pub atom_nesting : Atom → ℕ
  atom_nesting (Name name) = 0
  atom_nesting (Group inner) = 1 + nesting_of inner

  pub nesting_of : Expression → ℕ
  nesting_of (Single atom) = atom_nesting atom
  nesting_of (Both left atom) = max (nesting_of left) (atom_nesting atom)
  nesting_of (Either left atom) = max (nesting_of left) (atom_nesting atom)

-- how many names there are
abbrev mutual
  pub atom_words : Atom → ℕ
  atom_words (Name name) = 1
  atom_words (Group inner) = words_in inner

  pub words_in : Expression → ℕ
  words_in (Single atom) = atom_words atom
  words_in (Both left atom) = words_in left + atom_words atom
  words_in (Either left atom) = words_in left + atom_words atom

-- the names, in their order
abbrev mutual
  pub atom_names : Atom → List (List ℕ)
  atom_names (Name name) = name ∷ []
  atom_names (Group inner) = names_of inner

  pub names_of : Expression → List (List ℕ)
  names_of (Single atom) = atom_names atom
  names_of (Both left atom) = names_of left ++ atom_names atom
  names_of (Either left atom) = names_of left ++ atom_names atom

-- The text spells the expression: parentheses nest at most 64 deep, and there are at most 4,096 names, a member being
-- one.
pub record Spells (e : Expression) (text : List ℕ) : Type 0 where
  pub named : IsExpression e
  pub is : text ≡ expression_text e
  pub nests : nesting_of e ≤ 64
  pub few : words_in e ≤ 4096

-- no expression is spelled so
abbrev pub IsNoExpression : List ℕ → Type 0
IsNoExpression text = (e : Expression) → Spells e text → ⊥

-- some expression begins so
abbrev pub IsFront : List ℕ → Type 0
IsFront text = (rest : List ℕ) × (e : Expression) × Spells e (text ++ rest)

-- The length of the longest front of a text: the bytes before it are one, and they with one byte more aren't. Since
-- what a front begins with is a front, no longer part of the text is one.
pub record IsStop (text : List ℕ) (at : ℕ) : Type 0 where
  pub within : at ≤ length text
  pub front : IsFront (take at text)
  pub last : at < length text → IsFront (take (at + 1) text) → ⊥

-- what an expression says of a set of names
abbrev mutual
  pub atom_holds : (List ℕ → Bool) → Atom → Bool
  atom_holds set (Name name) = set name
  atom_holds set (Group inner) = holds set inner

  pub holds : (List ℕ → Bool) → Expression → Bool
  holds set (Single atom) = atom_holds set atom
  holds set (Both left atom) = holds set left && atom_holds set atom
  holds set (Either left atom) = holds set left || atom_holds set atom

-- whether a set has the option at a place, if there is one
abbrev pub has_place : List Bool → Option ℕ → Bool
has_place set None = false
has_place set (Some place) = slice_index_or set place false

-- whether a set of options has a name; a name that is no option is in none
abbrev pub has_option : List (List ℕ) → List Bool → List ℕ → Bool
has_option options set name = has_place set (place_of name options)

abbrev pub formula_of_place : Option ℕ → Formula
formula_of_place None = formula.Never
formula_of_place (Some place) = formula.Var place

-- the variable of an option, and what is false where the name is none
abbrev pub formula_of_name : List (List ℕ) → List ℕ → Formula
formula_of_name options name = formula_of_place (place_of name options)

-- the formula that has the shape of the text; parentheses add nothing
abbrev mutual
  pub formula_of_atom : List (List ℕ) → Atom → Formula
  formula_of_atom options (Name name) = formula_of_name options name
  formula_of_atom options (Group inner) = formula_of options inner

  pub formula_of : List (List ℕ) → Expression → Formula
  formula_of options (Single atom) = formula_of_atom options atom
  formula_of options (Both left atom) = formula.All (formula_of options left ∷ formula_of_atom options atom ∷ [])
  formula_of options (Either left atom) = formula.Any (formula_of options left ∷ formula_of_atom options atom ∷ [])

-- the sizes of the formula of an expression with so many names: one that is no option takes a clause, and a joint three
pub record IsSized (f : Formula) (words : ℕ) : Type 0 where
  pub nodes : size_of f + 1 ≡ 2 * words
  pub variables : variables_of f + 1 ≤ 2 * words
  pub clauses : clauses_of f + 3 ≤ 4 * words

-- where each name begins and ends, for a text that begins at a place
abbrev mutual
  pub atom_places : ℕ → Atom → List (ℕ × ℕ)
  atom_places at (Name name) = (at, at + length name) ∷ []
  atom_places at (Group inner) = places_of (at + 1) inner

  pub places_of : ℕ → Expression → List (ℕ × ℕ)
  places_of at (Single atom) = atom_places at atom
  places_of at (Both left atom) = places_of at left ++ atom_places (at + length (expression_text left) + 1) atom
  places_of at (Either left atom) = places_of at left ++ atom_places (at + length (expression_text left) + 1) atom
