-- The formulas of `depends` texts, and how many words they have.
use Rattle.std.specs.Prelude.{◌≡◌, ◌⊎◌, ℕ, sum}
use Rattle.vkb_formula.specs.Expressions.{IsSized}
use Rattle.vkb_formula.specs.declared.formula.Formula.{Formula}
use Rattle.vkb_formula.specs.declared.formula.Formula.TheFolds.{fold-Formula}
use Rattle.vkb_formula.specs.declared.formula.Formula.TheOpen.{Formula-F}
use Rattle.vkb_formula.specs.declared.formula.Formula.TheVariants as formula

-- a variable or `Never` stands for a word, one that is an option or none
abbrev pub node_words : Formula-F ℕ → ℕ
node_words Formula-F.Always = 0
node_words Formula-F.Never = 1
node_words (Formula-F.Var variable) = 1
node_words (Formula-F.Not part) = part
node_words (Formula-F.All parts) = sum parts
node_words (Formula-F.Any parts) = sum parts

-- how many words the text has that a formula came from
abbrev pub words_of : Formula → ℕ
words_of = fold-Formula ℕ node_words

-- the formula of no text, which is always true, or one that is as large as a text of its words makes it
abbrev pub IsDepends : Formula → Type 0
IsDepends f = (f ≡ formula.Always) ⊎ IsSized f (words_of f)
