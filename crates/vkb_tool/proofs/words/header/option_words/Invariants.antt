use Rattle.std.proofs.Common.{◌≡◌, ℕ, ◌+◌, List, ◌++◌, length, take, All}
use Rattle.vkb_tool.specs.Words.{IsOptionWord, items_of}
use Rattle.vkb_tool.proofs.words.header.option_words.Given as goal

-- the words so far are the first ones and those for options
pub record Keeps (from : ℕ) (words names : List (List ℕ)) (at : ℕ) : Type 0 where
  pub names_are : All IsOptionWord names
  pub words_are : take at words ≡ take from words ++ names
  pub counted : from + length names ≡ at

abbrev pub invariant-loop-at : goal.invariant-loop-at
invariant-loop-at l = Keeps l.fn.from (items_of l.words) l.names.items l.at
