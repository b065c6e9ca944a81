use Rattle.std.proofs.Common.{◌≡◌, ℕ, List, ◌++◌, map, take, All}
use Rattle.vkb_tool.specs.Words.{IsAttribute, attribute_word, items_of}
use Rattle.vkb_tool.proofs.words.check.attributes.Given as goal

-- the words so far are the first ones and those that set the names
pub record Keeps (from : ℕ) (words names : List (List ℕ)) (at : ℕ) : Type 0 where
  pub names_are : All IsAttribute names
  pub words_are : take at words ≡ take from words ++ map attribute_word names

abbrev pub invariant-loop-at : goal.invariant-loop-at
invariant-loop-at l = Keeps l.fn.from (items_of l.words) l.names.items l.at
