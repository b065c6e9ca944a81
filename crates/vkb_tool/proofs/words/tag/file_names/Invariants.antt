use Rattle.std.proofs.Common.{◌≡◌, ℕ, List, ◌++◌, take, All}
use Rattle.vkb_formula.specs.Names.{AreDifferent}
use Rattle.vkb_tool.specs.Words.{IsFileName, items_of}
use Rattle.vkb_tool.proofs.words.tag.file_names.Given as goal

-- the words so far are the first two and the names, which are those that were seen
pub record Keeps (words names seen : List (List ℕ)) (at : ℕ) : Type 0 where
  pub named : All IsFileName names
  pub different : AreDifferent names
  pub words_are : take at words ≡ take 2 words ++ names
  pub seen_are : seen ≡ names

abbrev pub invariant-loop-at : goal.invariant-loop-at
invariant-loop-at l = Keeps (items_of l.words) l.names.items l.seen l.at
