use Rattle.std.proofs.lemmas.Bool.{false≢true}
use Rattle.vkb_tool.specs.Words.{items_of}
use Rattle.vkb_tool.proofs.WordsLemmas.{misplaced_first}
use Rattle.vkb_tool.proofs.words.read_words.Goals as goal

pub returns-clause-misplaced : goal.returns-clause-misplaced
returns-clause-misplaced c =
    misplaced_first (items_of c.args.words.now) (λ e. false≢true (c.if-has_word.ensures.1 e)) (λ e. false≢true (c.if-has_word-2.ensures.1 e)) (λ e. false≢true (c.if-has_word-3.ensures.1 e))
    (λ e. false≢true (c.if-has_word-4.ensures.1 e))
