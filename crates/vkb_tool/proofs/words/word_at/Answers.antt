use Rattle.std.proofs.Common.{Some, sym, ap, ◌∙◌}
use Rattle.vkb_tool.proofs.WordsLemmas.{found_word, no_word}
use Rattle.vkb_tool.proofs.words.word_at.Goals as goal

pub returns-in-Some : goal.returns-in-Some
returns-in-Some c =
    let lookup = c.in-Some.ensures.lookup in
    ap Some c.as_slice.ensures.value ∙ sym (found_word c.args.words.now c.args.at c.in-Some.word.now lookup.3.0 lookup.1)

pub returns-in-None : goal.returns-in-None
returns-in-None c = let lookup = c.in-None.ensures.lookup in sym (no_word c.args.words.now c.args.at lookup.3)
