use Rattle.std.proofs.Common.{◌≡◌, ℕ, ◌+◌, ◌<◌, ◌≤◌, List, [], ◌∷◌, ◌++◌, length, take, Some, slice_get, sym, ap, ◌∙◌, arith, append_assoc, subst}
use Rattle.std.proofs.lemmas.List.{length-append, length-map}
use Rattle.std.proofs.lemmas.List.Elements.{All-push}
use Rattle.std.proofs.lemmas.Option.{none-some, same_Some, slice_get_past}
use Rattle.vkb_tool.specs.Words.{IsOptionWord, items_of}
use Rattle.vkb_tool.proofs.WordsLemmas.{found_word, take_next}
use Rattle.vkb_tool.proofs.words.header.option_words.Goals as goal

pub returns-in_default : goal.returns-in_default
returns-in_default c =
    let words = c.args.words.now in
    let at = c.loop-at.at in
    let names = c.loop-at.names.items in
    let word = c.index-words-at.result in
    let was = c.loop-at.invariant in
    let inside : at < length words = omega arith in
    let read : slice_get (items_of words) at ≡ Some word.items = found_word words at word inside c.index-words-at.is in
    let counted : c.args.from + length names ≡ at = was.counted in
    record {
      names_are = was.names_are;
      words_are = ap (λ (n : ℕ). take n (items_of words)) counted ∙ was.words_are;
      within = omega (arith, length-map words (λ w. w.items));
      next = λ name is e.
          let items : word.items ≡ name = same_Some word.items name (sym read ∙ ap (slice_get (items_of words)) (sym counted) ∙ e) in
          c.in_default.ensures.none (subst IsOptionWord (sym (c.as_slice.ensures.value ∙ items)) is);
    }

pub loop-at-preserved : goal.loop-at-preserved
loop-at-preserved c =
    let words = c.args.words.now in
    let at = c.loop-at.at in
    let from = c.args.from in
    let word = c.index-words-at.result in
    let was = c.loop-at.invariant in
    let name = c.in-Some.name.now in
    let inside : at < length words = omega arith in
    let read : slice_get (items_of words) at ≡ Some word.items = found_word words at word inside c.index-words-at.is in
    let named = c.in-Some.ensures.named in
    let names = c.loop-at.names.items in
    let pushed : c.push.new.self.items ≡ names ++ name ∷ [] = c.in_ok-push.ensures.items ∙ ap (λ (n : List ℕ). names ++ n ∷ []) c.in_ok-from_slice.ensures in
    let before : from + length names ≡ at = was.counted in
    let counted : from + length (names ++ name ∷ []) ≡ at + 1 = simp length-append (omega arith) in
    record {
      names_are = rw pushed (All-push IsOptionWord names name was.names_are named.0);
      words_are =
          take_next (items_of words) at word.items read
          ∙ ap (λ (ws : List (List ℕ)). ws ++ word.items ∷ []) was.words_are
          ∙ append_assoc (take from (items_of words)) names (word.items ∷ [])
          ∙ ap (λ (w : List ℕ). take from (items_of words) ++ (names ++ w ∷ [])) (sym c.as_slice.ensures.value ∙ named.1)
          ∙ ap (λ (ns : List (List ℕ)). take from (items_of words) ++ ns) (sym pushed);
      counted = rw pushed counted;
    }

pub returns : goal.returns
returns c =
    let words = c.args.words.now in
    let was = c.loop-at.invariant in
    let names = c.loop-at.names.items in
    let counted : c.args.from + length names ≡ c.loop-at.at = was.counted in
    let long : length (items_of words) ≤ c.args.from + length names = omega (arith, length-map words (λ w. w.items)) in
    record {
      names_are = was.names_are;
      words_are = ap (λ (n : ℕ). take n (items_of words)) counted ∙ was.words_are;
      within = omega (arith, length-map words (λ w. w.items));
      next = λ name is e. none-some name (sym (slice_get_past (items_of words) (c.args.from + length names) long) ∙ e);
    }
