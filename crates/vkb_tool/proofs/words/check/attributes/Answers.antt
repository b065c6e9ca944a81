use Rattle.std.proofs.Common.{◌≡◌, ℕ, ◌+◌, ◌-◌, ◌<◌, List, [], ◌∷◌, ◌++◌, length, take, map, Some, slice_get, sym, ap, ◌∙◌, arith, append_assoc}
use Rattle.std.proofs.lemmas.List.{length-map, map_push}
use Rattle.std.proofs.lemmas.List.Elements.{All-push}
use Rattle.vkb_tool.specs.Words.{IsAttribute, attribute_word, items_of}
use Rattle.vkb_tool.proofs.WordsLemmas.{found_word, take_next}
use Rattle.vkb_tool.proofs.words.check.attributes.Goals as goal

pub returns-in_default-clause-wrong : goal.returns-in_default-clause-wrong
returns-in_default-clause-wrong c =
    let words = c.args.words.now in
    let at = c.loop-at.at in
    let word = c.index-words-at.result in
    let was = c.loop-at.invariant in
    let inside : at < length words = omega arith in
    let read : slice_get (items_of words) at ≡ Some word.items = found_word words at word inside c.index-words-at.is in
    let back : at + 1 - 1 ≡ at = omega arith in
    record {
      names = c.loop-at.names.items;
      names_are = was.names_are;
      before = rw back was.words_are;
      behind = omega arith;
      within = omega (arith, length-map words (λ w. w.items));
      here = λ name is e.
          let same : Some word.items ≡ Some (attribute_word name) = sym read ∙ ap (slice_get (items_of words)) (sym back) ∙ e in
          let items : word.items ≡ attribute_word name = cc in
          c.in_default.ensures.none name is (c.as_slice.ensures.value ∙ items);
    }

pub loop-at-preserved : goal.loop-at-preserved
loop-at-preserved c =
    let words = c.args.words.now in
    let at = c.loop-at.at in
    let word = c.index-words-at.result in
    let was = c.loop-at.invariant in
    let name = c.in-Some.name.now in
    let inside : at < length words = omega arith in
    let read : slice_get (items_of words) at ≡ Some word.items = found_word words at word inside c.index-words-at.is in
    let set = c.in-Some.ensures.set in
    let pushed : c.push.new.self.items ≡ c.loop-at.names.items ++ name ∷ [] = c.in_ok-push.ensures.items ∙ ap (λ (n : List ℕ). c.loop-at.names.items ++ n ∷ []) c.in_ok-from_slice.ensures in
    record {
      names_are = rw pushed (All-push IsAttribute c.loop-at.names.items name was.names_are set.0);
      words_are =
          take_next (items_of words) at word.items read
          ∙ ap (λ (ws : List (List ℕ)). ws ++ word.items ∷ []) was.words_are
          ∙ append_assoc (take c.args.from (items_of words)) (map attribute_word c.loop-at.names.items) (word.items ∷ [])
          ∙ ap (λ (w : List ℕ). take c.args.from (items_of words) ++ (map attribute_word c.loop-at.names.items ++ w ∷ [])) (sym c.as_slice.ensures.value ∙ set.1)
          ∙ ap (λ (ws : List (List ℕ)). take c.args.from (items_of words) ++ ws) (sym (map_push attribute_word c.loop-at.names.items name))
          ∙ ap (λ (ns : List (List ℕ)). take c.args.from (items_of words) ++ map attribute_word ns) (sym pushed);
    }
