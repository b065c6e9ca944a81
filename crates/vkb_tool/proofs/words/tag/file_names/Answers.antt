use Rattle.std.proofs.Common.{◌≡◌, ℕ, ◌+◌, ◌-◌, List, [], ◌∷◌, ◌++◌, take, Some, slice_get, sym, ap, ◌∙◌, subst, arith, append_assoc}
use Rattle.std.proofs.lemmas.List.{length-map}
use Rattle.std.proofs.lemmas.List.Elements.{All-push}
use Rattle.vkb_formula.specs.Names.{AreDifferent}
use Rattle.vkb_tool.specs.Reading.{IsNew}
use Rattle.vkb_tool.specs.Words.{IsFileName, items_of}
use Rattle.vkb_tool.proofs.TagWordsLemmas.{put_in}
use Rattle.vkb_tool.proofs.WordsLemmas.{take_next}
use Rattle.vkb_tool.proofs.words.tag.file_names.Goals as goal

pub returns-in_default-clause-wrong : goal.returns-in_default-clause-wrong
returns-in_default-clause-wrong c =
    let words = items_of c.args.words.now in
    let at = c.loop-at.at in
    let was = c.loop-at.invariant in
    let back : at + 1 - 1 ≡ at = omega arith in
    record {
      names = c.loop-at.names.items;
      named = was.named;
      different = was.different;
      before = rw back was.words_are;
      behind = omega arith;
      within = omega (arith, length-map c.args.words.now (λ w. w.items));
      here = λ name is.
          let there = subst (λ (n : ℕ). IsNew words c.loop-at.names.items n name) back is in
          c.in_default.ensures.none name (subst (λ (ns : List (List ℕ)). IsNew words ns at name) (sym was.seen_are) there);
    }

pub loop-at-preserved : goal.loop-at-preserved
loop-at-preserved c =
    let words = items_of c.args.words.now in
    let at = c.loop-at.at in
    let was = c.loop-at.invariant in
    let names = c.loop-at.names.items in
    let name = c.in-Some.name.now in
    let new = c.in-Some.ensures.new in
    let held = subst (λ (bytes : List ℕ). slice_get c.intern.new.self c.in_ok-intern.field-0 ≡ Some bytes) c.as_bytes.ensures.value c.in_ok-intern.ensures.held in
    let seen : c.intern.new.self ≡ c.loop-at.seen ++ name ∷ [] = put_in name c.loop-at.seen c.intern.new.self c.in_ok-intern.field-0 (rw (sym c.as_bytes.ensures.value) c.in_ok-intern.ensures.table) held new.1 in
    let all : c.intern.new.self ≡ names ++ name ∷ [] = seen ∙ ap (λ (ns : List (List ℕ)). ns ++ name ∷ []) was.seen_are in
    let pushed : c.push.new.self.items ≡ names ++ name ∷ [] = c.in_ok-push.ensures.items ∙ ap (λ (n : List ℕ). names ++ n ∷ []) (c.from_string.ensures ∙ c.in_ok-from_str.ensures.ok) in
    record {
      named = rw pushed (All-push IsFileName names name was.named new.0.1);
      different = rw pushed (subst AreDifferent all c.in_ok-intern.ensures.different);
      words_are =
          take_next words at name new.0.0
          ∙ ap (λ (ws : List (List ℕ)). ws ++ name ∷ []) was.words_are
          ∙ append_assoc (take 2 words) names (name ∷ [])
          ∙ ap (λ (ns : List (List ℕ)). take 2 words ++ ns) (sym pushed);
      seen_are = all ∙ sym pushed;
    }
