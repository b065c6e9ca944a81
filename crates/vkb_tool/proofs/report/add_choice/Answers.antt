use Rattle.std.proofs.Common.{◌≡◌, ◌<◌, ◌+◌, ℕ, Bool, true, false, cond, List, [], ◌∷◌, ◌++◌, length, take, get_or, codes, sym, ap, ◌∙◌, append_assoc}
use Rattle.std.specs.List.{flat_map}
use Rattle.std.proofs.lemmas.List.{append-nil, flat_map_more}
use Rattle.std.proofs.lemmas.Option.{get_or_from_slice_get}
use Rattle.doc_build.specs.Choices.{chosen_of}
use Rattle.vkb_tool.specs.Report.{with_line}
use Rattle.vkb_tool.proofs.ReportLemmas.{chosen_of_more}
use Rattle.vkb_tool.proofs.report.add_choice.Goals as goal
use Rattle.vkb_tool.proofs.report.add_choice.Goals.{then-chosen+in_ok-extend_from_slice+in_ok-extend_from_slice-2+in_ok-push, else-chosen}

-- a line is added for an option that is chosen
added : (text start name : List ℕ) (options : List (List ℕ)) (choice : List Bool) (k : ℕ) → length choice ≡ length options → k < length choice → get_or choice k false ≡ true → get_or options k [] ≡ name
    → text ≡ start ++ flat_map with_line (chosen_of (take k options) (take k choice))
    → text ++ codes "with " ++ name ++ 10 ∷ [] ≡ start ++ flat_map with_line (chosen_of (take (k + 1) options) (take (k + 1) choice))
added text start name options choice k same below chosen named so_far =
    let before = chosen_of (take k options) (take k choice) in
    let more = chosen_of_more options choice k same below ∙ ap (λ (b : Bool). before ++ cond b (get_or options k [] ∷ []) []) chosen ∙ ap (λ (n : List ℕ). before ++ n ∷ []) named in
    let grouped : text ++ codes "with " ++ name ++ 10 ∷ [] ≡ text ++ with_line name = simp append_assoc in
    grouped ∙ ap (λ (t : List ℕ). t ++ with_line name) so_far ∙ flat_map_more with_line start before name ∙ ap (λ (ns : List (List ℕ)). start ++ flat_map with_line ns) (sym more)

-- nothing is added for another
passed : (text start : List ℕ) (options : List (List ℕ)) (choice : List Bool) (k : ℕ) → length choice ≡ length options → k < length choice → get_or choice k false ≡ false
    → text ≡ start ++ flat_map with_line (chosen_of (take k options) (take k choice)) → text ≡ start ++ flat_map with_line (chosen_of (take (k + 1) options) (take (k + 1) choice))
passed text start options choice k same below unchosen so_far =
    let before = chosen_of (take k options) (take k choice) in
    let more = chosen_of_more options choice k same below ∙ ap (λ (b : Bool). before ++ cond b (get_or options k [] ∷ []) []) unchosen ∙ append-nil before in
    so_far ∙ ap (λ (ns : List (List ℕ)). start ++ flat_map with_line ns) (sym more)

pub loop-option-preserved : goal.loop-option-preserved
loop-option-preserved c =
    let options = c.args.options.now in
    let choice = c.args.choice.now in
    let start = c.args.text.now.items in
    let k = c.loop-option.option in
    elim c.if-chosen.branch [
      | then-chosen+in_ok-extend_from_slice+in_ok-extend_from_slice-2+in_ok-push w ↦
          let name = w.name.result.now in
          let named : get_or options k [] ≡ name = get_or_from_slice_get options k name [] w.name.ensures.held in
          let first = w.in_ok-extend_from_slice.ensures.items in
          let second = w.in_ok-extend_from_slice-2.ensures.items in
          let third = w.in_ok-push.ensures.items in
          let all : c.if-chosen.text.items ≡ c.loop-option.text.items ++ codes "with " ++ name ++ 10 ∷ [] = ap (λ v. v.items) w.text-is ∙ third ∙ ap (λ (t : List ℕ). t ++ 10 ∷ []) (second ∙ ap (λ (t : List ℕ). t ++ name) first) in
          all ∙ added c.loop-option.text.items start name options choice k c.requires.whole c.loop-option-test.true w.if-chosen.true named c.loop-option.invariant
      | else-chosen w ↦ ap (λ v. v.items) w.text-is ∙ passed c.loop-option.text.items start options choice k c.requires.whole c.loop-option-test.true w.if-chosen.false c.loop-option.invariant
    ]
