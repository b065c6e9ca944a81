use Rattle.std.proofs.Common.{◌++◌, List, ℕ, Bool, ap, ◌∙◌}
use Rattle.std.specs.List.{flat_map}
use Rattle.doc_tree.specs.Loaded.{flat_of}
use Rattle.doc_build.specs.Choices.{chosen_of}
use Rattle.vkb_tool.specs.Report.{broken_lines, with_line}
use Rattle.vkb_tool.proofs.report.report.Goals as goal

pub returns-in_ok-add_choice-in-No : goal.returns-in_ok-add_choice-in-No
returns-in_ok-add_choice-in-No c = λ whole.
    let free = c.args.options.now in
    let lines = flat_of whole c.args.document.now in
    let told = λ (id : List ℕ) (choice : List Bool). broken_lines lines c.in-No.place id c.in-No.count ++ flat_map with_line (chosen_of free choice) in
    rw c.in-No.is
    (c.in_ok-add_choice-in-No.ensures
    ∙ ap (λ (text : List ℕ). text ++ flat_map with_line (chosen_of free c.as_slice-in-No.result.now)) (c.in_ok-text-in-No.ensures whole)
    ∙ ap (λ (id : List ℕ). told id c.as_slice-in-No.result.now) c.as_slice.ensures
    ∙ ap (λ (choice : List Bool). told c.in-No.id choice) c.as_slice-in-No.ensures)
