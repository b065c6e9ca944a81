use Rattle.std.proofs.Common.{◌≡◌, ◌++◌, take}
use Rattle.std.specs.List.{flat_map}
use Rattle.doc_build.specs.Choices.{chosen_of}
use Rattle.vkb_tool.specs.Report.{with_line}
use Rattle.vkb_tool.proofs.report.add_choice.Given as goal

abbrev pub invariant-loop-option : goal.invariant-loop-option
invariant-loop-option l = l.text.items ≡ l.fn.text.items ++ flat_map with_line (chosen_of (take l.option l.options) (take l.option l.choice))
