use Rattle.std.proofs.Common.{◌≡◌, ◌++◌, take, drop}
use Rattle.reg_reader.specs.Views.{text_in, text_before}
use Rattle.reg_reader.specs.Shown.{content_of}
use Rattle.reg_reader.proofs.view.nodes_before.Given as goal

-- no node so far is an element of the name
abbrev pub invariant-loop-at : goal.invariant-loop-at
invariant-loop-at l =
    text_in (content_of l.bytes (take l.at l.nodes)) ++ text_before l.name (content_of l.bytes (drop l.at l.nodes)) ≡ text_before l.name (content_of l.bytes l.nodes)
