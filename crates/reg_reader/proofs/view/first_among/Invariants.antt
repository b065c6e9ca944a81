use Rattle.std.proofs.Common.{◌≡◌, drop}
use Rattle.reg_reader.specs.Views.{elements_in}
use Rattle.reg_reader.specs.Shown.{content_of}
use Rattle.reg_reader.proofs.view.first_among.Given as goal

-- no node so far is an element
abbrev pub invariant-loop-at : goal.invariant-loop-at
invariant-loop-at l = elements_in (content_of l.bytes (drop l.at l.nodes)) ≡ elements_in (content_of l.bytes l.nodes)
