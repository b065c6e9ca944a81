use Rattle.std.proofs.Common.{take, map}
use Rattle.std.specs.List.{AllZip}
use Rattle.vkb_text.specs.Spans.{slice_at}
use Rattle.doc_tree.specs.Opening.{IsSure}
use Rattle.doc_tree.proofs.source.read_kinds.Given as goal

abbrev pub invariant-loop-line : goal.invariant-loop-line
invariant-loop-line l = AllZip IsSure (map (λ line. slice_at l.text.bytes line.span) (take l.line-index l.lines)) l.kinds.items
