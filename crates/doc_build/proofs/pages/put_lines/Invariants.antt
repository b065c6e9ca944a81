use Rattle.std.proofs.Common.{◌≡◌, ◌+◌, ◌-◌, ◌≤◌, ◌++◌, drop, length, map}
use Rattle.vkb_text.specs.Lines.{lines_of}
use Rattle.doc_build.specs.Pages.{silent_line}
use Rattle.doc_build.specs.Pieces.{page_piece}
use Rattle.doc_build.proofs.pages.put_lines.Given as goal

abbrev pub decreases-loop-start : goal.decreases-loop-start
decreases-loop-start l = length l.text - l.start

-- the lines so far, and those ahead, are all
abbrev pub invariant-loop-start : goal.invariant-loop-start
invariant-loop-start l =
    (l.start ≤ length l.text + 1)
    × (l.pieces.items ++ map (page_piece l.number) (map silent_line (lines_of (drop l.start l.text)))
    ≡ l.fn.pieces.items ++ map (page_piece l.number) (map silent_line (lines_of l.text)))
