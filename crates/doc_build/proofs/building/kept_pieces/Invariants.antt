use Rattle.std.proofs.Common.{◌≡◌, ◌++◌, drop}
use Rattle.doc_build.specs.Lines.{pieces_kept}
use Rattle.doc_build.specs.Pages.{lines_given}
use Rattle.doc_build.proofs.LinesLemmas.{kept_from}
use Rattle.doc_build.proofs.building.kept_pieces.Given as goal

-- what the lines so far give, and those ahead, is all
abbrev pub invariant-loop-number : goal.invariant-loop-number
invariant-loop-number l =
    let pages = lines_given l.r l.c.chosen.items l.set in
    l.pieces.items ++ kept_from pages l.text.bytes l.made l.number (drop l.number l.lines) ≡ pieces_kept pages l.text.bytes l.made l.lines
