use Rattle.std.proofs.Common.{None, drop}
use Rattle.std.specs.Option.{option_copied}
use Rattle.doc_build.specs.Counting.{lines_count}
use Rattle.doc_build.specs.Pages.{lines_given}
use Rattle.doc_build.proofs.CountLemmas.{Counts}
use Rattle.doc_build.proofs.counting.count_kept.Given as goal

-- the anchors so far, and those ahead, are all
abbrev pub invariant-loop-number : goal.invariant-loop-number
invariant-loop-number l =
    let pages = lines_given l.r l.c.chosen.items l.set in
    Counts l.count (lines_count pages l.text.bytes l.made l.id (option_copied l.page) l.number (drop l.number l.lines)) (lines_count pages l.text.bytes l.made l.id None 0 l.lines)
