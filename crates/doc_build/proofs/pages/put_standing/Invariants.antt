use Rattle.std.proofs.Common.{◌≡◌, ◌+◌, ◌++◌, drop, map}
use Rattle.doc_build.specs.Pieces.{page_piece}
use Rattle.doc_build.proofs.UsageLemmas.{standing_from}
use Rattle.doc_build.proofs.pages.put_standing.Given as goal

-- the statements so far, and those ahead, are all
abbrev pub invariant-loop-place : goal.invariant-loop-place
invariant-loop-place l =
    l.pieces.items ++ map (page_piece l.number) (standing_from l.set (l.place + 1) (drop l.place l.all))
    ≡ l.fn.pieces.items ++ map (page_piece l.number) (standing_from l.set 1 l.all)
