use Rattle.std.proofs.Common.{◌≡◌, min, take}
use Rattle.std.specs.Option.{option_copied}
use Rattle.doc_build.specs.Counting.{most, pieces_count}
use Rattle.doc_build.proofs.counting.count_in.Given as goal

-- the lines so far are counted
abbrev pub invariant-loop-piece : goal.invariant-loop-piece
invariant-loop-piece l = l.count ≡ min (pieces_count (option_copied l.page) l.id (take l.piece-index l.pieces)) most
