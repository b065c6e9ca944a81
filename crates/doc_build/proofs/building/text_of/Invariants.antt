use Rattle.std.proofs.Common.{◌≡◌, take}
use Rattle.doc_build.specs.Built.{text_of}
use Rattle.doc_build.proofs.building.text_of.Given as goal

-- the lines so far are put
abbrev pub invariant-loop-piece : goal.invariant-loop-piece
invariant-loop-piece l = l.bytes.items ≡ text_of (take l.piece-index l.pieces)
