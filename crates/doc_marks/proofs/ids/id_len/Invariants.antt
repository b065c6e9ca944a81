use Rattle.std.proofs.Common.{◌≡◌, ◌+◌, ◌-◌, ◌≤◌, length}
use Rattle.doc_marks.specs.Ids.{id_len}
use Rattle.doc_marks.proofs.IdLemmas.{id_rest}
use Rattle.doc_marks.proofs.ids.id_len.Given as goal

-- the id is what was passed, the piece at hand and what follows that
abbrev pub invariant-loop-piece : goal.invariant-loop-piece
invariant-loop-piece l = record {
  in_range : l.len + l.piece ≤ length l.bytes;
  counted : l.len + id_rest l.bytes l.len l.piece ≡ id_len l.bytes;
}

abbrev pub decreases-loop-piece : goal.decreases-loop-piece
decreases-loop-piece l = length l.bytes - l.len
