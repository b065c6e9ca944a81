use Rattle.std.proofs.Common.{◌≡◌, true, take}
use Rattle.doc_cond.specs.Lines.{lacks}
use Rattle.doc_cond.proofs.spans.cut.Given as goal

abbrev pub invariant-loop-place : goal.invariant-loop-place
invariant-loop-place l = lacks (take l.place l.text) l.byte ≡ true
