use Rattle.std.proofs.Common.{length, ◌↔◌}
use Rattle.std.specs.List.{AllByRecursion}
use Rattle.doc_cond.specs.Lines.{IsPart}
use Rattle.doc_cond.proofs.Pieces.{pieces}
use Rattle.doc_cond.proofs.paths.is_path.Given as goal

abbrev pub invariant-loop-part : goal.invariant-loop-part
invariant-loop-part l = AllByRecursion IsPart (pieces 47 l.rest) ↔ AllByRecursion IsPart (pieces 47 l.text)

abbrev pub decreases-loop-part : goal.decreases-loop-part
decreases-loop-part l = length l.rest
