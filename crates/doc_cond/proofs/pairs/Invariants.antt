use Rattle.doc_cond.specs.Progress.{Nests}
use Rattle.doc_cond.proofs.pairs.Given as goal

abbrev pub invariant-loop-line : goal.invariant-loop-line
invariant-loop-line l = Nests l.kinds l.line l.nest.pairs.items l.nest.waiting.items
