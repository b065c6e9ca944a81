use Rattle.std.proofs.Common.{◌≡◌}
use Rattle.sat_core.specs.Asking.{Leads}
use Rattle.sat_core.specs.Searching.{IsNotStruck}
use Rattle.sat_core.specs.Solving.{ahead, cnf_of}
use Rattle.sat_core.proofs.asking.answer.Given as goal

abbrev pub invariant-loop-conflict : goal.invariant-loop-conflict
invariant-loop-conflict l = (cnf_of l.search ≡ cnf_of l.fn.search) × IsNotStruck l.search.phase × Leads l.lit l.search.trail

abbrev pub decreases-loop-conflict : goal.decreases-loop-conflict
decreases-loop-conflict l = ahead l.vars l.runs.left l.search.trail
