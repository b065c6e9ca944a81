use Rattle.std.proofs.Common.{◌≡◌}
use Rattle.sat_core.specs.Searching.{IsNotStruck}
use Rattle.sat_core.proofs.tests.solving.decide_all.Given as goal

abbrev pub invariant-loop-variable : goal.invariant-loop-variable
invariant-loop-variable l = (l.search.vars ≡ 42) × IsNotStruck l.search.phase
