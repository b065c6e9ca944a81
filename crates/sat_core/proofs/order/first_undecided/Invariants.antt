use Rattle.std.proofs.Common.{◌*◌, ◌<◌}
use Rattle.sat_cnf.specs.declared.lit.Lit.{Lit}
use Rattle.sat_proof.specs.Propagation.{IsUndecided}
use Rattle.sat_core.specs.Trails.{lits_of}
use Rattle.sat_core.proofs.order.first_undecided.Given as goal

abbrev pub invariant-loop-variable : goal.invariant-loop-variable
invariant-loop-variable l = (lit : Lit) → lit.0 < 2 * l.variable → ¬ IsUndecided (lits_of l.search.trail) lit
