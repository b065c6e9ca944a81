use Rattle.std.proofs.Common.{arith}
use Rattle.sat_cnf.proofs.ClauseLemmas.{length-cut_at}
use Rattle.sat_cnf.proofs.clauses.Clauses.len.Goals as goal

pub returns : goal.returns
returns c = rw (← c.self.view_is) (omega (arith, c.len.ensures, length-cut_at 0 c.self.inside.ends.items c.self.inside.literals.items))
