use Rattle.std.proofs.Common.{All, subst}
use Rattle.sat_cnf.specs.Clauses.{IsWithin}
use Rattle.sat_core.specs.Searching.{State}
use Rattle.sat_core.proofs.solving.literals_are_within.Goals as goal

pub returns : goal.returns
returns c =
    let P : State → Type 0 = λ s. All (All (IsWithin s.vars)) s.clauses in
    subst P c.search.view_is c.search.invariant.1.clauses_within
