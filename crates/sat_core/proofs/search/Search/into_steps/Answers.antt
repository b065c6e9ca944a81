use Rattle.std.proofs.Common.{subst}
use Rattle.sat_proof.specs.Refutations.{AreGood, AreWithin}
use Rattle.sat_core.specs.Searching.{State}
use Rattle.sat_core.proofs.search.Search.into_steps.Goals as goal

pub returns-clause-good : goal.returns-clause-good
returns-clause-good c = subst (λ (s : State). AreGood s.clauses s.steps) c.self.view_is c.self.invariant.1.good

pub returns-clause-within : goal.returns-clause-within
returns-clause-within c = subst (λ (s : State). AreWithin s.vars s.steps) c.self.view_is c.self.invariant.1.steps_within
