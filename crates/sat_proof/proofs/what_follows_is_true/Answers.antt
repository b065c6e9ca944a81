use Rattle.sat_proof.proofs.SoundLemmas.{good-true, unit-true}
use Rattle.sat_proof.proofs.what_follows_is_true.Goals as goal

pub returns-clause-units : goal.returns-clause-units
returns-clause-units c = unit-true

pub returns-clause-steps : goal.returns-clause-steps
returns-clause-steps c = good-true
