use Rattle.sat_proof.proofs.SoundLemmas.{refutation-sound}
use Rattle.sat_proof.proofs.a_refutation_leaves_no_model.Goals as goal

pub returns : goal.returns
returns c = refutation-sound
