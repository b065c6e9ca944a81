use Rattle.reg_reader.proofs.PlaceLemmas.{places-rise}
use Rattle.reg_reader.proofs.laws.places_rise.Goals as goal

pub returns : goal.returns
returns c = places-rise
