use Rattle.std.proofs.Common.{◌<◌, length}
use Rattle.hdr_writer.proofs.ChainLemmas.{IsBehind}
use Rattle.hdr_writer.proofs.chains.follow.Given as goal

abbrev pub invariant-loop-steps : goal.invariant-loop-steps
invariant-loop-steps l = record {
  behind : IsBehind l.r.rows l.fn.id.0 l.place.0 l.steps;
  held : l.place.0 < length l.r.names;
}
