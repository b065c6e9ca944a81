use Rattle.hdr_writer.proofs.ChainLemmas.{end-is}
use Rattle.hdr_writer.proofs.chains.end_from.Goals as goal

pub returns-clause-end : goal.returns-clause-end
returns-clause-end c = end-is c.args.r.now.rows c.args.id.0 c.next_end-end.result c.next_end-end.ensures.end
