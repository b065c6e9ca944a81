use Rattle.hdr_writer.proofs.ChainLemmas.{end-is}
use Rattle.hdr_writer.proofs.chains.end_at.Goals as goal

pub returns-clause-end : goal.returns-clause-end
returns-clause-end c = end-is c.args.r.now.rows c.args.id.0 c.follow.result c.follow.ensures.end
