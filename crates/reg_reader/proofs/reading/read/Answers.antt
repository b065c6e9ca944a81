use Rattle.std.proofs.Common.{arith}
use Rattle.reg_reader.proofs.Running.{run-within, stopped, ended}
use Rattle.reg_reader.proofs.reading.read.Goals as goal

pub step-requires-clause-places : goal.step-requires-clause-places
step-requires-clause-places c = run-within 32 c.args.bytes.now c.loop-n.n _ (omega arith) c.loop-n.invariant.at

pub returns-in-Err : goal.returns-in-Err
returns-in-Err c = stopped c.args.bytes.now c.loop-n.n _ _ c.in-Err.stop c.fault_at.result (omega arith) c.loop-n.invariant.at c.in-Err.ensures c.fault_at.ensures

pub returns : goal.returns
returns c = ended c.args.bytes.now c.loop-n.n _ c.finish.result (omega arith) c.loop-n.invariant.at c.finish.ensures
