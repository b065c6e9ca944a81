use Rattle.reg_reader.proofs.Running.{found}
use Rattle.reg_reader.proofs.Contract.{only, spelled, bad, deep, stops, deeps}
use Rattle.reg_reader.proofs.read_markup.Goals as goal

pub returns : goal.returns
returns c = record {
  found = found c.args.bytes.now c.read.result c.read.ensures;
  only = only c.args.bytes.now c.read.result c.read.ensures;
  spelled = spelled c.args.bytes.now c.read.result c.read.ensures;
  bad = bad c.args.bytes.now c.read.result c.read.ensures;
  deep = deep c.args.bytes.now c.read.result c.read.ensures;
  stops = stops c.args.bytes.now c.read.result c.read.ensures;
  too_deep = deeps c.args.bytes.now c.read.result c.read.ensures;
}
