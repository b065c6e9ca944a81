use Rattle.reg_tables.proofs.ReadingLemmas.{read-as}
use Rattle.reg_tables.proofs.bits.words_of_text.Goals as goal

pub returns-in-Ok : goal.returns-in-Ok
returns-in-Ok c =
    let read = c.in-Ok.ensures.read in
    read-as c.args.text.now c.in-Ok.places.items c.from_vec.result read.0 c.from_vec.ensures read.2 read.1 (c.in-Ok.ensures.names read.0 read.1) c.in-Ok.ensures.within
