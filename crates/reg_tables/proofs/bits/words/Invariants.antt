use Rattle.std.proofs.Common.{take}
use Rattle.reg_tables.proofs.ReadingLemmas.{AreReadSo}
use Rattle.reg_tables.proofs.bits.words.Given as goal

abbrev pub invariant-loop-text : goal.invariant-loop-text
invariant-loop-text l = AreReadSo (take l.text-index l.text-items) l.words.items
