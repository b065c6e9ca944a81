use Rattle.std.proofs.Common.{◌≡◌, ◌++◌, take}
use Rattle.std.specs.List.{flat_map}
use Rattle.reg_tables.specs.Bits.{Readings}
use Rattle.reg_tables.specs.Words.{AreReadings, words_in}
use Rattle.reg_tables.specs.Wrong.{bad_text}
use Rattle.reg_tables.proofs.bits.put_bad_texts.Given as goal

abbrev pub invariant-loop-at : goal.invariant-loop-at
invariant-loop-at l =
    (readings : Readings) → AreReadings l.forms readings → l.words ≡ words_in readings → l.faults.items ≡ l.initial.faults.items ++ flat_map bad_text (take l.at readings)
