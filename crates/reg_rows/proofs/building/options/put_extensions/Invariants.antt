use Rattle.std.proofs.Common.{◌≡◌, ◌++◌, filter, is_none, map, take}
use Rattle.reg_tables.specs.Bits.{Readings}
use Rattle.reg_tables.specs.Words.{AreReadings}
use Rattle.reg_rows.specs.Rows.{option_row}
use Rattle.reg_rows.proofs.building.options.put_extensions.Given as goal

abbrev pub invariant-loop-option : goal.invariant-loop-option
invariant-loop-option l =
    (readings : Readings) → AreReadings l.forms readings
    → l.rows.items ≡ l.initial.rows.items ++ map (option_row l.options readings) (filter (λ o. is_none o.version) (take l.option-index l.forms.options))
