-- The numbers of the statuses.
use Rattle.std.specs.Prelude.{ℕ}
use Rattle.vkb_tool.specs.declared.status.Status.{Status}
use Rattle.vkb_tool.specs.declared.status.Status.TheVariants.{Done, Broken, Usage, Refused, ReadFault, WriteFault, Memory}

-- the exit status of the program
abbrev pub number_of : Status → ℕ
number_of Done = 0
number_of Broken = 1
number_of Usage = 2
number_of Refused = 3
number_of ReadFault = 4
number_of WriteFault = 5
number_of Memory = 6
