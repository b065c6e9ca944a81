use Rattle.std.proofs.Common.{List, ◌++◌, length}
use Rattle.reg_reader.specs.Views.{elements_in}
use Rattle.reg_forms.specs.declared.forms.Declaration.{Declaration}
use Rattle.reg_forms.specs.EnumTypes.{AreNamesOf}
use Rattle.reg_forms.proofs.ReadingLemmas.{IsPartRead, rows_among}
use Rattle.reg_forms.proofs.enum_types.put_block.Given as goal

abbrev pub invariant-loop-next : goal.invariant-loop-next
invariant-loop-next l =
    (rows : List Declaration) → AreNamesOf rows l.initial.enums l.initial.others
    → IsPartRead (rows_among l.api l.ahead) (rows ++ rows_among l.api (elements_in l.block.content)) l.enums l.others

abbrev pub decreases-loop-next : goal.decreases-loop-next
decreases-loop-next l = length l.ahead
