use Rattle.std.proofs.Common.{length}
use Rattle.reg_reader.specs.Views.{elements_in}
use Rattle.reg_forms.proofs.ReadingLemmas.{IsPartRead, rows_among_blocks}
use Rattle.reg_forms.proofs.enum_types.enum_types.Given as goal

abbrev pub invariant-loop-next : goal.invariant-loop-next
invariant-loop-next l =
    IsPartRead (rows_among_blocks l.api l.ahead) (rows_among_blocks l.api (elements_in l.root.content)) l.enums l.others

abbrev pub decreases-loop-next : goal.decreases-loop-next
decreases-loop-next l = length l.ahead
