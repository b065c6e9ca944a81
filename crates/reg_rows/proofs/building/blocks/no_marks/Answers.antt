use Rattle.std.proofs.Common.{rules}
use Rattle.reg_rows.proofs.building.blocks.no_marks.Goals as goal

pub returns : goal.returns
returns c = c.in_ok-vec.ensures.items_if_clones_equal (λ y e. search rules)
