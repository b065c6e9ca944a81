use Rattle.std.proofs.Common.{◌+◌, length}
use Rattle.std.specs.Option.{option_map_or}
use Rattle.doc_tree.specs.Loaded.{IsBefore}
use Rattle.lift_survey.specs.Keeping.{Covers}
use Rattle.lift_survey.proofs.pages.is_at_or_round.Given as goal

-- where the walk is covers what it began at
abbrev pub invariant-loop-at : goal.invariant-loop-at
invariant-loop-at l = IsBefore (length l.conds) l.at × Covers l.conds l.at l.fn.inner

abbrev pub decreases-loop-at : goal.decreases-loop-at
decreases-loop-at l = option_map_or (λ c. c.0 + 1) l.at 0
