use Rattle.std.proofs.Common.{◌≡◌, ◌≤◌, ◌-◌, drop, length}
use Rattle.vu_tags.specs.Tagged.{parameter_of}
use Rattle.vu_tags.proofs.pieces.parameter_of.Given as goal

-- the places that were passed begin no parameter
abbrev pub invariant-loop-step : goal.invariant-loop-step
invariant-loop-step l = record {
  in_text : l.at ≤ length l.statement;
  same : parameter_of (drop l.at l.statement) ≡ parameter_of l.statement;
}

abbrev pub decreases-loop-step : goal.decreases-loop-step
decreases-loop-step l = length l.statement - l.at
