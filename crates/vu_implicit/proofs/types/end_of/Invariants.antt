use Rattle.std.proofs.Common.{◌≡◌, ◌-◌, ◌<◌, length}
use Rattle.vu_implicit.specs.Types.{end_of, end_within}
use Rattle.vu_implicit.proofs.types.end_of.Given as goal

-- what is left of the chain leads to its end
abbrev pub invariant-loop-step : goal.invariant-loop-step
invariant-loop-step l = record {
  held : l.end.0 < length l.r.names;
  ahead : end_within (length l.r.rows - l.step) l.r.rows l.end ≡ end_of l.r.rows l.fn.name;
}
