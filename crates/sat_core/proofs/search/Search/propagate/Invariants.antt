use Rattle.std.proofs.Common.{◌≡◌, ◌-◌, true}
use Rattle.sat_core.specs.Searching.{IsNotStruck}
use Rattle.sat_core.specs.Walking.{Grows}
use Rattle.sat_core.proofs.search.Search.propagate.Given as goal

-- what stands behind the trail was propagated
abbrev pub invariant-loop-self : goal.invariant-loop-self
invariant-loop-self l = record {
  grows : Grows l.fn.self l.self;
  begun : l.self.begun ≡ true;
  phase : IsNotStruck l.self.phase;
}

abbrev pub decreases-loop-self : goal.decreases-loop-self
decreases-loop-self l = l.self.vars - l.self.gone
