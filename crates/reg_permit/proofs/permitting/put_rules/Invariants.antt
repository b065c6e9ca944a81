use Rattle.std.proofs.Common.{◌≤◌, length}
use Rattle.std.specs.Prelude.{max}
use Rattle.vkb_formula.specs.Pools.{Extends, pool_reach}
use Rattle.reg_closure.specs.Presence.{KeepBounds, SayPresence}
use Rattle.reg_permit.specs.Nodes.{SayRules}
use Rattle.reg_permit.proofs.permitting.put_rules.Given as goal

-- the rules of the options so far
abbrev pub invariant-loop-place : goal.invariant-loop-place
invariant-loop-place l = record {
  before : Extends l.fn.pool l.pool;
  reach : pool_reach l.pool ≤ max (pool_reach l.fn.pool) (length l.r.options);
  presence : SayPresence l.r l.pool l.here;
  bounds : KeepBounds l.r l.pool l.here;
  rules : SayRules l.r l.pool l.place l.rules.items;
}
