-- Nodes of a pool that tell which names a registry declares at each choice and which choices it permits, which no public contract names.
use Rattle.std.specs.Prelude.{◌≡◌, ◌<◌, ◌≤◌, List, length, max}
use Rattle.vkb_formula.specs.Pools.{pool_reach, pool_values}
use Rattle.vkb_formula.specs.declared.pool.NodeId.{NodeId}
use Rattle.vkb_formula.specs.declared.pool.PoolNode.{PoolNode}
use Rattle.reg_registry.specs.Rows.{Rows}
use Rattle.reg_closure.specs.Presence.{SayPresence}
use Rattle.reg_permit.specs.Size.{SaysPermitted}
use Rattle.doc_build.specs.Choices.{Choice}
use Rattle.lift_check.specs.Keeping.{is_on}
use Rattle.lift_check.specs.declared.permits.RegistryNodes.{RegistryNodes}

-- such nodes, behind others that keep their values
pub record AreOfRegistry (r : Rows) (old new : List PoolNode) (nodes : RegistryNodes) : Type 0 where
  pub count : length old ≤ length new
  pub reach : pool_reach new ≤ max (pool_reach old) (length r.options)
  pub kept : (choice : Choice) (node : NodeId) → node.0 < length old → is_on (pool_values choice new) node ≡ is_on (pool_values choice old) node
  pub names : SayPresence r new nodes.names.items
  pub permit : nodes.permit.0 < length new
  pub permitted : (choice : Choice) → length choice ≡ length r.options → SaysPermitted r new nodes.permit choice
