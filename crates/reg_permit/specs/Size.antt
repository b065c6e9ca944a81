-- A node that says at which choices of a registry's options the choice is permitted, and how large what it reaches is.
use Rattle.std.specs.Prelude.{◌≡◌, ℕ, ◌+◌, ◌*◌, ◌<◌, ◌≤◌, Bool, true, false, List, length, sum_by, slice_index_or, is_some, ◌||◌, if◌then◌else◌}
use Rattle.std.specs.Option.{option_map_or}
use Rattle.vkb_formula.specs.Pools.{node_clauses, pool_values, sum_reached}
use Rattle.vkb_formula.specs.declared.pool.NodeId.{NodeId}
use Rattle.vkb_formula.specs.declared.pool.PoolNode.{PoolNode}
use Rattle.reg_registry.specs.Depends.{words_of}
use Rattle.reg_registry.specs.Rows.{Rows}
use Rattle.reg_registry.specs.declared.registry.OptionRow.{OptionRow}
use Rattle.reg_closure.specs.Presence.{AreOrigins, name_weight}
use Rattle.reg_permit.specs.Permitted.{IsPermitted}

-- the node is true at a choice exactly where the choice is permitted
pub record SaysPermitted (r : Rows) (nodes : List PoolNode) (id : NodeId) (chosen : List Bool) : Type 0 where
  pub only : slice_index_or (pool_values chosen nodes) id.0 false ≡ true → IsPermitted r chosen
  pub all : IsPermitted r chosen → slice_index_or (pool_values chosen nodes) id.0 false ≡ true

-- how many words an extension depends on; a feature and a bit depend on none
abbrev pub asked_words : OptionRow → ℕ
asked_words o = if is_some o.version || is_some o.bit then 0 else words_of o.depends

-- what the struct of a bit weighs, where these are the origins of each name
abbrev pub struct_weight : Rows → (ℕ → List ℕ) → OptionRow → ℕ
struct_weight r origins o = option_map_or (λ bit. name_weight r (origins bit.0.0)) o.bit 0

-- for each name its origins
abbrev pub AreOriginsOfEach : Rows → (ℕ → List ℕ) → Type 0
AreOriginsOfEach r origins = (place : ℕ) → place < length r.names → AreOrigins r place (origins place)

-- The clauses into which the node is put are at most one, four for each option and for each word that an extension depends on, and seven times
-- what the structs of the bits weigh.
abbrev pub KeepsSize : Rows → List PoolNode → NodeId → Type 0
KeepsSize r nodes id =
    (origins : ℕ → List ℕ) → AreOriginsOfEach r origins
    → sum_reached node_clauses nodes id.0
    ≤ 4 * length r.options + 4 * sum_by asked_words r.option_rows + 7 * sum_by (struct_weight r origins) r.option_rows + 1
