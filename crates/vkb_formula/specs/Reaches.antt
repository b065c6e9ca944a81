-- What the nodes of a pool reach, from both sides, and what their values are by their parts: the laws of pools.
use Rattle.std.specs.Prelude.{◌≡◌, ℕ, ◌≤◌, Bool, true, false, ◌||◌, ◌==◌, List, length, ◌<◌, [], ◌∷◌, Some, slice_get, slice_index_or, All}
use Rattle.std.specs.List.{list_any}
use Rattle.vkb_formula.specs.declared.pool.PoolNode.{PoolNode}
use Rattle.vkb_formula.specs.Pools.{parts_of, IsPool, reaches, reaches_any, sum_where, sum_reached, sum_reached_any, pool_values, value_at, reach_at, pool_reach}

-- with each node in a set of places its parts are in it
abbrev pub IsClosed : List PoolNode → (ℕ → Bool) → Type 0
IsClosed nodes kept = (place : ℕ) (node : PoolNode) → slice_get nodes place ≡ Some node → kept place ≡ true
    → All (λ part. kept part ≡ true) (parts_of node)

-- a node reaches itself and what its parts reach, and nothing else
abbrev pub ReachIsByParts : Type 0
ReachIsByParts = (nodes : List PoolNode) (root : ℕ) (node : PoolNode) → IsPool nodes → slice_get nodes root ≡ Some node → (place : ℕ)
    → reaches nodes root place ≡ (place == root || list_any (λ part. reaches nodes part place) (parts_of node))

-- no node reaches one behind it
abbrev pub ReachIsDown : Type 0
ReachIsDown = (nodes : List PoolNode) (root place : ℕ) → IsPool nodes → reaches nodes root place ≡ true → place ≤ root

-- what some nodes reach has them, and with each node its parts
abbrev pub ReachHasRoots : Type 0
ReachHasRoots = (nodes : List PoolNode) (roots : List ℕ) → IsPool nodes → All (λ root. root < length nodes) roots
    → All (λ root. reaches_any nodes roots root ≡ true) roots

abbrev pub ReachIsClosed : Type 0
ReachIsClosed = (nodes : List PoolNode) (roots : List ℕ) → IsPool nodes → IsClosed nodes (reaches_any nodes roots)

-- each set that has them, and with each node its parts, has what they reach
abbrev pub ReachIsLeast : Type 0
ReachIsLeast = (nodes : List PoolNode) (roots : List ℕ) (kept : ℕ → Bool) → IsPool nodes → All (λ root. kept root ≡ true) roots → IsClosed nodes kept
    → (place : ℕ) → reaches_any nodes roots place ≡ true → kept place ≡ true

-- so the sum over what is reached is at most the sum over such a set
abbrev pub SumIsLeast : Type 0
SumIsLeast = (weigh : PoolNode → ℕ) (nodes : List PoolNode) (roots : List ℕ) (kept : ℕ → Bool) → IsPool nodes → All (λ root. kept root ≡ true) roots
    → IsClosed nodes kept → sum_reached_any weigh nodes roots ≤ sum_where weigh kept 0 nodes

-- and it is that sum where all in the set is reached
abbrev pub SumIsExact : Type 0
SumIsExact = (weigh : PoolNode → ℕ) (nodes : List PoolNode) (roots : List ℕ) (kept : ℕ → Bool) → IsPool nodes → All (λ root. kept root ≡ true) roots
    → IsClosed nodes kept → ((place : ℕ) → kept place ≡ true → reaches_any nodes roots place ≡ true)
    → sum_reached_any weigh nodes roots ≡ sum_where weigh kept 0 nodes

-- one root is a list of one
abbrev pub OneRoot : Type 0
OneRoot = (weigh : PoolNode → ℕ) (nodes : List PoolNode) (root : ℕ) → sum_reached_any weigh nodes (root ∷ []) ≡ sum_reached weigh nodes root

-- a node has the value that the values of its parts give it
abbrev pub ValuesAreByParts : Type 0
ValuesAreByParts = (set : List Bool) (nodes : List PoolNode) (place : ℕ) (node : PoolNode) → IsPool nodes → slice_get nodes place ≡ Some node
    → slice_index_or (pool_values set nodes) place false ≡ value_at set (pool_values set nodes) node

-- a variable lies within the pool's reach
abbrev pub ReachIsGreatest : Type 0
ReachIsGreatest = (nodes : List PoolNode) (place : ℕ) (node : PoolNode) → slice_get nodes place ≡ Some node → reach_at node ≤ pool_reach nodes
