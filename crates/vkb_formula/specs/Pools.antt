-- Pools of shared formulas: lists of nodes that name their parts by place.
use Rattle.std.specs.Prelude.{◌≡◌, ℕ, ◌+◌, ◌<◌, Bool, true, false, not, ◌||◌, ◌==◌, List, [], ◌∷◌, ◌++◌, length, map, Some, slice_get, slice_index_or, sum_by, All, if◌then◌else◌}
use Rattle.std.specs.List.{list_all, list_any}
use Rattle.vkb_formula.specs.Formulas.{greatest, value_of}
use Rattle.vkb_formula.specs.declared.formula.Formula.{Formula}
use Rattle.vkb_formula.specs.declared.formula.Formula.TheVariants as formula
use Rattle.vkb_formula.specs.declared.pool.PoolNode.{PoolNode}
use Rattle.vkb_formula.specs.declared.pool.PoolNode.TheVariants as node

-- the places of a node's parts, in order
abbrev pub parts_of : PoolNode → List ℕ
parts_of node.Always = []
parts_of node.Never = []
parts_of (node.Var variable) = []
parts_of (node.Not part) = part.0 ∷ []
parts_of (node.All parts) = map (λ part. part.0) parts
parts_of (node.Any parts) = map (λ part. part.0) parts

-- the parts of each node stand before it
abbrev pub IsPool : List PoolNode → Type 0
IsPool nodes = (place : ℕ) (node : PoolNode) → slice_get nodes place ≡ Some node → All (λ part. part < place) (parts_of node)

-- new has the nodes of old, and then others
abbrev pub Extends : List PoolNode → List PoolNode → Type 0
Extends old new = (more : List PoolNode) × (new ≡ old ++ more)

-- what is made of each node in order, from what was made of the nodes before it
abbrev pub made_from : {A : Type 0} → (List A → PoolNode → A) → List A → List PoolNode → List A
made_from make made [] = made
made_from make made (first ∷ nodes) = made_from make (made ++ make made first ∷ []) nodes

-- a node with the formulas of its parts in their place
abbrev pub formula_at : List Formula → PoolNode → Formula
formula_at made node.Always = formula.Always
formula_at made node.Never = formula.Never
formula_at made (node.Var variable) = formula.Var variable
formula_at made (node.Not part) = formula.Not (slice_index_or made part.0 formula.Never)
formula_at made (node.All parts) = formula.All (map (λ part. slice_index_or made part.0 formula.Never) parts)
formula_at made (node.Any parts) = formula.Any (map (λ part. slice_index_or made part.0 formula.Never) parts)

-- the formula of each node, with every part unfolded
abbrev pub unfolded : List PoolNode → List Formula
unfolded nodes = made_from formula_at [] nodes

-- the value of each node at a set
abbrev pub pool_values : List Bool → List PoolNode → List Bool
pool_values set nodes = map (value_of set) (unfolded nodes)

-- the value of a node at a set, from the values of the nodes before it
abbrev pub value_at : List Bool → List Bool → PoolNode → Bool
value_at set values node.Always = true
value_at set values node.Never = false
value_at set values (node.Var variable) = slice_index_or set variable false
value_at set values (node.Not part) = not (slice_index_or values part.0 false)
value_at set values (node.All parts) = list_all (λ part. slice_index_or values part.0 false) parts
value_at set values (node.Any parts) = list_any (λ part. slice_index_or values part.0 false) parts

-- a node and an entry for each of its parts
abbrev pub entries_of : PoolNode → ℕ
entries_of node = 1 + length (parts_of node)

-- the number of nodes and that of the entries of their parts
abbrev pub pool_size : List PoolNode → ℕ
pool_size nodes = sum_by entries_of nodes

abbrev pub reach_at : PoolNode → ℕ
reach_at node.Always = 0
reach_at node.Never = 0
reach_at (node.Var variable) = variable + 1
reach_at (node.Not part) = 0
reach_at (node.All parts) = 0
reach_at (node.Any parts) = 0

-- one more than the greatest variable, or 0: how long a set must be
abbrev pub pool_reach : List PoolNode → ℕ
pool_reach nodes = greatest (map reach_at nodes)

-- what clauses a node takes, and how many variables of its own
abbrev pub node_variables : PoolNode → ℕ
node_variables node.Always = 1
node_variables node.Never = 1
node_variables (node.Var variable) = 0
node_variables (node.Not part) = 0
node_variables (node.All parts) = 1
node_variables (node.Any parts) = 1

abbrev pub node_clauses : PoolNode → ℕ
node_clauses node.Always = 1
node_clauses node.Never = 1
node_clauses (node.Var variable) = 0
node_clauses (node.Not part) = 0
node_clauses (node.All parts) = length parts + 1
node_clauses (node.Any parts) = length parts + 1

-- a node reaches itself and what its parts reach
abbrev pub reached_at : List (ℕ → Bool) → PoolNode → ℕ → Bool
reached_at made node place = place == length made || list_any (λ part. slice_index_or made part (λ _. false) place) (parts_of node)

-- whether the node at a place leads to the node at another
abbrev pub reaches : List PoolNode → ℕ → ℕ → Bool
reaches nodes root = slice_index_or (made_from reached_at [] nodes) root (λ _. false)

-- the sum over the nodes, from a place on, that pass a test of their place
abbrev pub sum_where : (PoolNode → ℕ) → (ℕ → Bool) → ℕ → List PoolNode → ℕ
sum_where weigh passes place [] = 0
sum_where weigh passes place (first ∷ nodes) = (if passes place then weigh first else 0) + sum_where weigh passes (place + 1) nodes

-- the sum over all nodes that a node reaches, each once
abbrev pub sum_reached : (PoolNode → ℕ) → List PoolNode → ℕ → ℕ
sum_reached weigh nodes root = sum_where weigh (reaches nodes root) 0 nodes

-- whether one of some nodes leads to the node at a place
abbrev pub reaches_any : List PoolNode → List ℕ → ℕ → Bool
reaches_any nodes roots place = list_any (λ root. reaches nodes root place) roots

-- the sum over all nodes that some nodes reach, each once
abbrev pub sum_reached_any : (PoolNode → ℕ) → List PoolNode → List ℕ → ℕ
sum_reached_any weigh nodes roots = sum_where weigh (reaches_any nodes roots) 0 nodes
