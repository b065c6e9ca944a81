-- The clauses of formulas that share their parts: a variable of its own for each `All`, `Any` and constant that is reached,
-- which the clauses bind to its parts (Tseitin's form).
use Rattle.std.specs.Prelude.{◌≡◌, ℕ, ◌+◌, ◌<◌, ◌≤◌, ◌⊎◌, ◌↔◌, Bool, true, false, List, ◌++◌, length, map, All, Some, slice_get, slice_index_or}
use Rattle.vkb_formula.specs.Pools.{reaches_any, reach_at, node_variables, node_clauses, sum_reached, sum_reached_any, pool_values}
use Rattle.vkb_formula.specs.declared.pool.PoolNode.{PoolNode}
use Rattle.sat_cnf.specs.declared.lit.Lit.{Lit}
use Rattle.sat_cnf.specs.Clauses.{Cnf, IsWithin}
use Rattle.sat_cnf.specs.Models.{lit_value, Satisfies}

-- the variables of all nodes that some nodes reach are below a number
abbrev pub AreVariablesBelow : List PoolNode → List ℕ → ℕ → Type 0
AreVariablesBelow nodes roots vars = (place : ℕ) (node : PoolNode) → slice_get nodes place ≡ Some node
    → reaches_any nodes roots place ≡ true → reach_at node ≤ vars

-- the number of variables and that of clauses, each node that is reached once
abbrev pub variables_for : List PoolNode → List ℕ → ℕ → ℕ
variables_for nodes roots vars = vars + sum_reached_any node_variables nodes roots

abbrev pub clauses_for : List PoolNode → List ℕ → ℕ
clauses_for nodes roots = sum_reached_any node_clauses nodes roots

-- one of the two numbers passes the most
abbrev pub Passes : List PoolNode → List ℕ → ℕ → ℕ → Type 0
Passes nodes roots vars most = (most < variables_for nodes roots vars) ⊎ (most < clauses_for nodes roots)

-- Clauses in which some literals have the values of some nodes: each set of the first variables extends to one that
-- satisfies them, and in each such extension the literals have the values of the nodes, in order.
pub record IsEncoding (nodes : List PoolNode) (roots : List ℕ) (vars : ℕ) (cnf : Cnf) (lits : List Lit) : Type 0 where
  pub variables : cnf.vars ≡ variables_for nodes roots vars
  pub clauses : length cnf.list ≡ clauses_for nodes roots
  pub count : length lits ≡ length roots
  pub within : All (IsWithin cnf.vars) lits
  pub extends : (set : List Bool) → length set ≡ vars
      → (more : List Bool) × (length (set ++ more) ≡ cnf.vars) × Satisfies (set ++ more) cnf.list
  pub means : (set more : List Bool) → length set ≡ vars → Satisfies (set ++ more) cnf.list
      → map (lit_value (set ++ more)) lits ≡ map (λ root. slice_index_or (pool_values set nodes) root false) roots

-- one of the two numbers passes the most, where the node's own literal is a clause too
abbrev pub PassesWithUnit : List PoolNode → ℕ → ℕ → ℕ → Type 0
PassesWithUnit nodes root vars most = (most < vars + sum_reached node_variables nodes root)
    ⊎ (most < 1 + sum_reached node_clauses nodes root)

-- Clauses that say that a node is true: a set of the first variables makes it true exactly where it extends to one that
-- satisfies them.
pub record Decides (nodes : List PoolNode) (root vars : ℕ) (cnf : Cnf) : Type 0 where
  pub variables : cnf.vars ≡ vars + sum_reached node_variables nodes root
  pub clauses : length cnf.list ≡ 1 + sum_reached node_clauses nodes root
  pub means : (set : List Bool) → length set ≡ vars
      → (slice_index_or (pool_values set nodes) root false ≡ true)
      ↔ ((more : List Bool) × (length (set ++ more) ≡ cnf.vars) × Satisfies (set ++ more) cnf.list)
