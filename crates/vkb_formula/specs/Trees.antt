-- What putting a tree into a pool leaves, the tree's own nodes after those from before: for private contracts alone. No
-- public contract names it.
use Rattle.std.specs.Prelude.{◌≡◌, ℕ, ◌+◌, ◌*◌, ◌<◌, ◌≤◌, List, ◌++◌, length, map, slice_index_or, sum_by}
use Rattle.std.specs.List.{AllByRecursion}
use Rattle.vkb_formula.specs.Formulas.{reach_of, greatest, size_of, variables_of, clauses_of}
use Rattle.vkb_formula.specs.Pools.{parts_of, unfolded, pool_size, pool_reach, node_variables, node_clauses}
use Rattle.vkb_formula.specs.declared.formula.Formula.{Formula}
use Rattle.vkb_formula.specs.declared.formula.Formula.TheVariants as formula
use Rattle.vkb_formula.specs.declared.pool.NodeId.{NodeId}
use Rattle.vkb_formula.specs.declared.pool.PoolNode.{PoolNode}

-- no part of these nodes stands before a place
abbrev pub AreFrom : ℕ → List PoolNode → Type 0
AreFrom base nodes = AllByRecursion (λ node. AllByRecursion (λ part. base ≤ part) (parts_of node)) nodes

pub record PutsTree (old new : List PoolNode) (f : Formula) (root : ℕ) : Type 0 where
  pub more : List PoolNode
  pub all : new ≡ old ++ more
  pub own : AreFrom (length old) more
  pub low : length old ≤ root
  pub high : root < length new
  pub unfolds : slice_index_or (unfolded new) root formula.Never ≡ f
  pub size : pool_size more + 1 ≡ 2 * size_of f
  pub variables : sum_by node_variables more ≡ variables_of f
  pub clauses : sum_by node_clauses more ≡ clauses_of f
  pub reach : pool_reach more ≡ reach_of f

pub record PutsTrees (old new : List PoolNode) (fs : List Formula) (roots : List NodeId) : Type 0 where
  pub more : List PoolNode
  pub all : new ≡ old ++ more
  pub own : AreFrom (length old) more
  pub low : AllByRecursion (λ root. length old ≤ root.0) roots
  pub high : AllByRecursion (λ root. root.0 < length new) roots
  pub unfolds : map (λ root. slice_index_or (unfolded new) root.0 formula.Never) roots ≡ fs
  pub size : pool_size more + length fs ≡ 2 * sum_by size_of fs
  pub variables : sum_by node_variables more ≡ sum_by variables_of fs
  pub clauses : sum_by node_clauses more ≡ sum_by clauses_of fs
  pub reach : pool_reach more ≡ greatest (map reach_of fs)
