-- How far the encoding of a pool has come, and what it puts for a node: for private contracts alone. No public contract
-- names it.
use Rattle.std.specs.Prelude.{◌≡◌, ℕ, ◌+◌, ◌*◌, ◌<◌, ◌≤◌, max, Bool, true, false, ◌||◌, ◌==◌, nat_eq, List, [], ◌∷◌, ◌++◌, length, map, Some, slice_get, slice_index_or, sum_by, All}
use Rattle.std.specs.List.{list_any, AllByRecursion}
use Rattle.std.specs.Option.{unwrap_or}
use Rattle.std.specs.HashMap.{get, HashMap}
use Rattle.vkb_formula.specs.Pools.{parts_of, reaches_any, pool_values}
use Rattle.vkb_formula.specs.Reaches.{IsClosed}
use Rattle.vkb_formula.specs.declared.pool.PoolNode.{PoolNode}
use Rattle.vkb_formula.specs.declared.pool.PoolNode.TheVariants as node
use Rattle.sat_cnf.specs.declared.lit.Lit.{Lit}
use Rattle.sat_cnf.specs.Lits.{negation_of}
use Rattle.sat_cnf.specs.Clauses.{IsWithin}
use Rattle.sat_cnf.specs.Models.{lit_value, Satisfies}

-- a place is one of some
abbrev pub has : List ℕ → ℕ → Bool
has places place = list_any (λ other. other == place) places

-- each place is below those after it
abbrev pub AreRising : List ℕ → Type 0
AreRising [] = Unit {0}
AreRising (place ∷ places) = ((other : ℕ) → has places other ≡ true → place < other) × AreRising places

-- the places of all nodes that some nodes reach, and no others
pub record AreReached (nodes : List PoolNode) (roots places : List ℕ) : Type 0 where
  pub rising : AreRising places
  pub within : (place : ℕ) → has places place ≡ true → place < length nodes
  pub has_roots : All (λ root. has places root ≡ true) roots
  pub closed : IsClosed nodes (has places)
  pub only : (place : ℕ) → has places place ≡ true → reaches_any nodes roots place ≡ true

-- The places from the last on, of which these are done, and these are still to be looked at: all that is done is behind
-- all that isn't, and each root and each part of what is done is one of both.
pub record IsMarking (nodes : List PoolNode) (roots ahead done : List ℕ) : Type 0 where
  pub rising : AreRising done
  pub apart : (place other : ℕ) → has ahead place ≡ true → has done other ≡ true → place < other
  pub within_ahead : (place : ℕ) → has ahead place ≡ true → place < length nodes
  pub within_done : (place : ℕ) → has done place ≡ true → place < length nodes
  pub has_roots : All (λ root. (has done root || has ahead root) ≡ true) roots
  pub closed : (place : ℕ) (node : PoolNode) → slice_get nodes place ≡ Some node → has done place ≡ true
      → All (λ part. (has done part || has ahead part) ≡ true) (parts_of node)
  pub only_ahead : (place : ℕ) → has ahead place ≡ true → reaches_any nodes roots place ≡ true
  pub only_done : (place : ℕ) → has done place ≡ true → reaches_any nodes roots place ≡ true

-- one more than the greatest place, or 0
abbrev pub top_of : List ℕ → ℕ
top_of [] = 0
top_of (place ∷ places) = max (place + 1) (top_of places)

-- the sum over the nodes at some places
abbrev pub sum_at : (PoolNode → ℕ) → List PoolNode → List ℕ → ℕ
sum_at weigh nodes places = sum_by (λ place. weigh (slice_index_or nodes place node.Always)) places

module _ {S : Type 0} where
  -- the literal that a table has for a place
  abbrev pub lit_in : HashMap ℕ Lit S → ℕ → Lit
  lit_in table place = unwrap_or (get nat_eq table place) (record { 0 = 0 })

-- a literal is true exactly where several literals are
abbrev pub gate_clauses : Lit → List Lit → List (List Lit)
gate_clauses head inputs = map (λ input. negation_of head ∷ input ∷ []) inputs ++ (head ∷ map negation_of inputs) ∷ []

abbrev pub positive : ℕ → Lit
positive variable = record { 0 = 2 * variable }

abbrev pub negative : ℕ → Lit
negative variable = record { 0 = 2 * variable + 1 }

-- The literal of a node, from those of its parts and the next variable that is free. An `Any` is false exactly where all
-- of its parts are.
abbrev pub node_lit : (ℕ → Lit) → ℕ → PoolNode → Lit
node_lit lit_of next node.Always = positive next
node_lit lit_of next node.Never = positive next
node_lit lit_of next (node.Var variable) = positive variable
node_lit lit_of next (node.Not part) = negation_of (lit_of part.0)
node_lit lit_of next (node.All parts) = positive next
node_lit lit_of next (node.Any parts) = positive next

-- its clauses
abbrev pub node_list : (ℕ → Lit) → ℕ → PoolNode → List (List Lit)
node_list lit_of next node.Always = gate_clauses (positive next) []
node_list lit_of next node.Never = gate_clauses (negative next) []
node_list lit_of next (node.Var variable) = []
node_list lit_of next (node.Not part) = []
node_list lit_of next (node.All parts) = gate_clauses (positive next) (map (λ part. lit_of part.0) parts)
node_list lit_of next (node.Any parts) = gate_clauses (negative next) (map (λ part. negation_of (lit_of part.0)) parts)

-- What was put for the nodes at some places: each set of the first variables extends to one of all variables so far that
-- satisfies the clauses so far, and in each such extension the literal of each of these places has its node's value.
pub record IsCoded (nodes : List PoolNode) (vars : ℕ) (done : List ℕ) (lit_of : ℕ → Lit) (next : ℕ) (list : List (List Lit)) : Type 0 where
  pub low : vars ≤ next
  pub within : (place : ℕ) → has done place ≡ true → IsWithin next (lit_of place)
  pub clauses_within : AllByRecursion (AllByRecursion (IsWithin next)) list
  pub extends : (set : List Bool) → length set ≡ vars
      → (more : List Bool) × (length (set ++ more) ≡ next) × Satisfies (set ++ more) list
  pub means : (set more : List Bool) → length set ≡ vars → Satisfies (set ++ more) list → (place : ℕ) → has done place ≡ true
      → lit_value (set ++ more) (lit_of place) ≡ slice_index_or (pool_values set nodes) place false
