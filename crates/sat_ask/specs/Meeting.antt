-- Which of several nodes of a pool can be true where another, the rule, is true.
use Rattle.std.specs.Prelude.{◌≡◌, ◌⊎◌, ℕ, ◌+◌, ◌<◌, Bool, true, false, List, ◌∷◌, length, map, take, slice_get, slice_index_or, Option, Some, None, All}
use Rattle.vkb_formula.specs.Pools.{pool_values}
use Rattle.vkb_formula.specs.declared.pool.NodeId.{NodeId}
use Rattle.vkb_formula.specs.declared.pool.PoolNode.{PoolNode}
use Rattle.sat_cnf.specs.Encoding.{clauses_for, variables_for}
use Rattle.sat_ask.specs.declared.meeting.Met.{Met}

-- the node at a place is true at a set of variables
abbrev pub IsTrueAt : List PoolNode → List Bool → ℕ → Type 0
IsTrueAt nodes set place = slice_index_or (pool_values set nodes) place false ≡ true

-- none of some nodes is true at a set of so many variables at which the rule is
abbrev pub AreNeverMet : List PoolNode → ℕ → List NodeId → ℕ → Type 0
AreNeverMet nodes rule questions vars = (set : List Bool) → length set ≡ vars → IsTrueAt nodes set rule
    → All (λ question. ¬ IsTrueAt nodes set question.0) questions

-- the first question that is true where the rule is, and a set at which both are
pub record IsFirstMet (nodes : List PoolNode) (rule : ℕ) (questions : List NodeId) (vars : ℕ) (met : Met) : Type 0 where
  pub each : length met.set ≡ vars
  pub rule_holds : IsTrueAt nodes met.set rule
  pub holds : (question : NodeId) × (slice_get questions met.question ≡ Some question) × IsTrueAt nodes met.set question.0
  pub none_before : AreNeverMet nodes rule (take met.question questions) vars

-- the first question that is met, or none where none is
abbrev pub IsFirstOf : List PoolNode → ℕ → List NodeId → ℕ → Option Met → Type 0
IsFirstOf nodes rule questions vars None = AreNeverMet nodes rule questions vars
IsFirstOf nodes rule questions vars (Some met) = IsFirstMet nodes rule questions vars met

-- the places of the rule and of the questions
abbrev pub roots_of : ℕ → List NodeId → List ℕ
roots_of rule questions = rule ∷ map (λ question. question.0) questions

-- the number of variables or that of clauses passes the most, where the rule's own literal is a clause too
abbrev pub PassesWithRule : List PoolNode → ℕ → List NodeId → ℕ → ℕ → Type 0
PassesWithRule nodes rule questions vars most =
    (most < variables_for nodes (roots_of rule questions) vars) ⊎ (most < 1 + clauses_for nodes (roots_of rule questions))
