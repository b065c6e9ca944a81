-- For private contracts: nodes that tell which links break.
use Rattle.std.specs.Prelude.{◌≡◌, ◌<◌, ◌==◌, Bool, not, ◌&&◌, List, All, count_by, length}
use Rattle.std.specs.List.{AllZip, list_any}
use Rattle.vkb_formula.specs.declared.pool.NodeId.{NodeId}
use Rattle.vkb_formula.specs.declared.pool.PoolNode.{PoolNode}
use Rattle.lift_nodes.specs.Nodes.{is_true}
use Rattle.lift_survey.specs.declared.Case.{Case}
use Rattle.lift_survey.specs.declared.LiftedMark.{LiftedMark}
use Rattle.lift_survey.specs.Growth.{Grows}
use Rattle.lift_survey.specs.Survey.{node_at}

-- a node was put that says this at each set
pub record SaysOf (old new : List PoolNode) (says : List Bool → Bool) (node : NodeId) : Type 0 where
  pub grows : Grows old new
  pub held : node.0 < length new
  pub value : (set : List Bool) → is_true new set node ≡ says set

-- not exactly one of some nodes is true
abbrev pub isnt_one : List PoolNode → List NodeId → List Bool → Bool
isnt_one pool nodes set = not (count_by (is_true pool set) nodes == 1)

-- the case's node is true, and that under its id's number
abbrev pub is_wrong_by : List PoolNode → List NodeId → List Bool → Case → Bool
is_wrong_by pool wrong set case = is_true pool set case.node && is_true pool set (node_at wrong case.id.0)

-- of each of some things a node says something at each set
pub record SayEach {X : Type 0} (old new : List PoolNode) (says : X → List Bool → Bool) (things : List X) (nodes : List NodeId) : Type 0 where
  pub grows : Grows old new
  pub held : All (λ node. node.0 < length new) nodes
  pub each : AllZip (λ thing node. (set : List Bool) → is_true new set node ≡ says thing set) things nodes

-- for each list of nodes, whether not exactly one is true
abbrev pub AreWrong : List PoolNode → List PoolNode → List (List NodeId) → List NodeId → Type 0
AreWrong old new lists wrong = SayEach old new (isnt_one old) lists wrong

-- for each case, whether it is wrong
abbrev pub AreWrongCases : List PoolNode → List PoolNode → List NodeId → List Case → List NodeId → Type 0
AreWrongCases old new wrong cases nodes = SayEach old new (λ case set. is_wrong_by old wrong set case) cases nodes

-- for each link, whether a case of it is wrong
abbrev pub AreQuestions : List PoolNode → List PoolNode → List NodeId → List LiftedMark → List NodeId → Type 0
AreQuestions old new wrong links nodes = SayEach old new (λ link set. list_any (is_wrong_by old wrong set) link.cases) links nodes
