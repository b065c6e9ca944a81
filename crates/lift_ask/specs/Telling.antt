-- For private contracts: what is told of a link that is met.
use Rattle.std.specs.Prelude.{◌≡◌, Bool, true, false, ◌&&◌, List, [], Contains, count_by, slice_index_or}
use Rattle.vkb_formula.specs.declared.pool.NodeId.{NodeId}
use Rattle.vkb_formula.specs.declared.pool.PoolNode.{PoolNode}
use Rattle.lift_nodes.specs.Nodes.{is_true}
use Rattle.lift_survey.specs.declared.Case.{Case}
use Rattle.lift_survey.specs.Survey.{node_at}
use Rattle.sat_ask.specs.declared.meeting.Met.{Met}
use Rattle.lift_ask.specs.declared.breaking.Broken.{Broken}
use Rattle.lift_ask.specs.Questions.{is_wrong_by}

-- the value of a node, among those of a pool's nodes
abbrev pub is_on : List Bool → NodeId → Bool
is_on values node = slice_index_or values node.0 false

-- the case's node is true, and that under its id's number
abbrev pub is_wrong_in : List Bool → List NodeId → Case → Bool
is_wrong_in values wrong case = is_on values case.node && is_on values (node_at wrong case.id.0)

-- the link and the set are those that were met, the id is that of a case that is wrong there, and so many of the nodes under its number are true
pub record IsToldOf (pool : List PoolNode) (wrong : List NodeId) (lists : List (List NodeId)) (cases : List Case) (met : Met) (broken : Broken) : Type 0 where
  pub link : broken.link ≡ met.question
  pub set : broken.set ≡ met.set
  pub case : Case
  pub is_case : Contains cases case
  pub id_is : case.id ≡ broken.id
  pub wrong_is : is_wrong_by pool wrong met.set case ≡ true
  pub counted : broken.count ≡ count_by (is_true pool met.set) (slice_index_or lists broken.id.0 [])
