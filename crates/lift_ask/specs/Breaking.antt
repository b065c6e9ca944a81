-- Where a link breaks, by the nodes of the cases of anchors and links: the first link that breaks at some set of variables at which a rule is true.
use Rattle.std.specs.Prelude.{◌≡◌, ℕ, ◌==◌, Bool, true, false, not, ◌&&◌, List, All, Contains, None, Option, Some, count_by, filter, length, slice_get, take}
use Rattle.std.specs.List.{flat_map, list_any}
use Rattle.vkb_formula.specs.declared.pool.NodeId.{NodeId}
use Rattle.vkb_formula.specs.declared.pool.PoolNode.{PoolNode}
use Rattle.lift_nodes.specs.Nodes.{is_true}
use Rattle.lift_survey.specs.declared.Case.{Case}
use Rattle.lift_survey.specs.declared.LiftedMark.{LiftedMark}
use Rattle.lift_ask.specs.declared.breaking.Broken.{Broken}

-- ---- at one set, where this tells which nodes are true

-- the cases of a mark with the id of a number
abbrev pub cases_of : ℕ → LiftedMark → List Case
cases_of id m = filter (λ case. case.id.0 == id) m.cases

-- how many anchors have the id
abbrev pub anchors_with : (NodeId → Bool) → List LiftedMark → ℕ → ℕ
anchors_with told anchors id = count_by (λ case. told case.node) (flat_map (cases_of id) anchors)

-- a link with this case stands with the case's id, which hasn't exactly one anchor
abbrev pub is_wrong : (NodeId → Bool) → List LiftedMark → Case → Bool
is_wrong told anchors case = told case.node && not (anchors_with told anchors case.id.0 == 1)

abbrev pub is_broken : (NodeId → Bool) → List LiftedMark → LiftedMark → Bool
is_broken told anchors link = list_any (is_wrong told anchors) link.cases

-- ---- at all sets of so many variables at which the rule is true

abbrev pub NeverBreak : List PoolNode → NodeId → ℕ → List LiftedMark → List LiftedMark → Type 0
NeverBreak nodes rule vars anchors links = (set : List Bool) → length set ≡ vars → is_true nodes set rule ≡ true
    → All (λ link. is_broken (is_true nodes set) anchors link ≡ false) links

-- the first link that breaks at one, such a set, the id of a case that is wrong there, and how many anchors have it
pub record IsFirstBroken (nodes : List PoolNode) (rule : NodeId) (vars : ℕ) (anchors links : List LiftedMark) (broken : Broken) : Type 0 where
  pub each : length broken.set ≡ vars
  pub rule_holds : is_true nodes broken.set rule ≡ true
  pub link : LiftedMark
  pub here : slice_get links broken.link ≡ Some link
  pub case : Case
  pub is_case : Contains link.cases case
  pub id_is : case.id ≡ broken.id
  pub wrong : is_wrong (is_true nodes broken.set) anchors case ≡ true
  pub counted : broken.count ≡ anchors_with (is_true nodes broken.set) anchors broken.id.0
  pub none_before : NeverBreak nodes rule vars anchors (take broken.link links)

-- the first, or none where none breaks
abbrev pub IsFound : List PoolNode → NodeId → ℕ → List LiftedMark → List LiftedMark → Option Broken → Type 0
IsFound nodes rule vars anchors links None = NeverBreak nodes rule vars anchors links
IsFound nodes rule vars anchors links (Some broken) = IsFirstBroken nodes rule vars anchors links broken
