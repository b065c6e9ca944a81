-- For private contracts: for each id the nodes of the anchors that may have it.
use Rattle.std.specs.Prelude.{◌≡◌, ℕ, ◌<◌, ◌==◌, List, [], ◌++◌, All, filter, length, map, slice_index_or}
use Rattle.std.specs.List.{flat_map}
use Rattle.vkb_formula.specs.declared.pool.NodeId.{NodeId}
use Rattle.lift_survey.specs.declared.Case.{Case}
use Rattle.lift_survey.specs.declared.LiftedMark.{LiftedMark}

-- the nodes of those of some cases that have the id of a number
abbrev pub nodes_with : ℕ → List Case → List NodeId
nodes_with id cases = map (λ case. case.node) (filter (λ case. case.id.0 == id) cases)

-- the cases of all marks
abbrev pub all_cases : List LiftedMark → List Case
all_cases marks = flat_map (λ m. m.cases) marks

-- each case has the number of an id
abbrev pub AreNumbered : ℕ → List Case → Type 0
AreNumbered ids cases = All (λ case. case.id.0 < ids) cases

-- under each number stand the nodes of those cases behind the nodes from before
pub record PutsCases (cases : List Case) (old new : List (List NodeId)) : Type 0 where
  pub count : length new ≡ length old
  pub each : (id : ℕ) → id < length old → slice_index_or new id [] ≡ slice_index_or old id [] ++ nodes_with id cases

-- under each of so many numbers stand the nodes of the anchors' cases
pub record AreById (ids : ℕ) (anchors : List LiftedMark) (table : List (List NodeId)) : Type 0 where
  pub count : length table ≡ ids
  pub each : (id : ℕ) → id < ids → slice_index_or table id [] ≡ nodes_with id (all_cases anchors)
