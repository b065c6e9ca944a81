use Rattle.std.proofs.Common.{List, ℕ, [], ◌∷◌, ◌++◌}
use Rattle.vkb_formula.specs.declared.name_table.NameId.{NameId}
use Rattle.vkb_formula.specs.declared.pool.NodeId.{NodeId}
use Rattle.vkb_formula.specs.declared.pool.PoolNode.{PoolNode}
use Rattle.doc_tree.specs.declared.Cond.{Cond}
use Rattle.reg_registry.specs.Rows.{Rows}
use Rattle.vu_implicit.specs.declared.statement.Statement.{Statement}
use Rattle.lift_survey.specs.declared.LiftedMark.{LiftedMark}
use Rattle.lift_survey.specs.declared.pages.Pages.{Pages}
use Rattle.lift_survey.specs.declared.spots.Spot.{Spot}
use Rattle.lift_survey.specs.Growth.{Grows}
use Rattle.lift_survey.specs.Keeping.{IsSpot, IsWorldOf, Keeps, World}
use Rattle.lift_survey.specs.Survey.{Sighted}
use Rattle.lift_survey.proofs.LineLemmas.{first_statements}
use Rattle.lift_survey.proofs.lines.add_statements.Given as goal

-- what is kept has the marks of the first statements behind what was kept
pub record HasFirst (old pool : List PoolNode) (before ids : List (List ℕ)) (anchors_before links_before anchors links : List LiftedMark) (conds : List Cond) (spot : Spot) (pages : Pages) (names : List NodeId) (all : List Statement) (count : ℕ) : Type 0 where
  pub grows : Grows old pool
  pub keeps : (w : World) (seen : List Sighted) (r : Rows) (id : NameId) → IsWorldOf w old r names → IsSpot w old conds spot pages (id ∷ []) → Keeps w old before anchors_before links_before seen
      → Keeps w pool ids anchors links (seen ++ first_statements spot.line id all count)

abbrev pub invariant-loop-place : goal.invariant-loop-place
invariant-loop-place l =
    HasFirst l.fn.pool l.pool l.fn.survey.ids l.survey.ids l.fn.survey.anchors.items l.fn.survey.links.items l.survey.anchors.items l.survey.links.items l.conds l.spot l.pages l.names l.all l.place
