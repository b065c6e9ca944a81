use Rattle.std.proofs.Common.{◌≡◌, ◌+◌, ◌<◌, ◌^◌, ◌++◌, List, ℕ, length, map}
use Rattle.vkb_formula.specs.declared.name_table.NameId.{NameId}
use Rattle.vkb_formula.specs.declared.pool.PoolNode.{PoolNode}
use Rattle.doc_marks.specs.Marks.{Pending, marks_of}
use Rattle.doc_marks.specs.declared.Mark.{Mark}
use Rattle.doc_tree.specs.declared.Cond.{Cond}
use Rattle.lift_survey.specs.declared.LiftedMark.{LiftedMark}
use Rattle.lift_survey.specs.declared.pages.Pages.{Pages}
use Rattle.lift_survey.specs.declared.spots.Spot.{Spot}
use Rattle.lift_survey.specs.Growth.{Grows}
use Rattle.lift_survey.specs.Keeping.{IsSpot, Keeps, World, site_at}
use Rattle.lift_survey.specs.Survey.{Sighted}
use Rattle.lift_survey.proofs.marks.add_marks.Given as goal

-- marks of a spot
abbrev pub seen_at : Spot → List ℕ → List NameId → List Mark → List Sighted
seen_at spot bytes needs marks = map (λ mark. record { site = site_at spot bytes needs; mark = mark }) marks

-- some marks are taken, and what is kept has them behind what was kept
pub record Takes (old pool : List PoolNode) (before ids : List (List ℕ)) (anchors_before links_before anchors links : List LiftedMark) (conds : List Cond) (spot : Spot) (pages : Pages) (bytes : List ℕ) (marks : Pending) : Type 0 where
  pub here : marks.line ≡ bytes
  pub short : spot.start + length bytes < 2 ^ 32
  pub grows : Grows old pool
  pub taken : List Mark
  pub all : taken ++ marks.left ≡ marks_of bytes
  pub keeps : (w : World) (seen : List Sighted) (needs : List NameId) → IsSpot w old conds spot pages needs → Keeps w old before anchors_before links_before seen
      → Keeps w pool ids anchors links (seen ++ seen_at spot bytes needs taken)

abbrev pub invariant-loop-mark : goal.invariant-loop-mark
invariant-loop-mark l =
    Takes l.fn.pool l.pool l.fn.survey.ids l.survey.ids l.fn.survey.anchors.items l.fn.survey.links.items l.survey.anchors.items l.survey.links.items l.conds l.spot l.pages l.bytes l.marks

abbrev pub decreases-loop-mark : goal.decreases-loop-mark
decreases-loop-mark l = length l.marks.left
