use Rattle.std.proofs.Common.{◌≡◌, ◌<◌, Bool, List, ℕ, [], None, All, length}
use Rattle.vkb_formula.specs.declared.pool.NodeId.{NodeId}
use Rattle.vkb_formula.specs.declared.pool.PoolNode.{PoolNode}
use Rattle.doc_tree.specs.declared.Cond.{Cond}
use Rattle.doc_tree.specs.declared.DocLine.{DocLine}
use Rattle.doc_build.specs.Ids.{page_at}
use Rattle.reg_registry.specs.Rows.{Rows}
use Rattle.lift_nodes.specs.Cases.{page_from}
use Rattle.lift_nodes.specs.Nodes.{is_true}
use Rattle.lift_survey.specs.declared.LiftedMark.{LiftedMark}
use Rattle.lift_survey.specs.declared.pages.Pages.{Pages}
use Rattle.lift_survey.specs.Growth.{Grows}
use Rattle.lift_survey.specs.Keeping.{AreKept, IsDocumentOf, IsWorldOf, Keeps, Told, World, all_met}
use Rattle.lift_survey.proofs.SurveyLemmas.{first_sighted}
use Rattle.lift_survey.proofs.lines.survey_lines.Given as goal

-- what is kept is what the first lines give, and the pages are those that they set
pub record HasFirst (text : List ℕ) (r : Rows) (old pool : List PoolNode) (before ids : List (List ℕ)) (anchors_before links_before anchors links : List LiftedMark) (lines : List DocLine) (conds : List Cond) (nodes names : List NodeId) (pages : Pages) (number : ℕ) : Type 0 where
  pub grows : Grows old pool
  pub sources : All (λ source. source.line.0 < length old) pages.sources.items
  pub count : length pages.withins.items ≡ length pages.sources.items
  pub keeps : (w : World) (files : List (List ℕ)) → IsWorldOf w old r names → IsDocumentOf w text files lines conds nodes → Keeps w old before anchors_before links_before []
      → Keeps w pool ids anchors links (first_sighted r w.lines number)
  pub kept : (w : World) (files : List (List ℕ)) → IsWorldOf w old r names → IsDocumentOf w text files lines conds nodes → (choice : List Bool) (set_names : List (List ℕ)) (set : List Bool) → Told w choice set_names set
      → AreKept (is_true old choice) (all_met w.table set_names conds) pages
  pub page : (w : World) (files : List (List ℕ)) → IsWorldOf w old r names → IsDocumentOf w text files lines conds nodes → (choice : List Bool) (set_names : List (List ℕ)) (set : List Bool) → Told w choice set_names set
      → page_from (is_true old choice) None pages.sources.items ≡ page_at w.lines set_names number

abbrev pub invariant-loop-number : goal.invariant-loop-number
invariant-loop-number l =
    HasFirst l.text.bytes l.r l.fn.pool l.pool l.fn.survey.ids l.survey.ids l.fn.survey.anchors.items l.fn.survey.links.items l.survey.anchors.items l.survey.links.items l.lines l.conds l.nodes l.names l.pages l.number
