-- What a document over a registry is judged by: nodes that go on telling where others are put behind them, and the closures of all choices.
use Rattle.std.proofs.Common.{◌≡◌, ◌∙◌, sym, ℕ, ◌<◌, Bool, List, ◌++◌, length, slice_get, All, arith}
use Rattle.std.proofs.lemmas.List.{length-map}
use Rattle.std.proofs.lemmas.List.Elements.{All-get_or, All-weaker}
use Rattle.vkb_formula.specs.Names.{AreDifferent}
use Rattle.vkb_formula.specs.Pools.{Extends, unfolded}
use Rattle.vkb_formula.specs.declared.name_table.NameId.{NameId}
use Rattle.vkb_formula.specs.declared.pool.NodeId.{NodeId}
use Rattle.vkb_formula.specs.declared.pool.PoolNode.{PoolNode}
use Rattle.doc_tree.specs.Loaded.{flat_line, flat_of, rounds_of}
use Rattle.doc_tree.specs.declared.Document.{Document}
use Rattle.reg_registry.specs.Laws.{AreWithin}
use Rattle.reg_registry.specs.Naming.{AreSound, IsSoundRow}
use Rattle.reg_registry.specs.Rows.{Rows}
use Rattle.reg_registry.specs.declared.registry.Row.{Row}
use Rattle.reg_closure.specs.Existence.{ClosuresAreThere}
use Rattle.reg_permit.specs.Size.{SaysPermitted}
use Rattle.doc_build.specs.Built.{set_names}
use Rattle.doc_build.specs.Choices.{Choice}
use Rattle.lift_nodes.specs.Nodes.{is_true}
use Rattle.lift_survey.specs.declared.LiftedMark.{LiftedMark}
use Rattle.lift_survey.specs.Survey.{AreHeld as AreMarksHeld, AreLifted, Tells, node_at}
use Rattle.lift_check.specs.declared.Verdict.{Verdict}
use Rattle.lift_check.specs.declared.nodes.Prepared.{Prepared}
use Rattle.lift_check.specs.Judging.{IsAsked}
use Rattle.lift_check.specs.Prepared.{AreHeld, SayAll}
use Rattle.lift_check.specs.Verdict.{IsJudged}
use Rattle.lift_check.proofs.PermitLemmas.{kept-behind}
use Rattle.lift_check.proofs.VerdictLemmas.{AreLaws, IsSurveyed, verdict-is}

-- what the names of each row of a sound registry name is there
rows-within : (r : Rows) → AreSound r → AreWithin r.rows
rows-within r sound =
    All-weaker (IsSoundRow (length r.names) (length r.blocks)) (λ (row : Row). All (λ id. id.0 < length r.rows) row.named)
    (λ row is. All-weaker (λ (id : NameId). id.0 < length r.names) (λ (id : NameId). id.0 < length r.rows) (λ id below. omega (arith, below, sound.rows_count)) row.named is.named)
    r.rows sound.each_row

-- the formulas of nodes stay where others are put behind them
abbrev pub NodesStay : Type 0
NodesStay = (nodes more : List PoolNode) (place : ℕ) → place < length nodes → slice_get (unfolded (nodes ++ more)) place ≡ slice_get (unfolded nodes) place

-- where nodes tell of the lines and names of a document, they tell of its marks
abbrev pub TellMarks : Rows → List ℕ → Document → List NodeId → List NodeId → List PoolNode → List (List ℕ) → List LiftedMark → List LiftedMark → Type 0
TellMarks r text d line_nodes name_nodes nodes ids anchors links =
    (choice : List Bool) (names : List (List ℕ)) (set : List Bool) → Tells r (flat_of text d) line_nodes name_nodes (is_true nodes choice) names set
    → AreLifted (is_true nodes choice) names set r (flat_of text d) ids anchors links

module _ (stay : NodesStay) (r : Rows) (text : List ℕ) (d : Document) (p : Prepared) (new : List PoolNode) (extends : Extends p.pool new) (held : AreHeld d r p) where
  -- the nodes of lines and names go on telling
  tells-on : (choice : Choice) (names : List (List ℕ)) (set : List Bool) → Tells r (flat_of text d) p.lines.items p.names.items (is_true p.pool choice) names set
      → Tells r (flat_of text d) p.lines.items p.names.items (is_true new choice) names set
  tells-on choice names set tells = record {
    kept = λ number below.
        kept-behind stay p.pool new extends choice (node_at p.lines.items number)
        (All-get_or (λ (node : NodeId). node.0 < length p.pool) p.lines.items number (record { 0 = 0 }) (omega (arith, below, length-map d.lines (flat_line text d.files (rounds_of d)), held.line_count)) held.lines)
        ∙ tells.kept number below;
    count = tells.count;
    has = λ place below.
        kept-behind stay p.pool new extends choice (node_at p.names.items place)
        (All-get_or (λ (node : NodeId). node.0 < length p.pool) p.names.items place (record { 0 = 0 }) (omega (arith, below, held.name_count)) held.names)
        ∙ tells.has place below;
  }

  -- and so does that of the permitted choices
  permits-on : (choice : Choice) → SaysPermitted r p.pool p.permit choice → SaysPermitted r new p.permit choice
  permits-on choice says =
      let same = kept-behind stay p.pool new extends choice p.permit held.permit in
      record {
        only = λ on. says.only (sym same ∙ on);
        all = λ is. same ∙ says.all is;
      }

  -- what is asked of the nodes of a survey is the verdict on the document
  pub judged : AreLaws → ClosuresAreThere → AreSound r → (always : List (List ℕ)) → SayAll always r (flat_of text d) p → (ids : List (List ℕ)) (anchors links : List LiftedMark) → AreDifferent ids
      → All (AreMarksHeld (length new) (length ids)) anchors → All (AreMarksHeld (length new) (length ids)) links
      → TellMarks r text d p.lines.items p.names.items new ids anchors links → (verdict : Verdict) → IsAsked new p.permit (length r.options) ids anchors links verdict → IsJudged always r (flat_of text d) verdict
  judged laws there sound always say ids anchors links different anchors_held links_held marks verdict asked =
      let closure : Choice → List Bool = λ choice. (there r choice sound.rows_count (rows-within r sound)).0 in
      let surveyed : IsSurveyed always r (flat_of text d) closure new p.permit ids anchors links = record {
        different = different;
        anchors_held = anchors_held;
        links_held = links_held;
        lifted = λ choice fits.
            marks choice (set_names always r choice) (closure choice) (tells-on choice (set_names always r choice) (closure choice) (say.tells choice (closure choice) fits (there r choice sound.rows_count (rows-within r sound)).1));
        permitted = λ choice fits. permits-on choice (say.permitted choice fits);
      } in (
        closure,
        λ choice fits. (there r choice sound.rows_count (rows-within r sound)).1,
        verdict-is laws always r (flat_of text d) closure new p.permit ids anchors links surveyed verdict asked,
      )
