-- What is kept of all marks is what the definitions ask for.
use Rattle.std.proofs.Common.{◌≡◌, ◌∙◌, refl, sym, ℕ, ◌<◌, Bool, not, List, [], ◌∷◌, length, All, arith}
use Rattle.std.specs.Prelude.{filter}
use Rattle.std.specs.List.{AllZip}
use Rattle.std.proofs.lemmas.List.{length-map}
use Rattle.std.proofs.lemmas.List.Elements.{All-cons, All-get_or, All-nil, All-weaker}
use Rattle.vkb_formula.specs.declared.pool.NodeId.{NodeId}
use Rattle.vkb_formula.specs.declared.pool.PoolNode.{PoolNode}
use Rattle.doc_tree.specs.declared.DocLine.{DocLine}
use Rattle.doc_tree.specs.declared.Document.{Document}
use Rattle.doc_tree.specs.Loaded.{IsBefore, IsLineThere, IsLoaded, flat_line, flat_of, rounds_of}
use Rattle.reg_registry.specs.Rows.{Rows}
use Rattle.lift_nodes.specs.Nodes.{is_true}
use Rattle.lift_survey.specs.declared.LiftedMark.{LiftedMark}
use Rattle.lift_survey.specs.Growth.{Grows}
use Rattle.lift_survey.specs.Keeping.{AreOrdered, IsDocumentOf, IsLineIn, IsWorldOf, Keeps, Lifts, Told, World}
use Rattle.lift_survey.specs.Survey.{AreHeld, AreLifted, IsLifted, Sighted, Tells, node_at, sighted}
use Rattle.lift_survey.proofs.GrowthLemmas.{Grows-same}
use Rattle.lift_survey.proofs.IdLemmas.{zip-weaker}

-- ---- a loaded document

pub lines-in : (text : List ℕ) (d : Document) → IsLoaded text d → All (IsLineIn text) d.lines
lines-in text d loaded = All-weaker (IsLineThere text d) (IsLineIn text) (λ l there. record { span = there.span; kind = there.places }) d.lines loaded.lines

pub withins-there : (text : List ℕ) (d : Document) → IsLoaded text d → All (λ line. IsBefore (length d.conds) line.within) d.lines
withins-there text d loaded = All-weaker (IsLineThere text d) (λ (l : DocLine). IsBefore (length d.conds) l.within) (λ l there. there.within) d.lines loaded.lines

pub conds-ordered : (text : List ℕ) (d : Document) → IsLoaded text d → AreOrdered d.conds
conds-ordered text d loaded place cond there = (loaded.conds place cond there).within

-- ---- the document and its registry as a whole

module _ (text : List ℕ) (d : Document) (r : Rows) (old new : List PoolNode) (lines names : List NodeId) (line_count : length lines ≡ length d.lines) (lines_held : All (λ node. node.0 < length old) lines)
    (name_count : length names ≡ length r.names) (names_held : All (λ node. node.0 < length old) names) where
  abbrev pub whole : World
  whole = record { r = r; lines = flat_of text d; table = d.names; pool = old; line_nodes = lines; name_nodes = names }

  pub whole-world : IsWorldOf whole old r names
  whole-world = record { r_is = refl; names_are = refl; count = name_count; held = names_held; grows = Grows-same old }

  pub whole-document : IsDocumentOf whole text d.files d.lines d.conds lines
  whole-document = record { lines_are = refl; nodes_are = refl; held = lines_held }

  -- what the nodes tell where the pool has grown, they told before
  tells-before : Grows old new → (choice : List Bool) (set_names : List (List ℕ)) (set : List Bool) → Tells r (flat_of text d) lines names (is_true new choice) set_names set → Told whole choice set_names set
  tells-before grows choice set_names set tells = record {
    kept = λ number below.
        sym (grows.kept choice (node_at lines number) (All-get_or (λ (n : NodeId). n.0 < length old) lines number (record { 0 = 0 }) (omega (arith, below, line_count, length-map d.lines (flat_line text d.files (rounds_of d)))) lines_held))
        ∙ tells.kept number below;
    count = tells.count;
    has = λ place below.
        sym (grows.kept choice (node_at names place) (All-get_or (λ (n : NodeId). n.0 < length old) names place (record { 0 = 0 }) (omega (arith, below, name_count)) names_held)) ∙ tells.has place below;
  }

  module _ (ids : List (List ℕ)) (anchors links : List LiftedMark) (grows : Grows old new) (keeps : Keeps whole new ids anchors links (sighted r (flat_of text d))) where
    pub whole-lifted : (choice : List Bool) (set_names : List (List ℕ)) (set : List Bool) → Tells r (flat_of text d) lines names (is_true new choice) set_names set
        → AreLifted (is_true new choice) set_names set r (flat_of text d) ids anchors links
    whole-lifted choice set_names set tells =
        let told = tells-before grows choice set_names set tells in
        let one : (s : Sighted) (m : LiftedMark) → Lifts whole new ids s m → IsLifted (is_true new choice) set_names set (flat_of text d) ids s m = λ s m lifts. lifts.lifted choice set_names set told in
        record {
          anchors_are = zip-weaker (Lifts whole new ids) (IsLifted (is_true new choice) set_names set (flat_of text d) ids) one (filter (λ s. s.mark.anchor) (sighted r (flat_of text d))) anchors keeps.anchors_are;
          links_are = zip-weaker (Lifts whole new ids) (IsLifted (is_true new choice) set_names set (flat_of text d) ids) one (filter (λ s. not s.mark.anchor) (sighted r (flat_of text d))) links keeps.links_are;
        }

-- each mark that is lifted is held
pub all-held : (w : World) (pool : List PoolNode) (ids : List (List ℕ)) (seen : List Sighted) (marks : List LiftedMark) → AllZip (Lifts w pool ids) seen marks → All (AreHeld (length pool) (length ids)) marks
all-held w pool ids [] [] all = All-nil (AreHeld (length pool) (length ids))
all-held w pool ids [] (m ∷ marks) all = absurd all
all-held w pool ids (s ∷ seen) [] all = absurd all
all-held w pool ids (s ∷ seen) (m ∷ marks) all = All-cons (AreHeld (length pool) (length ids)) m marks (record { node = all.0.held; id = all.0.numbered }) (all-held w pool ids seen marks all.1)

pub keeps-none : (w : World) (pool : List PoolNode) (ids : List (List ℕ)) → Keeps w pool ids [] [] []
keeps-none w pool ids = record { anchors_are = tt; links_are = tt }
