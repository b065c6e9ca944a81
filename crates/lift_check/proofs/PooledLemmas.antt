-- The nodes of lines from those of their conditions, and those of names from what the closure has.
use Rattle.std.proofs.Common.{◌≡◌, ℕ, zero, suc, ◌<◌, Bool, true, false, List, [], ◌∷◌, length, map, get_or, All, Some, refl, sym, ap, subst, ◌∙◌, arith}
use Rattle.std.proofs.lemmas.List.{length-map}
use Rattle.std.proofs.lemmas.List.Elements.{All-head, All-map, All-tail, All-weaker}
use Rattle.std.proofs.lemmas.Option.{get_or_from_slice_get, slice_get-get_or}
use Rattle.vkb_formula.specs.declared.pool.NodeId.{NodeId}
use Rattle.vkb_formula.specs.declared.pool.PoolNode.{PoolNode}
use Rattle.doc_tree.specs.Flat.{FlatLine, is_kept}
use Rattle.doc_tree.specs.Loaded.{flat_line, flat_of, rounds_of}
use Rattle.doc_tree.specs.declared.DocLine.{DocLine}
use Rattle.doc_tree.specs.declared.Document.{Document}
use Rattle.reg_registry.specs.Rows.{Rows}
use Rattle.reg_closure.specs.Closure.{IsClosure}
use Rattle.reg_closure.specs.Presence.{SaysPresence}
use Rattle.doc_build.specs.Built.{set_names}
use Rattle.doc_build.specs.Choices.{Choice, pageless_setting}
use Rattle.doc_build.specs.Laws.{is_kept_at}
use Rattle.lift_nodes.specs.Cases.{AreConstant}
use Rattle.lift_nodes.specs.Nodes.{is_true}
use Rattle.lift_survey.specs.Survey.{Tells, node_at}
use Rattle.lift_check.specs.Keeping.{KeepsLines, node_of}
use Rattle.lift_check.specs.Permits.{AreOfRegistry}
use Rattle.lift_check.specs.Prepared.{AreHeld, SayAll}
use Rattle.lift_check.specs.declared.nodes.Prepared.{Prepared}

-- two values that are true together are one
together : (a b : Bool) → (a ≡ true → b ≡ true) → (b ≡ true → a ≡ true) → a ≡ b
together true b only all = sym (only refl)
together false true only all = all refl
together false false only all = refl

-- the node of each line tells whether the line is kept
kept_by : (told : NodeId → Bool) (names : List (List ℕ)) (node_for : DocLine → NodeId) (flat : DocLine → FlatLine) (lines : List DocLine) (place : ℕ)
    → All (λ line. told (node_for line) ≡ is_kept names (flat line)) lines → place < length lines
    → told (node_at (map node_for lines) place) ≡ is_kept_at names (map flat lines) place
kept_by told names node_for flat [] place all within = absurd (omega (arith, within))
kept_by told names node_for flat (line ∷ lines) zero all within = All-head (λ (l : DocLine). told (node_for l) ≡ is_kept names (flat l)) line lines all
kept_by told names node_for flat (line ∷ lines) (suc place) all within =
    kept_by told names node_for flat lines place (All-tail (λ (l : DocLine). told (node_for l) ≡ is_kept names (flat l)) line lines all) (omega (arith, within))

-- the node of a name tells what the closure's set has
has_by : (r : Rows) (pool : List PoolNode) (choice : Choice) (set : List Bool) (place : ℕ) (id : NodeId) → IsClosure r choice set → place < length r.names → SaysPresence r pool choice place id
    → is_true pool choice id ≡ get_or set place false
has_by r pool choice set place id closure below says =
    let held = slice_get-get_or set place false (omega (arith, below, closure.count)) in
    together (is_true pool choice id) (get_or set place false) (λ on. get_or_from_slice_get set place true false (closure.has_all place (says.only on)))
    (λ there. says.all (closure.has_only place (held ∙ ap Some there)))

-- all these nodes, where those of a registry were put behind those of a document's conditions
module _ (always : List (List ℕ)) (r : Rows) (text : List ℕ) (d : Document) (old : List PoolNode) (conds : List NodeId) (p : Prepared) (keeps : KeepsLines (pageless_setting always r) text d old conds)
    (lines_are : p.lines.items ≡ map (node_of conds) d.lines) (put : AreOfRegistry r old p.pool (record { names = p.names; permit = p.permit })) where
  pub held-all : AreConstant old p.constants → AreHeld d r p
  held-all constant = record {
    constants = record {
      always_held = omega (arith, constant.always_held, put.count);
      never_held = omega (arith, constant.never_held, put.count);
      always = λ set. put.kept set p.constants.always constant.always_held ∙ constant.always set;
      never = λ set. put.kept set p.constants.never constant.never_held ∙ constant.never set;
    };
    line_count = ap length lines_are ∙ length-map d.lines (node_of conds);
    lines = subst (λ (ns : List NodeId). All (λ node. node.0 < length p.pool) ns) (sym lines_are)
        (All-map (λ (node : NodeId). node.0 < length p.pool) (node_of conds) d.lines
        (All-weaker (λ (line : DocLine). (node_of conds line).0 < length old) (λ (line : DocLine). (node_of conds line).0 < length p.pool) (λ line below. omega (arith, below, put.count)) d.lines keeps.within));
    name_count = put.names.count;
    names = put.names.held;
    permit = put.permit;
    reach = omega (arith, put.reach, keeps.reach);
  }

  kept-all : (choice : Choice) → All (λ line. is_true p.pool choice (node_of conds line) ≡ is_kept (set_names always r choice) (flat_line text d.files (rounds_of d) line)) d.lines
  kept-all choice = λ k e below. put.kept choice (node_of conds (get_or d.lines k e)) (keeps.within k e below) ∙ keeps.kept choice k e below

  tells-all : (choice : Choice) (set : List Bool) → length choice ≡ length r.options → IsClosure r choice set
      → Tells r (flat_of text d) (map (node_of conds) d.lines) p.names.items (is_true p.pool choice) (set_names always r choice) set
  tells-all choice set fits closure = record {
    kept = λ number less.
        kept_by (is_true p.pool choice) (set_names always r choice) (node_of conds) (flat_line text d.files (rounds_of d)) d.lines number (kept-all choice)
        (omega (arith, less, length-map d.lines (flat_line text d.files (rounds_of d))));
    count = closure.count;
    has = λ place below.
        let id = node_at p.names.items place in
        has_by r p.pool choice set place id closure below
        (put.names.each choice fits place id (slice_get-get_or p.names.items place (record { 0 = 0 }) (omega (arith, below, put.names.count))));
  }

  pub say-all : SayAll always r (flat_of text d) p
  say-all = record {
    permitted = put.permitted;
    tells = λ choice set fits closure.
        subst (λ (ns : List NodeId). Tells r (flat_of text d) ns p.names.items (is_true p.pool choice) (set_names always r choice) set) (sym lines_are) (tells-all choice set fits closure);
  }
