use Rattle.std.proofs.Common.{◌≡◌, ◌∙◌, sym, ap, ℕ, ◌<◌, Bool, List, [], ◌++◌, length, get_or, None, Option, arith, subst}
use Rattle.std.specs.List.{AllZip, flat_map}
use Rattle.std.proofs.lemmas.List.{length-append, length-map}
use Rattle.std.proofs.lemmas.List.Elements.{All-append, All-get_or, All-map, All-same, All-weaker}
use Rattle.vkb_formula.specs.declared.pool.NodeId.{NodeId}
use Rattle.doc_tree.specs.declared.CondId.{CondId}
use Rattle.doc_tree.specs.declared.DocLine.{DocLine}
use Rattle.doc_tree.specs.Flat.{FlatLine, is_kept, stands_by_itself}
use Rattle.doc_tree.specs.Loaded.{IsBefore, flat_line, rounds_from}
use Rattle.doc_build.specs.Ids.{page_set}
use Rattle.doc_build.specs.Laws.{is_kept_at}
use Rattle.doc_build.specs.Sites.{sites_at}
use Rattle.lift_nodes.specs.declared.Source.{Source}
use Rattle.lift_nodes.specs.Cases.{page_from}
use Rattle.lift_nodes.specs.Nodes.{is_true}
use Rattle.lift_survey.specs.declared.spots.Spot.{Spot}
use Rattle.lift_survey.specs.Keeping.{IsDocumentOf, IsSpot, IsWorldOf, Keeps, Told, World, all_met, sources_at, withins_at}
use Rattle.lift_survey.specs.Survey.{Sighted, node_at, sighted_at}
use Rattle.lift_survey.proofs.GrowthLemmas.{Grows-then, constants-grown}
use Rattle.lift_survey.proofs.KeepLemmas.{kept-grown, page-grown}
use Rattle.lift_survey.proofs.LineLemmas.{and-true, world-grown}
use Rattle.lift_survey.proofs.SurveyLemmas.{first-part, first_sighted, flat-at, kept-at, kept-more, page-more, sighted-more}
use Rattle.lift_survey.proofs.lines.survey_lines.Goals as goal

pub add_line-requires-clause-ready : goal.add_line-requires-clause-ready
add_line-requires-clause-ready c =
    let old = c.args.pool.now in
    let was = c.loop-number.invariant in
    let number = c.loop-number.number in
    let line = c.index-lines-number.result in
    let below = c.loop-number-test.true in
    let held = All-get_or (λ (n : NodeId). n.0 < length old) c.args.nodes.now number (record { 0 = 0 }) (omega (arith, below, c.requires.count)) c.requires.nodes in
    record {
      constants_are = constants-grown old c.loop-number.pool c.args.constants was.grows c.requires.constants;
      ordered = c.requires.ordered;
      within = subst (λ (l : DocLine). IsBefore (length c.args.conds.now) l.within) (sym c.index-lines-number.is) (All-get_or (λ (l : DocLine). IsBefore (length c.args.conds.now) l.within) c.args.lines.now number line below c.requires.withins);
      standing = omega (arith, held, was.grows.count);
      sources = All-weaker (λ (s : Source). s.line.0 < length old) (λ (s : Source). s.line.0 < length c.loop-number.pool) (λ s so. omega (arith, so, was.grows.count)) c.loop-number.pages.sources.items was.sources;
      count = was.count;
    }

pub loop-number-preserved : goal.loop-number-preserved
loop-number-preserved c =
    let old = c.args.pool.now in
    let pool = c.loop-number.pool in
    let new = c.add_line.new.pool in
    let text = c.args.text.now.bytes in
    let r = c.args.r.now in
    let lines = c.args.lines.now in
    let conds = c.args.conds.now in
    let nodes = c.args.nodes.now in
    let names = c.args.names.now in
    let number = c.loop-number.number in
    let line = c.index-lines-number.result in
    let node : NodeId = get_or nodes number (record { 0 = 0 }) in
    let pages = c.loop-number.pages in
    let after = c.add_page.new.pages in
    let was = c.loop-number.invariant in
    let done = c.in_ok-add_line.ensures in
    let put = c.in_ok-add_page.ensures in
    let below = c.loop-number-test.true in
    let spot : Spot = record { line = number; statement = 0; start = 0; within = line.within; standing = node } in
    let bytes = c.slice-bytes.result.now in
    let survey = c.add_line.new.survey in
    let held : node.0 < length old = All-get_or (λ (n : NodeId). n.0 < length old) nodes number (record { 0 = 0 }) (omega (arith, below, c.requires.count)) c.requires.nodes in
    let flat : World → List (List ℕ) → FlatLine = λ w files. flat_line text files (rounds_from w.table [] conds) line in
    let within : (w : World) (files : List (List ℕ)) → IsDocumentOf w text files lines conds nodes → number < length w.lines =
    λ w files doc. omega (arith, below, ap (λ (ls : List FlatLine). length ls) doc.lines_are, length-map lines (flat_line text files (rounds_from w.table [] conds))) in
    let here : (w : World) (files : List (List ℕ)) → IsDocumentOf w text files lines conds nodes → flat w files ≡ get_or w.lines number (flat w files) =
    λ w files doc. flat-at text files w.table conds lines number line below c.index-lines-number.is ∙ ap (λ (ls : List FlatLine). get_or ls number (flat w files)) (sym doc.lines_are) in
    let told-at : (w : World) (files : List (List ℕ)) → IsWorldOf w old r names → IsDocumentOf w text files lines conds nodes → (choice : List Bool) (set_names : List (List ℕ)) (set : List Bool) → Told w choice set_names set
    → is_true old choice node ≡ is_kept_at set_names w.lines number =
    λ w files world doc choice set_names set told.
    ap (λ (ns : List NodeId). is_true old choice (get_or ns number (record { 0 = 0 }))) (sym doc.nodes_are)
    ∙ world.grows.kept choice (node_at w.line_nodes number)
    (All-get_or (λ (n : NodeId). n.0 < length w.pool) w.line_nodes number (record { 0 = 0 }) (omega (arith, below, c.requires.count, ap (λ (ns : List NodeId). length ns) doc.nodes_are)) doc.held)
    ∙ told.kept number (within w files doc) in
    let is-kept : (w : World) (files : List (List ℕ)) → IsDocumentOf w text files lines conds nodes → (set_names : List (List ℕ)) → is_kept_at set_names w.lines number ≡ is_kept set_names (flat w files) =
    λ w files doc set_names. kept-at w.lines set_names number (flat w files) (within w files doc) (here w files doc) in
    record {
      grows = Grows-then old pool new was.grows done.grows;
      sources =
          All-same (λ (s : Source). s.line.0 < length old) after.sources.items (pages.sources.items ++ sources_at line.kind node) put.sources
          (All-append (λ (s : Source). s.line.0 < length old) pages.sources.items (sources_at line.kind node) was.sources
          (All-map (λ (s : Source). s.line.0 < length old) (λ (page : List ℕ). record { page = page; line = node }) (page_set line.kind) (λ k d so. held)));
      count = omega (
        arith,
        was.count,
        ap (λ (ss : List Source). length ss) put.sources,
        ap (λ (ws : List (Option CondId)). length ws) put.withins,
        length-append pages.sources.items (sources_at line.kind node),
        length-append pages.withins.items (withins_at line.kind line.within),
        length-map {B = Source} (page_set line.kind) (λ (page : List ℕ). record { page = page; line = node }),
        length-map {B = Option CondId} (page_set line.kind) (λ (page : List ℕ). line.within),
      );
      keeps = λ w files world doc keeps.
          let f = flat w files in
          let is : IsSpot w pool conds spot pages [] = record {
            stands = λ choice set_names set told. was.grows.kept choice node held ∙ told-at w files world doc choice set_names set told ∙ sym (and-true (is_kept_at set_names w.lines number));
            round = λ choice set_names set told kept. first-part (all_met w.table set_names conds line.within) (stands_by_itself set_names line.kind) (sym (is-kept w files doc set_names) ∙ kept);
            kept = λ choice set_names set told. kept-grown old pool was.grows choice (all_met w.table set_names conds) pages.sources.items pages.withins.items was.sources (was.kept w files world doc choice set_names set told);
            page = λ choice set_names set told. page-grown old pool was.grows choice None pages.sources.items was.sources ∙ was.page w files world doc choice set_names set told;
          } in
          subst (λ (seen : List Sighted). Keeps w new survey.ids survey.anchors.items survey.links.items seen)
          (ap (λ (bs : List ℕ). first_sighted r w.lines number ++ flat_map sighted_at (sites_at r number bs line.kind)) c.slice-bytes.ensures.bytes
          ∙ sym (sighted-more r w.lines number f (within w files doc) (here w files doc)))
          (done.keeps w (first_sighted r w.lines number) (world-grown w old pool r names was.grows world) is (was.keeps w files world doc keeps));
      kept = λ w files world doc choice set_names set told.
          let met = all_met w.table set_names conds in
          let R : Source → Option CondId → Type 0 = λ s o. is_true old choice s.line ≡ met o in
          subst (λ (ss : List Source). AllZip R ss after.withins.items) (sym put.sources)
          (subst (λ (ws : List (Option CondId)). AllZip R (pages.sources.items ++ sources_at line.kind node) ws) (sym put.withins)
          (kept-more set_names (is_true old choice) met pages.sources.items pages.withins.items line.kind node line.within (was.kept w files world doc choice set_names set told)
          (told-at w files world doc choice set_names set told ∙ is-kept w files doc set_names)));
      page = λ w files world doc choice set_names set told.
          ap (page_from (is_true old choice) None) put.sources
          ∙ page-more (is_true old choice) w.lines set_names number (flat w files) pages.sources.items node (within w files doc) (here w files doc)
          (told-at w files world doc choice set_names set told ∙ is-kept w files doc set_names) (was.page w files world doc choice set_names set told);
    }
