-- The marks so far, as the pool and the ids grow and more marks come.
use Rattle.std.proofs.Common.{◌≡◌, ◌∙◌, refl, sym, ap, ℕ, ◌<◌, ◌≤◌, Bool, true, false, not, ◌&&◌, cond, List, [], ◌∷◌, ◌++◌, length, map, get_or, Option, Some, None, All, Contains, arith, subst}
use Rattle.std.specs.Prelude.{filter}
use Rattle.std.specs.List.{AllZip, list_all}
use Rattle.std.specs.Str.{bytes_eq}
use Rattle.std.proofs.lemmas.Bool.{le-ltb, lt-ltb}
use Rattle.std.proofs.lemmas.List.{append-nil}
use Rattle.std.proofs.lemmas.List.Elements.{All-head, All-tail, All-weaker, filter-append}
use Rattle.vkb_formula.specs.declared.name_table.NameId.{NameId}
use Rattle.vkb_formula.specs.declared.pool.NodeId.{NodeId}
use Rattle.vkb_formula.specs.declared.pool.PoolNode.{PoolNode}
use Rattle.doc_marks.specs.declared.Mark.{Mark}
use Rattle.doc_tree.specs.declared.Cond.{Cond}
use Rattle.doc_tree.specs.declared.CondId.{CondId}
use Rattle.doc_build.specs.Ids.{filled}
use Rattle.doc_build.specs.Laws.{is_kept_at}
use Rattle.doc_build.specs.Pages.{has}
use Rattle.doc_build.specs.Pieces.{id_in}
use Rattle.doc_build.specs.Sites.{is_standing}
use Rattle.lift_nodes.specs.declared.Constants.{Constants}
use Rattle.lift_nodes.specs.declared.Source.{Source}
use Rattle.lift_nodes.specs.Cases.{AreConstant, page_from}
use Rattle.lift_nodes.specs.Nodes.{is_true}
use Rattle.lift_survey.specs.declared.Case.{Case}
use Rattle.lift_survey.specs.declared.LiftedMark.{LiftedMark}
use Rattle.lift_survey.specs.declared.pages.Pages.{Pages}
use Rattle.lift_survey.specs.declared.spots.Spot.{Spot}
use Rattle.lift_survey.specs.Growth.{Grows, HasMore, IsBoth, IsNeeded}
use Rattle.lift_survey.specs.Keeping.{AreCases, IsReady, IsSpot, Keeps, Lifts, World, all_met, id_told, site_at}
use Rattle.lift_survey.specs.Survey.{Sighted, id_named, mark_id, place_of}
use Rattle.lift_survey.proofs.GrowthLemmas.{constants-grown, id-stays, ids-count}
use Rattle.lift_survey.proofs.IdLemmas.{zip-push, zip-weaker}

-- ---- names that are needed

and-false : (b : Bool) → (b && false) ≡ false
and-false true = refl
and-false false = refl

pub need-absent : (pool : List PoolNode) (standing : NodeId) (id : NameId) (names : List NodeId) (constants : Constants) → AreConstant pool constants → length names ≤ id.0
    → IsNeeded pool pool standing (Some id) names constants.never
need-absent pool standing id names constants are absent = record {
  held = are.never_held;
  value = λ set.
      are.never set
      ∙ sym (ap (λ b. is_true pool set standing && cond b (is_true pool set (get_or names id.0 (record { 0 = 0 }))) false) (le-ltb id.0 (length names) absent) ∙ and-false (is_true pool set standing));
}

pub need-there : (old new : List PoolNode) (standing : NodeId) (id : NameId) (names : List NodeId) (node : NodeId) → id.0 < length names → IsBoth old new standing (get_or names id.0 (record { 0 = 0 })) node
    → IsNeeded old new standing (Some id) names node
need-there old new standing id names node there both = record {
  held = both.held;
  value = λ set.
      both.value set
      ∙ sym (ap (λ b. is_true old set standing && cond b (is_true old set (get_or names id.0 (record { 0 = 0 }))) false) (lt-ltb id.0 (length names) there));
}

-- ---- what is given, where the pool grows

pub ready-grown : (old new : List PoolNode) (constants : Constants) (conds : List Cond) (spot : Spot) (pages : Pages) → Grows old new → IsReady old constants conds spot pages → IsReady new constants conds spot pages
ready-grown old new constants conds spot pages grows ready = record {
  constants_are = constants-grown old new constants grows ready.constants_are;
  ordered = ready.ordered;
  within = ready.within;
  standing = omega (arith, ready.standing, grows.count);
  sources = All-weaker (λ (s : Source). s.line.0 < length old) (λ (s : Source). s.line.0 < length new) (λ s below. omega (arith, below, grows.count)) pages.sources.items ready.sources;
  count = ready.count;
}

module _ (old new : List PoolNode) (grows : Grows old new) (set : List Bool) where
  pub kept-grown : (met : Option CondId → Bool) (sources : List Source) (withins : List (Option CondId)) → All (λ s. s.line.0 < length old) sources
      → AllZip (λ source within. is_true old set source.line ≡ met within) sources withins → AllZip (λ source within. is_true new set source.line ≡ met within) sources withins
  kept-grown met [] [] held kept = tt
  kept-grown met [] (within ∷ withins) held kept = absurd kept
  kept-grown met (source ∷ sources) [] held kept = absurd kept
  kept-grown met (source ∷ sources) (within ∷ withins) held kept = (
    grows.kept set source.line (All-head (λ (s : Source). s.line.0 < length old) source sources held) ∙ kept.0,
    kept-grown met sources withins (All-tail (λ (s : Source). s.line.0 < length old) source sources held) kept.1,
  )

  pub page-grown : (page : Option (List ℕ)) (sources : List Source) → All (λ s. s.line.0 < length old) sources → page_from (is_true new set) page sources ≡ page_from (is_true old set) page sources
  page-grown page [] held = refl
  page-grown page (source ∷ sources) held =
      ap (λ b. page_from (is_true new set) (cond b (Some source.page) page) sources) (grows.kept set source.line (All-head (λ (s : Source). s.line.0 < length old) source sources held))
      ∙ page-grown (cond (is_true old set source.line) (Some source.page) page) sources (All-tail (λ (s : Source). s.line.0 < length old) source sources held)

pub spot-grown : (w : World) (old new : List PoolNode) (constants : Constants) (conds : List Cond) (spot : Spot) (pages : Pages) (needs : List NameId) → Grows old new → IsReady old constants conds spot pages
    → IsSpot w old conds spot pages needs → IsSpot w new conds spot pages needs
spot-grown w old new constants conds spot pages needs grows ready is = record {
  stands = λ choice names set told. grows.kept choice spot.standing ready.standing ∙ is.stands choice names set told;
  round = is.round;
  kept = λ choice names set told. kept-grown old new grows choice (all_met w.table names conds) pages.sources.items pages.withins.items ready.sources (is.kept choice names set told);
  page = λ choice names set told. page-grown old new grows choice None pages.sources.items ready.sources ∙ is.page choice names set told;
}

-- ---- a mark, where the pool and the ids grow

named-grown : (ids more : List (List ℕ)) → HasMore ids more → (cases : List Case) → All (λ case. case.id.0 < length ids) cases → map (id_named more) cases ≡ map (id_named ids) cases
named-grown ids more has [] within = refl
named-grown ids more has (case ∷ cases) within =
    ap (λ (id : List ℕ). id ∷ map (id_named more) cases) (id-stays ids more has case.id.0 (All-head (λ (c : Case). c.id.0 < length ids) case cases within))
    ∙ ap (λ (rest : List (List ℕ)). id_named ids case ∷ rest) (named-grown ids more has cases (All-tail (λ (c : Case). c.id.0 < length ids) case cases within))

pub lifts-grown : (w : World) (old new : List PoolNode) (ids more : List (List ℕ)) → Grows old new → HasMore ids more → (s : Sighted) (m : LiftedMark) → Lifts w old ids s m → Lifts w new more s m
lifts-grown w old new ids more grows has s m was = record {
  held = All-weaker (λ (c : Case). c.node.0 < length old) (λ (c : Case). c.node.0 < length new) (λ c below. omega (arith, below, grows.count)) m.cases was.held;
  numbered = All-weaker (λ (c : Case). c.id.0 < length ids) (λ (c : Case). c.id.0 < length more) (λ c below. omega (arith, below, ids-count ids more has)) m.cases was.numbered;
  lifted = λ choice names set told.
      let is = was.lifted choice names set told in
      record {
        place = is.place;
        each = λ k d below.
            grows.kept choice (get_or m.cases k d).node (was.held k d below)
            ∙ is.each k d below
            ∙ ap (λ (id : List ℕ). is_standing names set w.lines s.site && bytes_eq id (mark_id names w.lines s)) (sym (id-stays ids more has (get_or m.cases k d).id.0 (was.numbered k d below)));
        some = λ stands. subst (λ (found : List (List ℕ)). Contains found (mark_id names w.lines s)) (sym (named-grown ids more has m.cases was.numbered)) (is.some stands);
        once = is.once;
      };
}

-- ---- a mark more

first-true : (a b : Bool) → (a && b) ≡ true → a ≡ true
first-true true b both = refl
first-true false b both = absurd cc

pub lifts-new : (w : World) (old new : List PoolNode) (more : List (List ℕ)) (conds : List Cond) (spot : Spot) (pages : Pages) (needs : List NameId) (bytes : List ℕ) (mark : Mark) (m : LiftedMark)
    → IsSpot w old conds spot pages needs → AreCases old new more conds spot pages (id_in bytes mark) m.cases → m.place ≡ place_of (record { site = site_at spot bytes needs; mark = mark })
    → Lifts w new more (record { site = site_at spot bytes needs; mark = mark }) m
lifts-new w old new more conds spot pages needs bytes mark m is cases place = record {
  held = cases.held;
  numbered = cases.numbered;
  lifted = λ choice names set told.
      let s : Sighted = record { site = site_at spot bytes needs; mark = mark } in
      let stands = is.stands choice names set told in
      let kept = is.kept choice names set told in
      let round : is_true old choice spot.standing ≡ true → all_met w.table names conds spot.within ≡ true =
      λ on. is.round choice names set told (first-true (is_kept_at names w.lines spot.line) (list_all (has set) needs) (sym stands ∙ on)) in
      let id : id_told (is_true old choice) pages (id_in bytes mark) ≡ mark_id names w.lines s = ap (λ (p : Option (List ℕ)). filled p (id_in bytes mark)) (is.page choice names set told) in
      record {
        place = place;
        each = λ k d below.
            cases.each choice w.table names kept round k d below
            ∙ ap (λ b. b && bytes_eq (id_named more (get_or m.cases k d)) (id_told (is_true old choice) pages (id_in bytes mark))) stands
            ∙ ap (λ (i : List ℕ). is_standing names set w.lines s.site && bytes_eq (id_named more (get_or m.cases k d)) i) id;
        some = λ on. subst (λ (i : List ℕ). Contains (map (id_named more) m.cases) i) id (cases.some choice w.table names kept round (stands ∙ on));
        once = cases.once;
      };
}

filter-kept : (test : Sighted → Bool) (seen : List Sighted) (s : Sighted) → test s ≡ true → filter test (seen ++ s ∷ []) ≡ filter test seen ++ s ∷ []
filter-kept test seen s is = filter-append test seen (s ∷ []) ∙ ap (λ b. filter test seen ++ cond b (s ∷ []) []) is

filter-left : (test : Sighted → Bool) (seen : List Sighted) (s : Sighted) → test s ≡ false → filter test (seen ++ s ∷ []) ≡ filter test seen
filter-left test seen s isnt = filter-append test seen (s ∷ []) ∙ ap (λ b. filter test seen ++ cond b (s ∷ []) []) isnt ∙ append-nil (filter test seen)

module _ (w : World) (old new : List PoolNode) (ids more : List (List ℕ)) (grows : Grows old new) (has : HasMore ids more) (s : Sighted) (m : LiftedMark) (lifts : Lifts w new more s m) (seen : List Sighted) where
  zip-more : (test : Sighted → Bool) (marks after : List LiftedMark) → after ≡ marks ++ m ∷ [] → test s ≡ true → AllZip (Lifts w old ids) (filter test seen) marks → AllZip (Lifts w new more) (filter test (seen ++ s ∷ [])) after
  zip-more test marks after pushed is all =
      subst (λ (ss : List Sighted). AllZip (Lifts w new more) ss after) (sym (filter-kept test seen s is))
      (subst (λ (ms : List LiftedMark). AllZip (Lifts w new more) (filter test seen ++ s ∷ []) ms) (sym pushed)
      (zip-push (Lifts w new more) (filter test seen) marks s m (zip-weaker (Lifts w old ids) (Lifts w new more) (lifts-grown w old new ids more grows has) (filter test seen) marks all) lifts))

  zip-same : (test : Sighted → Bool) (marks : List LiftedMark) → test s ≡ false → AllZip (Lifts w old ids) (filter test seen) marks → AllZip (Lifts w new more) (filter test (seen ++ s ∷ [])) marks
  zip-same test marks isnt all =
      subst (λ (ss : List Sighted). AllZip (Lifts w new more) ss marks) (sym (filter-left test seen s isnt))
      (zip-weaker (Lifts w old ids) (Lifts w new more) (lifts-grown w old new ids more grows has) (filter test seen) marks all)

  pub keeps-anchor : (anchors links after : List LiftedMark) → after ≡ anchors ++ m ∷ [] → s.mark.anchor ≡ true → Keeps w old ids anchors links seen → Keeps w new more after links (seen ++ s ∷ [])
  keeps-anchor anchors links after pushed is keeps = record {
    anchors_are = zip-more (λ t. t.mark.anchor) anchors after pushed is keeps.anchors_are;
    links_are = zip-same (λ t. not t.mark.anchor) links (ap not is) keeps.links_are;
  }

  pub keeps-link : (anchors links after : List LiftedMark) → after ≡ links ++ m ∷ [] → s.mark.anchor ≡ false → Keeps w old ids anchors links seen → Keeps w new more anchors after (seen ++ s ∷ [])
  keeps-link anchors links after pushed isnt keeps = record {
    anchors_are = zip-same (λ t. t.mark.anchor) anchors isnt keeps.anchors_are;
    links_are = zip-more (λ t. not t.mark.anchor) links after pushed (ap not isnt) keeps.links_are;
  }
