-- The first link that breaks by the nodes is the first that some permitted choice breaks.
use Rattle.std.proofs.Common.{◌≡◌, ◌∙◌, sym, ap, subst, ℕ, ◌+◌, ◌<◌, Bool, true, false, not, eqb, List, [], ◌∷◌, ◌++◌, length, map, take, drop, get_or, slice_get, replicate, Option, Some, None, IfSome, All, Contains, arith}
use Rattle.std.specs.List.{AllZip}
use Rattle.std.proofs.lemmas.Bool.{and_parts, false≢true}
use Rattle.std.proofs.lemmas.List.{drop_more, length-map, length-replicate, map-append, take-append-drop}
use Rattle.std.proofs.lemmas.List.Elements.{All-contains, All-cons, All-get_or, All-head, All-nil, All-tail, All-take}
use Rattle.std.proofs.lemmas.Option.{get_or_from_slice_get, same_Some, slice_get_within}
use Rattle.vkb_formula.specs.Names.{AreDifferent}
use Rattle.vkb_formula.specs.declared.pool.NodeId.{NodeId}
use Rattle.vkb_formula.specs.declared.pool.PoolNode.{PoolNode}
use Rattle.doc_tree.specs.Flat.{FlatLine}
use Rattle.reg_registry.specs.Rows.{Rows}
use Rattle.reg_permit.specs.Size.{SaysPermitted}
use Rattle.doc_build.specs.Breaks.{IsSound}
use Rattle.doc_build.specs.Built.{set_names}
use Rattle.doc_build.specs.Choices.{Choice, Setting}
use Rattle.doc_build.specs.Pieces.{Link, all_links, count_of}
use Rattle.doc_build.specs.Settings.{registry_setting}
use Rattle.doc_build.specs.Sites.{LinksStandWithTheirLines, MarksAtSomeChoice, MarksFollowTheChoice, sites}
use Rattle.lift_nodes.specs.Nodes.{is_true}
use Rattle.lift_survey.specs.declared.Case.{Case}
use Rattle.lift_survey.specs.declared.LiftedMark.{LiftedMark}
use Rattle.lift_survey.specs.Survey.{AreHeld, AreLifted, IsLifted, Sighted, sighted_links}
use Rattle.lift_ask.specs.declared.breaking.Broken.{Broken}
use Rattle.lift_ask.specs.Breaking.{IsFirstBroken as IsFirstWrong, IsFound, NeverBreak, anchors_with, is_broken}
use Rattle.lift_check.specs.declared.Verdict.{Verdict}
use Rattle.lift_check.specs.declared.Verdict.TheVariants.{No, Yes}
use Rattle.lift_check.specs.Judging.{IsAsked, IsVerdictBy}
use Rattle.lift_check.specs.Verdict.{IsVerdict}
use Rattle.lift_check.proofs.SightedLemmas.{IsLinkOf, link_of, links-are, links-made}
use Rattle.lift_check.proofs.TellingLemmas.{breaks-from, broken-from, counted, id-there}
use Rattle.lift_check.proofs.ZipLemmas.{same_length, zip_at, zip_take}

-- a list with a place has an element
first-of : {X : Type 0} (xs : List X) (place : ℕ) → place < length xs → X
first-of [] place within = absurd (omega (arith, within))
first-of (x ∷ xs) place within = x

-- what was found is one of the links and one of its ids
pub found-within : (nodes : List PoolNode) (rule : NodeId) (vars : ℕ) (anchors links : List LiftedMark) (broken : Option Broken) → IsFound nodes rule vars anchors links broken → IfSome broken (λ b. b.link < length links)
found-within nodes rule vars anchors links None found = tt
found-within nodes rule vars anchors links (Some broken) found = slice_get_within links broken.link found.link found.here

pub found-numbered : (nodes : List PoolNode) (rule : NodeId) (vars ids : ℕ) (anchors links : List LiftedMark) (broken : Option Broken) → All (AreHeld (length nodes) ids) links → IsFound nodes rule vars anchors links broken
    → IfSome broken (λ b. b.id.0 < ids)
found-numbered nodes rule vars ids anchors links None held found = tt
found-numbered nodes rule vars ids anchors links (Some broken) held found =
    let own : AreHeld (length nodes) ids found.link =
    subst (AreHeld (length nodes) ids) (get_or_from_slice_get links broken.link found.link found.link found.here)
    (All-get_or (AreHeld (length nodes) ids) links broken.link found.link (slice_get_within links broken.link found.link found.here) held) in
    subst (λ (id : ℕ). id < ids) (ap (λ id. id.0) found.id_is) (All-contains (λ (c : Case). c.id.0 < ids) found.link.cases found.case own.id found.is_case)

-- ---- the verdict

-- what the laws say of built texts
pub record AreLaws : Type 0 where
  pub at_some : MarksAtSomeChoice
  pub follow : MarksFollowTheChoice
  pub stand : LinksStandWithTheirLines

-- the nodes of the marks tell what the built texts have, and one which choices are permitted
pub record IsSurveyed (always : List (List ℕ)) (r : Rows) (lines : List FlatLine) (closure : Choice → List Bool) (nodes : List PoolNode) (permit : NodeId) (ids : List (List ℕ)) (anchors links : List LiftedMark) : Type 0 where
  pub different : AreDifferent ids
  pub anchors_held : All (AreHeld (length nodes) (length ids)) anchors
  pub links_held : All (AreHeld (length nodes) (length ids)) links
  pub lifted : (choice : Choice) → length choice ≡ length r.options → AreLifted (is_true nodes choice) (set_names always r choice) (closure choice) r lines ids anchors links
  pub permitted : (choice : Choice) → length choice ≡ length r.options → SaysPermitted r nodes permit choice

module _ (laws : AreLaws) (always : List (List ℕ)) (r : Rows) (lines : List FlatLine) (closure : Choice → List Bool) (nodes : List PoolNode) (permit : NodeId) (ids : List (List ℕ)) (anchors links : List LiftedMark)
    (surveyed : IsSurveyed always r lines closure nodes permit ids anchors links) where
  abbrev over : Setting
  over = registry_setting always r closure

  abbrev options : ℕ
  options = length r.options

  abbrev seen : List Sighted
  seen = sighted_links r lines

  abbrev told : Choice → NodeId → Bool
  told choice = is_true nodes choice

  abbrev LiftedAt : Choice → Sighted → LiftedMark → Type 0
  LiftedAt choice s m = IsLifted (is_true nodes choice) (set_names always r choice) (closure choice) lines ids s m

  -- the links of the document
  links-seen : all_links over lines ≡ map link_of seen
  links-seen = laws.at_some.links always r closure lines ∙ links-made (sites r lines)

  -- each is lifted
  zipped : (choice : Choice) → length choice ≡ options → AllZip (LiftedAt choice) seen links
  zipped choice fits = (surveyed.lifted choice fits).links_are

  as-many : length seen ≡ length links
  as-many =
      let nothing : Choice = replicate options false in
      same_length (LiftedAt nothing) seen links (zipped nothing (length-replicate options false))

  -- a link that no set breaks is sound
  sound-one : (s : Sighted) (m : LiftedMark) → ((choice : Choice) → length choice ≡ options → LiftedAt choice s m) → AreHeld (length nodes) (length ids) m → IsLinkOf (sites r lines) s
      → ((choice : Choice) → length choice ≡ options → is_true nodes choice permit ≡ true → is_broken (told choice) anchors m ≡ false) → IsSound over lines (link_of s)
  sound-one s m lifted held there never = λ choice permits breaks.
      let broken = broken-from laws.follow laws.stand always r lines closure ids surveyed.different (length nodes) anchors links surveyed.anchors_held choice (told choice) (surveyed.lifted choice permits.0)
      s m (lifted choice permits.0) held there breaks in
      false≢true (sym (never choice permits.0 ((surveyed.permitted choice permits.0).all permits.1)) ∙ broken)

  -- and so are links of which each is one
  sound-all : (some : List Sighted) (marks : List LiftedMark) → ((choice : Choice) → length choice ≡ options → AllZip (LiftedAt choice) some marks) → All (AreHeld (length nodes) (length ids)) marks
      → All (IsLinkOf (sites r lines)) some → NeverBreak nodes permit options anchors marks → All (IsSound over lines) (map link_of some)
  sound-all [] marks zip held there never = All-nil (IsSound over lines)
  sound-all (s ∷ some) [] zip held there never = λ k d within choice permits. absurd (zip choice permits.0)
  sound-all (s ∷ some) (m ∷ marks) zip held there never =
      All-cons (IsSound over lines) (link_of s) (map link_of some)
      (sound-one s m (λ choice fits. (zip choice fits).0) (All-head (AreHeld (length nodes) (length ids)) m marks held) (All-head (IsLinkOf (sites r lines)) s some there)
      (λ choice fits on. All-head (λ (link : LiftedMark). is_broken (told choice) anchors link ≡ false) m marks (never choice fits on)))
      (sound-all some marks (λ choice fits. (zip choice fits).1) (All-tail (AreHeld (length nodes) (length ids)) m marks held) (All-tail (IsLinkOf (sites r lines)) s some there)
      (λ choice fits on. All-tail (λ (link : LiftedMark). is_broken (told choice) anchors link ≡ false) m marks (never choice fits on)))

  yes-is : NeverBreak nodes permit options anchors links → IsVerdict over lines (Yes (length links))
  yes-is never = (
    sym (ap length links-seen ∙ (length-map seen link_of ∙ as-many)),
    subst (λ (ls : List Link). All (IsSound over lines) ls) (sym links-seen) (sound-all seen links zipped surveyed.links_held (links-are r lines) never),
  )

  -- the mark and the sighted link at a place
  module _ (at : ℕ) (m : LiftedMark) (here : slice_get links at ≡ Some m) (some : Sighted) where
    abbrev sight : Sighted
    sight = get_or seen at some

    inside : at < length links
    inside = slice_get_within links at m here

    inside-seen : at < length seen
    inside-seen = omega (arith, inside, as-many)

    lifted-at : (choice : Choice) → length choice ≡ options → LiftedAt choice sight m
    lifted-at choice fits = subst (λ (x : LiftedMark). LiftedAt choice sight x) (get_or_from_slice_get links at m m here) (zip_at (LiftedAt choice) seen links at some m (zipped choice fits) inside-seen)

    held-at : AreHeld (length nodes) (length ids) m
    held-at = subst (AreHeld (length nodes) (length ids)) (get_or_from_slice_get links at m m here) (All-get_or (AreHeld (length nodes) (length ids)) links at m inside surveyed.links_held)

    link-at : IsLinkOf (sites r lines) sight
    link-at = All-get_or (IsLinkOf (sites r lines)) seen at some inside-seen (links-are r lines)

    split : all_links over lines ≡ map link_of (take at seen) ++ link_of sight ∷ map link_of (drop (at + 1) seen)
    split =
        links-seen
        ∙ (ap (map link_of) (sym (take-append-drop at seen) ∙ ap (λ (rest : List Sighted). take at seen ++ rest) (drop_more seen at some inside-seen))
        ∙ map-append link_of (take at seen) (sight ∷ drop (at + 1) seen))

  no-is : (broken : Broken) (m : LiftedMark) (id : List ℕ) → IsFirstWrong nodes permit options anchors links broken → slice_get links broken.link ≡ Some m → slice_get ids broken.id.0 ≡ Some id
      → IsVerdict over lines (No m.place id broken.set broken.count)
  no-is broken m id first here named =
      let at = broken.link in
      let choice : Choice = broken.set in
      let some = first-of seen at (omega (arith, slice_get_within links at m here, as-many)) in
      let s = get_or seen at some in
      let lifted = lifted-at at m here some choice first.each in
      let held = held-at at m here some in
      let same : first.link ≡ m = same_Some first.link m (sym first.here ∙ here) in
      let among : Contains m.cases first.case = subst (λ (x : LiftedMark). Contains x.cases first.case) same first.is_case in
      let number : first.case.id.0 ≡ broken.id.0 = ap (λ id. id.0) first.id_is in
      let on = (and_parts (told choice first.case.node) (not (eqb (anchors_with (told choice) anchors first.case.id.0) 1)) first.wrong).0 in
      let name : get_or ids broken.id.0 [] ≡ id = get_or_from_slice_get ids broken.id.0 id [] named in
      let id_is = id-there laws.follow laws.stand always r lines closure ids surveyed.different (length nodes) anchors links surveyed.anchors_held choice (told choice) (surveyed.lifted choice first.each) s m first.case lifted among on in
      record {
        before = map link_of (take at seen);
        link = link_of s;
        after = map link_of (drop (at + 1) seen);
        here = split at m here some;
        first = sound-all (take at seen) (take at links) (λ c fits. zip_take (LiftedAt c) at seen links (zipped c fits)) (All-take (AreHeld (length nodes) (length ids)) at links surveyed.links_held)
            (All-take (IsLinkOf (sites r lines)) at seen (links-are r lines)) first.none_before;
        permitted = (first.each, (surveyed.permitted choice first.each).only first.rule_holds);
        broken = breaks-from laws.follow laws.stand always r lines closure ids surveyed.different (length nodes) anchors links surveyed.anchors_held choice (told choice) (surveyed.lifted choice first.each)
            s m first.case lifted held (link-at at m here some) among first.wrong;
        place_is = lifted.place;
        id_is = sym name ∙ (ap (λ (n : ℕ). get_or ids n []) (sym number) ∙ id_is.1);
        counted = first.counted
            ∙ (sym (counted laws.follow laws.stand always r lines closure ids surveyed.different (length nodes) anchors links surveyed.anchors_held choice (told choice) (surveyed.lifted choice first.each)
            broken.id.0 (slice_get_within ids broken.id.0 id named)) ∙ ap (count_of over lines choice) name);
      }

  -- the verdict by what is asked
  pub verdict-is : (verdict : Verdict) → IsAsked nodes permit options ids anchors links verdict → IsVerdict over lines verdict
  verdict-is verdict (broken, found, by) = verdict-by broken verdict found by
    where
      verdict-by : (o : Option Broken) (v : Verdict) → IsFound nodes permit options anchors links o → IsVerdictBy ids links o v → IsVerdict over lines v
      verdict-by None v found by = rw by (yes-is found)
      verdict-by (Some broken) v found (m, id, here, named, by) = rw by (no-is broken m id found here named)
