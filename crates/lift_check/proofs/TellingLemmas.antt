-- What the nodes of the cases tell at one choice: how many anchors an id has there, and which links break.
use Rattle.std.proofs.Common.{◌≡◌, ◌∙◌, refl, sym, ap, subst, ℕ, ◌+◌, ◌<◌, Bool, true, false, not, ◌&&◌, cond, eqb, List, [], ◌∷◌, length, get_or, slice_get, Some, All, Contains, arith}
use Rattle.std.specs.Prelude.{count_by}
use Rattle.std.specs.List.{AllZip, flat_map}
use Rattle.std.specs.Str.{bytes_eq}
use Rattle.std.proofs.lemmas.Bool.{and_from, and_parts, eq-eqb, eqb-true, false≢true, ne_eqb, not-true}
use Rattle.std.proofs.lemmas.List.{get_or-map, get_or_default, length-map}
use Rattle.std.proofs.lemmas.List.Concat.{flat_map-cons}
use Rattle.std.proofs.lemmas.List.Elements.{All-contains, All-get_or, All-head, All-tail}
use Rattle.std.proofs.lemmas.List.Folds.{list_any_at}
use Rattle.std.proofs.lemmas.Option.{slice_get-get_or}
use Rattle.std.proofs.lemmas.Slice.Eq.{bytes_eq-Decides}
use Rattle.vkb_formula.specs.Names.{AreDifferent}
use Rattle.vkb_formula.specs.declared.pool.NodeId.{NodeId}
use Rattle.doc_tree.specs.Flat.{FlatLine}
use Rattle.reg_registry.specs.Rows.{Rows}
use Rattle.doc_build.specs.Breaks.{Breaks}
use Rattle.doc_build.specs.Built.{set_names}
use Rattle.doc_build.specs.Choices.{Choice, Setting}
use Rattle.doc_build.specs.Pieces.{Anchor, anchor_id, count_of}
use Rattle.doc_build.specs.Settings.{registry_setting}
use Rattle.doc_build.specs.Sites.{LinksStandWithTheirLines, MarksFollowTheChoice, Site, is_standing, sites}
use Rattle.lift_survey.specs.declared.Case.{Case}
use Rattle.lift_survey.specs.declared.LiftedMark.{LiftedMark}
use Rattle.lift_survey.specs.Survey.{AreHeld, AreLifted, IsLifted, Sighted, id_named, mark_id, sighted_anchors}
use Rattle.lift_ask.specs.Breaking.{anchors_with, cases_of, is_broken, is_wrong}
use Rattle.lift_check.proofs.CountLemmas.{count-alike, count-also, count-append, count-cons, count-filter, count-one}
use Rattle.lift_check.proofs.SightedLemmas.{IsLinkOf, anchors-counted, link_of}

-- ---- one mark

-- a test of a number that is another besides is a test of the other
where-same : (test : ℕ → Bool) (k n : ℕ) (is : Bool) → eqb k n ≡ is → (is && test k) ≡ (is && test n)
where-same test k n true was = ap test (eqb-true k n was)
where-same test k n false was = refl

-- a count of one, where something holds
where-one : (b : Bool) (n : ℕ) → (b ≡ true → n ≡ 1) → cond b n 0 ≡ cond b 1 0
where-one true n one = one refl
where-one false n one = refl

module _ (told : NodeId → Bool) (names : List (List ℕ)) (set : List Bool) (lines : List FlatLine) (ids : List (List ℕ)) (different : AreDifferent ids) (nodes : ℕ) where
  abbrev name_of : ℕ → List ℕ
  name_of n = get_or ids n []

  -- the mark stands and has this id
  abbrev stands_as : List ℕ → Sighted → Bool
  stands_as name s = is_standing names set lines s.site && bytes_eq name (mark_id names lines s)

  abbrev Lifted : Sighted → LiftedMark → Type 0
  Lifted s m = IsLifted told names set lines ids s m

  abbrev Held : LiftedMark → Type 0
  Held m = AreHeld nodes (length ids) m

  -- where a mark stands, it has the id of one of its cases
  pub record HasCase (s : Sighted) (m : LiftedMark) : Type 0 where
    pub place : ℕ
    pub case : Case
    pub here : slice_get m.cases place ≡ Some case
    pub within : place < length m.cases
    pub read : get_or m.cases place case ≡ case
    pub named : id_named ids case ≡ mark_id names lines s

  pub has-case : (s : Sighted) (m : LiftedMark) → Lifted s m → is_standing names set lines s.site ≡ true → HasCase s m
  has-case s m lifted stands =
      let none : Case = record { id = record { 0 = 0 }; node = record { 0 = 0 } } in
      let found = lifted.some stands in
      let within : found.0 < length m.cases = omega (arith, found.1, length-map m.cases (id_named ids)) in
      record {
        place = found.0;
        case = get_or m.cases found.0 none;
        here = slice_get-get_or m.cases found.0 none within;
        within = within;
        read = get_or_default m.cases found.0 (get_or m.cases found.0 none) none within;
        named = sym (get_or-map (id_named ids) m.cases found.0 none (mark_id names lines s) within) ∙ found.2;
      }

  -- ids of one name have one number
  one-number : (k n : ℕ) → k < length ids → n < length ids → name_of k ≡ name_of n → k ≡ n
  one-number k n held also same = different k n (name_of n) (slice_get-get_or ids k [] held ∙ ap Some same) (slice_get-get_or ids n [] also)

  -- a mark has one case of an id's number where it stands and has the id
  one-of : (n : ℕ) → n < length ids → (s : Sighted) (m : LiftedMark) → Lifted s m → Held m → stands_as (name_of n) s ≡ true → count_by (λ case. eqb case.id.0 n) m.cases ≡ 1
  one-of n within s m lifted held stands =
      let parts = and_parts (is_standing names set lines s.site) (bytes_eq (name_of n) (mark_id names lines s)) stands in
      let has = has-case s m lifted parts.0 in
      let same : name_of has.case.id.0 ≡ name_of n = has.named ∙ sym ((bytes_eq-Decides (name_of n) (mark_id names lines s)).0 parts.1) in
      let below : has.case.id.0 < length ids = subst (λ (c : Case). c.id.0 < length ids) has.read (All-get_or (λ (c : Case). c.id.0 < length ids) m.cases has.place has.case has.within held.id) in
      count-one (λ case. case.id.0) m.cases n has.place has.case lifted.once has.here (one-number has.case.id.0 n below within same)

  -- so it is counted under the number there, and nowhere else
  pub mark-counted : (n : ℕ) → n < length ids → (s : Sighted) (m : LiftedMark) → Lifted s m → Held m → count_by (λ case. told case.node) (cases_of n m) ≡ cond (stands_as (name_of n) s) 1 0
  mark-counted n within s m lifted held =
      let test : ℕ → Bool = λ k. stands_as (name_of k) s in
      count-filter (λ (case : Case). told case.node) (λ (case : Case). eqb case.id.0 n) m.cases
      ∙ (count-alike (λ (case : Case). eqb case.id.0 n && told case.node) (λ (case : Case). eqb case.id.0 n && test n) m.cases
      (λ k d below. ap (λ (b : Bool). eqb (get_or m.cases k d).id.0 n && b) (lifted.each k d below) ∙ where-same test (get_or m.cases k d).id.0 n (eqb (get_or m.cases k d).id.0 n) refl)
      ∙ (count-also (λ (case : Case). eqb case.id.0 n) (test n) m.cases
      ∙ where-one (test n) (count_by (λ case. eqb case.id.0 n) m.cases) (one-of n within s m lifted held)))

  -- ---- all anchors

  pub marks-counted : (n : ℕ) → n < length ids → (seen : List Sighted) (marks : List LiftedMark) → AllZip (IsLifted told names set lines ids) seen marks → All Held marks
      → count_by (stands_as (name_of n)) seen ≡ anchors_with told marks n
  marks-counted n within [] [] all held = refl
  marks-counted n within [] (m ∷ marks) all held = absurd all
  marks-counted n within (s ∷ seen) [] all held = absurd all
  marks-counted n within (s ∷ seen) (m ∷ marks) all held =
      let on : Case → Bool = λ case. told case.node in
      count-cons (stands_as (name_of n)) s seen
      ∙ (ap (λ (k : ℕ). k + count_by (stands_as (name_of n)) seen) (sym (mark-counted n within s m all.0 (All-head Held m marks held)))
      ∙ (ap (λ (k : ℕ). count_by on (cases_of n m) + k) (marks-counted n within seen marks all.1 (All-tail Held m marks held))
      ∙ (sym (count-append on (cases_of n m) (flat_map (cases_of n) marks)) ∙ ap (count_by on) (sym (flat_map-cons (cases_of n) m marks)))))

-- ---- a choice

-- what the nodes tell at a choice of a registry's options
module _ (follow : MarksFollowTheChoice) (stand : LinksStandWithTheirLines) (always : List (List ℕ)) (r : Rows) (lines : List FlatLine) (closure : Choice → List Bool) (ids : List (List ℕ)) (different : AreDifferent ids)
    (nodes : ℕ) (anchors links : List LiftedMark) (held : All (AreHeld nodes (length ids)) anchors) (choice : Choice) (told : NodeId → Bool)
    (lifted : AreLifted told (set_names always r choice) (closure choice) r lines ids anchors links) where
  abbrev over : Setting
  over = registry_setting always r closure

  abbrev set_there : List (List ℕ)
  set_there = set_names always r choice

  abbrev stands_there : Site → Bool
  stands_there = is_standing set_there (closure choice) lines

  abbrev LiftedThere : Sighted → LiftedMark → Type 0
  LiftedThere s m = IsLifted told set_there (closure choice) lines ids s m

  -- an id has so many anchors in the built text
  pub counted : (n : ℕ) → n < length ids → count_of over lines choice (get_or ids n []) ≡ anchors_with told anchors n
  counted n within =
      let name = get_or ids n [] in
      let test : Anchor → Bool = λ anchor. bytes_eq name (anchor_id over lines choice anchor) in
      ap (count_by test) (follow.anchors always r choice (closure choice) lines)
      ∙ (anchors-counted stands_there test (sites r lines)
      ∙ marks-counted told set_there (closure choice) lines ids different nodes n within (sighted_anchors r lines) anchors lifted.anchors_are held)

  -- a case whose node is true is that of the id that the mark has there
  pub id-there : (s : Sighted) (m : LiftedMark) (case : Case) → LiftedThere s m → Contains m.cases case → told case.node ≡ true → (stands_there s.site ≡ true) × (id_named ids case ≡ mark_id set_there lines s)
  id-there s m case is among on =
      let each = All-contains (λ (c : Case). told c.node ≡ (stands_there s.site && bytes_eq (id_named ids c) (mark_id set_there lines s))) m.cases case is.each among in
      let parts = and_parts (stands_there s.site) (bytes_eq (id_named ids case) (mark_id set_there lines s)) (sym each ∙ on) in
      (parts.0, (bytes_eq-Decides (id_named ids case) (mark_id set_there lines s)).0 parts.1)

  -- a link with a wrong case breaks there
  pub breaks-from : (s : Sighted) (m : LiftedMark) (case : Case) → LiftedThere s m → AreHeld nodes (length ids) m → IsLinkOf (sites r lines) s → Contains m.cases case → is_wrong told anchors case ≡ true
      → Breaks over lines choice (link_of s)
  breaks-from s m case is own there among wrong =
      let parts = and_parts (told case.node) (not (eqb (anchors_with told anchors case.id.0) 1)) wrong in
      let id = id-there s m case is among parts.0 in
      let below = All-contains (λ (c : Case). c.id.0 < length ids) m.cases case own.id among in
      record {
        stands = stand.there always r choice (closure choice) lines s.site (link_of s) there.line there.link id.0;
        count = λ one.
            false≢true (sym (not-true (eqb (anchors_with told anchors case.id.0) 1) parts.1)
            ∙ eq-eqb (anchors_with told anchors case.id.0) 1 (sym (counted case.id.0 below) ∙ ap (count_of over lines choice) id.1 ∙ one));
      }

  -- a link that breaks there has a wrong case
  pub broken-from : (s : Sighted) (m : LiftedMark) → LiftedThere s m → AreHeld nodes (length ids) m → IsLinkOf (sites r lines) s → Breaks over lines choice (link_of s) → is_broken told anchors m ≡ true
  broken-from s m is own there breaks =
      let stands = stand.standing always r choice (closure choice) lines s.site (link_of s) there.line there.link breaks.stands in
      let has = has-case told set_there (closure choice) lines ids different nodes s m is stands in
      let n = has.case.id.0 in
      let name = get_or ids n [] in
      let on : told has.case.node ≡ true =
      subst (λ (c : Case). told c.node ≡ (stands_there s.site && bytes_eq (id_named ids c) (mark_id set_there lines s))) has.read (is.each has.place has.case has.within)
      ∙ and_from (stands_there s.site) (bytes_eq name (mark_id set_there lines s)) stands ((bytes_eq-Decides name (mark_id set_there lines s)).1 has.named) in
      let below : n < length ids = subst (λ (c : Case). c.id.0 < length ids) has.read (All-get_or (λ (c : Case). c.id.0 < length ids) m.cases has.place has.case has.within own.id) in
      let other : eqb (anchors_with told anchors n) 1 ≡ false =
      ne_eqb (anchors_with told anchors n) 1 (λ one. breaks.count (ap (count_of over lines choice) (sym has.named) ∙ (counted n below ∙ one))) in
      let wrong : is_wrong told anchors has.case ≡ true = and_from (told has.case.node) (not (eqb (anchors_with told anchors n) 1)) on (ap not other) in
      list_any_at (is_wrong told anchors) m.cases has.place has.case has.within (ap (is_wrong told anchors) has.read ∙ wrong)
