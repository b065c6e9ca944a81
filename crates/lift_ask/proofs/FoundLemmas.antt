-- What is found of the questions is found of the links.
use Rattle.std.proofs.Common.{◌≡◌, ◌∙◌, refl, sym, ap, subst, ℕ, zero, suc, ◌+◌, ◌<◌, ◌≤◌, ◌==◌, Bool, true, false, not, cond, ◌&&◌, List, [], ◌∷◌, ◌++◌, length, map, take, get_or, All, Contains, None, Some, slice_get, arith}
use Rattle.std.specs.Prelude.{count_by, filter, position}
use Rattle.std.specs.List.{AllZip, flat_map, list_any, position_or_len}
use Rattle.std.proofs.lemmas.Grind.{common_steps}
use Rattle.std.proofs.lemmas.List.{get_or-map, length-map}
use Rattle.std.proofs.lemmas.List.Elements.{Contains-get_or, All-cons, All-contains, All-filter, All-head, All-map, All-nil, All-tail, All-weaker, filter-append}
use Rattle.std.proofs.lemmas.List.Folds.{list_any_none}
use Rattle.std.proofs.lemmas.List.Quantifiers.{position-Some}
use Rattle.std.proofs.lemmas.List.Sums.{fails_before_first}
use Rattle.std.proofs.lemmas.Option.{get_or_from_slice_get, none-some, same_Some, slice_get_within}
use Rattle.vkb_formula.specs.declared.pool.NodeId.{NodeId}
use Rattle.vkb_formula.specs.declared.pool.PoolNode.{PoolNode}
use Rattle.doc_build.proofs.CountLemmas.{count-cons}
use Rattle.doc_build.proofs.FoundLemmas.{All-flat_map}
use Rattle.lift_nodes.specs.Nodes.{is_true}
use Rattle.lift_survey.specs.declared.Case.{Case}
use Rattle.lift_survey.specs.declared.IdNumber.{IdNumber}
use Rattle.lift_survey.specs.declared.LiftedMark.{LiftedMark}
use Rattle.lift_survey.specs.Survey.{AreHeld, node_at}
use Rattle.sat_ask.specs.declared.meeting.Met.{Met}
use Rattle.sat_ask.specs.Meeting.{AreNeverMet, IsFirstMet}
use Rattle.lift_ask.specs.declared.breaking.Broken.{Broken}
use Rattle.lift_ask.specs.Breaking.{IsFirstBroken, NeverBreak, anchors_with, cases_of, is_broken, is_wrong}
use Rattle.lift_ask.specs.Questions.{AreQuestions, AreWrong, is_wrong_by, isnt_one}
use Rattle.lift_ask.specs.Tables.{AreById, all_cases, nodes_with}
use Rattle.lift_ask.specs.Telling.{IsToldOf}
use Rattle.lift_ask.proofs.PutLemmas.{any-same, case-kept, cases-kept, count-same}

-- ---- counts by the table

count-map : {X Y : Type 0} (p : Y → Bool) (f : X → Y) (xs : List X) → count_by p (map f xs) ≡ count_by (λ x. p (f x)) xs
count-map p f [] = refl
count-map p f (x ∷ xs) = count-cons p (f x) (map f xs) ∙ ap (λ (n : ℕ). cond (p (f x)) 1 0 + n) (count-map p f xs) ∙ sym (count-cons (λ y. p (f y)) x xs)

cases-with : (id : ℕ) (anchors : List LiftedMark) → flat_map (cases_of id) anchors ≡ filter (λ case. case.id.0 == id) (all_cases anchors)
cases-with id [] = refl
cases-with id (m ∷ anchors) =
    ap (λ (cs : List Case). cases_of id m ++ cs) (cases-with id anchors)
    ∙ sym (filter-append (λ (case : Case). case.id.0 == id) m.cases (all_cases anchors))

pub anchors-by-table : (told : NodeId → Bool) (ids : ℕ) (anchors : List LiftedMark) (lists : List (List NodeId)) (id : ℕ) → AreById ids anchors lists → id < ids
    → count_by told (get_or lists id []) ≡ anchors_with told anchors id
anchors-by-table told ids anchors lists id by within =
    ap (count_by told) (by.each id within)
    ∙ count-map told (λ (case : Case). case.node) (filter (λ (case : Case). case.id.0 == id) (all_cases anchors))
    ∙ ap (count_by (λ (case : Case). told case.node)) (sym (cases-with id anchors))

-- the nodes of the anchors' cases are held
pub with-held : (nodes id : ℕ) {ids : ℕ} (anchors : List LiftedMark) → All (AreHeld nodes ids) anchors → All (λ node. node.0 < nodes) (nodes_with id (all_cases anchors))
with-held nodes id {ids} anchors held =
    All-map (λ (node : NodeId). node.0 < nodes) (λ (case : Case). case.node) (filter (λ (case : Case). case.id.0 == id) (all_cases anchors))
    (All-filter (λ (case : Case). case.id.0 == id) (λ (case : Case). case.node.0 < nodes) (all_cases anchors)
    (All-flat_map (AreHeld nodes ids) (λ (case : Case). case.node.0 < nodes) (λ (m : LiftedMark). m.cases) (λ m there. there.node) anchors held))

pub All-there : {X : Type 0} (P : X → Type 0) (xs : List X) (i : ℕ) (x : X) → All P xs → slice_get xs i ≡ Some x → P x
All-there P xs i x all at = subst P (get_or_from_slice_get xs i x x at) (all i x (slice_get_within xs i x at))

pub table-held : {T : Type 0} (f : T → List NodeId) (nodes ids : ℕ) (anchors : List LiftedMark) (table : List T) → AreById ids anchors (map f table) → All (AreHeld nodes ids) anchors
    → All (λ list. All (λ node. node.0 < nodes) (f list)) table
table-held f nodes ids anchors table by held k d below =
    let within : k < ids = omega (arith, below, by.count, length-map table f) in
    subst (All (λ (node : NodeId). node.0 < nodes)) (sym (sym (get_or-map f table k d [] below) ∙ by.each k within)) (with-held nodes k anchors held)

pub lists-more : {T : Type 0} (f : T → List NodeId) (old new : ℕ) (table : List T) → old ≤ new → All (λ list. All (λ node. node.0 < old) (f list)) table → All (λ list. All (λ node. node.0 < new) (f list)) table
lists-more f old new table more held k d below = All-weaker (λ (node : NodeId). node.0 < old) (λ (node : NodeId). node.0 < new) (λ node there. omega (arith, there, more)) (f (get_or table k d)) (held k d below)

pub held-more : (old new ids others : ℕ) (link : LiftedMark) → old ≤ new → ids ≡ others → AreHeld old ids link → AreHeld new others link
held-more old new ids others link more same held = record {
  node = All-weaker (λ (case : Case). case.node.0 < old) (λ (case : Case). case.node.0 < new) (λ case there. omega (arith, there, more)) link.cases held.node;
  id = All-weaker (λ (case : Case). case.id.0 < ids) (λ (case : Case). case.id.0 < others) (λ case there. omega (arith, there, same)) link.cases held.id;
}

-- ---- one node of a table of nodes

zip-at : {X Y : Type 0} (R : X → Y → Type 0) (xs : List X) (ys : List Y) (i : ℕ) (x : X) (y : Y) → AllZip R xs ys → i < length xs → R (get_or xs i x) (get_or ys i y)
zip-at R [] ys i x y all below = absurd (omega (arith, below))
zip-at R (z ∷ xs) [] i x y all below = absurd all
zip-at R (z ∷ xs) (w ∷ ys) zero x y all below = all.0
zip-at R (z ∷ xs) (w ∷ ys) (suc i) x y all below = zip-at R xs ys i x y all.1 (omega (arith, below))

zip-length : {X Y : Type 0} (R : X → Y → Type 0) (xs : List X) (ys : List Y) → AllZip R xs ys → length xs ≡ length ys
zip-length R [] [] all = refl
zip-length R [] (y ∷ ys) all = absurd all
zip-length R (x ∷ xs) [] all = absurd all
zip-length R (x ∷ xs) (y ∷ ys) all = ap suc (zip-length R xs ys all.1)

zip-take : {X Y : Type 0} (R : X → Y → Type 0) (n : ℕ) (xs : List X) (ys : List Y) → AllZip R xs ys → AllZip R (take n xs) (take n ys)
zip-take R zero xs ys all = tt
zip-take R (suc n) [] [] all = tt
zip-take R (suc n) [] (y ∷ ys) all = absurd all
zip-take R (suc n) (x ∷ xs) [] all = absurd all
zip-take R (suc n) (x ∷ xs) (y ∷ ys) all = (all.0, zip-take R n xs ys all.1)

zip-get : {X Y : Type 0} (R : X → Y → Type 0) (xs : List X) (ys : List Y) (i : ℕ) (y : Y) → AllZip R xs ys → slice_get ys i ≡ Some y → (x : X) × (slice_get xs i ≡ Some x) × R x y
zip-get R [] [] i y all at = absurd (none-some y at)
zip-get R [] (w ∷ ys) i y all at = absurd all
zip-get R (x ∷ xs) [] i y all at = absurd all
zip-get R (x ∷ xs) (w ∷ ys) zero y all at = (x, refl, subst (R x) (cc) all.0)
zip-get R (x ∷ xs) (w ∷ ys) (suc i) y all at = zip-get R xs ys i y all.1 at

-- ---- the first that passes a test

pub position-found : {X : Type 0} (p : X → Bool) (xs : List X) (place : ℕ) (d : X) → position p xs ≡ Some place → (place < length xs) × Contains xs (get_or xs place d) × (p (get_or xs place d) ≡ true)
position-found p xs place d e =
    let found = position-Some p xs place d e in
    (found.0, Contains-get_or xs place d found.0, found.1)

pub position-none : {X : Type 0} (p : X → Bool) (xs : List X) → position p xs ≡ None → list_any p xs ≡ true → ⊥
position-none p xs e any =
    let past : length xs ≤ position_or_len p xs = grind (arith, common_steps) in
    let none : list_any p xs ≡ false = list_any_none p xs (λ k d below. fails_before_first p xs k d (omega (arith, below, past))) in
    absurd (cc)

pub wrong-count : (first second : List PoolNode) (lists : List (List NodeId)) (wrong : List NodeId) → AreWrong first second lists wrong → length wrong ≡ length lists
wrong-count first second lists wrong are = sym (zip-length (λ list node. (set : List Bool) → is_true second set node ≡ isnt_one first list set) lists wrong are.each)

-- ---- the questions

module _ (ids : ℕ) (first second third : List PoolNode) (anchors links : List LiftedMark) (lists : List (List NodeId)) (wrong questions : List NodeId) (by : AreById ids anchors lists) (are_wrong : AreWrong first second lists wrong)
    (asked : AreQuestions second third wrong links questions) (held : All (AreHeld (length first) ids) links)
    (anchors_held : All (AreHeld (length first) ids) anchors) where
  told : List Bool → NodeId → Bool
  told set = is_true first set

  pub count-wrong : length wrong ≡ ids
  count-wrong = wrong-count first second lists wrong are_wrong ∙ by.count

  -- a case is wrong as the nodes tell
  pub case-same : (set : List Bool) (case : Case) → case.node.0 < length first → case.id.0 < ids → is_wrong_by second wrong set case ≡ is_wrong (is_true first set) anchors case
  case-same set case node within =
      let below : case.id.0 < length lists = omega (arith, within, by.count) in
      ap (λ (b : Bool). b && is_true second set (node_at wrong case.id.0)) (are_wrong.grows.kept set case.node node)
      ∙ ap (λ (b : Bool). is_true first set case.node && b)
      (zip-at (λ list node. (set : List Bool) → is_true second set node ≡ isnt_one first list set) lists wrong case.id.0 [] (record { 0 = 0 }) are_wrong.each below set
      ∙ ap (λ (n : ℕ). not (n == 1)) (anchors-by-table (is_true first set) ids anchors lists case.id.0 by within))

  pub link-same : (set : List Bool) (link : LiftedMark) → AreHeld (length first) ids link → list_any (is_wrong_by second wrong set) link.cases ≡ is_broken (is_true first set) anchors link
  link-same set link there =
      any-same (is_wrong_by second wrong set) (is_wrong (is_true first set) anchors) link.cases
      (λ k d below. case-same set (get_or link.cases k d) (there.node k d below) (there.id k d below))

  -- the nodes under a number keep their values
  list-same : (set : List Bool) (id : ℕ) → id < ids → All (λ node. is_true third set node ≡ is_true first set node) (get_or lists id [])
  list-same set id within =
      subst (All (λ (node : NodeId). is_true third set node ≡ is_true first set node)) (sym (by.each id within))
      (All-weaker (λ (node : NodeId). node.0 < length first) (λ (node : NodeId). is_true third set node ≡ is_true first set node)
      (λ node below. asked.grows.kept set node (omega (arith, below, are_wrong.grows.count)) ∙ are_wrong.grows.kept set node below)
      (nodes_with id (all_cases anchors)) (with-held (length first) id anchors anchors_held))

  -- each question tells whether its link breaks
  zip-broken : (ls : List LiftedMark) (qs : List NodeId) → AllZip (λ link node. (set : List Bool) → is_true third set node ≡ list_any (is_wrong_by second wrong set) link.cases) ls qs → All (AreHeld (length first) ids) ls
      → AllZip (λ link node. (set : List Bool) → is_true third set node ≡ is_broken (is_true first set) anchors link) ls qs
  zip-broken [] [] all there = tt
  zip-broken [] (q ∷ qs) all there = absurd all
  zip-broken (l ∷ ls) [] all there = absurd all
  zip-broken (l ∷ ls) (q ∷ qs) all there =
      ((λ set. all.0 set ∙ link-same set l (All-head (AreHeld (length first) ids) l ls there)), zip-broken ls qs all.1 (All-tail (AreHeld (length first) ids) l ls there))

  pub questions-tell : AllZip (λ link node. (set : List Bool) → is_true third set node ≡ is_broken (is_true first set) anchors link) links questions
  questions-tell = zip-broken links questions asked.each held

  fails : (set : List Bool) (ls : List LiftedMark) (qs : List NodeId) → AllZip (λ link node. (set : List Bool) → is_true third set node ≡ is_broken (is_true first set) anchors link) ls qs
      → All (λ question. ¬ (is_true third set question ≡ true)) qs → All (λ link. is_broken (is_true first set) anchors link ≡ false) ls
  fails set [] qs all none = All-nil (λ link. is_broken (is_true first set) anchors link ≡ false)
  fails set (l ∷ ls) [] all none = absurd all
  fails set (l ∷ ls) (q ∷ qs) all none =
      All-cons (λ link. is_broken (is_true first set) anchors link ≡ false) l ls
      (isnt-true (is_broken (is_true first set) anchors l) (λ e. All-head (λ (question : NodeId). ¬ (is_true third set question ≡ true)) q qs none (all.0 set ∙ e)))
      (fails set ls qs all.1 (All-tail (λ (question : NodeId). ¬ (is_true third set question ≡ true)) q qs none))
    where
      isnt-true : (b : Bool) → ¬ (b ≡ true) → b ≡ false
      isnt-true true isnt = absurd (isnt refl)
      isnt-true false isnt = refl

  module _ (rule : NodeId) (vars : ℕ) (rule_held : rule.0 < length first) where
    rule-same : (set : List Bool) → is_true third set rule ≡ is_true first set rule
    rule-same set = asked.grows.kept set rule (omega (arith, rule_held, are_wrong.grows.count)) ∙ are_wrong.grows.kept set rule rule_held

    pub never-broken : (n : ℕ) → AreNeverMet third rule.0 (take n questions) vars → NeverBreak first rule vars anchors (take n links)
    never-broken n none set fits holds =
        fails set (take n links) (take n questions)
        (zip-take (λ link node. (set : List Bool) → is_true third set node ≡ is_broken (is_true first set) anchors link) n links questions questions-tell)
        (none set fits (rule-same set ∙ holds))

    pub none-broken : AreNeverMet third rule.0 questions vars → NeverBreak first rule vars anchors links
    none-broken none set fits holds = fails set links questions questions-tell (none set fits (rule-same set ∙ holds))

    -- the link of the question that is met
    pub met-link : (met : Met) → IsFirstMet third rule.0 questions vars met → (link : LiftedMark) × (slice_get links met.question ≡ Some link) × (is_broken (is_true first met.set) anchors link ≡ true)
    met-link met is =
        let found = zip-get (λ link node. (set : List Bool) → is_true third set node ≡ is_broken (is_true first set) anchors link) links questions met.question is.holds.0 questions-tell is.holds.1 in
        (found.0, found.1, sym (found.2 met.set) ∙ is.holds.2)

    pub met-within : (met : Met) → IsFirstMet third rule.0 questions vars met → met.question < length links
    met-within met is = slice_get_within links met.question (met-link met is).0 (met-link met is).1

    -- and a case of it is wrong
    pub met-broken : (met : Met) (link : LiftedMark) → IsFirstMet third rule.0 questions vars met → slice_get links met.question ≡ Some link → list_any (is_wrong_by third wrong met.set) link.cases ≡ true
    met-broken met link is here =
        let found = met-link met is in
        let there : AreHeld (length first) ids link = All-there (AreHeld (length first) ids) links met.question link held here in
        let more = held-more (length first) (length second) ids (length wrong) link are_wrong.grows.count (sym count-wrong) there in
        cases-kept second third asked.grows wrong link.cases are_wrong.held more.node more.id met.set
        ∙ link-same met.set link there
        ∙ ap (is_broken (is_true first met.set) anchors) (same_Some link found.0 (sym here ∙ found.1))
        ∙ found.2

    pub told-is-first : (met : Met) (link : LiftedMark) (broken : Broken) → IsFirstMet third rule.0 questions vars met → slice_get links met.question ≡ Some link
        → IsToldOf third wrong lists link.cases met broken → IsFirstBroken first rule vars anchors links broken
    told-is-first met link broken is here said =
        let there : AreHeld (length first) ids link = All-there (AreHeld (length first) ids) links met.question link held here in
        let node : said.case.node.0 < length first = All-contains (λ (case : Case). case.node.0 < length first) link.cases said.case there.node said.is_case in
        let within : said.case.id.0 < ids = All-contains (λ (case : Case). case.id.0 < ids) link.cases said.case there.id said.is_case in
        let number : said.case.id.0 ≡ broken.id.0 = ap (λ (id : IdNumber). id.0) said.id_is in
        let below : broken.id.0 < ids = omega (arith, number, within) in
        let said_wrong : is_wrong_by second wrong met.set said.case ≡ true =
        sym (case-kept second third asked.grows wrong said.case are_wrong.held (omega (arith, node, are_wrong.grows.count)) (omega (arith, within, count-wrong)) met.set) ∙ said.wrong_is in
        record {
          each = ap length said.set ∙ is.each;
          rule_holds = ap (λ (set : List Bool). is_true first set rule) said.set ∙ sym (rule-same met.set) ∙ is.rule_holds;
          link = link;
          here = ap (slice_get links) said.link ∙ here;
          case = said.case;
          is_case = said.is_case;
          id_is = said.id_is;
          wrong = ap (λ (set : List Bool). is_wrong (is_true first set) anchors said.case) said.set ∙ sym (case-same met.set said.case node within) ∙ said_wrong;
          counted =
              said.counted
              ∙ count-same (is_true third met.set) (is_true first met.set) (get_or lists broken.id.0 []) (list-same met.set broken.id.0 below)
              ∙ anchors-by-table (is_true first met.set) ids anchors lists broken.id.0 by below
              ∙ ap (λ (set : List Bool). anchors_with (is_true first set) anchors broken.id.0) (sym said.set);
          none_before = subst (λ (n : ℕ). NeverBreak first rule vars anchors (take n links)) (sym said.link) (never-broken met.question is.none_before);
        }
