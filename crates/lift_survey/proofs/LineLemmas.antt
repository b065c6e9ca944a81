-- Lines with marks that need names, and those of pages.
use Rattle.std.proofs.Common.{◌≡◌, ◌∙◌, refl, sym, ap, inl, inr, ℕ, suc, ◌+◌, ◌<◌, Bool, true, false, ◌&&◌, cond, List, [], ◌∷◌, ◌++◌, length, map, take, get_or, Option, Some, None, All, arith, subst}
use Rattle.std.specs.Prelude.{filter, nat_lt, not, option_map}
use Rattle.std.specs.List.{enumerate_from, flat_map, list_all}
use Rattle.std.specs.Option.{option_map_or, option_to_list}
use Rattle.std.proofs.Math.ListN.{get_or-eq_default}
use Rattle.std.proofs.lemmas.Bool.{cases_Bool, ltb-false, ltb-true}
use Rattle.std.proofs.lemmas.List.{append-nil, length-take-le, map-append, take_more}
use Rattle.std.proofs.lemmas.List.Concat.{flat_map-append}
use Rattle.std.proofs.lemmas.List.Elements.{All-get_or, All-weaker}
use Rattle.std.proofs.lemmas.List.Folds.{list_all-append}
use Rattle.vkb_formula.specs.declared.name_table.NameId.{NameId}
use Rattle.vkb_formula.specs.declared.pool.NodeId.{NodeId}
use Rattle.vkb_formula.specs.declared.pool.PoolNode.{PoolNode}
use Rattle.doc_tree.specs.declared.Cond.{Cond}
use Rattle.doc_tree.specs.declared.CondId.{CondId}
use Rattle.doc_tree.specs.Loaded.{IsBefore}
use Rattle.doc_build.specs.Laws.{is_kept_at}
use Rattle.doc_build.specs.Pages.{anchor_line, has, statement_line}
use Rattle.doc_build.specs.Sites.{anchor_site, statement_site}
use Rattle.reg_registry.specs.Rows.{Rows, id_at, id_of}
use Rattle.vkb_formula.specs.Names.{place_of}
use Rattle.vu_implicit.specs.declared.statement.Statement.{Statement}
use Rattle.lift_nodes.specs.declared.Constants.{Constants}
use Rattle.lift_nodes.specs.Nodes.{is_true}
use Rattle.lift_survey.specs.declared.LiftedMark.{LiftedMark}
use Rattle.lift_survey.specs.declared.pages.Pages.{Pages}
use Rattle.lift_survey.specs.declared.spots.Spot.{Spot}
use Rattle.lift_survey.specs.Growth.{Grows, is_there}
use Rattle.lift_survey.specs.Keeping.{IsReady, IsSpot, IsWorldOf, Keeps, Lifts, Told, World, all_met, site_at}
use Rattle.lift_survey.specs.Survey.{Sighted, node_at, sighted_at}
use Rattle.lift_survey.proofs.GrowthLemmas.{Grows-then, HasMore-same}
use Rattle.lift_survey.proofs.IdLemmas.{zip-weaker}
use Rattle.lift_survey.proofs.KeepLemmas.{kept-grown, lifts-grown, page-grown}

-- ---- a spot with another node, statement or start

pub ready-at : (pool : List PoolNode) (constants : Constants) (conds : List Cond) (spot other : Spot) (pages : Pages) → IsReady pool constants conds spot pages → other.within ≡ spot.within → other.standing.0 < length pool
    → IsReady pool constants conds other pages
ready-at pool constants conds spot other pages ready within standing = record {
  constants_are = ready.constants_are;
  ordered = ready.ordered;
  within = subst (λ (w : Option CondId). IsBefore (length conds) w) (sym within) ready.within;
  standing = standing;
  sources = ready.sources;
  count = ready.count;
}

-- the same node at another part of the flat line
pub spot-at : (w : World) (pool : List PoolNode) (conds : List Cond) (spot : Spot) (pages : Pages) (needs : List NameId) (statement start : ℕ) → IsSpot w pool conds spot pages needs
    → IsSpot w pool conds (record { line = spot.line; statement = statement; start = start; within = spot.within; standing = spot.standing }) pages needs
spot-at w pool conds spot pages needs statement start is = record { stands = is.stands; round = is.round; kept = is.kept; page = is.page }

and-assoc : (a b c : Bool) → ((a && b) && c) ≡ (a && (b && c))
and-assoc true b c = refl
and-assoc false b c = refl

-- further names are needed
pub spot-more : (w : World) (old new : List PoolNode) (constants : Constants) (conds : List Cond) (spot : Spot) (pages : Pages) (needs more : List NameId) (standing : NodeId) → Grows old new → IsReady old constants conds spot pages
    → IsSpot w old conds spot pages needs
    → ((choice : List Bool) (names : List (List ℕ)) (set : List Bool) → Told w choice names set → is_true new choice standing ≡ (is_true old choice spot.standing && list_all (has set) more))
    → IsSpot w new conds (record { line = spot.line; statement = spot.statement; start = spot.start; within = spot.within; standing = standing }) pages (needs ++ more)
spot-more w old new constants conds spot pages needs more standing grows ready is says = record {
  stands = λ choice names set told.
      says choice names set told
      ∙ ap (λ b. b && list_all (has set) more) (is.stands choice names set told)
      ∙ and-assoc (is_kept_at names w.lines spot.line) (list_all (has set) needs) (list_all (has set) more)
      ∙ ap (λ b. is_kept_at names w.lines spot.line && b) (sym (list_all-append (has set) needs more));
  round = is.round;
  kept = λ choice names set told. kept-grown old new grows choice (all_met w.table names conds) pages.sources.items pages.withins.items ready.sources (is.kept choice names set told);
  page = λ choice names set told. page-grown old new grows choice None pages.sources.items ready.sources ∙ is.page choice names set told;
}

pub keeps-grown : (w : World) (old new : List PoolNode) (ids : List (List ℕ)) (anchors links : List LiftedMark) (seen : List Sighted) → Grows old new → Keeps w old ids anchors links seen → Keeps w new ids anchors links seen
keeps-grown w old new ids anchors links seen grows keeps = record {
  anchors_are = zip-weaker (Lifts w old ids) (Lifts w new ids) (lifts-grown w old new ids ids grows (HasMore-same ids)) (filter (λ s. s.mark.anchor) seen) anchors keeps.anchors_are;
  links_are = zip-weaker (Lifts w old ids) (Lifts w new ids) (lifts-grown w old new ids ids grows (HasMore-same ids)) (filter (λ s. not s.mark.anchor) seen) links keeps.links_are;
}

pub world-grown : (w : World) (old new : List PoolNode) (r : Rows) (names : List NodeId) → Grows old new → IsWorldOf w old r names → IsWorldOf w new r names
world-grown w old new r names grows is = record {
  r_is = is.r_is;
  names_are = is.names_are;
  count = is.count;
  held = is.held;
  grows = Grows-then w.pool old new is.grows grows;
}

pub held-grown : (old new : List PoolNode) (nodes : List NodeId) → Grows old new → All (λ node. node.0 < length old) nodes → All (λ node. node.0 < length new) nodes
held-grown old new nodes grows held = All-weaker (λ (n : NodeId). n.0 < length old) (λ (n : NodeId). n.0 < length new) (λ n below. omega (arith, below, grows.count)) nodes held

-- ---- names that the closure has

-- the node of a declared name tells whether the closure has it
pub name-told : (w : World) (pool : List PoolNode) (r : Rows) (names : List NodeId) → IsWorldOf w pool r names → (id : NameId) → id.0 < length names → (choice : List Bool) (set_names : List (List ℕ)) (set : List Bool) → Told w choice set_names set
    → is_true pool choice (get_or names id.0 (record { 0 = 0 })) ≡ has set id
name-told w pool r names is id there choice set_names set told =
    let same : w.name_nodes ≡ names = is.names_are in
    let count = ap (λ (ns : List NodeId). length ns) same in
    ap (λ (ns : List NodeId). is_true pool choice (get_or ns id.0 (record { 0 = 0 }))) (sym same)
    ∙ is.grows.kept choice (node_at w.name_nodes id.0) (All-get_or (λ (n : NodeId). n.0 < length w.pool) w.name_nodes id.0 (record { 0 = 0 }) (omega (arith, there, count)) is.held)
    ∙ told.has id.0 (omega (arith, there, count, is.count))

pub there-told : (w : World) (pool : List PoolNode) (r : Rows) (names : List NodeId) → IsWorldOf w pool r names → (id : NameId) → (choice : List Bool) (set_names : List (List ℕ)) (set : List Bool) → Told w choice set_names set
    → is_there pool choice names id ≡ has set id
there-told w pool r names is id choice set_names set told =
    let count = ap (λ (ns : List NodeId). length ns) is.names_are in
    elim (cases_Bool (nat_lt id.0 (length names))) [
      | inl there ↦
          ap (λ b. cond b (is_true pool choice (get_or names id.0 (record { 0 = 0 }))) false) there ∙ name-told w pool r names is id (ltb-true id.0 (length names) there) choice set_names set told
      | inr absent ↦
          ap (λ b. cond b (is_true pool choice (get_or names id.0 (record { 0 = 0 }))) false) absent
          ∙ sym (get_or-eq_default set false (omega (arith, ltb-false id.0 (length names) absent, count, is.count, told.count)))
    ]

pub and-true : (b : Bool) → (b && true) ≡ b
and-true true = refl
and-true false = refl

pub need-told : (w : World) (pool : List PoolNode) (r : Rows) (names : List NodeId) → IsWorldOf w pool r names → (needs : Option NameId) → (choice : List Bool) (set_names : List (List ℕ)) (set : List Bool) → Told w choice set_names set
    → option_map_or (is_there pool choice names) needs true ≡ list_all (has set) (option_to_list needs)
need-told w pool r names is None choice set_names set told = refl
need-told w pool r names is (Some id) choice set_names set told = there-told w pool r names is id choice set_names set told ∙ sym (and-true (has set id))

-- ---- lines of pages

pub anchor-is : (line statement start : ℕ) (within : Option CondId) (standing : NodeId) (id : NameId) (name bytes : List ℕ) → statement ≡ 0 → start ≡ 0 → bytes ≡ (anchor_line name).bytes
    → site_at (record { line = line; statement = statement; start = start; within = within; standing = standing }) bytes (id ∷ []) ≡ anchor_site line name id
anchor-is line statement start within standing id name bytes none at are =
    λ i. record { piece = record { line = line; statement = none i; start = at i; marked = true; bytes = are i }; needs = id ∷ [] }

pub statement-is : (line number start : ℕ) (within : Option CondId) (standing : NodeId) (id : NameId) (statement : Statement) (bytes : List ℕ) → start ≡ 0 → bytes ≡ (statement_line (number, statement)).bytes
    → site_at (record { line = line; statement = number; start = start; within = within; standing = standing }) bytes (id ∷ option_to_list statement.needs) ≡ statement_site line id (number, statement)
statement-is line number start within standing id statement bytes at are =
    λ i. record { piece = record { line = line; statement = number; start = at i; marked = true; bytes = are i }; needs = id ∷ option_to_list statement.needs }

-- ---- statements one after another

pub enumerate-push : {X : Type 0} (n : ℕ) (xs : List X) (x : X) → enumerate_from n (xs ++ x ∷ []) ≡ enumerate_from n xs ++ (n + length xs, x) ∷ []
enumerate-push n [] x = let same : n ≡ n + 0 = omega arith in ap (λ k. (k, x) ∷ []) same
enumerate-push n (y ∷ xs) x =
    let same : n + 1 + length xs ≡ n + suc (length xs) = omega arith in
    ap (λ ps. (n, y) ∷ ps) (enumerate-push (n + 1) xs x) ∙ ap (λ k. (n, y) ∷ (enumerate_from (n + 1) xs ++ (k, x) ∷ [])) same

-- the marks of the first statements, and of one more
abbrev pub first_statements : ℕ → NameId → List Statement → ℕ → List Sighted
first_statements line id all count = flat_map sighted_at (map (statement_site line id) (enumerate_from 1 (take count all)))

pub statements-more : (line : ℕ) (id : NameId) (all : List Statement) (count : ℕ) (x : Statement) → count < length all → x ≡ get_or all count x
    → first_statements line id all (count + 1) ≡ first_statements line id all count ++ sighted_at (statement_site line id (count + 1, x))
statements-more line id all count x below is =
    let taken : take (count + 1) all ≡ take count all ++ x ∷ [] = take_more all count x below ∙ ap (λ (y : Statement). take count all ++ y ∷ []) (sym is) in
    let number : 1 + length (take count all) ≡ count + 1 = omega (arith, length-take-le count all (omega (arith, below))) in
    let f = statement_site line id in
    ap (λ (xs : List Statement). flat_map sighted_at (map f (enumerate_from 1 xs))) taken
    ∙ ap (λ ps. flat_map sighted_at (map f ps)) (enumerate-push 1 (take count all) x)
    ∙ ap (λ k. flat_map sighted_at (map f (enumerate_from 1 (take count all) ++ (k, x) ∷ []))) number
    ∙ ap (flat_map sighted_at) (map-append f (enumerate_from 1 (take count all)) ((count + 1, x) ∷ []))
    ∙ flat_map-append sighted_at (map f (enumerate_from 1 (take count all))) (f (count + 1, x) ∷ [])
    ∙ ap (λ (more : List Sighted). first_statements line id all count ++ more) (append-nil (sighted_at (f (count + 1, x))))

-- ---- pages by their names

-- what is found under a name
pub found-is : (found : Option NameId) (names : List (List ℕ)) (name : List ℕ) → option_map (λ (id : NameId). id.0) found ≡ place_of name names → id_of names name ≡ found
found-is None names name place = ap (option_map id_at) (sym place)
found-is (Some id) names name place = ap (option_map id_at) (sym place)
