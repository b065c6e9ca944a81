-- The lines of a document, one after another: what each gives, and the page at each.
use Rattle.std.proofs.Common.{◌≡◌, ◌∙◌, refl, sym, ap, ℕ, ◌+◌, ◌<◌, Bool, true, false, ◌&&◌, cond, List, [], ◌∷◌, ◌++◌, length, map, take, get_or, Option, Some, None, arith, subst}
use Rattle.std.specs.Prelude.{filter}
use Rattle.std.specs.List.{AllZip, enumerate_from, flat_map, last_or}
use Rattle.std.proofs.lemmas.List.{append-nil, get_or-map, length-take-le, take_more}
use Rattle.std.proofs.lemmas.List.Concat.{flat_map-append}
use Rattle.std.proofs.lemmas.List.Elements.{filter-append}
use Rattle.vkb_formula.specs.declared.pool.NodeId.{NodeId}
use Rattle.doc_cond.specs.declared.LineKind.{LineKind}
use Rattle.doc_cond.specs.declared.LineKind.TheVariants.{Plain, Comment, Other, OneLine, Refpage, Begin, Close, Chapter, Api, Validity}
use Rattle.doc_tree.specs.declared.Cond.{Cond}
use Rattle.doc_tree.specs.declared.CondId.{CondId}
use Rattle.doc_tree.specs.declared.DocLine.{DocLine}
use Rattle.doc_tree.specs.Flat.{FlatLine, is_kept, stands_by_itself}
use Rattle.doc_tree.specs.Loaded.{flat_line, rounds_from}
use Rattle.doc_build.specs.Ids.{page_at, page_set}
use Rattle.doc_build.specs.Laws.{is_kept_at}
use Rattle.doc_build.specs.Sites.{Site, sites_at}
use Rattle.reg_registry.specs.Rows.{Rows}
use Rattle.lift_nodes.specs.declared.Source.{Source}
use Rattle.lift_nodes.specs.Cases.{page_from}
use Rattle.lift_survey.specs.Keeping.{sources_at, withins_at}
use Rattle.lift_survey.specs.Survey.{Sighted, sighted_at}
use Rattle.lift_survey.proofs.IdLemmas.{zip-push}
use Rattle.lift_survey.proofs.LineLemmas.{enumerate-push}

-- ---- one more line that may set the page

and-true : (b : Bool) → (b && true) ≡ b
and-true true = refl
and-true false = refl

-- two lists stay related where nothing is put behind them
zip-nothing : {X Y : Type 0} (R : X → Y → Type 0) (xs : List X) (ys : List Y) → AllZip R xs ys → AllZip R (xs ++ []) (ys ++ [])
zip-nothing {X} {Y} R xs ys all = subst (λ (zs : List X). AllZip R zs (ys ++ [])) (sym (append-nil xs)) (subst (λ (zs : List Y). AllZip R xs zs) (sym (append-nil ys)) all)

-- a line that sets the page has no condition of its own, so it is kept where those round it are met
pub kept-more : (names : List (List ℕ)) (told : NodeId → Bool) (met : Option CondId → Bool) (sources : List Source) (withins : List (Option CondId)) (kind : LineKind) (node : NodeId) (within : Option CondId)
    → AllZip (λ source within. told source.line ≡ met within) sources withins → told node ≡ (met within && stands_by_itself names kind)
    → AllZip (λ source within. told source.line ≡ met within) (sources ++ sources_at kind node) (withins ++ withins_at kind within)
kept-more names told met sources withins Plain node within all is = zip-nothing (λ (s : Source) (w : Option CondId). told s.line ≡ met w) sources withins all
kept-more names told met sources withins Comment node within all is = zip-nothing (λ (s : Source) (w : Option CondId). told s.line ≡ met w) sources withins all
kept-more names told met sources withins Other node within all is = zip-nothing (λ (s : Source) (w : Option CondId). told s.line ≡ met w) sources withins all
kept-more names told met sources withins (Begin negated any asked) node within all is = zip-nothing (λ (s : Source) (w : Option CondId). told s.line ≡ met w) sources withins all
kept-more names told met sources withins (OneLine negated any asked from to) node within all is = zip-nothing (λ (s : Source) (w : Option CondId). told s.line ≡ met w) sources withins all
kept-more names told met sources withins (Close any asked) node within all is = zip-nothing (λ (s : Source) (w : Option CondId). told s.line ≡ met w) sources withins all
kept-more names told met sources withins (Chapter file) node within all is = zip-nothing (λ (s : Source) (w : Option CondId). told s.line ≡ met w) sources withins all
kept-more names told met sources withins (Api name) node within all is = zip-nothing (λ (s : Source) (w : Option CondId). told s.line ≡ met w) sources withins all
kept-more names told met sources withins (Validity name) node within all is = zip-nothing (λ (s : Source) (w : Option CondId). told s.line ≡ met w) sources withins all
kept-more names told met sources withins (Refpage name) node within all is =
    zip-push (λ (s : Source) (w : Option CondId). told s.line ≡ met w) sources withins (record { page = name; line = node }) within all (is ∙ and-true (met within))

-- the page behind sources and more
page-behind : (told : NodeId → Bool) (page : Option (List ℕ)) (sources more : List Source) → page_from told page (sources ++ more) ≡ page_from told (page_from told page sources) more
page-behind told page [] more = refl
page-behind told page (source ∷ sources) more = page-behind told (cond (told source.line) (Some source.page) page) sources more

-- the sources of one line tell its page where it is kept
page-of-line : (told : NodeId → Bool) (page : Option (List ℕ)) (node : NodeId) (names : List (List ℕ)) (b : Bool) → told node ≡ b
    → page_from told page (map (λ name. record { page = name; line = node }) names) ≡ (cond b (last_or page names) page)
page-of-line told page node [] true is = refl
page-of-line told page node [] false is = refl
page-of-line told page node (name ∷ names) true is =
    ap (λ b. page_from told (cond b (Some name) page) (map (λ n. record { page = n; line = node }) names)) is ∙ page-of-line told (Some name) node names true is
page-of-line told page node (name ∷ names) false is =
    ap (λ b. page_from told (cond b (Some name) page) (map (λ n. record { page = n; line = node }) names)) is ∙ page-of-line told page node names false is

last-behind : {X : Type 0} (o : Option X) (xs ys : List X) → last_or o (xs ++ ys) ≡ last_or (last_or o xs) ys
last-behind o [] ys = refl
last-behind o (x ∷ xs) ys = last-behind (Some x) xs ys

page-next-by : (before : List FlatLine) (line : FlatLine) (b : Bool)
    → last_or None (flat_map (λ l. page_set l.kind) (before ++ cond b (line ∷ []) [])) ≡ cond b (last_or (last_or None (flat_map (λ l. page_set l.kind) before)) (page_set line.kind)) (last_or None (flat_map (λ l. page_set l.kind) before))
page-next-by before line true =
    let set : FlatLine → List (List ℕ) = λ l. page_set l.kind in
    ap (last_or None) (flat_map-append set before (line ∷ []) ∙ ap (λ (more : List (List ℕ)). flat_map set before ++ more) (append-nil (page_set line.kind))) ∙ last-behind None (flat_map set before) (page_set line.kind)
page-next-by before line false = ap (λ (ls : List FlatLine). last_or None (flat_map (λ l. page_set l.kind) ls)) (append-nil before)

-- the page behind one more flat line
page-next : (lines : List FlatLine) (names : List (List ℕ)) (number : ℕ) (line : FlatLine) → take (number + 1) lines ≡ take number lines ++ line ∷ []
    → page_at lines names (number + 1) ≡ cond (is_kept names line) (last_or (page_at lines names number) (page_set line.kind)) (page_at lines names number)
page-next lines names number line taken =
    let set : FlatLine → List (List ℕ) = λ l. page_set l.kind in
    let before = filter (is_kept names) (take number lines) in
    ap (λ (ls : List FlatLine). last_or None (flat_map set (filter (is_kept names) ls))) taken
    ∙ ap (λ (ls : List FlatLine). last_or None (flat_map set ls)) (filter-append (is_kept names) (take number lines) (line ∷ []))
    ∙ page-next-by before line (is_kept names line)

-- the page at the next line, by the sources so far and those of one more line
pub page-more : (told : NodeId → Bool) (lines : List FlatLine) (names : List (List ℕ)) (number : ℕ) (line : FlatLine) (sources : List Source) (node : NodeId) → number < length lines → line ≡ get_or lines number line
    → told node ≡ is_kept names line → page_from told None sources ≡ page_at lines names number → page_from told None (sources ++ sources_at line.kind node) ≡ page_at lines names (number + 1)
page-more told lines names number line sources node below is kept page =
    page-behind told None sources (sources_at line.kind node)
    ∙ ap (λ (p : Option (List ℕ)). page_from told p (sources_at line.kind node)) page
    ∙ page-of-line told (page_at lines names number) node (page_set line.kind) (is_kept names line) kept
    ∙ sym (page-next lines names number line (take_more lines number line below ∙ ap (λ (l : FlatLine). take number lines ++ l ∷ []) (sym is)))

-- ---- what is kept of the lines of a document

-- the flat line at a place
pub flat-at : (text : List ℕ) (files : List (List ℕ)) (table : List (List ℕ)) (conds : List Cond) (lines : List DocLine) (number : ℕ) (line : DocLine) → number < length lines → line ≡ get_or lines number line
    → flat_line text files (rounds_from table [] conds) line ≡ get_or (map (flat_line text files (rounds_from table [] conds)) lines) number (flat_line text files (rounds_from table [] conds) line)
flat-at text files table conds lines number line below is =
    let f = flat_line text files (rounds_from table [] conds) in
    ap f is ∙ sym (get_or-map f lines number line (f line) below)

-- whether a line is kept
pub kept-at : (lines : List FlatLine) (names : List (List ℕ)) (number : ℕ) (line : FlatLine) → number < length lines → line ≡ get_or lines number line → is_kept_at names lines number ≡ is_kept names line
kept-at lines names number line below is = get_or-map (is_kept names) lines number line false below ∙ ap (is_kept names) (sym is)

-- ---- what the first lines give

abbrev pub sites_of : Rows → ℕ × FlatLine → List Site
sites_of r p = sites_at r p.0 p.1.bytes p.1.kind

abbrev pub first_sighted : Rows → List FlatLine → ℕ → List Sighted
first_sighted r lines count = flat_map sighted_at (flat_map (sites_of r) (enumerate_from 0 (take count lines)))

pub sighted-more : (r : Rows) (lines : List FlatLine) (number : ℕ) (line : FlatLine) → number < length lines → line ≡ get_or lines number line
    → first_sighted r lines (number + 1) ≡ first_sighted r lines number ++ flat_map sighted_at (sites_at r number line.bytes line.kind)
sighted-more r lines number line below is =
    let taken : take (number + 1) lines ≡ take number lines ++ line ∷ [] = take_more lines number line below ∙ ap (λ (l : FlatLine). take number lines ++ l ∷ []) (sym is) in
    let place : 0 + length (take number lines) ≡ number = omega (arith, length-take-le number lines (omega (arith, below))) in
    let before = enumerate_from 0 (take number lines) in
    ap (λ (ls : List FlatLine). flat_map sighted_at (flat_map (sites_of r) (enumerate_from 0 ls))) taken
    ∙ ap (λ (ps : List (ℕ × FlatLine)). flat_map sighted_at (flat_map (sites_of r) ps)) (enumerate-push 0 (take number lines) line)
    ∙ ap (λ k. flat_map sighted_at (flat_map (sites_of r) (before ++ (k, line) ∷ []))) place
    ∙ ap (flat_map sighted_at) (flat_map-append (sites_of r) before ((number, line) ∷ []) ∙ ap (λ (more : List Site). flat_map (sites_of r) before ++ more) (append-nil (sites_at r number line.bytes line.kind)))
    ∙ flat_map-append sighted_at (flat_map (sites_of r) before) (sites_at r number line.bytes line.kind)

pub first-part : (a b : Bool) → (a && b) ≡ true → a ≡ true
first-part true b both = refl
first-part false b both = absurd cc
