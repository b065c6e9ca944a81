-- The lines with marks of a document, and their links, stand in the order of their places.
use Rattle.std.proofs.Common.{inl, inr, ◌≡◌, ◌⊎◌, ◌∙◌, refl, sym, ap, subst, ℕ, zero, suc, ◌+◌, ◌<◌, ◌≤◌, Bool, true, not, cond, List, [], ◌∷◌, ◌++◌, length, map, filter, All, Option, Some, None, arith}
use Rattle.std.specs.Prelude.{Contains, slice_range}
use Rattle.std.specs.List.{enumerate_from}
use Rattle.std.specs.Option.{option_map_or}
use Rattle.std.proofs.lemmas.Bool.{cases_Bool}
use Rattle.std.proofs.lemmas.List.{append-nil}
use Rattle.std.proofs.lemmas.List.Elements.{All-nil, All-cons, All-append, All-contains, All-filter, All-map, All-weaker, Contains-append_cases, Contains-append_left, Contains-append_right}
use Rattle.vkb_formula.specs.declared.name_table.NameId.{NameId}
use Rattle.reg_registry.specs.Rows.{Rows, id_of}
use Rattle.vu_implicit.specs.Statements.{statements_of}
use Rattle.doc_marks.specs.declared.Mark.{Mark}
use Rattle.doc_cond.specs.declared.LineKind.{LineKind}
use Rattle.doc_cond.specs.declared.LineKind.TheVariants.{Plain, Comment, Other, Begin, OneLine, Close, Chapter, Api, Validity, Refpage}
use Rattle.doc_tree.specs.Flat.{FlatLine}
use Rattle.doc_build.specs.declared.Piece.{Piece}
use Rattle.doc_build.specs.Built.{set_names}
use Rattle.doc_build.specs.Pages.{numbered}
use Rattle.doc_build.specs.Pieces.{Link, anchor_at, link_at, links_of, marks_in, whole_piece}
use Rattle.doc_build.specs.Sites.{LinksStandWithTheirLines, Site, SitesInOrder, anchor_site, free_site, is_standing, pieces_of_sites, sites, sites_at, statement_site}
use Rattle.doc_build.proofs.FoundLemmas.{All-all, All-flat_map, found, found_here, found_in}
use Rattle.doc_build.proofs.OrderLemmas.{AreOrdered, IsAhead, all_pairs, apart, links_here, never_before, ordered-append, ordered-map, ordered-weaker}
use Rattle.doc_build.proofs.SiteLemmas.{marks-follow, site_lines, sites_among}

-- ---- numbers

-- the number of one is below that of another
abbrev IsLess : {X : Type 0} → ℕ × X → ℕ × X → Type 0
IsLess p later = p.0 < later.0

numbers-from : {X : Type 0} (n : ℕ) (xs : List X) → All (λ p. n ≤ p.0) (enumerate_from n xs)
numbers-from {X} n [] = All-nil (λ (p : ℕ × X). n ≤ p.0)
numbers-from {X} n (x ∷ xs) =
    All-cons (λ (p : ℕ × X). n ≤ p.0) (n, x) (enumerate_from (n + 1) xs) (omega arith)
    (All-weaker (λ (p : ℕ × X). n + 1 ≤ p.0) (λ p. n ≤ p.0) (λ p h. omega (arith, h)) (enumerate_from (n + 1) xs) (numbers-from (n + 1) xs))

numbers-rise : {X : Type 0} (n : ℕ) (xs : List X) → AreOrdered IsLess (enumerate_from n xs)
numbers-rise n [] = tt
numbers-rise {X} n (x ∷ xs) = (
  All-weaker (λ (p : ℕ × X). n + 1 ≤ p.0) (IsLess (n, x)) (λ p h. omega (arith, h)) (enumerate_from (n + 1) xs) (numbers-from (n + 1) xs),
  numbers-rise (n + 1) xs,
)

-- ---- the order of sites

-- a site stands before another: by its flat line, then by its statement
abbrev IsEarlier : Site → Site → Type 0
IsEarlier site later = (site.piece.line < later.piece.line) ⊎ ((site.piece.line ≡ later.piece.line) × (site.piece.statement < later.piece.statement))

alone : (site : Site) → AreOrdered IsEarlier (site ∷ [])
alone site = (All-nil (IsEarlier site), tt)

api-ordered : (number : ℕ) (name : List ℕ) (found : Option NameId) → AreOrdered IsEarlier (option_map_or (λ id. anchor_site number name id ∷ []) found [])
api-ordered number name None = tt
api-ordered number name (Some id) = alone (anchor_site number name id)

validity-ordered : (r : Rows) (number : ℕ) (found : Option NameId) → AreOrdered IsEarlier (option_map_or (λ id. map (statement_site number id) (numbered r id)) found [])
validity-ordered r number None = tt
validity-ordered r number (Some id) =
    ordered-map IsEarlier (statement_site number id) (numbered r id)
    (ordered-weaker IsLess (λ p later. IsEarlier (statement_site number id p) (statement_site number id later)) (λ p later less. inr (refl, less)) (numbered r id) (numbers-rise 1 (statements_of r id)))

line-ordered : (r : Rows) (number : ℕ) (line : List ℕ) (kind : LineKind) → AreOrdered IsEarlier (sites_at r number line kind)
line-ordered r number line Plain = alone (free_site (whole_piece number true line))
line-ordered r number line (OneLine negated any names from to) = alone (free_site (record { line = number; statement = 0; start = from; marked = true; bytes = slice_range line from to }))
line-ordered r number line (Api name) = api-ordered number name (id_of r.names name)
line-ordered r number line (Validity name) = validity-ordered r number (id_of r.names name)
line-ordered r number line Comment = tt
line-ordered r number line Other = tt
line-ordered r number line (Refpage name) = tt
line-ordered r number line (Begin negated any names) = tt
line-ordered r number line (Close any names) = tt
line-ordered r number line (Chapter file) = tt

module _ (r : Rows) where
  -- the sites of a line, and of those behind it
  abbrev here : ℕ → FlatLine → List Site
  here number line = sites_at r number line.bytes line.kind

  abbrev from : ℕ → List FlatLine → List Site
  from number lines = sites_among r (enumerate_from number lines)

  sites-behind : (number : ℕ) (lines : List FlatLine) → All (λ site. number ≤ site.piece.line) (from number lines)
  sites-behind number [] = All-nil (λ (site : Site). number ≤ site.piece.line)
  sites-behind number (line ∷ lines) =
      All-append (λ (site : Site). number ≤ site.piece.line) (here number line) (from (number + 1) lines)
      (All-weaker (λ (site : Site). site.piece.line ≡ number) (λ site. number ≤ site.piece.line) (λ site is. omega (arith, is)) (here number line) (site_lines r number line.bytes line.kind))
      (All-weaker (λ (site : Site). number + 1 ≤ site.piece.line) (λ site. number ≤ site.piece.line) (λ site h. omega (arith, h)) (from (number + 1) lines) (sites-behind (number + 1) lines))

  sites-within : (number : ℕ) (lines : List FlatLine) → All (λ site. site.piece.line < number + length lines) (from number lines)
  sites-within number [] = All-nil (λ (site : Site). site.piece.line < number + 0)
  sites-within number (line ∷ lines) =
      let P : Site → Type 0 = λ site. site.piece.line < number + length (line ∷ lines) in
      All-append P (here number line) (from (number + 1) lines)
      (All-weaker (λ (site : Site). site.piece.line ≡ number) P (λ site is. omega (arith, is)) (here number line) (site_lines r number line.bytes line.kind))
      (All-weaker (λ (site : Site). site.piece.line < number + 1 + length lines) P (λ site h. omega (arith, h)) (from (number + 1) lines) (sites-within (number + 1) lines))

  sites-ordered : (number : ℕ) (lines : List FlatLine) → AreOrdered IsEarlier (from number lines)
  sites-ordered number [] = tt
  sites-ordered number (line ∷ lines) =
      let later = from (number + 1) lines in
      ordered-append IsEarlier (here number line) later (line-ordered r number line.bytes line.kind) (sites-ordered (number + 1) lines)
      (All-weaker (λ (site : Site). site.piece.line ≡ number) (λ site. All (IsEarlier site) later)
      (λ site is. All-weaker (λ (other : Site). number + 1 ≤ other.piece.line) (IsEarlier site) (λ other h. inl (omega (arith, is, h))) later (sites-behind (number + 1) lines))
      (here number line) (site_lines r number line.bytes line.kind))

-- ---- the order of their links

-- the link is in the line of a site
abbrev IsIn : Site → Link → Type 0
IsIn site link = (link.place.line ≡ site.piece.line) × (link.place.statement ≡ site.piece.statement)

abbrev links_at : Site → List Link
links_at site = map (link_at site.piece) (filter (λ (mark : Mark). not mark.anchor) (marks_in site.piece))

all-in : (site : Site) → All (IsIn site) (links_at site)
all-in site =
    let marks = filter (λ (mark : Mark). not mark.anchor) (marks_in site.piece) in
    All-map (IsIn site) (link_at site.piece) marks (All-all (λ (mark : Mark). IsIn site (link_at site.piece mark)) (λ mark. (refl, refl)) marks)

at-ordered : (site : Site) → AreOrdered IsAhead (links_at site)
at-ordered site = subst (AreOrdered IsAhead) (append-nil (links_at site)) (links_here site.piece)

-- links of sites in order are in order
ahead : (site other : Site) (link later : Link) → IsEarlier site other → IsIn site link → IsIn other later → IsAhead link later
ahead site other link later (inl less) at there = inl (omega (arith, less, at.0, there.0))
ahead site other link later (inr (same, less)) at there = inr (omega (arith, same, at.0, there.0), inl (omega (arith, less, at.1, there.1)))

-- the links of sites
abbrev links_among : List Site → List Link
links_among places = links_of (pieces_of_sites places)

all-ahead : (site : Site) (link : Link) (places : List Site) → IsIn site link → All (IsEarlier site) places → All (IsAhead link) (links_among places)
all-ahead site link places at later =
    All-flat_map (λ (piece : Piece). (site.piece.line < piece.line) ⊎ ((site.piece.line ≡ piece.line) × (site.piece.statement < piece.statement))) (IsAhead link)
    (λ piece. map (link_at piece) (filter (λ (mark : Mark). not mark.anchor) (marks_in piece)))
    (λ piece earlier.
    let other : Site = record { piece = piece; needs = [] } in
    All-weaker (IsIn other) (IsAhead link) (λ next there. ahead site other link next earlier at there) (links_at other) (all-in other))
    (pieces_of_sites places)
    (All-map (λ (piece : Piece). (site.piece.line < piece.line) ⊎ ((site.piece.line ≡ piece.line) × (site.piece.statement < piece.statement))) (λ (s : Site). s.piece) places later)

among-ordered : (places : List Site) → AreOrdered IsEarlier places → AreOrdered IsAhead (links_among places)
among-ordered [] ordered = tt
among-ordered (site ∷ places) ordered =
    ordered-append IsAhead (links_at site) (links_among places) (at-ordered site) (among-ordered places ordered.1)
    (All-weaker (IsIn site) (λ link. All (IsAhead link) (links_among places)) (λ link at. all-ahead site link places at ordered.0) (links_at site) (all-in site))

-- what is found in sites is of their lines
found-within : {X : Type 0} (choose : Mark → Bool) (make : Piece → Mark → X) (line_of : X → ℕ) (same : (piece : Piece) (mark : Mark) → line_of (make piece mark) ≡ piece.line)
    (n : ℕ) (places : List Site) → All (λ site. site.piece.line < n) places → All (λ x. line_of x < n) (found choose make line_of same (pieces_of_sites places))
found-within choose make line_of same n places less =
    All-flat_map (λ (piece : Piece). piece.line < n) (λ x. line_of x < n) (found_in choose make line_of same)
    (λ piece below. All-weaker (λ x. line_of x ≡ piece.line) (λ x. line_of x < n) (λ x at. omega (arith, at, below)) (found_in choose make line_of same piece) (found_here choose make line_of same piece))
    (pieces_of_sites places) (All-map (λ (piece : Piece). piece.line < n) (λ (site : Site). site.piece) places less)

all-within : (r : Rows) (lines : List FlatLine) → All (λ site. site.piece.line < length lines) (sites r lines)
all-within r lines = All-weaker (λ (site : Site). site.piece.line < 0 + length lines) (λ site. site.piece.line < length lines) (λ site less. omega (arith, less)) (sites r lines) (sites-within r 0 lines)

pub sites-in-order : SitesInOrder
sites-in-order = record {
  within = all-within;
  anchors = λ r lines. found-within (λ mark. mark.anchor) anchor_at (λ anchor. anchor.line) (λ piece mark. refl) (length lines) (sites r lines) (all-within r lines);
  links = λ r lines. found-within (λ mark. not mark.anchor) link_at (λ link. link.place.line) (λ piece mark. refl) (length lines) (sites r lines) (all-within r lines);
  order = λ r lines. all_pairs IsAhead (links_among (sites r lines)) (among-ordered (sites r lines) (sites-ordered r 0 lines));
  apart = λ r lines i j link other here there same.
      apart (links_among (sites r lines)) i j link other (all_pairs IsAhead (links_among (sites r lines)) (among-ordered (sites r lines) (sites-ordered r 0 lines))) here there same;
}

-- ---- links in a built text

single : {X : Type 0} (x y : X) → Contains (x ∷ []) y → x ≡ y
single x y (zero, less, is) = is
single x y (suc k, less, is) = absurd (omega (arith, less))

none : {X : Type 0} (y : X) → Contains [] y → ⊥
none y (k, less, is) = omega (arith, less)

first-or-later : {X : Type 0} (x y : X) (xs : List X) → Contains (x ∷ xs) y → (x ≡ y) ⊎ Contains xs y
first-or-later x y xs has = elim (Contains-append_cases (x ∷ []) xs y has) [ inl first ↦ inl (single x y first) | inr later ↦ inr later ]

module _ (test : Site → Bool) where
  abbrev left : List Site → List Link
  left places = links_among (filter test places)

  -- a link of a site that passes is among those of all that pass
  stays : (places : List Site) (site : Site) (link : Link) → Contains places site → Contains (links_at site) link → test site ≡ true → Contains (left places) link
  stays [] site link has own passes = absurd (none site has)
  stays (x ∷ places) site link has own passes =
      elim (first-or-later x site places has) [
        | inl same ↦
            let is : test x ≡ true = ap test same ∙ passes in
            subst (λ b. Contains (links_among (cond b (x ∷ filter test places) (filter test places))) link) (sym is)
            (Contains-append_left (links_at x) (left places) link (subst (λ (s : Site). Contains (links_at s) link) (sym same) own))
        | inr later ↦
            let rest = stays places site link later own passes in
            elim (cases_Bool (test x)) [
              | inl is ↦
                  subst (λ b. Contains (links_among (cond b (x ∷ filter test places) (filter test places))) link) (sym is)
                  (Contains-append_right (links_at x) (left places) link rest)
              | inr isnt ↦ subst (λ b. Contains (links_among (cond b (x ∷ filter test places) (filter test places))) link) (sym isnt) rest
            ]
      ]

  -- and a link of a site is among these only where its site passes
  passed : (places : List Site) (site : Site) (link : Link) → AreOrdered IsEarlier places → Contains places site → IsIn site link → Contains (left places) link → test site ≡ true
  passed [] site link ordered has at there = absurd (none site has)
  passed (x ∷ places) site link ordered has at there =
      elim (cases_Bool (test x)) [
        | inl is ↦
            let split : Contains (links_at x ++ left places) link = subst (λ b. Contains (links_among (cond b (x ∷ filter test places) (filter test places))) link) is there in
            elim (first-or-later x site places has) [
              | inl same ↦ ap test (sym same) ∙ is
              | inr later ↦
                  elim (Contains-append_cases (links_at x) (left places) link split) [
                    | inl own ↦
                        let before : IsEarlier x site = All-contains (IsEarlier x) places site ordered.0 later in
                        let first : IsIn x link = All-contains (IsIn x) (links_at x) link (all-in x) own in
                        absurd (never_before link.place (ahead x site link link before first at))
                    | inr rest ↦ passed places site link ordered.1 later at rest
                  ]
            ]
        | inr isnt ↦
            let rest : Contains (left places) link = subst (λ b. Contains (links_among (cond b (x ∷ filter test places) (filter test places))) link) isnt there in
            elim (first-or-later x site places has) [
              | inl same ↦
                  let first : IsIn x link = subst (λ (s : Site). IsIn s link) (sym same) at in
                  let behind = all-ahead x link (filter test places) first (All-filter test (IsEarlier x) places ordered.0) in
                  absurd (never_before link.place (All-contains (IsAhead link) (left places) link behind rest))
              | inr later ↦ passed places site link ordered.1 later at rest
            ]
      ]

-- the links of a line alone
own-links : (site : Site) (link : Link) → Contains (links_of (site.piece ∷ [])) link → Contains (links_at site) link
own-links site link own = subst (λ (links : List Link). Contains links link) (append-nil (links_at site)) own

pub links-stand : LinksStandWithTheirLines
links-stand = record {
  there = λ always r chosen set lines site link has own stand.
      subst (λ (links : List Link). Contains links link) (sym (marks-follow.links always r chosen set lines))
      (stays (is_standing (set_names always r chosen) set lines) (sites r lines) site link has (own-links site link own) stand);
  standing = λ always r chosen set lines site link has own there.
      passed (is_standing (set_names always r chosen) set lines) (sites r lines) site link (sites-ordered r 0 lines) has
      (All-contains (IsIn site) (links_at site) link (all-in site) (own-links site link own))
      (subst (λ (links : List Link). Contains links link) (marks-follow.links always r chosen set lines) there);
}
