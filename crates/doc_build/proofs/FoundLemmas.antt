-- What is found in pieces, an anchor or a link for each mark of a kind, and in those of the kept lines.
use Rattle.std.proofs.Common.{inl, inr, ◌≡◌, ℕ, ◌+◌, ◌<◌, Bool, true, false, not, cond, List, [], ◌∷◌, ◌++◌, length, map, filter, take, get_or, All, None, refl, sym, ap, ◌∙◌, arith}
use Rattle.std.specs.List.{flat_map, enumerate_from, last_or}
use Rattle.std.proofs.lemmas.Bool.{cases_Bool}
use Rattle.std.proofs.lemmas.List.Concat.{flat_map-append}
use Rattle.std.proofs.lemmas.List.Elements.{All-nil, All-cons, All-head, All-tail, All-append, All-map, All-same, All-weaker, All-filter, All-take, filter-append}
use Rattle.doc_marks.specs.declared.Mark.{Mark}
use Rattle.doc_cond.specs.declared.LineKind.{LineKind}
use Rattle.doc_cond.specs.declared.LineKind.TheVariants.{Plain, Comment, Other, Begin, OneLine, Close, Chapter, Api, Validity, Refpage}
use Rattle.doc_tree.specs.Flat.{FlatLine, is_kept}
use Rattle.reg_registry.specs.Rows.{Rows}
use Rattle.doc_build.specs.Choices.{Choice, PageLine, names_set, pageless_setting}
use Rattle.doc_build.specs.Ids.{filled, id_at, page_set}
use Rattle.doc_build.specs.Laws.{SetsNoPage, is_kept_at}
use Rattle.doc_build.specs.declared.Piece.{Piece}
use Rattle.doc_build.specs.Pieces.{Anchor, Link, all_links, all_pieces, anchor_at, anchors_of, link_at, links_of, marks_in, page_piece, pieces_among, pieces_at, pieces_of}

-- ---- lists

-- what holds of all that each element gives
pub All-flat_map : {X Y : Type 0} (P : X → Type 0) (Q : Y → Type 0) (f : X → List Y) → ((x : X) → P x → All Q (f x)) → (xs : List X) → All P xs → All Q (flat_map f xs)
All-flat_map P Q f gives [] all = All-nil Q
All-flat_map P Q f gives (x ∷ xs) all = All-append Q (f x) (flat_map f xs) (gives x (All-head P x xs all)) (All-flat_map P Q f gives xs (All-tail P x xs all))

-- what holds of every value holds of all in a list
pub All-all : {X : Type 0} (P : X → Type 0) → ((x : X) → P x) → (xs : List X) → All P xs
All-all P each [] = All-nil P
All-all P each (x ∷ xs) = All-cons P x xs (each x) (All-all P each xs)

-- a test that all pass leaves all
pub filter-all : {X : Type 0} (test : X → Bool) (xs : List X) → All (λ x. test x ≡ true) xs → filter test xs ≡ xs
filter-all test [] all = refl
filter-all test (x ∷ xs) all =
    let first : test x ≡ true = All-head (λ y. test y ≡ true) x xs all in
    ap (λ b. cond b (x ∷ filter test xs) (filter test xs)) first ∙ ap (λ ys. x ∷ ys) (filter-all test xs (All-tail (λ y. test y ≡ true) x xs all))

-- and one that none passes leaves none
pub filter-none : {X : Type 0} (test : X → Bool) (xs : List X) → All (λ x. test x ≡ false) xs → filter test xs ≡ []
filter-none test [] all = refl
filter-none test (x ∷ xs) all =
    let first : test x ≡ false = All-head (λ y. test y ≡ false) x xs all in
    ap (λ b. cond b (x ∷ filter test xs) (filter test xs)) first ∙ filter-none test xs (All-tail (λ y. test y ≡ false) x xs all)

-- ---- the lines of pieces

one_piece : (number : ℕ) (piece : Piece) → piece.line ≡ number → All (λ p. p.line ≡ number) (piece ∷ [])
one_piece number piece is = All-cons (λ p. p.line ≡ number) piece [] is (All-nil (λ p. p.line ≡ number))

-- what a line gives is of its number
pub line_of_piece : (pages : LineKind → List PageLine) (number : ℕ) (line : List ℕ) (kind : LineKind) → All (λ piece. piece.line ≡ number) (pieces_at pages number line kind)
line_of_piece pages number line Plain = one_piece number _ refl
line_of_piece pages number line Comment = one_piece number _ refl
line_of_piece pages number line Other = one_piece number _ refl
line_of_piece pages number line (Refpage name) = one_piece number _ refl
line_of_piece pages number line (OneLine negated any names from to) = one_piece number _ refl
line_of_piece pages number line (Begin negated any names) = All-nil (λ (piece : Piece). piece.line ≡ number)
line_of_piece pages number line (Close any names) = All-nil (λ (piece : Piece). piece.line ≡ number)
line_of_piece pages number line (Chapter file) = All-nil (λ (piece : Piece). piece.line ≡ number)
line_of_piece pages number line (Api name) = All-map (λ (piece : Piece). piece.line ≡ number) (page_piece number) (pages (Api name)) (All-all (λ (given : PageLine). number ≡ number) (λ given. refl) (pages (Api name)))
line_of_piece pages number line (Validity name) = All-map (λ (piece : Piece). piece.line ≡ number) (page_piece number) (pages (Validity name)) (All-all (λ (given : PageLine). number ≡ number) (λ given. refl) (pages (Validity name)))

-- ---- what is found in pieces

module _ {X : Type 0} (choose : Mark → Bool) (make : Piece → Mark → X) (line_of : X → ℕ) (same : (piece : Piece) (mark : Mark) → line_of (make piece mark) ≡ piece.line) where
  abbrev pub found_in : Piece → List X
  found_in piece = map (make piece) (filter choose (marks_in piece))

  abbrev pub found : List Piece → List X
  found pieces = flat_map found_in pieces

  -- what is found in a piece is of its line
  pub found_here : (piece : Piece) → All (λ x. line_of x ≡ piece.line) (found_in piece)
  found_here piece = All-map (λ x. line_of x ≡ piece.line) (make piece) (filter choose (marks_in piece)) (All-all (λ mark. line_of (make piece mark) ≡ piece.line) (λ mark. same piece mark) (filter choose (marks_in piece)))

  -- and what is found in pieces of a line is of the line
  pub found_at : (number : ℕ) (pieces : List Piece) → All (λ piece. piece.line ≡ number) pieces → All (λ x. line_of x ≡ number) (found pieces)
  found_at number pieces all =
      All-flat_map (λ (piece : Piece). piece.line ≡ number) (λ x. line_of x ≡ number) found_in
      (λ piece is. All-weaker (λ x. line_of x ≡ piece.line) (λ x. line_of x ≡ number) (λ x at. at ∙ is) (found_in piece) (found_here piece)) pieces all

  -- what is found in what lines give is of one of them
  pub found_within : (pages : LineKind → List PageLine) (number : ℕ) (lines : List FlatLine) → All (λ x. line_of x < number + length lines) (found (pieces_among pages (enumerate_from number lines)))
  found_within pages number [] = All-nil (λ x. line_of x < number + 0)
  found_within pages number (line ∷ lines) =
      let here = pieces_at pages number line.bytes line.kind in
      let later = pieces_among pages (enumerate_from (number + 1) lines) in
      let Q : X → Type 0 = λ x. line_of x < number + length (line ∷ lines) in
      All-same Q (found (here ++ later)) (found here ++ found later) (flat_map-append found_in here later)
      (All-append Q (found here) (found later)
      (All-weaker (λ x. line_of x ≡ number) Q (λ x is. omega (arith, is)) (found here) (found_at number here (line_of_piece pages number line.bytes line.kind)))
      (All-weaker (λ x. line_of x < number + 1 + length lines) Q (λ x less. omega (arith, less)) (found later) (found_within pages (number + 1) lines)))

  module _ (pages : LineKind → List PageLine) (set : List (List ℕ)) (kept : ℕ → Bool) where
    -- what is found in what lines give
    abbrev found_among : List (ℕ × FlatLine) → List X
    found_among placed = found (pieces_among pages placed)

    abbrev found_of : ℕ × FlatLine → List X
    found_of p = found (pieces_at pages p.0 p.1.bytes p.1.kind)

    abbrev stays : X → Bool
    stays x = kept (line_of x)

    abbrev kept_among : List (ℕ × FlatLine) → List (ℕ × FlatLine)
    kept_among placed = filter (λ p. is_kept set p.1) placed

    found_more : (p : ℕ × FlatLine) (placed : List (ℕ × FlatLine)) → found_among (p ∷ placed) ≡ found_of p ++ found_among placed
    found_more p placed = flat_map-append found_in (pieces_at pages p.0 p.1.bytes p.1.kind) (pieces_among pages placed)

    found_lines : (p : ℕ × FlatLine) → All (λ x. line_of x ≡ p.0) (found_of p)
    found_lines p = found_at p.0 (pieces_at pages p.0 p.1.bytes p.1.kind) (line_of_piece pages p.0 p.1.bytes p.1.kind)

    -- what is found in the kept lines is what is found in all lines and is of a kept line
    pub found_kept : (placed : List (ℕ × FlatLine)) → All (λ p. kept p.0 ≡ is_kept set p.1) placed → found_among (kept_among placed) ≡ filter stays (found_among placed)
    found_kept [] all = refl
    found_kept (p ∷ placed) all =
        let says : kept p.0 ≡ is_kept set p.1 = All-head (λ q. kept q.0 ≡ is_kept set q.1) p placed all in
        let rest = found_kept placed (All-tail (λ q. kept q.0 ≡ is_kept set q.1) p placed all) in
        let split : filter stays (found_among (p ∷ placed)) ≡ filter stays (found_of p) ++ filter stays (found_among placed) = ap (filter stays) (found_more p placed) ∙ filter-append stays (found_of p) (found_among placed) in
        elim (cases_Bool (is_kept set p.1)) [
          | inl is ↦
              let here = filter-all stays (found_of p) (All-weaker (λ x. line_of x ≡ p.0) (λ x. stays x ≡ true) (λ x at. ap kept at ∙ says ∙ is) (found_of p) (found_lines p)) in
              ap (λ b. found_among (cond b (p ∷ kept_among placed) (kept_among placed))) is
              ∙ found_more p (kept_among placed)
              ∙ ap (λ xs. found_of p ++ xs) rest
              ∙ ap (λ xs. xs ++ filter stays (found_among placed)) (sym here)
              ∙ sym split
          | inr not_so ↦
              let here = filter-none stays (found_of p) (All-weaker (λ x. line_of x ≡ p.0) (λ x. stays x ≡ false) (λ x at. ap kept at ∙ says ∙ not_so) (found_of p) (found_lines p)) in
              ap (λ b. found_among (cond b (p ∷ kept_among placed) (kept_among placed))) not_so
              ∙ rest
              ∙ ap (λ xs. xs ++ filter stays (found_among placed)) (sym here)
              ∙ sym split
        ]

-- ---- the kept lines

-- the element at a place behind others
get_or-behind : {X : Type 0} (front rest : List X) (x d : X) → get_or (front ++ x ∷ rest) (length front) d ≡ x
get_or-behind [] rest x d = refl
get_or-behind (y ∷ front) rest x d = get_or-behind front rest x d

append_one : (xs ys : List Bool) (x : Bool) → (xs ++ x ∷ []) ++ ys ≡ xs ++ x ∷ ys
append_one [] ys x = refl
append_one (y ∷ xs) ys x = ap (λ zs. y ∷ zs) (append_one xs ys x)

longer : (xs : List Bool) (x : Bool) → length (xs ++ x ∷ []) ≡ length xs + 1
longer [] x = refl
longer (y ∷ xs) x = omega (arith, longer xs x)

-- each line is kept at its place as it is by itself
pub kept_places : (set : List (List ℕ)) (kept : List Bool) (front : List Bool) (lines : List FlatLine) → kept ≡ front ++ map (is_kept set) lines
    → All (λ p. get_or kept p.0 false ≡ is_kept set p.1) (enumerate_from (length front) lines)
kept_places set kept front [] is = All-nil (λ (p : ℕ × FlatLine). get_or kept p.0 false ≡ is_kept set p.1)
kept_places set kept front (line ∷ lines) is =
    let here : get_or kept (length front) false ≡ is_kept set line = ap (λ bs. get_or bs (length front) false) is ∙ get_or-behind front (map (is_kept set) lines) (is_kept set line) false in
    let more : kept ≡ (front ++ is_kept set line ∷ []) ++ map (is_kept set) lines = is ∙ sym (append_one front (map (is_kept set) lines) (is_kept set line)) in
    let rest = kept_places set kept (front ++ is_kept set line ∷ []) lines more in
    All-cons (λ (p : ℕ × FlatLine). get_or kept p.0 false ≡ is_kept set p.1) (length front, line) (enumerate_from (length front + 1) lines) here (rw (longer front (is_kept set line)) at rest)

pub kept_anchors : (always : List (List ℕ)) (r : Rows) (lines : List FlatLine) (choice : Choice)
    → anchors_of (pieces_of (pageless_setting always r) lines choice)
    ≡ filter (λ anchor. is_kept_at (names_set (pageless_setting always r) choice) lines anchor.line) (anchors_of (all_pieces (pageless_setting always r) lines))
kept_anchors always r lines choice =
    let set = names_set (pageless_setting always r) choice in
    found_kept (λ mark. mark.anchor) anchor_at (λ a. a.line) (λ piece mark. refl) (λ kind. []) set (is_kept_at set lines) (enumerate_from 0 lines) (kept_places set (map (is_kept set) lines) [] lines refl)

pub kept_links : (always : List (List ℕ)) (r : Rows) (lines : List FlatLine) (choice : Choice)
    → links_of (pieces_of (pageless_setting always r) lines choice)
    ≡ filter (λ link. is_kept_at (names_set (pageless_setting always r) choice) lines link.place.line) (all_links (pageless_setting always r) lines)
kept_links always r lines choice =
    let set = names_set (pageless_setting always r) choice in
    found_kept (λ mark. not mark.anchor) link_at (λ l. l.place.line) (λ piece mark. refl) (λ kind. []) set (is_kept_at set lines) (enumerate_from 0 lines) (kept_places set (map (is_kept set) lines) [] lines refl)

-- ---- the lines of all marks

pub anchors_within : (always : List (List ℕ)) (r : Rows) (lines : List FlatLine) → All (λ anchor. anchor.line < length lines) (anchors_of (all_pieces (pageless_setting always r) lines))
anchors_within always r lines =
    All-weaker (λ (a : Anchor). a.line < 0 + length lines) (λ a. a.line < length lines) (λ a less. omega (arith, less)) (anchors_of (all_pieces (pageless_setting always r) lines))
    (found_within (λ mark. mark.anchor) anchor_at (λ a. a.line) (λ piece mark. refl) (λ kind. []) 0 lines)

pub links_within : (always : List (List ℕ)) (r : Rows) (lines : List FlatLine) → All (λ link. link.place.line < length lines) (all_links (pageless_setting always r) lines)
links_within always r lines =
    All-weaker (λ (l : Link). l.place.line < 0 + length lines) (λ l. l.place.line < length lines) (λ l less. omega (arith, less)) (all_links (pageless_setting always r) lines)
    (found_within (λ mark. not mark.anchor) link_at (λ l. l.place.line) (λ piece mark. refl) (λ kind. []) 0 lines)

-- ---- no page

-- lines that set no page set none together
no_page : (lines : List FlatLine) → SetsNoPage lines → flat_map (λ line. page_set line.kind) lines ≡ []
no_page [] none = refl
no_page (line ∷ lines) none =
    let first : page_set line.kind ≡ [] = All-head (λ (l : FlatLine). page_set l.kind ≡ []) line lines none in
    ap (λ names. names ++ flat_map (λ l. page_set l.kind) lines) first ∙ no_page lines (All-tail (λ (l : FlatLine). page_set l.kind ≡ []) line lines none)

pub written_so : (lines : List FlatLine) (set : List (List ℕ)) (place : ℕ) (written : List ℕ) → SetsNoPage lines → id_at lines set place written ≡ written
written_so lines set place written none =
    let kept = filter (is_kept set) (take place lines) in
    let unset = no_page kept (All-filter (is_kept set) (λ (l : FlatLine). page_set l.kind ≡ []) (take place lines) (All-take (λ (l : FlatLine). page_set l.kind ≡ []) place lines none)) in
    ap (λ names. filled (last_or None names) written) unset
