-- The statements that stand, one after another, and the lines of a declaration.
use Rattle.std.proofs.Common.{codes, inl, inr, ◌≡◌, ◌∙◌, refl, sym, ap, ℕ, zero, suc, ◌+◌, ◌<◌, Bool, true, false, cond, eqb, List, [], ◌∷◌, ◌++◌, length, map, take, drop, filter, get_or, append_assoc, arith}
use Rattle.std.specs.List.{enumerate_from, list_any, onto_first}
use Rattle.std.proofs.Math.Numerals.{add-one}
use Rattle.std.proofs.Math.Seq.{drop-drop}
use Rattle.std.proofs.lemmas.Bool.{cases_Bool, or_parts}
use Rattle.std.proofs.lemmas.List.{drop_more, map_push}
use Rattle.vkb_text.specs.Lines.{lines_of}
use Rattle.vu_implicit.specs.declared.statement.Statement.{Statement}
use Rattle.doc_build.specs.declared.Piece.{Piece}
use Rattle.doc_build.specs.Choices.{PageLine}
use Rattle.doc_build.specs.Pages.{anchor_line, block, fence, listing, silent_line, stands, statement_line}
use Rattle.doc_build.specs.Pieces.{page_piece}

-- the lines of the statements that stand, of which the first has a number
abbrev pub standing_from : List Bool → ℕ → List Statement → List PageLine
standing_from set number all = map statement_line (filter (λ p. stands set p.1) (enumerate_from number all))

module _ (set : List Bool) (line : ℕ) (all : List Statement) (place : ℕ) (s : Statement) (within : place < length all) (is : s ≡ get_or all place s) where
  abbrev rest : List Statement
  rest = drop (place + 1) all

  all_are : drop place all ≡ s ∷ rest
  all_are = drop_more all place s within ∙ ap (λ (x : Statement). x ∷ rest) (sym is)

  abbrev put : List PageLine → List Piece
  put lines = map (page_piece line) lines

  -- one statement that stands
  pub stands-next : (old new whole : List Piece) → stands set s ≡ true → new ≡ old ++ page_piece line (statement_line (place + 1, s)) ∷ []
      → old ++ put (standing_from set (place + 1) (drop place all)) ≡ whole → new ++ put (standing_from set (place + 1 + 1) rest) ≡ whole
  stands-next old new whole stand pushed was =
      let first : put (standing_from set (place + 1) (drop place all)) ≡ page_piece line (statement_line (place + 1, s)) ∷ put (standing_from set (place + 1 + 1) rest) =
      ap (λ (ss : List Statement). put (standing_from set (place + 1) ss)) all_are
      ∙ ap (λ (b : Bool). put (map statement_line (cond b ((place + 1, s) ∷ filter (λ p. stands set p.1) (enumerate_from (place + 1 + 1) rest)) (filter (λ p. stands set p.1) (enumerate_from (place + 1 + 1) rest))))) stand in
      ap (λ (ps : List Piece). ps ++ put (standing_from set (place + 1 + 1) rest)) pushed
      ∙ append_assoc old (page_piece line (statement_line (place + 1, s)) ∷ []) (put (standing_from set (place + 1 + 1) rest))
      ∙ ap (λ (ps : List Piece). old ++ ps) (sym first) ∙ was

  -- one that doesn't
  pub falls-next : (old whole : List Piece) → stands set s ≡ false → old ++ put (standing_from set (place + 1) (drop place all)) ≡ whole → old ++ put (standing_from set (place + 1 + 1) rest) ≡ whole
  falls-next old whole fall was =
      let first : put (standing_from set (place + 1) (drop place all)) ≡ put (standing_from set (place + 1 + 1) rest) =
      ap (λ (ss : List Statement). put (standing_from set (place + 1) ss)) all_are
      ∙ ap (λ (b : Bool). put (map statement_line (cond b ((place + 1, s) ∷ filter (λ p. stands set p.1) (enumerate_from (place + 1 + 1) rest)) (filter (λ p. stands set p.1) (enumerate_from (place + 1 + 1) rest))))) fall in
      ap (λ (ps : List Piece). old ++ ps) (sym first) ∙ was

-- where none stands there is no line
pub none-stands : (set : List Bool) (number : ℕ) (all : List Statement) → list_any (stands set) all ≡ false → standing_from set number all ≡ []
none-stands set number [] none = refl
none-stands set number (s ∷ all) none =
    let parts = or_parts (stands set s) (list_any (stands set) all) none in
    ap (λ (b : Bool). map statement_line (cond b ((number, s) ∷ filter (λ p. stands set p.1) (enumerate_from (number + 1) all)) (filter (λ p. stands set p.1) (enumerate_from (number + 1) all)))) parts.0
    ∙ none-stands set (number + 1) all parts.1

-- where one stands there is a first line
pub some-stands : (set : List Bool) (number : ℕ) (all : List Statement) → list_any (stands set) all ≡ true → (first : PageLine) × (lines : List PageLine) × (standing_from set number all ≡ first ∷ lines)
some-stands set number [] some = absurd (cc)
some-stands set number (s ∷ all) some =
    elim (cases_Bool (stands set s)) [
      | inl is ↦ (statement_line (number, s), standing_from set (number + 1) all, rw is refl)
      | inr isnt ↦ let later = some-stands set (number + 1) all (rw isnt at some) in (later.0, later.1, rw isnt later.2)
    ]

-- a block is its lines between those before and behind them
pub block-is : (first : PageLine) (lines all : List PageLine) → all ≡ first ∷ lines
    → block all ≡ silent_line (codes ".Valid Usage (Implicit)") ∷ silent_line (codes "****") ∷ (all ++ silent_line (codes "****") ∷ [])
block-is first lines all is = rw is refl

-- ---- lines of a text

-- a line that ends at the first line feed
pub lines_of-fed : (text : List ℕ) (end : ℕ) → end < length text → eqb (get_or text end 0) 10 ≡ true → ((k : ℕ) → k < end → eqb (get_or text k 0) 10 ≡ false)
    → lines_of text ≡ take end text ∷ lines_of (drop (end + 1) text)
lines_of-fed [] end within here before = absurd (omega arith)
lines_of-fed (b ∷ bs) zero within here before = rw here refl
lines_of-fed (b ∷ bs) (suc end) within here before =
    let first : eqb b 10 ≡ false = before 0 (omega arith) in
    let rest = lines_of-fed bs end (omega arith) here (λ k below. before (suc k) (omega arith)) in
    rw (first, add-one) (ap (onto_first b) (rest ∙ ap (λ n. take end bs ∷ lines_of (drop n bs)) (add-one end)))

-- a text with no line feed is one line
pub lines_of-unfed : (text : List ℕ) → 0 < length text → ((k : ℕ) → k < length text → eqb (get_or text k 0) 10 ≡ false) → lines_of text ≡ text ∷ []
lines_of-unfed [] some none = absurd (omega arith)
lines_of-unfed (b ∷ []) some none = rw (none 0 (omega arith)) refl
lines_of-unfed (b ∷ c ∷ bs) some none =
    let first : eqb b 10 ≡ false = none 0 (omega arith) in
    rw first (ap (onto_first b) (lines_of-unfed (c ∷ bs) (omega arith) (λ k below. none (suc k) (omega arith))))

pub is_false : (b : Bool) → (b ≡ true → ⊥) → b ≡ false
is_false true h = absurd (h refl)
is_false false h = refl

-- one line more
pub line-next : (number : ℕ) (text : List ℕ) (start end : ℕ) (old new whole : List Piece) → lines_of (drop start text) ≡ take end (drop start text) ∷ lines_of (drop (end + 1) (drop start text))
    → new ≡ old ++ page_piece number (silent_line (take end (drop start text))) ∷ [] → old ++ map (page_piece number) (map silent_line (lines_of (drop start text))) ≡ whole
    → new ++ map (page_piece number) (map silent_line (lines_of (drop (start + (end + 1)) text))) ≡ whole
line-next number text start end old new whole first pushed was =
    let put : List (List ℕ) → List Piece = λ lines. map (page_piece number) (map silent_line lines) in
    let behind : drop (end + 1) (drop start text) ≡ drop (start + (end + 1)) text = drop-drop (end + 1) start text in
    let later = lines_of (drop (start + (end + 1)) text) in
    let whole_is : put (lines_of (drop start text)) ≡ page_piece number (silent_line (take end (drop start text))) ∷ put later =
    ap put first ∙ ap (λ (rest : List ℕ). page_piece number (silent_line (take end (drop start text))) ∷ put (lines_of rest)) behind in
    ap (λ (ps : List Piece). ps ++ put later) pushed
    ∙ append_assoc old (page_piece number (silent_line (take end (drop start text))) ∷ []) (put later)
    ∙ ap (λ (ps : List Piece). old ++ ps) (sym whole_is) ∙ was

-- a block, put behind other lines
pub block-put : (number : ℕ) (p0 p1 p2 p3 p4 : List Piece) (first : PageLine) (lines all : List PageLine) → all ≡ first ∷ lines
    → p1 ≡ p0 ++ page_piece number (silent_line (codes ".Valid Usage (Implicit)")) ∷ [] → p2 ≡ p1 ++ page_piece number (silent_line (codes "****")) ∷ []
    → p3 ≡ p2 ++ map (page_piece number) all → p4 ≡ p3 ++ page_piece number (silent_line (codes "****")) ∷ [] → p4 ≡ p0 ++ map (page_piece number) (block all)
block-put number p0 p1 p2 p3 p4 first lines all is e1 e2 e3 e4 =
    let pp = page_piece number in
    let head = pp (silent_line (codes ".Valid Usage (Implicit)")) in
    let star = pp (silent_line (codes "****")) in
    let inner : map pp (all ++ silent_line (codes "****") ∷ []) ≡ map pp all ++ star ∷ [] = map_push pp all (silent_line (codes "****")) in
    let whole : map pp (block all) ≡ head ∷ star ∷ (map pp all ++ star ∷ []) = ap (map pp) (block-is first lines all is) ∙ ap (λ (ps : List Piece). head ∷ star ∷ ps) inner in
    e4 ∙ ap (λ (ps : List Piece). ps ++ star ∷ []) e3 ∙ append_assoc p2 (map pp all) (star ∷ [])
    ∙ ap (λ (ps : List Piece). ps ++ (map pp all ++ star ∷ [])) (e2 ∙ ap (λ (ps : List Piece). ps ++ star ∷ []) e1)
    ∙ append_assoc (p0 ++ head ∷ []) (star ∷ []) (map pp all ++ star ∷ []) ∙ append_assoc p0 (head ∷ []) (star ∷ (map pp all ++ star ∷ []))
    ∙ ap (λ (ps : List Piece). p0 ++ ps) (sym whole)

-- a declaration, put behind other lines
pub listing-put : (number : ℕ) (name text : List ℕ) (p0 p1 p2 p3 p4 p5 : List Piece) → p1 ≡ p0 ++ page_piece number (anchor_line name) ∷ []
    → p2 ≡ p1 ++ page_piece number (silent_line (codes "[source,c++]")) ∷ [] → p3 ≡ p2 ++ page_piece number fence ∷ []
    → p4 ≡ p3 ++ map (page_piece number) (map silent_line (lines_of text)) → p5 ≡ p4 ++ page_piece number fence ∷ [] → p5 ≡ p0 ++ map (page_piece number) (listing name text)
listing-put number name text p0 p1 p2 p3 p4 p5 e1 e2 e3 e4 e5 =
    let pp = page_piece number in
    let lines = map silent_line (lines_of text) in
    let a = pp (anchor_line name) in
    let s = pp (silent_line (codes "[source,c++]")) in
    let f = pp fence in
    let rest = map pp lines ++ f ∷ [] in
    let inner : map pp (lines ++ fence ∷ []) ≡ rest = map_push pp lines fence in
    e5 ∙ ap (λ (ps : List Piece). ps ++ f ∷ []) e4 ∙ append_assoc p3 (map pp lines) (f ∷ [])
    ∙ ap (λ (ps : List Piece). ps ++ rest) (e3 ∙ ap (λ (ps : List Piece). ps ++ f ∷ []) (e2 ∙ ap (λ (ps : List Piece). ps ++ s ∷ []) e1))
    ∙ append_assoc ((p0 ++ a ∷ []) ++ s ∷ []) (f ∷ []) rest ∙ append_assoc (p0 ++ a ∷ []) (s ∷ []) (f ∷ rest) ∙ append_assoc p0 (a ∷ []) (s ∷ f ∷ rest)
    ∙ ap (λ (ps : List Piece). p0 ++ a ∷ s ∷ f ∷ ps) (sym inner)
