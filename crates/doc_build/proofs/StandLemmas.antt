-- What a text has of a line, and the anchors of pages.
use Rattle.std.proofs.Common.{codes, inl, inr, ◌≡◌, ◌∙◌, refl, sym, ap, subst, ℕ, zero, suc, ◌+◌, ◌≤◌, ◌==◌, Bool, true, false, cond, List, [], ◌∷◌, ◌++◌, map, filter, All, Some, Option, slice_get, get_or, arith}
use Rattle.std.specs.List.{enumerate_from}
use Rattle.std.specs.Option.{option_map_or}
use Rattle.std.proofs.lemmas.Bool.{cases_Bool, false_from_ne_true}
use Rattle.std.proofs.lemmas.List.Concat.{flat_map-append}
use Rattle.std.proofs.lemmas.List.{append-nil}
use Rattle.std.proofs.lemmas.List.Elements.{All-append, All-nil, All-same, All-weaker, filter-append}
use Rattle.std.proofs.lemmas.Option.{get_or_from_slice_get, same_Some}
use Rattle.vkb_formula.specs.declared.name_table.NameId.{NameId}
use Rattle.doc_cond.specs.declared.LineKind.{LineKind}
use Rattle.doc_tree.specs.Flat.{FlatLine, is_kept}
use Rattle.hdr_writer.specs.Declarations.{declaration}
use Rattle.vkb_text.specs.Lines.{lines_of}
use Rattle.doc_build.specs.declared.Piece.{Piece}
use Rattle.doc_build.specs.Built.{set_names}
use Rattle.doc_build.specs.Choices.{PageLine}
use Rattle.doc_build.specs.Laws.{AnchorsFollowTheClosure, LinesStandWhereKept, of_line}
use Rattle.doc_build.specs.Pages.{anchor_line, fence, has, lines_given, listing, silent_line}
use Rattle.doc_build.specs.Pieces.{Anchor, anchor_at, anchors_of, marks_in, page_piece, pieces_among, pieces_at}
use Rattle.doc_build.proofs.FoundLemmas.{filter-all, filter-none, line_of_piece}

module _ (pages : LineKind → List PageLine) (set : List (List ℕ)) where
  -- what the kept lines give
  abbrev among : ℕ → List FlatLine → List Piece
  among start lines = pieces_among pages (filter (λ p. is_kept set p.1) (enumerate_from start lines))

  abbrev at : ℕ → FlatLine → List Piece
  at number line = pieces_at pages number line.bytes line.kind

  -- what one line gives, if it is kept
  abbrev kept_at : ℕ → FlatLine → List Piece
  kept_at number line = cond (is_kept set line) (at number line) []

  among-more : (start : ℕ) (line : FlatLine) (lines : List FlatLine) → among start (line ∷ lines) ≡ kept_at start line ++ among (start + 1) lines
  among-more start line lines =
      elim (cases_Bool (is_kept set line)) [ inl is ↦ rw is refl | inr isnt ↦ rw isnt refl ]

  kept-line : (number : ℕ) (line : FlatLine) → All (λ piece. piece.line ≡ number) (kept_at number line)
  kept-line number line =
      elim (cases_Bool (is_kept set line)) [
        | inl is ↦ rw is (line_of_piece pages number line.bytes line.kind)
        | inr isnt ↦ rw isnt (All-nil (λ (piece : Piece). piece.line ≡ number))
      ]

  -- no line before the first gives anything
  later : (start : ℕ) (lines : List FlatLine) → All (λ piece. start ≤ piece.line) (among start lines)
  later start [] = All-nil (λ (piece : Piece). start ≤ piece.line)
  later start (line ∷ lines) =
      let P : Piece → Type 0 = λ piece. start ≤ piece.line in
      All-same P (among start (line ∷ lines)) (kept_at start line ++ among (start + 1) lines) (among-more start line lines)
      (All-append P (kept_at start line) (among (start + 1) lines)
      (All-weaker (λ (piece : Piece). piece.line ≡ start) P (λ piece is. omega (arith, is)) (kept_at start line) (kept-line start line))
      (All-weaker (λ (piece : Piece). start + 1 ≤ piece.line) P (λ piece behind. omega (arith, behind)) (among (start + 1) lines) (later (start + 1) lines)))

  same-line : (number : ℕ) (piece : Piece) → piece.line ≡ number → (piece.line == number) ≡ true
  same-line number piece is = grind (arith, is)

  other-line : (number : ℕ) (piece : Piece) → ¬ (piece.line ≡ number) → (piece.line == number) ≡ false
  other-line number piece isnt = grind (arith, isnt)

  stand : (start place : ℕ) (lines : List FlatLine) (line : FlatLine) → slice_get lines place ≡ Some line → of_line (start + place) (among start lines) ≡ kept_at (start + place) line
  stand start place [] line held = absurd (cc)
  stand start zero (first ∷ lines) line held =
      let is : first ≡ line = same_Some first line held in
      let back : start + 0 ≡ start = omega arith in
      let here = kept_at start first in
      let test : Piece → Bool = λ piece. piece.line == start in
      let all : filter test here ≡ here = filter-all test here (All-weaker (λ (piece : Piece). piece.line ≡ start) (λ piece. test piece ≡ true) (λ piece same. same-line start piece same) here (kept-line start first)) in
      let none : filter test (among (start + 1) lines) ≡ [] =
      filter-none test (among (start + 1) lines) (All-weaker (λ (piece : Piece). start + 1 ≤ piece.line) (λ piece. test piece ≡ false) (λ piece behind. other-line start piece (λ same. omega (arith, behind, same))) (among (start + 1) lines) (later (start + 1) lines)) in
      let whole : of_line start (among start (first ∷ lines)) ≡ here =
      ap (filter test) (among-more start first lines) ∙ filter-append test here (among (start + 1) lines)
      ∙ ap (λ (ps : List Piece). ps ++ filter test (among (start + 1) lines)) all ∙ ap (λ (ps : List Piece). here ++ ps) none ∙ append-nil here in
      subst (λ (n : ℕ). of_line n (among start (first ∷ lines)) ≡ kept_at n line) (sym back) (whole ∙ ap (λ (l : FlatLine). kept_at start l) is)
  stand start (suc place) (first ∷ lines) line held =
      let on : start + suc place ≡ start + 1 + place = omega arith in
      let number = start + 1 + place in
      let here = kept_at start first in
      let test : Piece → Bool = λ piece. piece.line == number in
      let none : filter test here ≡ [] =
      filter-none test here (All-weaker (λ (piece : Piece). piece.line ≡ start) (λ piece. test piece ≡ false) (λ piece same. other-line number piece (λ also. omega (arith, same, also))) here (kept-line start first)) in
      let whole : of_line number (among start (first ∷ lines)) ≡ kept_at number line =
      ap (filter test) (among-more start first lines) ∙ filter-append test here (among (start + 1) lines)
      ∙ ap (λ (ps : List Piece). ps ++ filter test (among (start + 1) lines)) none ∙ stand (start + 1) place lines line held in
      subst (λ (n : ℕ). of_line n (among start (first ∷ lines)) ≡ kept_at n line) (sym on) whole

pub stand-where-kept : LinesStandWhereKept
stand-where-kept always r chosen set lines number line held =
    let at : 0 + number ≡ number = omega arith in
    let pages = lines_given r chosen set in
    let names = set_names always r chosen in
    subst (λ (n : ℕ). of_line n (among pages names 0 lines) ≡ kept_at pages names n line) at (stand pages names 0 number lines line held)

-- ---- the anchors of pages

-- lines in which no marks are read have no anchors
silent-anchors : (number : ℕ) (lines : List (List ℕ)) → anchors_of (map (page_piece number) (map silent_line lines)) ≡ []
silent-anchors number [] = refl
silent-anchors number (line ∷ lines) = silent-anchors number lines

anchors-append : (one other : List Piece) → anchors_of (one ++ other) ≡ anchors_of one ++ anchors_of other
anchors-append one other = flat_map-append (λ (piece : Piece). map (anchor_at piece) (filter (λ mark. mark.anchor) (marks_in piece))) one other

map-append-one : (number : ℕ) (lines : List PageLine) (last : PageLine) → map (page_piece number) (lines ++ last ∷ []) ≡ map (page_piece number) lines ++ page_piece number last ∷ []
map-append-one number [] last = refl
map-append-one number (line ∷ lines) last = ap (λ (ps : List Piece). page_piece number line ∷ ps) (map-append-one number lines last)

listing-anchors : (number : ℕ) (name text : List ℕ) → anchors_of (map (page_piece number) (listing name text)) ≡ anchors_of (page_piece number (anchor_line name) ∷ [])
listing-anchors number name text =
    let lines = map silent_line (lines_of text) in
    let none : anchors_of (map (page_piece number) (lines ++ fence ∷ [])) ≡ [] =
    ap anchors_of (map-append-one number lines fence) ∙ anchors-append (map (page_piece number) lines) (page_piece number fence ∷ []) ∙ ap (λ (xs : List Anchor). xs ++ []) (silent-anchors number (lines_of text)) in
    anchors-append (page_piece number (anchor_line name) ∷ []) (map (page_piece number) (silent_line (codes "[source,c++]") ∷ fence ∷ (lines ++ fence ∷ [])))
    ∙ ap (λ (xs : List Anchor). anchors_of (page_piece number (anchor_line name) ∷ []) ++ xs) none
    ∙ append-nil (anchors_of (page_piece number (anchor_line name) ∷ []))

has-in : (set : List Bool) (id : NameId) → slice_get set id.0 ≡ Some true → has set id ≡ true
has-in set id held = get_or_from_slice_get set id.0 true false held

held-true : (set : List Bool) (place : ℕ) → get_or set place false ≡ true → slice_get set place ≡ Some true
held-true [] place is = absurd (cc)
held-true (b ∷ set) zero is = ap Some is
held-true (b ∷ set) (suc place) is = held-true set place is

not-in : (set : List Bool) (id : NameId) → ¬ (slice_get set id.0 ≡ Some true) → has set id ≡ false
not-in set id none =
    false_from_ne_true (has set id) (λ is. none (held-true set id.0 is))

pub anchors-follow : AnchorsFollowTheClosure
anchors-follow = record {
  there = λ r chosen set number line name id closed named inside.
      let is = has-in set id (closed.has_all id.0 inside) in
      ap (λ (found : Option NameId). anchors_of (map (page_piece number) (option_map_or (λ i. cond (has set i) (listing name (declaration r chosen i)) []) found []))) named
      ∙ ap (λ (b : Bool). anchors_of (map (page_piece number) (cond b (listing name (declaration r chosen id)) []))) is
      ∙ listing-anchors number name (declaration r chosen id);
  absent = λ r chosen set number line name id closed named outside.
      let isnt = not-in set id (λ held. outside (closed.has_only id.0 held)) in
      ap (λ (found : Option NameId). anchors_of (map (page_piece number) (option_map_or (λ i. cond (has set i) (listing name (declaration r chosen i)) []) found []))) named
      ∙ ap (λ (b : Bool). anchors_of (map (page_piece number) (cond b (listing name (declaration r chosen id)) []))) isnt;
}
