-- The anchors that are counted line by line are those of the text.
use Rattle.std.proofs.Common.{inl, inr, ◌≡◌, ◌∙◌, refl, sym, ap, ℕ, ◌+◌, ◌<◌, Bool, true, false, ◌&&◌, cond, List, [], ◌∷◌, ◌++◌, length, map, filter, take, drop, min, All, Option, None, Some, get_or, arith, append_assoc}
use Rattle.std.specs.Prelude.{count_by}
use Rattle.std.specs.List.{flat_map, last_or}
use Rattle.std.specs.Str.{bytes_eq}
use Rattle.std.proofs.Math.Seq.{get_or-append_seam}
use Rattle.std.proofs.lemmas.Bool.{cases_Bool}
use Rattle.std.proofs.lemmas.List.{append-nil, drop_more, length_push, take_more}
use Rattle.std.proofs.lemmas.List.Concat.{flat_map-append}
use Rattle.std.proofs.lemmas.List.Elements.{All-head, All-tail, filter-append}
use Rattle.std.proofs.lemmas.List.Sums.{sum_by-append}
use Rattle.doc_marks.specs.declared.Mark.{Mark}
use Rattle.doc_cond.specs.declared.LineKind.{LineKind}
use Rattle.doc_tree.specs.declared.DocLine.{DocLine}
use Rattle.doc_tree.specs.declared.Document.{Document}
use Rattle.doc_tree.specs.Flat.{FlatLine, is_kept}
use Rattle.doc_tree.specs.Loaded.{flat_line, flat_of, rounds_of}
use Rattle.reg_registry.specs.Rows.{Rows}
use Rattle.doc_build.specs.declared.Piece.{Piece}
use Rattle.doc_build.specs.Built.{choice_count, set_names}
use Rattle.doc_build.specs.Choices.{PageLine}
use Rattle.doc_build.specs.Counting.{is_anchor_of, lines_count, most, page_behind, piece_count, pieces_count}
use Rattle.doc_build.specs.Ids.{filled, id_at, page_at, page_set}
use Rattle.doc_build.specs.Keeping.{KeepsLines, line_met}
use Rattle.doc_build.specs.Lines.{line_pieces}
use Rattle.doc_build.specs.Pages.{lines_given}
use Rattle.doc_build.specs.Pieces.{Anchor, anchor_at, anchors_of, id_in, marks_in}
use Rattle.vkb_text.specs.Spans.{slice_at}
use Rattle.doc_build.proofs.FoundLemmas.{line_of_piece}
use Rattle.doc_build.proofs.LinesLemmas.{kept-flat, kept_from}

count-append : {X : Type 0} (p : X → Bool) (xs ys : List X) → count_by p (xs ++ ys) ≡ count_by p xs + count_by p ys
count-append p xs ys = sum_by-append (λ x. cond (p x) 1 0) xs ys

-- a number that is counted up to the most, with what is ahead
pub record Counts (count ahead all : ℕ) : Type 0 where
  pub so_far : ℕ
  pub counted : count ≡ min so_far most
  pub whole : so_far + ahead ≡ all

-- more that is counted
pub counts-more : (count now here here_now ahead later all : ℕ) → Counts count ahead all → here_now ≡ min here most → now ≡ min (count + here_now) most → here + later ≡ ahead → Counts now later all
counts-more count now here here_now ahead later all was part added split = record {
  so_far = was.so_far + here;
  counted = let counted = was.counted in omega (arith, added, part, counted);
  whole = let whole = was.whole in omega (arith, whole, split);
}

-- all that is counted
pub counts-all : (count all : ℕ) → Counts count 0 all → count ≡ min all most
counts-all count all was = let counted = was.counted in let whole = was.whole in omega (arith, counted, whole)

-- one at most is no more than the most
pub one-at-most : (b : Bool) → cond b 1 0 ≡ min (cond b 1 0) most
one-at-most true = omega arith
one-at-most false = omega arith

nothing-more : (n : ℕ) → 0 + n ≡ n
nothing-more n = omega arith

pub count-cons : {X : Type 0} (p : X → Bool) (x : X) (xs : List X) → count_by p (x ∷ xs) ≡ cond (p x) 1 0 + count_by p xs
count-cons p x xs = count-append p (x ∷ []) xs ∙ ap (λ (n : ℕ). n + count_by p xs) (nothing-more (cond (p x) 1 0))

module _ (id : List ℕ) (page : Option (List ℕ)) (test : Anchor → Bool) where
  -- the anchors of a piece
  piece-counted : (p : Piece) (marks : List Mark) → ((m : Mark) → test (anchor_at p m) ≡ bytes_eq id (filled page (id_in p.bytes m)))
      → count_by test (map (anchor_at p) (filter (λ mark. mark.anchor) marks)) ≡ count_by (is_anchor_of page id p.bytes) marks
  piece-counted p [] same = refl
  piece-counted p (m ∷ marks) same =
      let rest = piece-counted p marks same in
      let kept = filter (λ (mark : Mark). mark.anchor) marks in
      let is_id = bytes_eq id (filled page (id_in p.bytes m)) in
      let right = count-cons (is_anchor_of page id p.bytes) m marks in
      let counted = count_by (is_anchor_of page id p.bytes) marks in
      elim (cases_Bool m.anchor) [
        | inl is ↦
            ap (λ (b : Bool). count_by test (map (anchor_at p) (cond b (m ∷ kept) kept))) is
            ∙ count-cons test (anchor_at p m) (map (anchor_at p) kept)
            ∙ ap (λ (b : Bool). cond b 1 0 + count_by test (map (anchor_at p) kept)) (same m)
            ∙ ap (λ (n : ℕ). cond is_id 1 0 + n) rest
            ∙ sym (right ∙ ap (λ (b : Bool). cond (b && is_id) 1 0 + counted) is)
        | inr isnt ↦
            ap (λ (b : Bool). count_by test (map (anchor_at p) (cond b (m ∷ kept) kept))) isnt
            ∙ rest
            ∙ sym (right ∙ ap (λ (b : Bool). cond (b && is_id) 1 0 + counted) isnt ∙ nothing-more counted)
      ]

  -- and those of the pieces of a line
  pieces-counted : (number : ℕ) (ps : List Piece) → All (λ p. p.line ≡ number) ps → ((p : Piece) (m : Mark) → p.line ≡ number → test (anchor_at p m) ≡ bytes_eq id (filled page (id_in p.bytes m)))
      → count_by test (anchors_of ps) ≡ pieces_count page id ps
  pieces-counted number [] at same = refl
  pieces-counted number (p ∷ ps) at same =
      let Q : Piece → Type 0 = λ q. q.line ≡ number in
      count-append test (map (anchor_at p) (filter (λ mark. mark.anchor) (marks_in p))) (anchors_of ps)
      ∙ ap (λ (n : ℕ). n + count_by test (anchors_of ps)) (piece-counted p (marks_in p) (λ m. same p m (All-head Q p ps at)))
      ∙ ap (λ (n : ℕ). piece_count page id p + n) (pieces-counted number ps (All-tail Q p ps at) same)

longer : {X : Type 0} (front : List X) (x : X) (rest : List X) → length front < length (front ++ x ∷ rest)
longer [] x rest = omega arith
longer (y ∷ front) x rest = let more = longer front x rest in omega arith

last_or-append : {X : Type 0} (o : Option X) (xs ys : List X) → last_or o (xs ++ ys) ≡ last_or (last_or o xs) ys
last_or-append o [] ys = refl
last_or-append o (x ∷ xs) ys = last_or-append (Some x) xs ys

module _ (flat : List FlatLine) (names : List (List ℕ)) where
  abbrev sets : List FlatLine → List (List ℕ)
  sets lines = flat_map (λ (line : FlatLine). page_set line.kind) (filter (is_kept names) lines)

  -- the page one line on
  page-next : (number : ℕ) (line : FlatLine) → number < length flat → line ≡ get_or flat number line
      → page_at flat names (number + 1) ≡ cond (is_kept names line) (page_behind (page_at flat names number) line.kind) (page_at flat names number)
  page-next number line within is =
      let before = take number flat in
      let next : take (number + 1) flat ≡ before ++ line ∷ [] = take_more flat number line within ∙ ap (λ (l : FlatLine). before ++ l ∷ []) (sym is) in
      let both : sets (take (number + 1) flat) ≡ sets before ++ sets (line ∷ []) =
      ap sets next ∙ ap (flat_map (λ (l : FlatLine). page_set l.kind)) (filter-append (is_kept names) before (line ∷ []))
      ∙ flat_map-append (λ (l : FlatLine). page_set l.kind) (filter (is_kept names) before) (filter (is_kept names) (line ∷ [])) in
      let whole : page_at flat names (number + 1) ≡ last_or (page_at flat names number) (sets (line ∷ [])) = ap (last_or None) both ∙ last_or-append None (sets before) (sets (line ∷ [])) in
      elim (cases_Bool (is_kept names line)) [
        | inl kept ↦
            whole
            ∙ ap (λ (b : Bool). last_or (page_at flat names number) (flat_map (λ (l : FlatLine). page_set l.kind) (cond b (line ∷ []) []))) kept
            ∙ ap (last_or (page_at flat names number)) (append-nil (page_set line.kind))
            ∙ sym (ap (λ (b : Bool). cond b (page_behind (page_at flat names number) line.kind) (page_at flat names number)) kept)
        | inr left ↦
            whole
            ∙ ap (λ (b : Bool). last_or (page_at flat names number) (flat_map (λ (l : FlatLine). page_set l.kind) (cond b (line ∷ []) []))) left
            ∙ sym (ap (λ (b : Bool). cond b (page_behind (page_at flat names number) line.kind) (page_at flat names number)) left)
      ]

module _ (pages : LineKind → List PageLine) (text : List ℕ) (made : List Bool) (d : Document) (names : List (List ℕ)) (id : List ℕ) (flat : List FlatLine) where
  abbrev as_flat : DocLine → FlatLine
  as_flat line = flat_line text d.files (rounds_of d) line

  abbrev counts : Anchor → Bool
  counts anchor = bytes_eq id (id_at flat names anchor.line anchor.id)

  abbrev Told : DocLine → Type 0
  Told line = line_met made line ≡ is_kept names (as_flat line)

  lines-counted : (front : List FlatLine) (rest : List DocLine) (number : ℕ) (page : Option (List ℕ)) → flat ≡ front ++ map as_flat rest → number ≡ length front → page ≡ page_at flat names number
      → All Told rest → count_by counts (anchors_of (kept_from pages text made number rest)) ≡ lines_count pages text made id page number rest
  lines-counted front [] number page split at on told = refl
  lines-counted front (l ∷ rest) number page split at on told =
      let here = All-head Told l rest told in
      let line = as_flat l in
      let held : line ≡ get_or flat number line =
      sym (ap (λ (n : ℕ). get_or flat n line) at ∙ ap (λ (ls : List FlatLine). get_or ls (length front) line) split ∙ get_or-append_seam front line (map as_flat rest) line) in
      let within : number < length flat = omega (arith, at, ap length split, longer front line (map as_flat rest)) in
      let next = page-next flat names number line within held in
      let more : flat ≡ (front ++ line ∷ []) ++ map as_flat rest = split ∙ sym (append_assoc front (line ∷ []) (map as_flat rest)) in
      let after : number + 1 ≡ length (front ++ line ∷ []) = omega (arith, at, length_push front line) in
      let told_rest = All-tail Told l rest told in
      let later = kept_from pages text made (number + 1) rest in
      let first = line_pieces pages text (number, l) in
      elim (cases_Bool (line_met made l)) [
        | inl met ↦
            let kept : is_kept names line ≡ true = sym here ∙ met in
            let behind : page_behind page l.kind ≡ page_at flat names (number + 1) =
            ap (λ (p : Option (List ℕ)). page_behind p l.kind) on ∙ sym (next ∙ ap (λ (b : Bool). cond b (page_behind (page_at flat names number) l.kind) (page_at flat names number)) kept) in
            let counted : count_by counts (anchors_of first) ≡ pieces_count page id first =
            pieces-counted id page counts number first (line_of_piece pages number (slice_at text l.line.span) l.kind)
            (λ p m is. ap (λ (n : ℕ). bytes_eq id (filled (page_at flat names n) (id_in p.bytes m))) is ∙ ap (λ (o : Option (List ℕ)). bytes_eq id (filled o (id_in p.bytes m))) (sym on)) in
            rw met (ap (count_by counts) (flat_map-append (λ (piece : Piece). map (anchor_at piece) (filter (λ mark. mark.anchor) (marks_in piece))) first later)
            ∙ count-append counts (anchors_of first) (anchors_of later)
            ∙ ap (λ (n : ℕ). n + count_by counts (anchors_of later)) counted
            ∙ ap (λ (n : ℕ). pieces_count page id first + n) (lines-counted (front ++ line ∷ []) rest (number + 1) (page_behind page l.kind) more after behind told_rest))
        | inr left ↦
            let fell : is_kept names line ≡ false = sym here ∙ left in
            let behind : page ≡ page_at flat names (number + 1) =
            on ∙ sym (next ∙ ap (λ (b : Bool). cond b (page_behind (page_at flat names number) l.kind) (page_at flat names number)) fell) in
            rw left (lines-counted (front ++ line ∷ []) rest (number + 1) page more after behind told_rest)
      ]

-- the anchors of an id in the text that a choice gives of a document
pub count-kept : (always : List (List ℕ)) (r : Rows) (chosen set : List Bool) (text : List ℕ) (made : List Bool) (d : Document) (id : List ℕ) → KeepsLines (set_names always r chosen) text d made
    → lines_count (lines_given r chosen set) text made id None 0 d.lines ≡ choice_count always r chosen set (flat_of text d) id
count-kept always r chosen set text made d id keeps =
    let pages = lines_given r chosen set in
    let names = set_names always r chosen in
    let flat = flat_of text d in
    sym (lines-counted pages text made d names id flat [] d.lines 0 None refl refl refl keeps)
    ∙ ap (λ (ps : List Piece). count_by (λ (anchor : Anchor). bytes_eq id (id_at flat names anchor.line anchor.id)) (anchors_of ps)) (kept-flat pages text made d names 0 d.lines keeps)

-- ---- one more at a time

pieces-append : (page : Option (List ℕ)) (id : List ℕ) (xs ys : List Piece) → pieces_count page id (xs ++ ys) ≡ pieces_count page id xs + pieces_count page id ys
pieces-append page id [] ys = omega arith
pieces-append page id (p ∷ xs) ys = let rest = pieces-append page id xs ys in omega (arith, rest)

pub pieces-more : (page : Option (List ℕ)) (id : List ℕ) (pieces : List Piece) (place : ℕ) (p : Piece) (count here now : ℕ) → place < length pieces → p ≡ get_or pieces place p
    → count ≡ min (pieces_count page id (take place pieces)) most → here ≡ min (piece_count page id p) most → now ≡ min (count + here) most
    → now ≡ min (pieces_count page id (take (place + 1) pieces)) most
pieces-more page id pieces place p count here now within is counted part added =
    let next : take (place + 1) pieces ≡ take place pieces ++ p ∷ [] = take_more pieces place p within ∙ ap (λ (q : Piece). take place pieces ++ q ∷ []) (sym is) in
    let whole : pieces_count page id (take (place + 1) pieces) ≡ pieces_count page id (take place pieces) + (piece_count page id p + 0) = ap (pieces_count page id) next ∙ pieces-append page id (take place pieces) (p ∷ []) in
    omega (arith, counted, part, added, whole)

module _ (pages : LineKind → List PageLine) (text : List ℕ) (made : List Bool) (id : List ℕ) (lines : List DocLine) (number : ℕ) (line : DocLine) (page : Option (List ℕ))
    (within : number < length lines) (is : line ≡ get_or lines number line) where
  abbrev behind : List DocLine
  behind = drop (number + 1) lines

  here-are : drop number lines ≡ line ∷ behind
  here-are = drop_more lines number line within ∙ ap (λ (l : DocLine). l ∷ behind) (sym is)

  abbrev here-count : ℕ
  here-count = pieces_count page id (line_pieces pages text (number, line))

  -- a line that is kept
  pub count-next : line_met made line ≡ true
      → here-count + lines_count pages text made id (page_behind page line.kind) (number + 1) behind ≡ lines_count pages text made id page number (drop number lines)
  count-next met =
      sym (ap (lines_count pages text made id page number) here-are
      ∙ ap (λ (b : Bool). cond b (here-count + lines_count pages text made id (page_behind page line.kind) (number + 1) behind) (lines_count pages text made id page (number + 1) behind)) met)

  -- one that isn't
  pub count-left : line_met made line ≡ false → lines_count pages text made id page number (drop number lines) ≡ lines_count pages text made id page (number + 1) behind
  count-left left =
      ap (lines_count pages text made id page number) here-are
      ∙ ap (λ (b : Bool). cond b (here-count + lines_count pages text made id (page_behind page line.kind) (number + 1) behind) (lines_count pages text made id page (number + 1) behind)) left
