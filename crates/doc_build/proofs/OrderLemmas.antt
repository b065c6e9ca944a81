-- The links of a document stand in the order of their places.
use Rattle.std.proofs.Common.{inl, inr, ◌≡◌, ℕ, zero, suc, ◌+◌, ◌-◌, ◌<◌, ◌≤◌, Bool, true, false, not, ◌||◌, cond, eqb, List, [], ◌∷◌, ◌++◌, length, map, filter, drop, get_or, codes, All, Option, Some, None, slice_get, refl, sym, ap, ◌∙◌, subst, arith}
use Rattle.std.specs.Prelude.{AllPairs, MatchOption, slice_range, ⊤}
use Rattle.std.specs.List.{cons_option, enumerate_from, filter_map, prefix_len, range_with_len}
use Rattle.std.proofs.lemmas.Bool.{cases_Bool, cases_order}
use Rattle.std.proofs.lemmas.List.{append-nil}
use Rattle.std.proofs.lemmas.List.Concat.{flat_map-append}
use Rattle.std.proofs.lemmas.List.Elements.{All-nil, All-cons, All-head, All-tail, All-append, All-filter, All-map, All-weaker}
use Rattle.std.proofs.lemmas.List.Kept.{AllPairs-cons}
use Rattle.std.proofs.lemmas.Option.{get_or_from_slice_get, slice_get_within}
use Rattle.vkb_bytes.specs.Bytes.{is_word_byte}
use Rattle.vkb_bytes.specs.Bytes.{begins}
use Rattle.doc_marks.specs.Marks.{closed_id_len, comes_after, is_backslash, macro_len, mark_at, mark_with, marks_from, marks_of}
use Rattle.doc_marks.specs.declared.Mark.{Mark}
use Rattle.doc_cond.specs.declared.LineKind.{LineKind}
use Rattle.doc_cond.specs.declared.LineKind.TheVariants.{Plain, Comment, Other, Begin, OneLine, Close, Chapter, Api, Validity, Refpage}
use Rattle.doc_tree.specs.Flat.{FlatLine}
use Rattle.reg_registry.specs.Rows.{Rows}
use Rattle.doc_build.specs.declared.Place.{Place}
use Rattle.doc_build.specs.Choices.{PageLine, pageless_setting}
use Rattle.doc_build.specs.Laws.{IsBefore}
use Rattle.doc_build.specs.declared.Piece.{Piece}
use Rattle.doc_build.specs.Pieces.{Link, all_links, link_at, links_of, marks_in, pieces_among, pieces_at, whole_piece}
use Rattle.doc_build.proofs.FoundLemmas.{found_at, line_of_piece}

-- ---- lists in order

-- each element is before all later ones
abbrev pub AreOrdered : {X : Type 0} → (X → X → Type 0) → List X → Type 0
AreOrdered R [] = ⊤
AreOrdered R (x ∷ xs) = All (R x) xs × AreOrdered R xs

pub ordered-append : {X : Type 0} (R : X → X → Type 0) (xs ys : List X) → AreOrdered R xs → AreOrdered R ys → All (λ x. All (R x) ys) xs → AreOrdered R (xs ++ ys)
ordered-append R [] ys first later across = later
ordered-append R (x ∷ xs) ys first later across = (
  All-append (R x) xs ys first.0 (All-head (λ z. All (R z) ys) x xs across),
  ordered-append R xs ys first.1 later (All-tail (λ z. All (R z) ys) x xs across),
)

pub ordered-map : {X Y : Type 0} (R : Y → Y → Type 0) (f : X → Y) (xs : List X) → AreOrdered (λ x y. R (f x) (f y)) xs → AreOrdered R (map f xs)
ordered-map R f [] ordered = tt
ordered-map R f (x ∷ xs) ordered = (All-map (R (f x)) f xs ordered.0, ordered-map R f xs ordered.1)

ordered-filter : {X : Type 0} (R : X → X → Type 0) (test : X → Bool) (xs : List X) → AreOrdered R xs → AreOrdered R (filter test xs)
ordered-filter R test [] ordered = tt
ordered-filter R test (x ∷ xs) ordered =
    let rest = ordered-filter R test xs ordered.1 in
    let first = All-filter test (R x) xs ordered.0 in
    elim (cases_Bool (test x)) [
      | inl passes ↦ subst (λ (b : Bool). AreOrdered R (cond b (x ∷ filter test xs) (filter test xs))) (sym passes) (first, rest)
      | inr fails ↦ subst (λ (b : Bool). AreOrdered R (cond b (x ∷ filter test xs) (filter test xs))) (sym fails) rest
    ]

pub ordered-weaker : {X : Type 0} (R S : X → X → Type 0) → ((x y : X) → R x y → S x y) → (xs : List X) → AreOrdered R xs → AreOrdered S xs
ordered-weaker R S gives [] ordered = tt
ordered-weaker R S gives (x ∷ xs) ordered = (All-weaker (R x) (S x) (gives x) xs ordered.0, ordered-weaker R S gives xs ordered.1)

pub all_pairs : {X : Type 0} (R : X → X → Type 0) (xs : List X) → AreOrdered R xs → AllPairs R xs
all_pairs R [] ordered = λ i j d less within. absurd (omega arith)
all_pairs R (x ∷ xs) ordered = AllPairs-cons R x xs ordered.0 (all_pairs R xs ordered.1)

-- ---- marks

-- a mark that is there stands at this place
abbrev StandsAt : ℕ → Option Mark → Type 0
StandsAt place mark = MatchOption mark ⊤ (λ m. m.at ≡ place)

either : (place : ℕ) (b : Bool) (x y : Option Mark) → StandsAt place x → StandsAt place y → StandsAt place (cond b x y)
either place true x y first second = first
either place false x y first second = second

with_at : (anchor : Bool) (place from len : ℕ) → StandsAt place (mark_with anchor place from len)
unfolding mark_with
with_at anchor place from len = either place (eqb len 0) None (Some (record { anchor = anchor; at = place; from = from; to = from + len })) tt refl

chain : (place : ℕ) (escaped anchors links inner : Bool) (anchor link named : Option Mark) → StandsAt place anchor → StandsAt place link → StandsAt place named
    → StandsAt place (cond escaped None (cond anchors anchor (cond links link (cond inner None named))))
chain place escaped anchors links inner anchor link named first second third =
    either place escaped None (cond anchors anchor (cond links link (cond inner None named))) tt
    (either place anchors anchor (cond links link (cond inner None named)) first
    (either place links link (cond inner None named) second (either place inner None named tt third)))

-- the mark at a place stands there
stands_at : (line : List ℕ) (place : ℕ) → StandsAt place (mark_at line place)
unfolding mark_at
stands_at line place =
    let here : List ℕ = drop place line in
    chain place (comes_after is_backslash line place) (begins here (codes "[[")) (begins here (codes "<<")) (comes_after is_word_byte line place || eqb (macro_len here) 0)
    (mark_with true place (place + 2) (closed_id_len (codes "]]") (drop 2 here)))
    (mark_with false place (place + 2) (closed_id_len (codes ">>") (drop 2 here)))
    (mark_with false place (place + macro_len here) (prefix_len is_word_byte (drop (macro_len here) here)))
    (with_at true place (place + 2) (closed_id_len (codes "]]") (drop 2 here)))
    (with_at false place (place + 2) (closed_id_len (codes ">>") (drop 2 here)))
    (with_at false place (place + macro_len here) (prefix_len is_word_byte (drop (macro_len here) here)))

abbrev IsEarlier : Mark → Mark → Type 0
IsEarlier mark later = mark.at < later.at

-- one more mark, or none, in front of later ones
one_more : (place : ℕ) (mark : Option Mark) (marks : List Mark) → StandsAt place mark → All (λ m. place ≤ m.at) marks → All (λ m. place ≤ m.at) (cons_option mark marks)
one_more place None marks is rest = rest
one_more place (Some m) marks is rest = All-cons (λ (n : Mark). place ≤ n.at) m marks (omega (arith, is)) rest

one_earlier : (place : ℕ) (mark : Option Mark) (marks : List Mark) → StandsAt place mark → All (λ m. place + 1 ≤ m.at) marks → AreOrdered IsEarlier marks → AreOrdered IsEarlier (cons_option mark marks)
one_earlier place None marks is behind rest = rest
one_earlier place (Some m) marks is behind rest = (All-weaker (λ (n : Mark). place + 1 ≤ n.at) (IsEarlier m) (λ n h. omega (arith, h, is)) marks behind, rest)

marks_behind : (line : List ℕ) (place more : ℕ) → All (λ m. place ≤ m.at) (filter_map (mark_at line) (range_with_len place more))
marks_behind line place zero = All-nil (λ (m : Mark). place ≤ m.at)
marks_behind line place (suc more) =
    let rest = All-weaker (λ (m : Mark). place + 1 ≤ m.at) (λ m. place ≤ m.at) (λ m h. omega arith) (filter_map (mark_at line) (range_with_len (place + 1) more)) (marks_behind line (place + 1) more) in
    one_more place (mark_at line place) (filter_map (mark_at line) (range_with_len (place + 1) more)) (stands_at line place) rest

marks_ordered : (line : List ℕ) (place more : ℕ) → AreOrdered IsEarlier (filter_map (mark_at line) (range_with_len place more))
marks_ordered line place zero = tt
marks_ordered line place (suc more) =
    one_earlier place (mark_at line place) (filter_map (mark_at line) (range_with_len (place + 1) more)) (stands_at line place) (marks_behind line (place + 1) more) (marks_ordered line (place + 1) more)

marks_in_order : (line : List ℕ) → AreOrdered IsEarlier (marks_of line)
unfolding marks_of marks_from
marks_in_order line = marks_ordered line 0 (length line - 0)

-- ---- links

abbrev pub IsAhead : Link → Link → Type 0
IsAhead link later = IsBefore link.place later.place

read_in_order : (b : Bool) (line : List ℕ) → AreOrdered IsEarlier (cond b (marks_of line) [])
read_in_order true line = marks_in_order line
read_in_order false line = tt

-- the links of a piece are in order
pub links_here : (piece : Piece) → AreOrdered IsAhead (links_of (piece ∷ []))
links_here piece =
    let marks = filter (λ (mark : Mark). not mark.anchor) (marks_in piece) in
    let ordered = ordered-filter IsEarlier (λ mark. not mark.anchor) (marks_in piece) (read_in_order piece.marked piece.bytes) in
    subst (AreOrdered IsAhead) (sym (append-nil (map (link_at piece) marks)))
    (ordered-map IsAhead (link_at piece) marks (ordered-weaker IsEarlier (λ m later. IsAhead (link_at piece m) (link_at piece later)) (λ m later less. inr (refl, inr (refl, omega arith))) marks ordered))

-- what a line gives over no pages
abbrev no_pages_at : LineKind → List PageLine
no_pages_at kind = []

links_at_line : (number : ℕ) (line : List ℕ) (kind : LineKind) → AreOrdered IsAhead (links_of (pieces_at no_pages_at number line kind))
links_at_line number line Plain = links_here (whole_piece number true line)
links_at_line number line Comment = links_here (whole_piece number false line)
links_at_line number line Other = links_here (whole_piece number false line)
links_at_line number line (Refpage name) = links_here (whole_piece number false line)
links_at_line number line (OneLine negated any names from to) = links_here (record { line = number; statement = 0; start = from; marked = true; bytes = slice_range line from to })
links_at_line number line (Begin negated any names) = tt
links_at_line number line (Close any names) = tt
links_at_line number line (Chapter file) = tt
links_at_line number line (Api name) = tt
links_at_line number line (Validity name) = tt

links_from : ℕ → List FlatLine → List Link
links_from number lines = links_of (pieces_among no_pages_at (enumerate_from number lines))

-- the links of a line, and of those behind it
abbrev links_line : ℕ → FlatLine → List Link
links_line number line = links_of (pieces_at no_pages_at number line.bytes line.kind)

links_more : (number : ℕ) (line : FlatLine) (lines : List FlatLine) → links_from number (line ∷ lines) ≡ links_line number line ++ links_from (number + 1) lines
unfolding links_from
links_more number line lines = flat_map-append (λ (piece : Piece). map (link_at piece) (filter (λ (mark : Mark). not mark.anchor) (marks_in piece))) (pieces_at no_pages_at number line.bytes line.kind) (pieces_among no_pages_at (enumerate_from (number + 1) lines))

lines_here : (number : ℕ) (line : FlatLine) → All (λ l. l.place.line ≡ number) (links_line number line)
lines_here number line = found_at (λ mark. not mark.anchor) link_at (λ l. l.place.line) (λ piece mark. refl) number (pieces_at no_pages_at number line.bytes line.kind) (line_of_piece no_pages_at number line.bytes line.kind)

lines_behind : (number : ℕ) (lines : List FlatLine) → All (λ l. number ≤ l.place.line) (links_from number lines)
unfolding links_from
lines_behind number [] = All-nil (λ (l : Link). number ≤ l.place.line)
lines_behind number (line ∷ lines) =
    subst (All (λ (l : Link). number ≤ l.place.line)) (sym (links_more number line lines))
    (All-append (λ (l : Link). number ≤ l.place.line) (links_line number line) (links_from (number + 1) lines)
    (All-weaker (λ (l : Link). l.place.line ≡ number) (λ l. number ≤ l.place.line) (λ l h. omega arith) (links_line number line) (lines_here number line))
    (All-weaker (λ (l : Link). number + 1 ≤ l.place.line) (λ l. number ≤ l.place.line) (λ l h. omega arith) (links_from (number + 1) lines) (lines_behind (number + 1) lines)))

links_in_lines : (number : ℕ) (lines : List FlatLine) → AreOrdered IsAhead (links_from number lines)
unfolding links_from
links_in_lines number [] = tt
links_in_lines number (line ∷ lines) =
    let later = links_from (number + 1) lines in
    let behind = lines_behind (number + 1) lines in
    subst (AreOrdered IsAhead) (sym (links_more number line lines))
    (ordered-append IsAhead (links_line number line) later (links_at_line number line.bytes line.kind) (links_in_lines (number + 1) lines)
    (All-weaker (λ (l : Link). l.place.line ≡ number) (λ l. All (IsAhead l) later)
    (λ l is. All-weaker (λ (m : Link). number + 1 ≤ m.place.line) (IsAhead l) (λ m h. inl (omega arith)) later behind)
    (links_line number line) (lines_here number line)))

-- the links of a document are in order
pub links_ordered : (always : List (List ℕ)) (r : Rows) (lines : List FlatLine) → AllPairs IsAhead (all_links (pageless_setting always r) lines)
unfolding links_from
links_ordered always r lines = all_pairs IsAhead (all_links (pageless_setting always r) lines) (links_in_lines 0 lines)

-- no place is before itself
pub never_before : (place : Place) → ¬ IsBefore place place
never_before place (inl less) = omega (arith, less)
never_before place (inr (same, inl less)) = omega (arith, less)
never_before place (inr (same, inr (also, less))) = omega (arith, less)

-- two links in order have places that differ
never_same : (links : List Link) (i j : ℕ) (link other : Link) → AllPairs IsAhead links → slice_get links i ≡ Some link → slice_get links j ≡ Some other → link.place ≡ other.place → i < j → ⊥
never_same links i j link other ordered here there same less =
    let first : get_or links i link ≡ link = get_or_from_slice_get links i link link here in
    let second : get_or links j link ≡ other = get_or_from_slice_get links j other link there in
    let ahead : IsAhead (get_or links i link) (get_or links j link) = ordered i j link less (slice_get_within links j other there) in
    let places : (get_or links i link).place ≡ (get_or links j link).place = ap (λ (l : Link). l.place) first ∙ same ∙ sym (ap (λ (l : Link). l.place) second) in
    never_before (get_or links j link).place (subst (λ (place : Place). IsBefore place (get_or links j link).place) places ahead)

-- links in order that have the same place are the same one
pub apart : (links : List Link) (i j : ℕ) (link other : Link) → AllPairs IsAhead links → slice_get links i ≡ Some link → slice_get links j ≡ Some other → link.place ≡ other.place → i ≡ j
apart links i j link other ordered here there same =
    elim (cases_order i j) [
      | inl is ↦ is
      | inr (inl less) ↦ absurd (never_same links i j link other ordered here there same less)
      | inr (inr more) ↦ absurd (never_same links j i other link ordered there here (sym same) more)
    ]

pub links_apart : (always : List (List ℕ)) (r : Rows) (lines : List FlatLine) (i j : ℕ) (link other : Link)
    → slice_get (all_links (pageless_setting always r) lines) i ≡ Some link → slice_get (all_links (pageless_setting always r) lines) j ≡ Some other
    → link.place ≡ other.place → i ≡ j
links_apart always r lines i j link other here there same =
    apart (all_links (pageless_setting always r) lines) i j link other (links_ordered always r lines) here there same
