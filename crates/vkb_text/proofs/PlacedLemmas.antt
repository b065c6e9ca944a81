-- The lines that the loop has placed so far, and those that are still to come.
use Rattle.std.proofs.Common.{◌≡◌, ℕ, ◌+◌, ◌-◌, ◌<◌, ◌≤◌, zero, suc, List, [], ◌∷◌, ◌++◌, length, map, take, drop, All, AllPairs, refl, sym, ap, ◌∙◌, arith, length-append, append_assoc}
use Rattle.std.proofs.Math.Seq.{drop-drop, take-nil}
use Rattle.std.proofs.lemmas.List.{append-nil, length-map, length-take, map-append}
use Rattle.std.proofs.lemmas.List.Elements.{All-append, All-nil, All-cons}
use Rattle.std.proofs.lemmas.List.FromFn.{map-range_with_len_more}
use Rattle.std.proofs.lemmas.List.Quantifiers.{all_pairs_push}
use Rattle.std.specs.Prelude.{slice_range}
use Rattle.std.specs.List.{range_with_len}
use Rattle.vkb_text.specs.Lines.{lines_of}
use Rattle.vkb_text.specs.Placed.{AreLines, IsPartOf}
use Rattle.vkb_text.specs.Spans.{slice_at}
use Rattle.vkb_text.proofs.LineLemmas.{lines_few}
use Rattle.vkb_text.specs.declared.Line.{Line}
use Rattle.vkb_text.specs.declared.Span.{Span}

-- the lines before the place are told
pub record AreLinesBefore (text : List ℕ) (whole : Span) (file : ℕ) (place : ℕ) (lines : List Line) : Type 0 where
  pub start : whole.from ≤ place
  pub few : length lines + whole.from ≤ place
  pub bytes : map (λ (line : Line). slice_at text line.span) lines ++ lines_of (slice_range text place whole.to) ≡ lines_of (slice_at text whole)
  pub file_is : All (λ (line : Line). line.file ≡ file) lines
  pub numbers : map (λ (line : Line). line.number) lines ≡ range_with_len 1 (length lines)
  pub within : All (λ (line : Line). IsPartOf whole line.span) lines
  pub order : AllPairs (λ (line later : Line). line.span.to < later.span.from) lines
  pub before : All (λ (line : Line). line.span.to < place) lines

map_same : (xs : List ℕ) → map (λ (x : ℕ). x) xs ≡ xs
map_same [] = refl
map_same (x ∷ xs) = ap (λ (rest : List ℕ). x ∷ rest) (map_same xs)

range_more : (n : ℕ) → range_with_len 1 (n + 1) ≡ range_with_len 1 n ++ (n + 1) ∷ []
range_more n =
    let more = map-range_with_len_more (λ (x : ℕ). x) 1 n (n + 1) (omega arith) in
    sym (map_same (range_with_len 1 (n + 1))) ∙ more ∙ ap (λ (xs : List ℕ). xs ++ (n + 1) ∷ []) (map_same (range_with_len 1 n))

take_take : (n m : ℕ) (xs : List ℕ) → n ≤ m → take n (take m xs) ≡ take n xs
take_take zero m xs h = refl
take_take (suc n) zero xs h = absurd (omega arith)
take_take (suc n) (suc m) [] h = refl
take_take (suc n) (suc m) (x ∷ xs) h = ap (λ (rest : List ℕ). x ∷ rest) (take_take n m xs (omega arith))

-- the first part of a range
range_first : (text : List ℕ) (from to end : ℕ) → from ≤ to → to ≤ end → take (to - from) (slice_range text from end) ≡ slice_range text from to
range_first text from to end h g = take_take (to - from) (end - from) (drop from text) (omega arith)

drop_of_take : (n m : ℕ) (xs : List ℕ) → drop n (take m xs) ≡ take (m - n) (drop n xs)
drop_of_take zero m xs = let same : m ≡ m - 0 = omega arith in ap (λ (k : ℕ). take k xs) same
drop_of_take (suc n) zero xs = let none : 0 - suc n ≡ 0 = omega arith in rw none refl
drop_of_take (suc n) (suc m) [] = sym (take-nil (suc m - suc n))
drop_of_take (suc n) (suc m) (x ∷ xs) = let same : m - n ≡ suc m - suc n = omega arith in drop_of_take n m xs ∙ ap (λ (k : ℕ). take k (drop n xs)) same

-- what stands behind the first part of a range and one byte more
range_behind : (text : List ℕ) (from n end : ℕ) → drop (n + 1) (slice_range text from end) ≡ slice_range text (from + n + 1) end
range_behind text from n end =
    let left : end - from - (n + 1) ≡ end - (from + n + 1) = omega arith in
    let place : from + (n + 1) ≡ from + n + 1 = omega arith in
    drop_of_take (n + 1) (end - from) (drop from text)
    ∙ ap (λ (rest : List ℕ). take (end - from - (n + 1)) rest) (drop-drop (n + 1) from text)
    ∙ ap (λ (k : ℕ). take k (drop (from + (n + 1)) text)) left
    ∙ ap (λ (k : ℕ). take (end - (from + n + 1)) (drop k text)) place

abbrev pub line_at : ℕ → ℕ → ℕ → ℕ → Line
line_at file number from to = record { file = file; number = number; span = record { from = from; to = to } }

pub place_line : (text : List ℕ) (whole : Span) (file from n : ℕ) (lines : List Line) → AreLinesBefore text whole file from lines → from + n ≤ whole.to
    → lines_of (slice_range text from whole.to) ≡ take n (slice_range text from whole.to) ∷ lines_of (drop (n + 1) (slice_range text from whole.to))
    → AreLinesBefore text whole file (from + n + 1) (lines ++ line_at file (length lines + 1) from (from + n) ∷ [])
place_line text whole file from n lines so within first =
    let line : Line = line_at file (length lines + 1) from (from + n) in
    let bytes = λ (l : Line). slice_at text l.span in
    let number = λ (l : Line). l.number in
    let count : length (lines ++ line ∷ []) ≡ length lines + 1 = simp length-append refl in
    let here : take n (slice_range text from whole.to) ≡ slice_range text from (from + n) =
    (let width : n ≡ from + n - from = omega arith in ap (λ (k : ℕ). take k (slice_range text from whole.to)) width ∙ range_first text from (from + n) whole.to (omega arith) within) in
    record {
      start = omega (arith, so.start);
      few = omega (arith, so.few, count);
      bytes =
          ap (λ (made : List (List ℕ)). made ++ lines_of (slice_range text (from + n + 1) whole.to)) (map-append bytes lines (line ∷ []))
          ∙ append_assoc (map bytes lines) (slice_range text from (from + n) ∷ []) (lines_of (slice_range text (from + n + 1) whole.to))
          ∙ ap (λ (l : List ℕ). map bytes lines ++ l ∷ lines_of (slice_range text (from + n + 1) whole.to)) (sym here)
          ∙ ap (λ (rest : List ℕ). map bytes lines ++ take n (slice_range text from whole.to) ∷ lines_of rest) (sym (range_behind text from n whole.to))
          ∙ ap (λ (ls : List (List ℕ)). map bytes lines ++ ls) (sym first)
          ∙ so.bytes;
      file_is = All-append (λ (l : Line). l.file ≡ file) lines (line ∷ []) so.file_is (All-cons (λ (l : Line). l.file ≡ file) line [] refl (All-nil (λ (l : Line). l.file ≡ file)));
      numbers =
          map-append number lines (line ∷ [])
          ∙ ap (λ (made : List ℕ). made ++ (length lines + 1) ∷ []) so.numbers
          ∙ sym (range_more (length lines))
          ∙ ap (λ (k : ℕ). range_with_len 1 k) (sym count);
      within = All-append (λ (l : Line). IsPartOf whole l.span) lines (line ∷ []) so.within
          (All-cons (λ (l : Line). IsPartOf whole l.span) line [] (record { start = so.start; order = omega arith; end = within }) (All-nil (λ (l : Line). IsPartOf whole l.span)));
      order = all_pairs_push (λ (l later : Line). l.span.to < later.span.from) lines line so.order so.before;
      before = All-append (λ (l : Line). l.span.to < from + n + 1) lines (line ∷ []) (λ k d below. let earlier = so.before k d below in omega arith)
          (All-cons (λ (l : Line). l.span.to < from + n + 1) line [] (omega arith) (All-nil (λ (l : Line). l.span.to < from + n + 1)));
    }

-- where none are still to come, all are told
pub all_placed : (text : List ℕ) (whole : Span) (file place : ℕ) (lines : List Line) → whole.from ≤ whole.to → whole.to ≤ place → AreLinesBefore text whole file place lines → AreLines text whole file lines
all_placed text whole file place lines order behind so =
    let bytes : Line → List ℕ = λ (l : Line). slice_at text l.span in
    let none : whole.to - place ≡ 0 = omega arith in
    let ahead : slice_range text place whole.to ≡ [] = ap (λ (n : ℕ). take n (drop place text)) none in
    let are : map bytes lines ≡ lines_of (slice_at text whole) =
    sym (append-nil (map bytes lines)) ∙ ap (λ (rest : List ℕ). map bytes lines ++ lines_of rest) (sym ahead) ∙ so.bytes in
    let counted = ap length are in
    let width = length-take (whole.to - whole.from) (drop whole.from text) in
    let few : length lines + whole.from ≤ whole.to = omega (arith, counted, length-map lines bytes, lines_few (slice_at text whole), width) in
    record { bytes = are; file_is = so.file_is; numbers = so.numbers; within = so.within; few = few; order = so.order }
