-- What is kept of a file that was read.
use Rattle.std.proofs.Common.{inl, inr, ◌≡◌, ◌∙◌, refl, sym, ap, subst, ℕ, suc, ◌+◌, ◌-◌, ◌<◌, ◌≤◌, eqb, List, [], ◌∷◌, ◌++◌, length, map, take, drop, get_or, All, arith}
use Rattle.std.specs.List.{AllZip, onto_first, range_with_len}
use Rattle.std.proofs.lemmas.Bool.{cases_Bool}
use Rattle.std.proofs.lemmas.List.{drop_at, drop-append-le, drop_more, get_or-map, length-append, length-drop, length-map, length-take-le, map-append, take-append-drop, take-append-le, take_all, take_more}
use Rattle.std.proofs.lemmas.List.Elements.{All-weaker}
use Rattle.std.proofs.lemmas.List.FromFn.{get_or-range_with_len}
use Rattle.vkb_text.specs.Buffer.{Buffer}
use Rattle.vkb_text.specs.Lines.{lines_of}
use Rattle.vkb_text.specs.Placed.{AreLines, IsPartOf}
use Rattle.vkb_text.specs.Spans.{IsWithin as IsSpanWithin, slice_at}
use Rattle.vkb_text.specs.declared.Line.{Line}
use Rattle.vkb_text.specs.declared.Span.{Span}
use Rattle.doc_cond.specs.Lines.{IsKind}
use Rattle.doc_cond.specs.Nesting.{ArePairs}
use Rattle.doc_cond.specs.declared.LineKind.{LineKind}
use Rattle.doc_tree.specs.declared.fault.DocFault.{DocFault}
use Rattle.doc_tree.specs.declared.fault.DocFault.TheVariants as doc
use Rattle.doc_tree.specs.declared.source.SourceFile.{SourceFile}
use Rattle.doc_tree.specs.Opening.{Fits, IsKindFault, IsPairsFault, IsSourceFault, IsSourceFile, IsSpellingFault, IsSure}
use Rattle.doc_tree.specs.Sources.{IsFirstBad, most_bytes}
use Rattle.doc_tree.proofs.NamesLemmas.{map_alike}
use Rattle.doc_tree.proofs.ReadingLemmas.{first_bad, reading-lines, reading-misnested, reading-misspelled, reading-too_nested}

-- ---- lists that go together

pub zip_push : {A B : Type 0} (R : A → B → Type 0) (xs : List A) (ys : List B) (x : A) (y : B) → AllZip R xs ys → R x y → AllZip R (xs ++ x ∷ []) (ys ++ y ∷ [])
zip_push R [] [] x y all here = (here, tt)
zip_push R [] (z ∷ ys) x y all here = absurd all
zip_push R (w ∷ xs) [] x y all here = absurd all
zip_push R (w ∷ xs) (z ∷ ys) x y all here = (all.0, zip_push R xs ys x y all.1 here)

pub zip_length : {A B : Type 0} (R : A → B → Type 0) (xs : List A) (ys : List B) → AllZip R xs ys → length xs ≡ length ys
zip_length R [] [] all = refl
zip_length R [] (y ∷ ys) all = absurd all
zip_length R (x ∷ xs) [] all = absurd all
zip_length R (x ∷ xs) (y ∷ ys) all = ap (λ n. suc n) (zip_length R xs ys all.1)

sure_are : (lines : List (List ℕ)) (kinds : List LineKind) → AllZip IsSure lines kinds → AllZip IsKind lines kinds
sure_are [] [] all = tt
sure_are [] (kind ∷ kinds) all = absurd all
sure_are (line ∷ lines) [] all = absurd all
sure_are (line ∷ lines) (kind ∷ kinds) all = ((all.0).is, sure_are lines kinds all.1)

sure_only : (lines : List (List ℕ)) (kinds others : List LineKind) → AllZip IsSure lines kinds → AllZip IsKind lines others → kinds ≡ others
sure_only [] [] [] all also = refl
sure_only [] [] (other ∷ others) all also = absurd also
sure_only [] (kind ∷ kinds) others all also = absurd all
sure_only (line ∷ lines) [] others all also = absurd all
sure_only (line ∷ lines) (kind ∷ kinds) [] all also = absurd also
sure_only (line ∷ lines) (kind ∷ kinds) (other ∷ others) all also =
    let first : kind ≡ other = (all.0).only other also.0 in
    let rest = sure_only lines kinds others all.1 also.1 in
    cc

length-onto_first : (byte : ℕ) (lines : List (List ℕ)) → length (onto_first byte lines) ≤ length lines + 1
length-onto_first byte [] = omega arith
length-onto_first byte (line ∷ lines) = omega arith

-- a line takes a byte at least
pub lines_few : (text : List ℕ) → length (lines_of text) ≤ length text
lines_few [] = omega arith
lines_few (b ∷ bs) =
    let rest = lines_few bs in
    elim (cases_Bool (eqb b 10)) [ inl fed ↦ rw fed (omega arith) | inr plain ↦ rw plain (let more = length-onto_first b (lines_of bs) in omega arith) ]

-- ---- the kinds of lines, one by one

-- the bytes of lines
abbrev pub bytes_of : List ℕ → List Line → List (List ℕ)
bytes_of text lines = map (λ line. slice_at text line.span) lines

pub kinds_more : (text : List ℕ) (lines : List Line) (i : ℕ) (line : Line) (kinds : List LineKind) (kind : LineKind) → i < length lines → get_or lines i line ≡ line → AllZip IsSure (bytes_of text (take i lines)) kinds → IsSure (slice_at text line.span) kind
    → AllZip IsSure (bytes_of text (take (i + 1) lines)) (kinds ++ kind ∷ [])
kinds_more text lines i line kinds kind below here all sure =
    let next : bytes_of text (take (i + 1) lines) ≡ bytes_of text (take i lines) ++ slice_at text line.span ∷ [] =
    ap (bytes_of text) (take_more lines i line below ∙ ap (λ (l : Line). take i lines ++ l ∷ []) here) ∙ map-append (λ (l : Line). slice_at text l.span) (take i lines) (line ∷ []) in
    subst (λ (ls : List (List ℕ)). AllZip IsSure ls (kinds ++ kind ∷ [])) (sym next) (zip_push IsSure (bytes_of text (take i lines)) kinds (slice_at text line.span) kind all sure)

pub spelling_told : (text : List ℕ) (name : List ℕ) (lines : List Line) (i : ℕ) (line : Line) (kinds : List LineKind) (fault : DocFault) → i < length lines → get_or lines i line ≡ line → map (λ line. line.number) lines ≡ range_with_len 1 (length lines)
    → AllZip IsSure (bytes_of text (take i lines)) kinds → IsKindFault name (slice_at text line.span) line.number fault → IsSpellingFault name (bytes_of text lines) fault
spelling_told text name lines i line kinds (doc.BadCondition told at) below here numbers all is =
    let done = bytes_of text (take i lines) in
    let rest = bytes_of text (drop (i + 1) lines) in
    let split : done ++ slice_at text line.span ∷ rest ≡ bytes_of text lines =
    sym (map-append (λ (l : Line). slice_at text l.span) (take i lines) (line ∷ drop (i + 1) lines))
    ∙ ap (bytes_of text) (ap (λ (ls : List Line). take i lines ++ ls) (ap (λ (l : Line). l ∷ drop (i + 1) lines) (sym here) ∙ sym (drop_more lines i line below)) ∙ take-append-drop i lines) in
    let count : length done ≡ i = length-map (take i lines) (λ (l : Line). slice_at text l.span) ∙ length-take-le i lines (omega (arith, below)) in
    let number : line.number ≡ 1 + i =
    ap (λ (l : Line). l.number) (sym here) ∙ sym (get_or-map (λ (l : Line). l.number) lines i line 0 below) ∙ ap (λ (ns : List ℕ). get_or ns i 0) numbers ∙ get_or-range_with_len 1 (length lines) i 0 below in
    let numbered : at ≡ length done + 1 = let same = is.1 in omega arith in
    (is.0, subst (λ (ls : List (List ℕ)). IsFirstBad ls at) split (first_bad done rest (slice_at text line.span) kinds at (sure_are done kinds all) numbered is.2))
spelling_told text name lines i line kinds doc.Memory below here numbers all is = tt
spelling_told text name lines i line kinds doc.ReadFault below here numbers all is = absurd is
spelling_told text name lines i line kinds (doc.Missing told) below here numbers all is = absurd is
spelling_told text name lines i line kinds (doc.TooLarge told) below here numbers all is = absurd is
spelling_told text name lines i line kinds (doc.IncludeDepth told at) below here numbers all is = absurd is
spelling_told text name lines i line kinds (doc.DocTooLong told at) below here numbers all is = absurd is
spelling_told text name lines i line kinds (doc.NameLimit told at) below here numbers all is = absurd is
spelling_told text name lines i line kinds (doc.Unbalanced told at) below here numbers all is = absurd is
spelling_told text name lines i line kinds (doc.CondDepth told at) below here numbers all is = absurd is

-- ---- the buffer as it grows

pub added_slice : (text bytes : List ℕ) → slice_at (text ++ bytes) (record { from = length text; to = length text + length bytes }) ≡ bytes
added_slice text bytes =
    let left : (length text + length bytes) - length text ≡ length bytes = omega arith in
    ap (take (length text + length bytes - length text)) (drop_at text bytes (length text) refl) ∙ ap (λ n. take n bytes) left ∙ take_all (length bytes) bytes (omega arith)

pub slice_stays : (text more : List ℕ) (span : Span) → IsSpanWithin text span → slice_at (text ++ more) span ≡ slice_at text span
slice_stays text more span within =
    let count = length-drop span.from text in
    let order = within.order in
    let end = within.end in
    ap (take (span.to - span.from)) (drop-append-le span.from text more (omega arith)) ∙ take-append-le (span.to - span.from) (drop span.from text) more (omega arith)

-- ---- a file that was read

pub file_bytes : (text bytes after : List ℕ) (file : ℕ) (whole : Span) (lines : List Line) → after ≡ text ++ bytes → whole ≡ record { from = length text; to = length text + length bytes } → AreLines after whole file lines → bytes_of after lines ≡ lines_of bytes
file_bytes text bytes after file whole lines after_is whole_is are =
    are.bytes ∙ ap lines_of (ap (λ (t : List ℕ). slice_at t whole) after_is ∙ ap (slice_at (text ++ bytes)) whole_is ∙ added_slice text bytes)

module _ (text bytes after : List ℕ) (file : ℕ) (whole : Span) (lines : List Line) (kinds : List LineKind) (after_is : after ≡ text ++ bytes) (whole_is : whole ≡ record { from = length text; to = length text + length bytes })
    (are : AreLines after whole file lines) (sure : AllZip IsSure (bytes_of after lines) kinds) where
  their_bytes : bytes_of after lines ≡ lines_of bytes
  their_bytes = file_bytes text bytes after file whole lines after_is whole_is are

  sure_lines : AllZip IsSure (lines_of bytes) kinds
  sure_lines = subst (λ (ls : List (List ℕ)). AllZip IsSure ls kinds) their_bytes sure

  pub kinds_few : length bytes ≤ most_bytes → length kinds ≤ most_bytes
  kinds_few small =
      let count = zip_length IsSure (lines_of bytes) kinds sure_lines in
      let few = lines_few bytes in
      omega arith

  pub is_source : (pairs : List (ℕ × ℕ)) → ArePairs kinds pairs → IsSourceFile after bytes file (record { lines = lines; pairs = pairs })
  is_source pairs pairs_are = record {
    lines = their_bytes;
    file_is = are.file_is;
    numbers = are.numbers;
    spans = All-weaker (λ line. IsPartOf whole line.span) (λ line. IsSpanWithin after line.span) (λ line part.
        let all = ap length after_is ∙ length-append text bytes in
        let to = ap (λ (s : Span). s.to) whole_is in
        let end = part.end in
        record { order = part.order; end = omega arith }) lines are.within;
    kinds = kinds;
    kinds_are = sure_are (lines_of bytes) kinds sure_lines;
    pairs_are = pairs_are;
    only = λ other is. reading-lines (lines_of bytes) kinds (sure_are (lines_of bytes) kinds sure_lines) (λ others also. sure_only (lines_of bytes) kinds others sure_lines also) pairs other pairs_are is;
  }

  pub pairs_told : (buffer : Buffer) (name : List ℕ) (fault : DocFault) → Fits buffer bytes → IsPairsFault name kinds fault → IsSourceFault buffer name bytes fault
  pairs_told buffer name (doc.Unbalanced told at) fits is =
      (is.0, fits, λ other reads. reading-misnested (lines_of bytes) kinds (sure_are (lines_of bytes) kinds sure_lines) (λ others also. sure_only (lines_of bytes) kinds others sure_lines also) (is.1).0 at other (is.1).1 (is.1).2 reads)
  pairs_told buffer name (doc.CondDepth told at) fits is =
      (is.0, fits, λ other reads. reading-too_nested (lines_of bytes) kinds (sure_are (lines_of bytes) kinds sure_lines) (λ others also. sure_only (lines_of bytes) kinds others sure_lines also) (is.1).0 at other (is.1).1 (is.1).2 reads)
  pairs_told buffer name doc.Memory fits is = tt
  pairs_told buffer name doc.ReadFault fits is = absurd is
  pairs_told buffer name (doc.Missing told) fits is = absurd is
  pairs_told buffer name (doc.TooLarge told) fits is = absurd is
  pairs_told buffer name (doc.IncludeDepth told at) fits is = absurd is
  pairs_told buffer name (doc.DocTooLong told at) fits is = absurd is
  pairs_told buffer name (doc.NameLimit told at) fits is = absurd is
  pairs_told buffer name (doc.BadCondition told at) fits is = absurd is

pub kinds_told : (buffer : Buffer) (name bytes : List ℕ) (lines : List (List ℕ)) (fault : DocFault) → lines ≡ lines_of bytes → Fits buffer bytes → IsSpellingFault name lines fault → IsSourceFault buffer name bytes fault
kinds_told buffer name bytes lines (doc.BadCondition told at) same fits is =
    (is.0, fits, λ other reads. reading-misspelled (lines_of bytes) at other (subst (λ (ls : List (List ℕ)). IsFirstBad ls at) same is.1) reads)
kinds_told buffer name bytes lines doc.Memory same fits is = tt
kinds_told buffer name bytes lines doc.ReadFault same fits is = absurd is
kinds_told buffer name bytes lines (doc.Missing told) same fits is = absurd is
kinds_told buffer name bytes lines (doc.TooLarge told) same fits is = absurd is
kinds_told buffer name bytes lines (doc.IncludeDepth told at) same fits is = absurd is
kinds_told buffer name bytes lines (doc.DocTooLong told at) same fits is = absurd is
kinds_told buffer name bytes lines (doc.NameLimit told at) same fits is = absurd is
kinds_told buffer name bytes lines (doc.Unbalanced told at) same fits is = absurd is
kinds_told buffer name bytes lines (doc.CondDepth told at) same fits is = absurd is

-- ---- a file as the buffer grows

pub spans_stay : (text more : List ℕ) (lines : List Line) → All (λ line. IsSpanWithin text line.span) lines → bytes_of (text ++ more) lines ≡ bytes_of text lines
spans_stay text more lines within = map_alike (λ (l : Line). slice_at (text ++ more) l.span) (λ (l : Line). slice_at text l.span) lines (λ k d below. slice_stays text more (get_or lines k d).span (within k d below))

pub span_within : (text more : List ℕ) (span : Span) → IsSpanWithin text span → IsSpanWithin (text ++ more) span
span_within text more span is = let count = length-append text more in let end = is.end in record { order = is.order; end = omega arith }

abbrev pub source_stays : (text more bytes : List ℕ) (file : ℕ) (source : SourceFile) → IsSourceFile text bytes file source → IsSourceFile (text ++ more) bytes file source
source_stays text more bytes file source is = record {
  lines = spans_stay text more source.lines is.spans ∙ is.lines;
  file_is = is.file_is;
  numbers = is.numbers;
  spans = All-weaker (λ line. IsSpanWithin text line.span) (λ line. IsSpanWithin (text ++ more) line.span) (λ line within. span_within text more line.span within) source.lines is.spans;
  kinds = is.kinds;
  kinds_are = is.kinds_are;
  pairs_are = is.pairs_are;
  only = is.only;
}
