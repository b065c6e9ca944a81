-- A file is opened.
use Rattle.std.proofs.Common.{◌≡◌, ◌≢◌, ◌∙◌, refl, sym, ap, subst, ℕ, ◌+◌, ◌<◌, ◌≤◌, true, false, nat_lt, List, [], ◌∷◌, ◌++◌, length, Option, Some, None, Err, IfSome, get_or, slice_get, slice_index_or, sum_by, arith}
use Rattle.std.proofs.lemmas.Bool.{le-ltb, lt-ltb}
use Rattle.std.proofs.lemmas.List.{append-nil, length-append, length_push}
use Rattle.std.proofs.lemmas.List.Concat.{flat_map-append}
use Rattle.std.proofs.lemmas.List.Elements.{All-weaker}
use Rattle.std.proofs.lemmas.List.Sums.{sum_by-append}
use Rattle.std.proofs.lemmas.Option.{IfSome_then}
use Rattle.vkb_text.specs.Buffer.{Buffer}
use Rattle.vkb_text.specs.Lines.{lines_of}
use Rattle.vkb_text.specs.Spans.{IsWithin as IsSpanWithin, slice_at}
use Rattle.doc_cond.specs.Lines.{IsKind, IsWithin as IsKindWithin}
use Rattle.doc_tree.specs.declared.DocLine.{DocLine}
use Rattle.doc_tree.specs.declared.Document.{Document}
use Rattle.doc_tree.specs.declared.fault.DocFault.{DocFault}
use Rattle.doc_tree.specs.declared.fault.DocFault.TheVariants as doc
use Rattle.doc_tree.specs.declared.source.SourceFile.{SourceFile}
use Rattle.doc_tree.specs.Answer.{told_of}
use Rattle.doc_tree.specs.Fault.{Missing, TooLarge, DocTooLong, BadCondition, Unbalanced, CondDepth}
use Rattle.doc_tree.specs.Flat.{is_among}
use Rattle.doc_tree.specs.Loaded.{IsLineThere, IsLoaded, flat_line, flat_of, round_at, rounds_of}
use Rattle.doc_tree.specs.Names.{each_once}
use Rattle.doc_tree.specs.Opening.{AreLinesThere, AreThere, Fetches, Fits, IsSourceFault, IsSourceFile}
use Rattle.doc_tree.specs.Progress.{Extends, IsDraft}
use Rattle.doc_tree.specs.Running.{Goes, IsAt, IsKnown}
use Rattle.doc_tree.specs.Sources.{Absent, Held, IsReading, IsSource, Lines, Long, Reading, Source, Sources, most_bytes}
use Rattle.doc_tree.specs.Walk.{Opens, Step, bytes_in, bytes_read, first_fault, opened, opened_at, opening_fault, reading_fault, step_fault, taken, taken_at}
use Rattle.doc_tree.proofs.NamesLemmas.{each_once-held, each_once-new, extends_itself, is_among-absent, is_among-each_once, is_among-held, map_alike, stays}
use Rattle.doc_tree.proofs.DraftLemmas.{slice_get-either, slice_get-last, slice_get-stays}
use Rattle.doc_tree.proofs.RunLemmas.{one_step}
use Rattle.doc_tree.proofs.SourceLemmas.{slice_stays, source_stays, span_within}
use Rattle.doc_tree.proofs.TakeLemmas.{own_stays}

zero-plus : (n : ℕ) → 0 + n ≡ n
zero-plus n = omega arith

opened-more : (before : List Step) (name : List ℕ) → opened (before ++ Opens name ∷ []) ≡ opened before ++ name ∷ []
opened-more before name = flat_map-append opened_at before (Opens name ∷ [])

taken-same : (before : List Step) (name : List ℕ) → taken (before ++ Opens name ∷ []) ≡ taken before
taken-same before name = flat_map-append taken_at before (Opens name ∷ []) ∙ append-nil (taken before)

-- ---- why a file isn't opened

pub fetch_told : (room read : ℕ) (name : List ℕ) (found : Option (List ℕ)) (source : Source) (fault : DocFault) → Fetches name found (Err fault) → IsSource found source → IfSome (told_of fault) (λ told. opening_fault room read name source ≡ Some told)
fetch_told room read name found source (doc.Missing told) is there =
    let absent : source ≡ Absent = subst (λ (f : Option (List ℕ)). IsSource f source) is.1 there in
    ap (opening_fault room read name) absent ∙ ap (λ (n : List ℕ). Some (Missing n)) (sym is.0)
fetch_told room read name found Absent (doc.TooLarge told) is there =
    absurd (subst (λ (f : Option (List ℕ)). IsSource f Absent) (is.1).1 there)
fetch_told room read name found Long (doc.TooLarge told) is there = ap (λ (n : List ℕ). Some (TooLarge n)) (sym is.0)
fetch_told room read name found (Held held reading) (doc.TooLarge told) is there =
    let short = (subst (λ (f : Option (List ℕ)). IsSource f (Held held reading)) (is.1).1 there).1 in
    let long = (is.1).2 in
    absurd (omega (arith, short, long))
fetch_told room read name found source doc.ReadFault is there = tt
fetch_told room read name found source doc.Memory is there = tt
fetch_told room read name found source (doc.IncludeDepth told at) is there = absurd is
fetch_told room read name found source (doc.DocTooLong told at) is there = absurd is
fetch_told room read name found source (doc.NameLimit told at) is there = absurd is
fetch_told room read name found source (doc.BadCondition told at) is there = absurd is
fetch_told room read name found source (doc.Unbalanced told at) is there = absurd is
fetch_told room read name found source (doc.CondDepth told at) is there = absurd is

-- what is found where a shelf has bytes that aren't too many
held_source : (bytes : List ℕ) (source : Source) (P : Source → Type 0) → length bytes ≤ most_bytes → IsSource (Some bytes) source → ((reading : Reading) → IsReading (lines_of bytes) reading → P (Held bytes reading)) → P source
held_source bytes Absent P short is then = absurd is
held_source bytes Long P short is then = absurd (omega (arith, is, short))
held_source bytes (Held held reading) P short is then =
    subst (λ (b : List ℕ). P (Held b reading)) (sym is.0) (then reading is.2)

pub source_told : (buffer : Buffer) (room read : ℕ) (name bytes : List ℕ) (source : Source) (fault : DocFault) → buffer.most + read ≡ length buffer.bytes + room → length bytes ≤ most_bytes → IsSource (Some bytes) source → IsSourceFault buffer name bytes fault
    → IfSome (told_of fault) (λ told. opening_fault room read name source ≡ Some told)
source_told buffer room read name bytes source (doc.DocTooLong told at) size short there is =
    held_source bytes source (λ s. opening_fault room read name s ≡ Some (DocTooLong told at)) short there (λ reading reads.
    let past : room < read + length bytes = let much = is.2 in omega arith in
    let test : nat_lt room (read + length bytes) ≡ true = lt-ltb room (read + length bytes) past in
    rw test (ap (λ (n : List ℕ). Some (DocTooLong n 0)) (sym is.0) ∙ ap (λ (n : ℕ). Some (DocTooLong told n)) (sym is.1)))
source_told buffer room read name bytes source (doc.BadCondition told at) size short there is =
    held_source bytes source (λ s. opening_fault room read name s ≡ Some (BadCondition told at)) short there (λ reading reads.
    let test : nat_lt room (read + length bytes) ≡ false = le-ltb room (read + length bytes) (let fits = is.1 in omega arith) in
    rw test (ap (reading_fault name) (is.2 reading reads) ∙ ap (λ (n : List ℕ). Some (BadCondition n at)) (sym is.0)))
source_told buffer room read name bytes source (doc.Unbalanced told at) size short there is =
    held_source bytes source (λ s. opening_fault room read name s ≡ Some (Unbalanced told at)) short there (λ reading reads.
    let test : nat_lt room (read + length bytes) ≡ false = le-ltb room (read + length bytes) (let fits = is.1 in omega arith) in
    rw test (ap (reading_fault name) (is.2 reading reads) ∙ ap (λ (n : List ℕ). Some (Unbalanced n at)) (sym is.0)))
source_told buffer room read name bytes source (doc.CondDepth told at) size short there is =
    held_source bytes source (λ s. opening_fault room read name s ≡ Some (CondDepth told at)) short there (λ reading reads.
    let test : nat_lt room (read + length bytes) ≡ false = le-ltb room (read + length bytes) (let fits = is.1 in omega arith) in
    rw test (ap (reading_fault name) (is.2 reading reads) ∙ ap (λ (n : List ℕ). Some (CondDepth n at)) (sym is.0)))
source_told buffer room read name bytes source doc.Memory size short there is = tt
source_told buffer room read name bytes source doc.ReadFault size short there is = absurd is
source_told buffer room read name bytes source (doc.Missing told) size short there is = absurd is
source_told buffer room read name bytes source (doc.TooLarge told) size short there is = absurd is
source_told buffer room read name bytes source (doc.IncludeDepth told at) size short there is = absurd is
source_told buffer room read name bytes source (doc.NameLimit told at) size short there is = absurd is

-- ---- a file that was opened before, and one that wasn't

module _ (sources : Sources) (room : ℕ) (before : List Step) (text : Buffer) (old : Document) (kept : List SourceFile) (was : IsAt sources room before text old kept) (name : List ℕ) where
  pub open_held : (file : ℕ) → slice_get old.files file ≡ Some name → (first_fault sources room before (Opens name ∷ []) ≡ None) × IsAt sources room (before ++ Opens name ∷ []) text old kept
  open_held file here =
      let among : is_among (opened before) name ≡ true = sym (is_among-each_once (opened before) name) ∙ ap (λ (ns : List (List ℕ)). is_among ns name) (sym was.opened_are) ∙ is_among-held old.files name file here in
      let same : each_once (opened (before ++ Opens name ∷ [])) ≡ each_once (opened before) = ap each_once (opened-more before name) ∙ each_once-held (opened before) name among in
      let faultless : step_fault sources room before (Opens name) ≡ None = rw among refl in (
        one_step sources room before (Opens name) ∙ faultless,
        record {
          opened_are = was.opened_are ∙ sym same;
          lines_are = was.lines_are ∙ sym (taken-same before name);
          size = let read = ap (λ (files : List (List ℕ)). sum_by (λ file. bytes_in (sources file)) files) same in let size = was.size in omega arith;
          known = was.known;
        },
      )

  module _ (new : (file : ℕ) → slice_get old.files file ≢ Some name) where
    not_among : is_among (opened before) name ≡ false
    not_among = sym (is_among-each_once (opened before) name) ∙ ap (λ (ns : List (List ℕ)). is_among ns name) (sym was.opened_are) ∙ is_among-absent old.files name new

    opening : step_fault sources room before (Opens name) ≡ opening_fault room (bytes_read sources before) name (sources name)
    opening = rw not_among refl

    pub fetch_fails : (found : Option (List ℕ)) (fault : DocFault) → Fetches name found (Err fault) → IsSource found (sources name) → IfSome (told_of fault) (λ told. first_fault sources room before (Opens name ∷ []) ≡ Some told)
    fetch_fails found fault is there =
        IfSome_then (told_of fault) (fetch_told room (bytes_read sources before) name found (sources name) fault is there) (λ told why. one_step sources room before (Opens name) ∙ opening ∙ why)

    pub source_fails : (bytes : List ℕ) (fault : DocFault) → length bytes ≤ most_bytes → IsSource (Some bytes) (sources name) → IsSourceFault text name bytes fault → IfSome (told_of fault) (λ told. first_fault sources room before (Opens name ∷ []) ≡ Some told)
    source_fails bytes fault short there is =
        IfSome_then (told_of fault) (source_told text room (bytes_read sources before) name bytes (sources name) fault was.size short there is) (λ told why. one_step sources room before (Opens name) ∙ opening ∙ why)

-- ---- a file is read, and its bytes come into the buffer

known_stays : (text more : List ℕ) (file : ℕ) (found : Source) (kept after : List SourceFile) → Extends kept after → IsKnown text file found (slice_get kept file) → IsKnown (text ++ more) file found (slice_get after file)
known_stays text more file found kept after grows is = record {
  bytes = is.bytes;
  source = is.source;
  kept_is = slice_get-stays kept after file is.source grows is.kept_is;
  file_is = source_stays text more is.bytes file is.source is.file_is;
  found_is = is.found_is;
}

flat_opens : (text more : List ℕ) (old : Document) (name : List ℕ) → IsLoaded text old → flat_of (text ++ more) (record old { files = old.files ++ name ∷ [] }) ≡ flat_of text old
flat_opens text more old name loaded =
    map_alike (flat_line (text ++ more) (old.files ++ name ∷ []) (rounds_of old)) (flat_line text old.files (rounds_of old)) old.lines (λ k d below.
    let line = get_or old.lines k d in
    let there = loaded.lines k d below in
    let file : slice_index_or (old.files ++ name ∷ []) line.line.file [] ≡ slice_index_or old.files line.line.file [] = stays old.files (old.files ++ name ∷ []) line.line.file [] (name ∷ [], refl) there.file in
    let bytes : slice_at (text ++ more) line.line.span ≡ slice_at text line.line.span = slice_stays text more line.line.span there.span in
    ap (λ (f : List ℕ). record { file = f; number = line.line.number; bytes = slice_at (text ++ more) line.line.span; kind = line.kind; round = round_at (rounds_of old) line.within }) file
    ∙ ap (λ (b : List ℕ). record { file = slice_index_or old.files line.line.file []; number = line.line.number; bytes = b; kind = line.kind; round = round_at (rounds_of old) line.within }) bytes)

module _ (text bytes : List ℕ) (old : Document) (kept : List SourceFile) (name : List ℕ) (source : SourceFile) (there : AreThere text old kept) (file : IsSourceFile (text ++ bytes) bytes (length old.files) source) where
  abbrev opens : Document
  opens = record old { files = old.files ++ name ∷ [] }

  opens_longer : length (old.files ++ name ∷ []) ≡ length old.files + 1
  opens_longer = length_push old.files name

  opens_line : (line : DocLine) → IsLineThere text old line → IsLineThere (text ++ bytes) opens line
  opens_line line is = record {
    span = span_within text bytes line.line.span is.span;
    kind = subst (λ (b : List ℕ). IsKind b line.kind) (sym (slice_stays text bytes line.line.span is.span)) is.kind;
    places = subst (λ (b : List ℕ). IsKindWithin b line.kind) (sym (slice_stays text bytes line.line.span is.span)) is.places;
    file = let more = opens_longer in let was = is.file in omega arith;
    within = is.within;
    own = own_stays old opens line.within line.kind line.own there.draft.loaded.conds (extends_itself old.names) (extends_itself old.conds) is.own;
  }

  opens_draft : IsDraft (text ++ bytes) opens
  opens_draft = record {
    loaded = record {
      lines = All-weaker (IsLineThere text old) (IsLineThere (text ++ bytes) opens) opens_line old.lines there.draft.loaded.lines;
      conds = there.draft.loaded.conds;
      different = there.draft.loaded.different;
      named = there.draft.loaded.named;
      few = there.draft.loaded.few;
    };
    conds_few = there.draft.conds_few;
    names_few = there.draft.names_few;
  }

  pub opens_goes : (after : Buffer) → after.bytes ≡ text ++ bytes → Goes after old opens kept (kept ++ source ∷ [])
  opens_goes after after_is =
      let all : AreThere (text ++ bytes) opens (kept ++ source ∷ []) = record {
        draft = opens_draft;
        count = length_push kept source ∙ ap (λ n. n + 1) there.count ∙ sym opens_longer;
        lines_there = λ number found here. slice_get-either (λ (s : SourceFile). AreLinesThere (text ++ bytes) number s) kept source found number here
            (λ earlier. All-weaker (λ line. IsSpanWithin text line.span × (line.file ≡ number)) (λ line. IsSpanWithin (text ++ bytes) line.span × (line.file ≡ number)) (λ line is. (span_within text bytes line.span is.0, is.1)) found.lines (there.lines_there number found earlier))
            (λ at_end k d below. (file.spans k d below, file.file_is k d below ∙ sym (at_end ∙ there.count)));
      } in
      record {
        there = subst (λ (t : List ℕ). AreThere t opens (kept ++ source ∷ [])) (sym after_is) all;
        grows = record { files = (name ∷ [], refl); names = extends_itself old.names; conds = extends_itself old.conds };
        kept_grows = (source ∷ [], refl);
      }

  pub open_new : (sources : Sources) (room : ℕ) (before : List Step) (buffer after : Buffer) → buffer.bytes ≡ text → after.bytes ≡ text ++ bytes → after.most ≡ buffer.most → Fits buffer bytes → length bytes ≤ most_bytes → IsSource (Some bytes) (sources name)
      → ((file : ℕ) → slice_get old.files file ≢ Some name) → IsAt sources room before buffer old kept
      → (first_fault sources room before (Opens name ∷ []) ≡ None) × IsAt sources room (before ++ Opens name ∷ []) after opens (kept ++ source ∷ [])
  open_new sources room before buffer after buffer_is after_is most_is fits short found new was =
      let found_is : sources name ≡ Held bytes (Lines file.kinds source.pairs) = held_source bytes (sources name) (λ s. s ≡ Held bytes (Lines file.kinds source.pairs)) short found (λ reading reads. ap (Held bytes) (file.only reading reads)) in
      let lengths = ap length buffer_is in
      let after_length = ap length after_is ∙ length-append text bytes in
      let size = was.size in
      let test : nat_lt room (bytes_read sources before + length bytes) ≡ false = le-ltb room (bytes_read sources before + length bytes) (omega arith) in
      let faultless : opening_fault room (bytes_read sources before) name (Held bytes (Lines file.kinds source.pairs)) ≡ None = rw test refl in
      let once : each_once (opened (before ++ Opens name ∷ [])) ≡ each_once (opened before) ++ name ∷ [] = ap each_once (opened-more before name) ∙ each_once-new (opened before) name (not_among sources room before buffer old kept was name new) in (
        one_step sources room before (Opens name) ∙ opening sources room before buffer old kept was name new ∙ ap (opening_fault room (bytes_read sources before) name) found_is ∙ faultless,
        record {
          opened_are = ap (λ (ns : List (List ℕ)). ns ++ name ∷ []) was.opened_are ∙ sym once;
          lines_are =
              ap (λ (t : List ℕ). flat_of t opens) after_is ∙ flat_opens text bytes old name there.draft.loaded ∙ ap (λ (t : List ℕ). flat_of t old) (sym buffer_is) ∙ was.lines_are ∙ sym (taken-same before name);
          size =
              let read : bytes_read sources (before ++ Opens name ∷ []) ≡ bytes_read sources before + bytes_in (sources name) =
              ap (λ (files : List (List ℕ)). sum_by (λ file. bytes_in (sources file)) files) once ∙ sum_by-append (λ file. bytes_in (sources file)) (each_once (opened before)) (name ∷ []) ∙ ap (λ n. bytes_read sources before + n) (zero-plus (bytes_in (sources name))) in
              let own : bytes_in (sources name) ≡ length bytes = ap bytes_in found_is in
              omega arith;
          known = λ number other here. slice_get-either (λ (n : List ℕ). IsKnown after.bytes number (sources n) (slice_get (kept ++ source ∷ []) number)) old.files name other number here
              (λ earlier.
              let known = subst (λ (t : List ℕ). IsKnown t number (sources other) (slice_get kept number)) buffer_is (was.known number other earlier) in
              subst (λ (t : List ℕ). IsKnown t number (sources other) (slice_get (kept ++ source ∷ []) number)) (sym after_is) (known_stays text bytes number (sources other) kept (kept ++ source ∷ []) (source ∷ [], refl) known))
              (λ at_end.
              let here : IsKnown (text ++ bytes) (length old.files) (sources name) (slice_get (kept ++ source ∷ []) (length old.files)) = record {
                bytes = bytes;
                source = source;
                kept_is = slice_get-last kept source (length old.files) (sym there.count);
                file_is = file;
                found_is = found_is;
              } in
              subst (λ (t : List ℕ). IsKnown t number (sources name) (slice_get (kept ++ source ∷ []) number)) (sym after_is)
              (subst (λ (n : ℕ). IsKnown (text ++ bytes) n (sources name) (slice_get (kept ++ source ∷ []) n)) (sym at_end) here));
        },
      )
