-- The file that a line includes.
use Rattle.std.proofs.Common.{◌≡◌, ◌∙◌, refl, sym, ap, subst, ℕ, zero, suc, ◌<◌, List, [], ◌∷◌, ◌++◌, length, Option, Some, None, Result, IfSome, get_or, slice_get, slice_index_or, arith}
use Rattle.std.proofs.lemmas.List.{append-nil}
use Rattle.std.proofs.lemmas.Option.{IfSome_then, get_or_from_slice_get, same_Some, slice_get-get_or, slice_get_within}
use Rattle.vkb_text.specs.Buffer.{Buffer}
use Rattle.vkb_text.specs.Spans.{IsWithin as IsSpanWithin}
use Rattle.vkb_text.specs.declared.Line.{Line}
use Rattle.doc_tree.specs.declared.CondId.{CondId}
use Rattle.doc_tree.specs.declared.Document.{Document}
use Rattle.doc_tree.specs.declared.fault.DocFault.{DocFault}
use Rattle.doc_tree.specs.declared.source.SourceFile.{SourceFile}
use Rattle.doc_tree.specs.Answer.{told_of}
use Rattle.doc_tree.specs.Fault.{IncludeDepth}
use Rattle.doc_tree.specs.Flat.{Condition, FlatLine}
use Rattle.doc_tree.specs.Loaded.{round_at, rounds_of}
use Rattle.doc_tree.specs.Opening.{AreThere}
use Rattle.doc_tree.specs.Progress.{Extends, Grows, IsTaken}
use Rattle.doc_tree.specs.Running.{Goes, IsAt, IsFlatAt, RunsTo, chapter_steps, opened_steps}
use Rattle.doc_tree.specs.Sources.{Sources}
use Rattle.doc_tree.specs.Walk.{Opens, Step, file_steps, first_fault, steps_below}
use Rattle.doc_tree.proofs.NamesLemmas.{extends_itself, extends_length, extends_on}
use Rattle.doc_tree.proofs.DraftLemmas.{slice_get-stays}
use Rattle.doc_tree.proofs.RunLemmas.{run_stops, run_then}

-- ---- documents so far that go on

pub grows_then : (a b c : Document) → Grows a b → Grows b c → Grows a c
grows_then a b c first second = record {
  files = extends_on a.files b.files c.files first.files second.files;
  names = extends_on a.names b.names c.names first.names second.names;
  conds = extends_on a.conds b.conds c.conds first.conds second.conds;
}

pub grows_itself : (d : Document) → Grows d d
grows_itself d = record { files = extends_itself d.files; names = extends_itself d.names; conds = extends_itself d.conds }

pub goes_itself : (text : Buffer) (d : Document) (kept : List SourceFile) → AreThere text.bytes d kept → Goes text d d kept kept
goes_itself text d kept there = record { there = there; grows = grows_itself d; kept_grows = extends_itself kept }

pub goes_then : (text between : Buffer) (a b c : Document) (i j k : List SourceFile) → Goes between a b i j → Goes text b c j k → Goes text a c i k
goes_then text between a b c i j k first second = record {
  there = second.there;
  grows = grows_then a b c first.grows second.grows;
  kept_grows = extends_on i j k first.kept_grows second.kept_grows;
}

pub there_taken : (text : List ℕ) (d e : Document) (kept : List SourceFile) (behind : Option CondId) → AreThere text d kept → IsTaken text d e behind → AreThere text e kept
there_taken text d e kept behind there is = record {
  draft = is.draft;
  count = there.count ∙ ap length (sym is.files_are);
  lines_there = there.lines_there;
}

-- ---- the steps below an include line

-- a line that includes none has none
pub no_chapter : (sources : Sources) (room : ℕ) (before : List Step) (text : Buffer) (d : Document) (kept : List SourceFile) → IsAt sources room before text d kept → (flat : FlatLine) (left : ℕ) (chapter : Option (List ℕ)) → chapter ≡ None
    → (first_fault sources room before (chapter_steps (steps_below sources left) flat chapter) ≡ None) × IsAt sources room (before ++ chapter_steps (steps_below sources left) flat chapter) text d kept
no_chapter sources room before text d kept was flat left None none = (refl, subst (λ (steps : List Step). IsAt sources room steps text d kept) (sym (append-nil before)) was)
no_chapter sources room before text d kept was flat left (Some name) none = absurd (cc none)

module _ (sources : Sources) (room : ℕ) (before : List Step) (text : Buffer) (d : Document) (kept : List SourceFile) (line : Line) (within : Option CondId) (name : List ℕ) (flat : FlatLine) (flat_at : IsFlatAt d line within (Some name) flat) where
  -- too many files are open in one another
  pub depth_told : (left : ℕ) (told : List ℕ) → left ≡ 0 → told ≡ slice_index_or d.files line.file [] → first_fault sources room before (chapter_steps (steps_below sources left) flat (Some name)) ≡ Some (IncludeDepth told line.number)
  depth_told left told none told_is =
      ap (λ (n : ℕ). first_fault sources room before (steps_below sources n flat name)) none
      ∙ ap (λ (f : List ℕ). Some (IncludeDepth f flat.number)) (flat_at.file_is ∙ sym told_is)
      ∙ ap (λ (n : ℕ). Some (IncludeDepth told n)) flat_at.number_is

  steps_are : (left less : ℕ) → left ≡ suc less → chapter_steps (steps_below sources left) flat (Some name) ≡ Opens name ∷ [] ++ file_steps (steps_below sources less) name flat.round (sources name)
  steps_are left less one = ap (λ (n : ℕ). steps_below sources n flat name) one

  -- the file isn't opened
  pub below_stops : (left less : ℕ) (fault : DocFault) → left ≡ suc less → IfSome (told_of fault) (λ told. first_fault sources room before (Opens name ∷ []) ≡ Some told)
      → IfSome (told_of fault) (λ told. first_fault sources room before (chapter_steps (steps_below sources left) flat (Some name)) ≡ Some told)
  below_stops left less fault one stops =
      IfSome_then (told_of fault) (run_stops sources room before (Opens name ∷ []) (file_steps (steps_below sources less) name flat.round (sources name)) fault stops)
      (λ told is. ap (first_fault sources room before) (steps_are left less one) ∙ is)

  -- the file is opened, and its lines are taken
  pub below_runs : {X : Type 0} (left less : ℕ) (d1 d2 : Document) (text2 : Buffer) (kept2 : List SourceFile) (file : ℕ) (result : Result X DocFault) → left ≡ suc less → first_fault sources room before (Opens name ∷ []) ≡ None → slice_get d1.files file ≡ Some name
      → round_at (rounds_of d1) within ≡ round_at (rounds_of d) within → RunsTo sources room (before ++ Opens name ∷ []) text2 d2 kept2 (opened_steps d1 less file within sources) result
      → RunsTo sources room before text2 d2 kept2 (chapter_steps (steps_below sources left) flat (Some name)) result
  below_runs left less d1 d2 text2 kept2 file result one none here stays runs =
      let named : slice_index_or d1.files file [] ≡ name = get_or_from_slice_get d1.files file name [] here in
      let steps : opened_steps d1 less file within sources ≡ file_steps (steps_below sources less) name flat.round (sources name) =
      ap (λ (n : List ℕ). file_steps (steps_below sources less) n (round_at (rounds_of d1) within) (sources n)) named
      ∙ ap (λ (r : List Condition). file_steps (steps_below sources less) name r (sources name)) (stays ∙ sym (flat_at.round_is refl)) in
      let all = run_then sources room before (Opens name ∷ []) (file_steps (steps_below sources less) name flat.round (sources name)) text2 d2 kept2 result none
      (subst (λ (ss : List Step). RunsTo sources room (before ++ Opens name ∷ []) text2 d2 kept2 ss result) steps runs) in
      subst (λ (ss : List Step). RunsTo sources room before text2 d2 kept2 ss result) (sym (steps_are left less one)) all

-- ---- the files that are kept

pub slice_get_some : {A : Type 0} (xs : List A) (k : ℕ) → k < length xs → (x : A) × (slice_get xs k ≡ Some x)
slice_get_some [] k below = absurd (omega arith)
slice_get_some (x ∷ xs) zero below = (x, refl)
slice_get_some (x ∷ xs) (suc k) below = slice_get_some xs k (omega arith)

-- what stands in a list that went on stood there before, where the list was long enough
pub was_there : {A : Type 0} (xs ys : List A) (k : ℕ) (y : A) → Extends xs ys → k < length xs → slice_get ys k ≡ Some y → slice_get xs k ≡ Some y
was_there xs ys k y grows below here =
    let found = slice_get_some xs k below in
    let stays = slice_get-stays xs ys k found.0 grows found.1 in
    let same = same_Some found.0 y (sym stays ∙ here) in
    found.1 ∙ ap Some same

-- a file that was opened is one of those that are kept
pub file_kept : (text : List ℕ) (d e : Document) (kept : List SourceFile) (file : ℕ) → Grows d e → AreThere text e kept → file < length d.files → file < length kept
file_kept text d e kept file grows there below =
    let more = extends_length d.files e.files grows.files in
    let count = there.count in
    omega arith

-- it has its name
pub file_named : (d e : Document) (file : ℕ) → Grows d e → file < length d.files → slice_get e.files file ≡ Some (slice_index_or d.files file [])
file_named d e file grows below = slice_get-stays d.files e.files file (slice_index_or d.files file []) grows.files (slice_get-get_or d.files file [] below)

-- a line of a file that is kept lies in the buffer
pub line_there : (text : List ℕ) (d : Document) (kept : List SourceFile) (file place : ℕ) (source : SourceFile) (line : Line) → AreThere text d kept → slice_get kept file ≡ Some source → slice_get source.lines place ≡ Some line → IsSpanWithin text line.span × (line.file ≡ file)
line_there text d kept file place source line there is here =
    let all = there.lines_there file source is place line (slice_get_within source.lines place line here) in
    let read : get_or source.lines place line ≡ line = get_or_from_slice_get source.lines place line line here in
    subst (λ (l : Line). IsSpanWithin text l.span × (l.file ≡ file)) read all
