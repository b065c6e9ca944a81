-- How the walk goes on, for private contracts alone. No public contract names it.
use Rattle.std.specs.Prelude.{◌≡◌, ℕ, ◌+◌, List, [], ◌++◌, true, Option, Some, None, is_some, IfSome, Result, Ok, Err, length, slice_get, slice_index_or}
use Rattle.vkb_outside.specs.Shelf.{Files}
use Rattle.vkb_text.specs.Buffer.{Buffer}
use Rattle.vkb_text.specs.declared.Line.{Line}
use Rattle.doc_tree.specs.declared.CondId.{CondId}
use Rattle.doc_tree.specs.declared.Document.{Document}
use Rattle.doc_tree.specs.declared.fault.DocFault.{DocFault}
use Rattle.doc_tree.specs.declared.source.SourceFile.{SourceFile}
use Rattle.doc_tree.specs.Answer.{told_of}
use Rattle.doc_tree.specs.Flat.{FlatLine}
use Rattle.doc_tree.specs.Loaded.{flat_of, round_at, rounds_of}
use Rattle.doc_tree.specs.Names.{each_once}
use Rattle.doc_tree.specs.Opening.{AreThere, IsSourceFile}
use Rattle.doc_tree.specs.Progress.{Extends, Grows}
use Rattle.doc_tree.specs.Sources.{AreSources, Held, Lines, Source, Sources}
use Rattle.doc_tree.specs.Walk.{Step, bytes_read, file_steps, first_fault, opened, steps_below, taken}

-- what was kept of a file is what is found there
pub record IsKnown (text : List ℕ) (file : ℕ) (found : Source) (kept : Option SourceFile) : Type 0 where
  pub bytes : List ℕ
  pub source : SourceFile
  pub kept_is : kept ≡ Some source
  pub file_is : IsSourceFile text bytes file source
  pub found_is : found ≡ Held bytes (Lines file_is.kinds source.pairs)

-- these steps lead to this document so far
pub record IsAt (sources : Sources) (room : ℕ) (before : List Step) (text : Buffer) (d : Document) (kept : List SourceFile) : Type 0 where
  pub opened_are : d.files ≡ each_once (opened before)
  pub lines_are : flat_of text.bytes d ≡ taken before
  pub size : text.most + bytes_read sources before ≡ length text.bytes + room
  pub known : (file : ℕ) (name : List ℕ) → slice_get d.files file ≡ Some name → IsKnown text.bytes file (sources name) (slice_get kept file)

-- these steps behind others were gone without a fault, or to their first
abbrev pub RunsTo : {X : Type 0} → Sources → ℕ → List Step → Buffer → Document → List SourceFile → List Step → Result X DocFault → Type 0
RunsTo sources room before text d kept steps (Ok done) = (first_fault sources room before steps ≡ None) × IsAt sources room (before ++ steps) text d kept
RunsTo sources room before text d kept steps (Err fault) = IfSome (told_of fault) (λ told. first_fault sources room before steps ≡ Some told)

-- from one document so far to another by these steps, whatever was before
abbrev pub Runs : {X : Type 0} → Files → Buffer → Document → List SourceFile → Buffer → Document → List SourceFile → (Sources → List Step) → Result X DocFault → Type 0
Runs files text d kept text' d' kept' steps result = (sources : Sources) → AreSources files sources → (room : ℕ) (before : List Step) → IsAt sources room before text d kept → RunsTo sources room before text' d' kept' (steps sources) result

-- others have under each of these names what these files have
abbrev pub Agree : List (List ℕ) → Files → Files → Type 0
Agree names files others = (file : ℕ) (name : List ℕ) → slice_get names file ≡ Some name → others name ≡ files name

-- what may turn out to be found, in place of these files, behind an answer: the names that were opened keep what they have, and after
-- a fault nothing more is read
abbrev pub TurnsOut : {X : Type 0} → Result X DocFault → List (List ℕ) → Files → Files → Type 0
TurnsOut (Ok done) names files others = Agree names files others
TurnsOut (Err fault) names files others = others ≡ files

-- It holds of some files, and of all that these may turn out to be, that agree with those known before on the names that were open.
-- Where a shelf tells its files and these were known, it is these.
pub record Learns (told : Option Files) (names : List (List ℕ)) (Later : Files → Files → Type 0) (P : Files → Type 0) (known : Files) : Type 0 where
  pub files : Files
  pub told_are : IfSome told (λ holds. known ≡ holds → files ≡ holds)
  pub kept : Agree names known files
  pub holds : (others : Files) → Later files others → P others

-- whatever was known before
abbrev pub ByReads : Option Files → List (List ℕ) → (Files → Files → Type 0) → (Files → Type 0) → Type 0
ByReads told names Later P = (known : Files) → Learns told names Later P known

-- what was there stays, and what came is there
pub record Goes (text : Buffer) (d d' : Document) (kept kept' : List SourceFile) : Type 0 where
  pub there : AreThere text.bytes d' kept'
  pub grows : Grows d d'
  pub kept_grows : Extends kept kept'

-- the steps of the file that a line includes, or none
abbrev pub chapter_steps : (FlatLine → List ℕ → List Step) → FlatLine → Option (List ℕ) → List Step
chapter_steps follow line None = []
chapter_steps follow line (Some file) = follow line file

-- the steps of an opened file, within a conditional
abbrev pub opened_steps : Document → ℕ → ℕ → Option CondId → Sources → List Step
opened_steps d left file within sources = file_steps (steps_below sources left) (slice_index_or d.files file []) (round_at (rounds_of d) within) (sources (slice_index_or d.files file []))

-- the flat line is of this file and number, and where it includes a file, within this conditional
pub record IsFlatAt (d : Document) (line : Line) (within : Option CondId) (chapter : Option (List ℕ)) (flat : FlatLine) : Type 0 where
  pub file_is : flat.file ≡ slice_index_or d.files line.file []
  pub number_is : flat.number ≡ line.number
  pub round_is : is_some chapter ≡ true → flat.round ≡ round_at (rounds_of d) within
