-- What a run of the program comes to, of the words and the files.
use Rattle.std.specs.Prelude.{◌≡◌, ℕ, Bool, Option, Some, None, slice_get, slice_index_or, List, [], map, take, ⊤}
use Rattle.vkb_outside.specs.Shelf.{Files}
use Rattle.doc_tree.specs.Flat.{FlatLine}
use Rattle.doc_tree.specs.Walk.{IsDocument, IsFaultOf}
use Rattle.vkb_formula.specs.declared.name_table.NameId.{NameId}
use Rattle.reg_registry.specs.Rows.{Rows, bare_rows}
use Rattle.reg_closure.specs.Closure.{IsClosure}
use Rattle.reg_closure.specs.Orders.{IsOrder}
use Rattle.reg_permit.specs.Choices.{IsChoice, IsChoiceFault}
use Rattle.reg_permit.specs.declared.choosing.ChoiceFault.{ChoiceFault}
use Rattle.reg_permit.specs.declared.choosing.ChoiceFault.TheVariants as choice
use Rattle.hdr_writer.specs.Headers.{header}
use Rattle.doc_build.specs.declared.Place.{Place}
use Rattle.doc_build.specs.Built.{choice_text}
use Rattle.doc_build.specs.Choices.{Choice, free_names}
use Rattle.lift_check.specs.declared.Verdict.{Verdict}
use Rattle.lift_check.specs.declared.Verdict.TheVariants.{Yes, No}
use Rattle.lift_check.specs.Verdict.{IsJudged}
use Rattle.vu_tags.specs.Statements.{needed_of}
use Rattle.vu_tags.specs.Tagged.{IsTagFault, Names, TellsPages, tagged_of}
use Rattle.vu_tags.specs.declared.TagFault.TheVariants as tags
use Rattle.vkb_tool.specs.declared.words.Request.{Request}
use Rattle.vkb_tool.specs.declared.words.Request.TheVariants.{Build, Check, Header, Tag}
use Rattle.vkb_tool.specs.declared.status.Status.{Status}
use Rattle.vkb_tool.specs.declared.status.Status.TheVariants.{Done, Broken, Usage, Refused}
use Rattle.vkb_tool.specs.declared.registry.RegistryFault.{RegistryFault}
use Rattle.vkb_tool.specs.declared.registry.RegistryFault.TheVariants.{NamingCycle}
use Rattle.vkb_tool.specs.Fault.{Fault, BadTag, InDocument, InRegistry, NoNumber, NotPermitted, UnknownOption}
use Rattle.vkb_tool.specs.Registry.{IsRegistry, IsRegistryFault}
use Rattle.vkb_tool.specs.Words.{Spells, IsMisplaced}
use Rattle.vkb_tool.specs.Tags.{changed, read_fault, texts_of}
use Rattle.vkb_tool.specs.Report.{usage_line, fault_line, report_of, tagged_line}

-- how many bytes all texts of a call may have
abbrev pub most_text : ℕ
most_text = 268435456

-- the registry of a document: that of a file for an API, or without a file a bare one of the names of the document's conditions
abbrev pub IsRegistryOf : Files → Option (List ℕ) → List ℕ → List (List ℕ) → List FlatLine → Rows → Type 0
IsRegistryOf files None api always lines r = r ≡ bare_rows (free_names always lines)
IsRegistryOf files (Some name) api always lines r = IsRegistry (files name) api r

-- the file of a registry, if one is named, has no fault
abbrev pub IsOffered : Files → Option (List ℕ) → List ℕ → Type 0
IsOffered files None api = ⊤
IsOffered files (Some name) api = (r : Rows) × IsRegistry (files name) api r

-- what is checked, or built at a choice: the flat document of a root, where some names are always set, and its registry
pub record IsSubject (files : Files) (registry : Option (List ℕ)) (root api : List ℕ) (always : List (List ℕ)) (r : Rows) (lines : List FlatLine) : Type 0 where
  pub document : IsDocument files most_text root lines
  pub over : IsRegistryOf files registry api always lines r

-- the first fault of what is to be checked: those of the registry go before those of the document's walk
abbrev pub IsCheckFault : Files → Option (List ℕ) → List ℕ → List ℕ → List (List ℕ) → Fault → Type 0
IsCheckFault files registry root api always (InRegistry file asked fault) = (registry ≡ Some file) × (asked ≡ api) × IsRegistryFault (files file) api fault
IsCheckFault files registry root api always (InDocument fault) = IsOffered files registry api × IsFaultOf files most_text root fault
IsCheckFault files registry root api always (UnknownOption word) = ⊥
IsCheckFault files registry root api always (NotPermitted option) = ⊥
IsCheckFault files registry root api always (BadTag file number) = ⊥
IsCheckFault files registry root api always (NoNumber needed left) = ⊥

-- why words name no permitted choice of a registry's options: the first that is none, or else the first option whose rule doesn't hold
abbrev pub IsFaultAt : Rows → List (List ℕ) → Fault → Type 0
IsFaultAt r names (InRegistry file api fault) = ⊥
IsFaultAt r names (InDocument fault) = ⊥
IsFaultAt r names (UnknownOption word) = IsChoiceFault r names (choice.UnknownOption word)
IsFaultAt r names (NotPermitted option) = (id : NameId) × IsChoiceFault r names (choice.NotPermitted id) × (option ≡ slice_index_or r.options id.0 [])
IsFaultAt r names (BadTag file number) = ⊥
IsFaultAt r names (NoNumber needed left) = ⊥

-- the first fault of what is to be built: those of the registry go before those of the document's walk, and these before those of the choice
abbrev pub IsBuildFault : Files → Option (List ℕ) → List ℕ → List ℕ → List (List ℕ) → List (List ℕ) → Fault → Type 0
IsBuildFault files registry root api names always (InRegistry file asked fault) = (registry ≡ Some file) × (asked ≡ api) × IsRegistryFault (files file) api fault
IsBuildFault files registry root api names always (InDocument fault) = IsOffered files registry api × IsFaultOf files most_text root fault
IsBuildFault files registry root api names always (UnknownOption word) =
    (r : Rows) × (lines : List FlatLine) × IsSubject files registry root api always r lines × IsFaultAt r names (UnknownOption word)
IsBuildFault files registry root api names always (NotPermitted option) =
    (r : Rows) × (lines : List FlatLine) × IsSubject files registry root api always r lines × IsFaultAt r names (NotPermitted option)
IsBuildFault files registry root api names always (BadTag file number) = ⊥
IsBuildFault files registry root api names always (NoNumber needed left) = ⊥

-- a registry has no fault, and words name no permitted choice of its options, for this reason
abbrev pub IsWrongChoice : Files → List ℕ → List ℕ → List (List ℕ) → Rows → ChoiceFault → Type 0
IsWrongChoice files registry api names r fault = IsRegistry (files registry) api r × IsChoiceFault r names fault

-- the first fault of a header: those of the registry go before those of the choice
abbrev pub IsHeaderFault : Files → List ℕ → List ℕ → List (List ℕ) → Fault → Type 0
IsHeaderFault files registry api names (InRegistry file asked fault) = (file ≡ registry) × (asked ≡ api) × IsRegistryFault (files registry) api fault
IsHeaderFault files registry api names (InDocument fault) = ⊥
IsHeaderFault files registry api names (UnknownOption word) = (r : Rows) × IsWrongChoice files registry api names r (choice.UnknownOption word)
IsHeaderFault files registry api names (NotPermitted option) =
    (r : Rows) × (id : NameId) × IsWrongChoice files registry api names r (choice.NotPermitted id) × (option ≡ slice_index_or r.options id.0 [])
IsHeaderFault files registry api names (BadTag file number) = ⊥
IsHeaderFault files registry api names (NoNumber needed left) = ⊥

-- the files of a request to tag are there, and not too long
abbrev pub AreRead : Files → List (List ℕ) → Type 0
AreRead files names = read_fault files most_text names ≡ None

-- a fault of a request to tag: the first of the files that are read in order, or else the first of their tags
abbrev pub IsTagsFault : Files → ℕ → List (List ℕ) → Fault → Type 0
IsTagsFault files first names (InRegistry file api fault) = ⊥
IsTagsFault files first names (InDocument fault) = read_fault files most_text names ≡ Some fault
IsTagsFault files first names (UnknownOption word) = ⊥
IsTagsFault files first names (NotPermitted option) = ⊥
IsTagsFault files first names (BadTag file line) = AreRead files names × ((place : ℕ) × (slice_get names place ≡ Some file) × IsTagFault first (texts_of files names) (tags.BadTag place line))
IsTagsFault files first names (NoNumber needed left) = AreRead files names × IsTagFault first (texts_of files names) (tags.NoNumber needed left)

-- the first named fault that stands in what a request asks of the files
abbrev pub IsFirstFault : Request → Files → Fault → Type 0
IsFirstFault (Check registry root api always) files fault = IsCheckFault files registry root api always fault
IsFirstFault (Build registry root api names always) files fault = IsBuildFault files registry root api names always fault
IsFirstFault (Header registry api names) files fault = IsHeaderFault files registry api names fault
IsFirstFault (Tag first names) files fault = IsTagsFault files first names fault

-- no named fault stands in what a request asks of the files
abbrev pub HasNoFault : Request → Files → Type 0
HasNoFault request files = (fault : Fault) → ¬ IsFirstFault request files fault

-- the status by which a verdict is told
abbrev pub status_of : Verdict → Status
status_of (Yes links) = Done
status_of (No place id choice count) = Broken

-- a file that is put: its name and its bytes
abbrev pub Put : Type 0
Put = List ℕ × List ℕ

-- what a run leaves: its status, what it writes, and the files that it puts, in order
pub record Effect : Type 0 where
  pub status : Status
  pub output : List ℕ
  pub puts : List Put

-- an output, and no file that is put
abbrev pub writes_alone : Status → List ℕ → Effect
writes_alone status output = record { status = status; output = output; puts = [] }

-- what new tags for the texts of files leave, by the names of pages: how many there are, and the files that change
abbrev pub puts_tags : Names → ℕ → List (List ℕ) → List (List ℕ) → Effect
puts_tags pages first names texts = record { status = Done; output = tagged_line (needed_of texts); puts = changed names texts (tagged_of pages first texts) }

-- what is built: the document of a root and its registry, the choice that words name, and its closure
pub record IsBuilt (files : Files) (registry : Option (List ℕ)) (root api : List ℕ) (names always : List (List ℕ)) (r : Rows) (lines : List FlatLine) (chosen set : List Bool) : Type 0 where
  pub subject : IsSubject files registry root api always r lines
  pub choice : IsChoice r names chosen
  pub closure : IsClosure r chosen set

-- what a header declares: the registry of a file for an API, the choice that words name, and its closure in order
pub record IsDeclared (files : Files) (registry api : List ℕ) (names : List (List ℕ)) (r : Rows) (chosen : List Bool) (order : List NameId) : Type 0 where
  pub read : IsRegistry (files registry) api r
  pub choice : IsChoice r names chosen
  pub set : List Bool
  pub closure : IsClosure r chosen set
  pub ordered : IsOrder r.rows set (map (λ id. id.0) order)

-- What the words and the files come to. Left open are only the choice that a `no` names, with the id and the count there, and which of several circles
-- of names through the first name on any is told.
pub data Outcome (words : List (List ℕ)) (files : Files) : Effect → Type 0 where
  -- the words are no request
  misplaced : (position : ℕ) → IsMisplaced words position → Outcome words files (writes_alone Usage (usage_line position))
  -- a fault stands in what is asked; the first one is told
  refused : (request : Request) (fault : Fault) → Spells words request → IsFirstFault request files fault → Outcome words files (writes_alone Refused (fault_line fault))
  -- the verdict on a document without a fault: yes, or the first link that some permitted choice breaks
  checked : (registry : Option (List ℕ)) (root api : List ℕ) (always : List (List ℕ)) (r : Rows) (lines : List FlatLine) (verdict : Verdict)
      → Spells words (Check registry root api always) → HasNoFault (Check registry root api always) files
      → IsSubject files registry root api always r lines → IsJudged always r lines verdict
      → Outcome words files (writes_alone (status_of verdict) (report_of lines r.options verdict))
  -- the text of a document at a choice
  built : (registry : Option (List ℕ)) (root api : List ℕ) (names always : List (List ℕ)) (r : Rows) (lines : List FlatLine) (chosen set : List Bool)
      → Spells words (Build registry root api names always) → HasNoFault (Build registry root api names always) files
      → IsBuilt files registry root api names always r lines chosen set → Outcome words files (writes_alone Done (choice_text always r chosen set lines))
  -- the header of what a registry declares at a choice
  declared : (registry api : List ℕ) (names : List (List ℕ)) (r : Rows) (chosen : List Bool) (order : List NameId)
      → Spells words (Header registry api names) → HasNoFault (Header registry api names) files
      → IsDeclared files registry api names r chosen order → Outcome words files (writes_alone Done (header r chosen order))
  -- new tags for the statements of files without a fault
  tagged : (first : ℕ) (names : List (List ℕ)) (pages : Names) → Spells words (Tag first names) → HasNoFault (Tag first names) files
      → TellsPages pages → Outcome words files (puts_tags pages first names (texts_of files names))

-- the report that this link of a document is the first that some choice breaks that a registry permits, with some such choice
pub record TellsPlace (always : List (List ℕ)) (r : Rows) (lines : List FlatLine) (place : Place) (output : List ℕ) : Type 0 where
  pub id : List ℕ
  pub choice : Choice
  pub count : ℕ
  pub judged : IsJudged always r lines (No place id choice count)
  pub output_is : output ≡ report_of lines r.options (No place id choice count)

-- two reports on the document of a request name one place
pub record NameOnePlace (words : List (List ℕ)) (files : Files) (output other : List ℕ) : Type 0 where
  pub registry : Option (List ℕ)
  pub root : List ℕ
  pub api : List ℕ
  pub always : List (List ℕ)
  pub spelled : Spells words (Check registry root api always)
  pub r : Rows
  pub lines : List FlatLine
  pub checked : IsSubject files registry root api always r lines
  pub place : Place
  pub one : TellsPlace always r lines place output
  pub also : TellsPlace always r lines place other

-- what is determined of a fault of a registry: of names that are a circle the first alone
abbrev pub settled : RegistryFault → RegistryFault
settled (NamingCycle names) = NamingCycle (take 1 names)
settled fault = fault

-- and of any fault
abbrev pub determined : Fault → Fault
determined (InRegistry file api fault) = InRegistry file api (settled fault)
determined fault = fault

-- the first fault in what the words ask of the files is told
pub record TellsFirst (words : List (List ℕ)) (files : Files) (fault : Fault) (effect : Effect) : Type 0 where
  pub request : Request
  pub spelled : Spells words request
  pub first : IsFirstFault request files fault
  pub told : effect ≡ writes_alone Refused (fault_line fault)

-- two runs tell of circles of names of one registry, through one first name
pub record NameOneCircle (words : List (List ℕ)) (files : Files) (effect other : Effect) : Type 0 where
  pub file : List ℕ
  pub api : List ℕ
  pub names : List (List ℕ)
  pub others : List (List ℕ)
  pub first : take 1 names ≡ take 1 others
  pub one : TellsFirst words files (InRegistry file api (NamingCycle names)) effect
  pub also : TellsFirst words files (InRegistry file api (NamingCycle others)) other
