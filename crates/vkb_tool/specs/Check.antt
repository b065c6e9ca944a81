-- What is read for a check or a text, and what an answer to a check says: for private contracts alone.
use Rattle.std.specs.Prelude.{◌≡◌, ◌≢◌, ℕ, ◌<◌, List, length, Option, Some, None, Result, Ok, Err, All, ⊤}
use Rattle.vkb_outside.specs.Faults.{Rose}
use Rattle.vkb_outside.specs.Shelf.{Files}
use Rattle.reg_registry.specs.Rows.{Rows, bare_rows}
use Rattle.doc_tree.specs.Flat.{FlatLine}
use Rattle.doc_tree.specs.declared.Document.{Document}
use Rattle.doc_build.specs.Choices.{free_names}
use Rattle.lift_check.specs.Verdict.{IsJudged}
use Rattle.lift_check.specs.declared.Verdict.{Verdict}
use Rattle.lift_check.specs.declared.Verdict.TheVariants.{Yes, No}
use Rattle.doc_tree.specs.declared.fault.DocFault.{DocFault}
use Rattle.doc_tree.specs.declared.fault.DocFault.TheVariants.{ReadFault}
use Rattle.vkb_tool.specs.declared.answer.Trouble.{Trouble}
use Rattle.vkb_tool.specs.declared.answer.Trouble.TheVariants.{ReadFailed, NoMemory}
use Rattle.vkb_tool.specs.declared.status.Status.TheVariants.{Refused}
use Rattle.vkb_tool.specs.declared.registry.Unread.{Unread}
use Rattle.vkb_tool.specs.declared.registry.Unread.TheVariants.{Faulty, Troubled}
use Rattle.vkb_tool.specs.Fault.{Fault}
use Rattle.vkb_tool.specs.Registry.{IsRegistry, IsRegistryFault}
use Rattle.vkb_tool.specs.declared.words.Request.{Request}
use Rattle.vkb_tool.specs.Outcome.{Effect, Outcome, status_of, writes_alone}
use Rattle.vkb_tool.specs.Words.{Spells}
use Rattle.vkb_tool.specs.Report.{fault_line, report_of}

-- whatever words ask for this, they and the files come to the effect
abbrev pub Carries : Request → Files → Effect → Type 0
Carries request files effect = (words : List (List ℕ)) → Spells words request → Outcome words files effect

-- a first fault is told
pub record TellsFault (IsFirst : Fault → Type 0) (effect : Effect) : Type 0 where
  pub fault : Fault
  pub first : IsFirst fault
  pub told : effect ≡ writes_alone Refused (fault_line fault)

-- the verdict on a document over a registry is told, where some names are always set
pub record TellsVerdict (always : List (List ℕ)) (r : Rows) (lines : List FlatLine) (effect : Effect) : Type 0 where
  pub verdict : Verdict
  pub is : IsJudged always r lines verdict
  pub told : effect ≡ writes_alone (status_of verdict) (report_of lines r.options verdict)

-- the registry that was read, or where there is none the bare one of a document
abbrev pub IsOver : Option Rows → List (List ℕ) → List FlatLine → Rows → Type 0
IsOver None always lines r = r ≡ bare_rows (free_names always lines)
IsOver (Some own) always lines r = r ≡ own

-- the registry that a request names was read, or it names none
abbrev pub IsOwn : Files → Option (List ℕ) → List ℕ → Option Rows → Type 0
IsOwn files None api own = own ≡ None
IsOwn files (Some name) api own = (r : Rows) × (own ≡ Some r) × IsRegistry (files name) api r

-- what is answered for what is found under the name of a registry, for an API
abbrev pub ReadsRegistry : Option (List ℕ) → List ℕ → Result Rows Unread → Type 0
ReadsRegistry found api (Ok r) = IsRegistry found api r
ReadsRegistry found api (Err (Faulty fault)) = IsRegistryFault found api fault
ReadsRegistry found api (Err (Troubled trouble)) = ⊤

-- no read fails where bytes are looked at that were read
abbrev pub IsSteadyRead : Result Rows Unread → Type 0
IsSteadyRead (Ok r) = ⊤
IsSteadyRead (Err (Faulty fault)) = ⊤
IsSteadyRead (Err (Troubled ReadFailed)) = ⊥
IsSteadyRead (Err (Troubled NoMemory)) = ⊤

-- the count of failed reads after that
abbrev pub CountsRegistry : ℕ → ℕ → Result Rows Unread → Type 0
CountsRegistry before now (Ok r) = now ≡ before
CountsRegistry before now (Err (Faulty fault)) = now ≡ before
CountsRegistry before now (Err (Troubled ReadFailed)) = Rose before now
CountsRegistry before now (Err (Troubled NoMemory)) = now ≡ before

-- the file of each line of a document is there
abbrev pub AreFilesThere : Document → Type 0
AreFilesThere d = All (λ line. line.line.file < length d.files) d.lines

-- the line that a verdict names is there, and its choice has a value for each option
abbrev pub NamesWithin : ℕ → ℕ → Verdict → Type 0
NamesWithin lines options (Yes links) = ⊤
NamesWithin lines options (No place id choice count) = (place.line < lines) × (length choice ≡ options)

-- why a fault of a document isn't told: it is a failed read, or there was no memory
abbrev pub IsTroubleOf : DocFault → Trouble → Type 0
IsTroubleOf fault ReadFailed = fault ≡ ReadFault
IsTroubleOf fault NoMemory = fault ≢ ReadFault
