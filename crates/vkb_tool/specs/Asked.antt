-- What is asked of the document of a root, over a registry or none: for private contracts alone.
use Rattle.std.specs.Prelude.{ℕ, List, Option}
use Rattle.doc_tree.specs.Flat.{FlatLine}
use Rattle.reg_registry.specs.Rows.{Rows}
use Rattle.vkb_tool.specs.declared.document.Task.{Task}
use Rattle.vkb_tool.specs.declared.document.Task.TheVariants as asks
use Rattle.vkb_tool.specs.declared.words.Request.{Request}
use Rattle.vkb_tool.specs.declared.words.Request.TheVariants.{Build, Check}
use Rattle.vkb_tool.specs.Check.{IsOver, TellsVerdict}
use Rattle.vkb_tool.specs.Declaring.{TellsAtChoice, TellsText}
use Rattle.vkb_tool.specs.Outcome.{Effect}

-- the request for it
abbrev pub request_of : Task → Option (List ℕ) → List ℕ → List ℕ → List (List ℕ) → Request
request_of asks.Check registry root api always = Check registry root api always
request_of (asks.Build names) registry root api always = Build registry root api names always

-- what is told of a document whose walk has no fault, over a registry
abbrev pub TellsFor : Task → List (List ℕ) → Rows → List FlatLine → Effect → Type 0
TellsFor asks.Check always r lines effect = TellsVerdict always r lines effect
TellsFor (asks.Build names) always r lines effect = TellsAtChoice r names (TellsText always r lines) effect

-- what is told of it, over the registry that was read or a bare one
abbrev pub TellsOver : Task → List (List ℕ) → Option Rows → List FlatLine → Effect → Type 0
TellsOver task always own lines effect = (r : Rows) × IsOver own always lines r × TellsFor task always r lines effect
