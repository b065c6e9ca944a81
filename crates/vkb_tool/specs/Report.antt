-- The text of reports and fault lines. Numbers are decimal, and each line ends in a line feed.
use Rattle.std.specs.Prelude.{ℕ, ◌+◌, ◌==◌, Option, Some, None, List, [], ◌∷◌, ◌++◌, codes, decimal, slice_get, if◌then◌else◌}
use Rattle.std.specs.List.{flat_map}
use Rattle.doc_tree.specs.Fault as document
use Rattle.doc_tree.specs.Flat.{FlatLine}
use Rattle.doc_build.specs.declared.Place.{Place}
use Rattle.doc_build.specs.Choices.{chosen_of}
use Rattle.lift_check.specs.declared.Verdict.{Verdict}
use Rattle.lift_check.specs.declared.Verdict.TheVariants.{Yes, No}
use Rattle.reg_forms.specs.declared.forms.RowCode.{RowCode}
use Rattle.reg_forms.specs.declared.forms.RowCode.TheVariants.{BadAttribute, ApiType, BadExpression, DuplicateName, UnknownName, ValueRange, ValueClash, AliasCircle, NameLimit as RowLimit}
use Rattle.vkb_tool.specs.declared.registry.RegistryFault.{RegistryFault}
use Rattle.vkb_tool.specs.declared.registry.RegistryFault.TheVariants as registry
use Rattle.vkb_tool.specs.Fault.{Fault, BadTag, InDocument, InRegistry, NoNumber, NotPermitted, UnknownOption}

-- what a line of a report ends in
abbrev pub line_feed : List ℕ
line_feed = 10 ∷ []

-- the words are no request: the position of the first word that has no place
abbrev pub usage_line : ℕ → List ℕ
usage_line position = codes "usage " ++ decimal position ++ line_feed

-- the number of a statement, where there is one
abbrev pub statement_text : ℕ → List ℕ
statement_text statement = if statement == 0 then [] else codes "/" ++ decimal statement

-- what follows the name of a file in a place: the line's number with the statement, and the column; columns count from 1
abbrev pub spot_in : ℕ → ℕ → ℕ → List ℕ
spot_in number statement at = codes ":" ++ decimal number ++ statement_text statement ++ codes ":" ++ decimal (at + 1)

-- a place in the line of a document that stands there
abbrev pub place_in : Option FlatLine → Place → List ℕ
place_in None place = []
place_in (Some line) place = line.file ++ spot_in line.number place.statement place.at

-- a place in a document
abbrev pub place_text : List FlatLine → Place → List ℕ
place_text lines place = place_in (slice_get lines place.line) place

-- the line for a chosen option
abbrev pub with_line : List ℕ → List ℕ
with_line name = codes "with " ++ name ++ line_feed

-- the lines on a link that hasn't exactly one anchor
abbrev pub broken_lines : List FlatLine → Place → List ℕ → ℕ → List ℕ
broken_lines lines place id count = codes "no " ++ place_text lines place ++ line_feed ++ id ++ codes " " ++ decimal count ++ line_feed

-- the report of a verdict on a document, by the names of the options
abbrev pub report_of : List FlatLine → List (List ℕ) → Verdict → List ℕ
report_of lines options (Yes links) = codes "yes " ++ decimal links ++ line_feed
report_of lines options (No place id choice count) = broken_lines lines place id count ++ flat_map with_line (chosen_of options choice)

-- the report of new tags: how many there are
abbrev pub tagged_line : ℕ → List ℕ
tagged_line count = codes "tagged " ++ decimal count ++ line_feed

-- the line of a fault of a file, by the code of the fault
abbrev pub file_fault_line : List ℕ → List ℕ → List ℕ
file_fault_line code file = codes "refused " ++ code ++ codes " " ++ file ++ line_feed

-- the line of a fault at a line of a file, from 1
abbrev pub line_fault_line : List ℕ → List ℕ → ℕ → List ℕ
line_fault_line code file line = codes "refused " ++ code ++ codes " " ++ file ++ codes ":" ++ decimal line ++ line_feed

-- the line of a fault in the words for options, by its code
abbrev pub word_fault_line : List ℕ → List ℕ → List ℕ
word_fault_line code word = codes "refused " ++ code ++ codes " " ++ word ++ line_feed

-- the line of a fault of a document
abbrev pub document_fault_line : document.Fault → List ℕ
document_fault_line (document.Missing file) = file_fault_line (codes "Missing") file
document_fault_line (document.TooLarge file) = file_fault_line (codes "TooLarge") file
document_fault_line (document.IncludeDepth file line) = line_fault_line (codes "IncludeDepth") file line
document_fault_line (document.DocTooLong file line) = line_fault_line (codes "DocTooLong") file line
document_fault_line (document.NameLimit file line) = line_fault_line (codes "NameLimit") file line
document_fault_line (document.BadCondition file line) = line_fault_line (codes "BadCondition") file line
document_fault_line (document.Unbalanced file line) = line_fault_line (codes "Unbalanced") file line
document_fault_line (document.CondDepth file line) = line_fault_line (codes "CondDepth") file line

-- the name of the code of a fault of rows
abbrev pub code_name : RowCode → List ℕ
code_name BadAttribute = codes "BadAttribute"
code_name ApiType = codes "ApiType"
code_name BadExpression = codes "BadExpression"
code_name DuplicateName = codes "DuplicateName"
code_name UnknownName = codes "UnknownName"
code_name ValueRange = codes "ValueRange"
code_name ValueClash = codes "ValueClash"
code_name AliasCircle = codes "AliasCircle"
code_name RowLimit = codes "NameLimit"

-- the line of a fault of a file, by its code, with items behind the name of the file
abbrev pub items_line : List ℕ → List ℕ → List (List ℕ) → List ℕ
items_line code file items = codes "refused " ++ code ++ codes " " ++ file ++ flat_map (λ item. codes " " ++ item) items ++ line_feed

-- the line of a fault of the file of a registry, for an API; a place is told in bytes from 0
abbrev pub registry_fault_line : List ℕ → List ℕ → RegistryFault → List ℕ
registry_fault_line file api registry.Missing = items_line (codes "Missing") file []
registry_fault_line file api registry.TooLarge = items_line (codes "TooLarge") file []
registry_fault_line file api (registry.BadMarkup at) = items_line (codes "BadMarkup") file (decimal at ∷ [])
registry_fault_line file api (registry.TooDeep at) = items_line (codes "TooDeep") file (decimal at ∷ [])
registry_fault_line file api (registry.BadRow code at word) = items_line (code_name code) file (decimal at ∷ word ∷ [])
registry_fault_line file api registry.NoFeature = items_line (codes "NoFeature") file (api ∷ [])
registry_fault_line file api (registry.NamingCycle names) = items_line (codes "NamingCycle") file names

-- the line of a fault
abbrev pub fault_line : Fault → List ℕ
fault_line (InRegistry file api fault) = registry_fault_line file api fault
fault_line (InDocument fault) = document_fault_line fault
fault_line (UnknownOption word) = word_fault_line (codes "UnknownOption") word
fault_line (NotPermitted option) = word_fault_line (codes "NotPermitted") option
fault_line (BadTag file line) = line_fault_line (codes "BadTag") file line
fault_line (NoNumber needed left) = codes "refused NoNumber " ++ decimal needed ++ codes " " ++ decimal left ++ line_feed
