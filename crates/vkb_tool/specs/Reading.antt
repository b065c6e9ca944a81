-- What is found among the words while they are read: for private contracts alone. No public contract names it.
use Rattle.std.specs.Prelude.{◌≡◌, ◌≢◌, ℕ, ◌+◌, ◌-◌, ◌<◌, ◌≤◌, List, ◌++◌, length, take, map, slice_get, codes, Option, Some, None, All, Bool, IsTrue, ⊤, if◌then◌else◌}
use Rattle.std.specs.Str.{bytes_eq}
use Rattle.doc_cond.specs.Lines.{is_run}
use Rattle.vkb_formula.specs.Names.{AreDifferent}
use Rattle.vkb_tool.specs.declared.words.WordFault.{WordFault}
use Rattle.vkb_tool.specs.declared.words.WordFault.TheVariants.{Usage, Memory}
use Rattle.vkb_tool.specs.Words.{AreFileNames, IsApiName, IsAttribute, IsFileName, IsOptionWord, WritesFirst, attribute_word, is_api_byte}

-- a file's name stands at an index, from 0
abbrev pub IsNamed : List (List ℕ) → ℕ → List ℕ → Type 0
IsNamed words at name = (slice_get words at ≡ Some name) × IsFileName name

-- the file of a registry by its word
abbrev pub registry_by : List ℕ → Option (List ℕ)
registry_by word = if bytes_eq word (codes "-") then None else Some word

-- the word of an API goes with the word of a registry: a `-` with a `-`, and a name with any other
abbrev pub goes_with : List ℕ → List ℕ → Bool
goes_with registry api = if bytes_eq registry (codes "-") then bytes_eq api (codes "-") else is_run is_api_byte api

-- such a word stands fourth
abbrev pub IsApiAt : List (List ℕ) → List ℕ → List ℕ → Type 0
IsApiAt words registry api = (slice_get words 3 ≡ Some api) × IsTrue (goes_with registry api)

-- the words are the first so many and then those that set these attributes
pub record SetsAttributes (from : ℕ) (words names : List (List ℕ)) : Type 0 where
  pub names_are : All IsAttribute names
  pub words_are : words ≡ take from words ++ map attribute_word names

-- the word at a position, from 1, is the first behind so many that sets no attribute
pub record IsNoAttribute (from : ℕ) (words : List (List ℕ)) (position : ℕ) : Type 0 where
  pub names : List (List ℕ)
  pub names_are : All IsAttribute names
  pub before : take (position - 1) words ≡ take from words ++ map attribute_word names
  pub behind : from < position
  pub within : position ≤ length words
  pub here : (name : List ℕ) → IsAttribute name → slice_get words (position - 1) ≢ Some (attribute_word name)

abbrev pub IsAttributeFault : ℕ → List (List ℕ) → WordFault → Type 0
IsAttributeFault from words (Usage position) = IsNoAttribute from words position
IsAttributeFault from words Memory = ⊤

-- a word from which tags may be numbered stands at an index, from 0
abbrev pub IsNumbered : List (List ℕ) → ℕ → ℕ → Type 0
IsNumbered words at first = (word : List ℕ) × (slice_get words at ≡ Some word) × WritesFirst word first

-- a file's name stands at an index, from 0, that isn't among others
abbrev pub IsNew : List (List ℕ) → List (List ℕ) → ℕ → List ℕ → Type 0
IsNew words others at name = IsNamed words at name × ((place : ℕ) → slice_get others place ≢ Some name)

-- the words are the first two and then the names of these files
pub record NamesFiles (words names : List (List ℕ)) : Type 0 where
  pub names_are : AreFileNames names
  pub words_are : words ≡ take 2 words ++ names

-- the word at a position, from 1, is the first from the third on that isn't another file's name
pub record IsNoFile (words : List (List ℕ)) (position : ℕ) : Type 0 where
  pub names : List (List ℕ)
  pub named : All IsFileName names
  pub different : AreDifferent names
  pub before : take (position - 1) words ≡ take 2 words ++ names
  pub behind : 3 ≤ position
  pub within : position ≤ length words
  pub here : (name : List ℕ) → ¬ IsNew words names (position - 1) name

abbrev pub IsFileFault : List (List ℕ) → WordFault → Type 0
IsFileFault words (Usage position) = IsNoFile words position
IsFileFault words Memory = ⊤

-- a file's name that isn't `-` stands second
abbrev pub IsRegistryNamed : List (List ℕ) → List ℕ → Type 0
IsRegistryNamed words name = IsNamed words 1 name × (name ≢ codes "-")

-- the name of an API stands third
abbrev pub IsApiThird : List (List ℕ) → List ℕ → Type 0
IsApiThird words api = (slice_get words 2 ≡ Some api) × IsApiName api

-- behind so many words these for options stand, and then none stands or another word
pub record LeadsOptions (from : ℕ) (words names : List (List ℕ)) : Type 0 where
  pub names_are : All IsOptionWord names
  pub words_are : take (from + length names) words ≡ take from words ++ names
  pub within : from + length names ≤ length words
  pub next : (name : List ℕ) → IsOptionWord name → slice_get words (from + length names) ≢ Some name
