-- The named faults, each with its place.
use Rattle.std.specs.Prelude.{ℕ, List}
use Rattle.doc_tree.specs.Fault.{Fault as DocumentFault}
use Rattle.vkb_tool.specs.declared.registry.RegistryFault.{RegistryFault}

-- Lines count from 1.
pub data Fault : Type 0 where
  -- the file of a registry, by its name, is no registry for an API
  InRegistry : (file api : List ℕ) (fault : RegistryFault) → Fault
  -- a fault of the walk over a document, or of a file that is read to be tagged
  InDocument : (fault : DocumentFault) → Fault
  -- the word is no option of a registry: the first such word
  UnknownOption : (word : List ℕ) → Fault
  -- the words name a choice that isn't permitted: the first option whose rule doesn't hold
  NotPermitted : (option : List ℕ) → Fault
  -- a line of the file has a malformed tag
  BadTag : (file : List ℕ) (line : ℕ) → Fault
  -- so many statements want a tag, and only so many numbers are left
  NoNumber : (needed left : ℕ) → Fault
