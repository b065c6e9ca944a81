-- What a registry declares at a choice of its options: the names that active blocks require, and all that these lead to. What `require` and
-- `remove` blocks do is of the Vulkan registry manual. That a name which is removed comes back where another names it is this tool's own rule.
use Rattle.std.specs.Prelude.{◌≡◌, ℕ, ◌<◌, Bool, true, false, not, ◌&&◌, ◌==◌, List, length, slice_get, slice_index_or, Some}
use Rattle.std.specs.List.{list_any}
use Rattle.vkb_formula.specs.Formulas.{value_of}
use Rattle.vkb_formula.specs.declared.name_table.NameId.{NameId}
use Rattle.reg_registry.specs.Naming.{Names}
use Rattle.reg_registry.specs.Rows.{Rows}
use Rattle.reg_registry.specs.declared.registry.Block.{Block}

-- the block's option is chosen, and what the block depends on holds
abbrev pub is_active : List Bool → Block → Bool
is_active chosen b = slice_index_or chosen b.owner false && value_of chosen b.depends

-- the name at a place is among these
abbrev pub has_name : List NameId → ℕ → Bool
has_name ids place = list_any (λ id. id.0 == place) ids

abbrev pub lists_name : ℕ → Block → Bool
lists_name place b = has_name b.lists place

-- an active block requires the name
abbrev pub is_required : List Block → List Bool → ℕ → Bool
is_required blocks chosen place = list_any (λ b. b.adds && is_active chosen b && lists_name place b) blocks

-- an active block removes the name
abbrev pub is_removed : List Block → List Bool → ℕ → Bool
is_removed blocks chosen place = list_any (λ b. not b.adds && is_active chosen b && lists_name place b) blocks

abbrev pub is_root : List Block → List Bool → ℕ → Bool
is_root blocks chosen place = is_required blocks chosen place && not (is_removed blocks chosen place)

-- A chain of naming that begins with a root leads to the name; a root alone is such a chain.
pub data IsInClosure (r : Rows) (chosen : List Bool) : ℕ → Type 0 where
  root : {place : ℕ} → place < length r.names → is_root r.blocks chosen place ≡ true → IsInClosure r chosen place
  named : {place other : ℕ} → IsInClosure r chosen place → Names r.rows place other → IsInClosure r chosen other

-- the name at a place is in a set, which tells of each name whether it is
abbrev pub IsIn : List Bool → ℕ → Type 0
IsIn set place = slice_get set place ≡ Some true

-- the set tells of each declared name whether it is in the closure
pub record IsClosure (r : Rows) (chosen set : List Bool) : Type 0 where
  pub count : length set ≡ length r.names
  pub has_only : (place : ℕ) → IsIn set place → IsInClosure r chosen place
  pub has_all : (place : ℕ) → IsInClosure r chosen place → IsIn set place
