-- What is kept while tables of names and blocks are built, for private contracts alone. No public contract names it.
use Rattle.std.specs.Prelude.{◌≡◌, ◌<◌, ◌==◌, ℕ, Bool, false, List, [], ◌∷◌, Option, length, slice_index, slice_index_or}
use Rattle.std.specs.Option.{option_map_or}
use Rattle.reg_forms.specs.declared.forms.Forms.{Forms}
use Rattle.vkb_formula.specs.Names.{with_name}
use Rattle.vkb_formula.specs.declared.name_table.NameId.{NameId}
use Rattle.reg_rows.specs.Rows.{listed_at, option_place}

-- a table after names were put in, one after another
abbrev pub with_names : List (List ℕ) → List (List ℕ) → List (List ℕ)
with_names table [] = table
with_names table (name ∷ names) = with_names (with_name name table) names

-- where each option that stands in the text has its place among the options
pub record ArePlaces (f : Forms) (places : List ℕ) : Type 0 where
  pub each_has_one : length places ≡ length f.options
  pub are : (place : ℕ) → place < length f.options → slice_index places place ≡ option_place f place

-- what each block lists
pub record AreLists (f : Forms) (lists : List (List NameId)) : Type 0 where
  pub each_has_one : length lists ≡ length f.blocks
  pub are : (place : ℕ) → place < length f.blocks → slice_index_or lists place [] ≡ listed_at f place

-- the name was listed last by this block
abbrev pub is_mark : ℕ → Option ℕ → Bool
is_mark block last = option_map_or (λ other. other == block) last false
