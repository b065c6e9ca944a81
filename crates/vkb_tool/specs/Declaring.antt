-- What is told of words for options: for private contracts alone.
use Rattle.std.specs.Prelude.{◌≡◌, ◌⊎◌, Bool, List, ℕ, map}
use Rattle.vkb_formula.specs.declared.name_table.NameId.{NameId}
use Rattle.doc_tree.specs.Flat.{FlatLine}
use Rattle.reg_registry.specs.Rows.{Rows}
use Rattle.reg_closure.specs.Closure.{IsClosure}
use Rattle.reg_closure.specs.Orders.{IsOrder}
use Rattle.reg_permit.specs.Choices.{IsChoice}
use Rattle.hdr_writer.specs.Headers.{header}
use Rattle.doc_build.specs.Built.{choice_text}
use Rattle.vkb_tool.specs.declared.status.Status.TheVariants.{Done}
use Rattle.vkb_tool.specs.Check.{TellsFault}
use Rattle.vkb_tool.specs.Outcome.{Effect, IsFaultAt, writes_alone}

-- words name no permitted choice, and that is told, or something is told at the choice that they name
abbrev pub TellsAtChoice : Rows → List (List ℕ) → (List Bool → Effect → Type 0) → Effect → Type 0
TellsAtChoice r names Tells effect = TellsFault (IsFaultAt r names) effect ⊎ ((chosen : List Bool) × IsChoice r names chosen × Tells chosen effect)

-- the header of the closure at a choice is told
pub record TellsHeader (r : Rows) (chosen : List Bool) (effect : Effect) : Type 0 where
  pub set : List Bool
  pub closure : IsClosure r chosen set
  pub order : List NameId
  pub ordered : IsOrder r.rows set (map (λ id. id.0) order)
  pub told : effect ≡ writes_alone Done (header r chosen order)

-- the text of a document at a choice is told, where some names are always set
pub record TellsText (always : List (List ℕ)) (r : Rows) (lines : List FlatLine) (chosen : List Bool) (effect : Effect) : Type 0 where
  pub set : List Bool
  pub closure : IsClosure r chosen set
  pub told : effect ≡ writes_alone Done (choice_text always r chosen set lines)
