-- What an element of the registry says, piece by piece.
use Rattle.std.specs.Prelude.{ℕ, Bool, List, [], ◌∷◌, Option, map}
use Rattle.reg_reader.specs.Views.{Element}
use Rattle.reg_forms.specs.declared.forms.Declaration.{Declaration}
use Rattle.reg_forms.specs.declared.forms.EnumForm.{EnumForm}
use Rattle.reg_forms.specs.declared.forms.Fault.{Fault}
use Rattle.reg_forms.specs.declared.forms.GroupForm.{GroupForm}
use Rattle.reg_forms.specs.declared.forms.Mention.{Mention}
use Rattle.reg_forms.specs.declared.forms.RowCode.{RowCode}
use Rattle.reg_forms.specs.declared.forms.RowCode.TheVariants.{BadAttribute}

pub data Item : Type 0 where
  -- something is wrong with it
  wrong : Fault → Item
  tags : List ℕ → Item
  -- a type, a constant or a command
  declares : Declaration → Item
  -- a block of enumerants, or of the constants
  groups : GroupForm → Item
  -- an enumerant
  numbers : EnumForm → Item
  -- a feature or an extension
  offers : (place : ℕ) (name : List ℕ) (version : Option (ℕ × ℕ)) (depends : Option (List ℕ)) → Item
  -- a block of the option before it
  opens : (place : ℕ) (adds : Bool) (depends : Option (List ℕ)) → Item
  -- a name in the block before it
  lists : Mention → Item
  -- a name besides
  mentions : Mention → Item

-- a fault of an element
abbrev pub wrong_at : RowCode → Element → List ℕ → Item
wrong_at code e word = Item.wrong (record { code = code; at = e.place; word = word })

abbrev pub bad_at : Element → List ℕ → Item
bad_at e word = wrong_at BadAttribute e word

-- what an element says, where no word tells of something bad in it: then it says nothing else
abbrev pub unless_bad : Element → List (List ℕ) → List Item → List Item
unless_bad e [] items = items
unless_bad e (word ∷ words) items = map (bad_at e) (word ∷ words)
