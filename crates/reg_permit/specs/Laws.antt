-- Choices that are always permitted, and that each is permitted or not: the laws of this crate.
use Rattle.std.specs.Prelude.{◌≡◌, ◌⊎◌, ℕ, Bool, List}
use Rattle.reg_registry.specs.Laws.{AreWithin}
use Rattle.reg_registry.specs.Naming.{AreSound}
use Rattle.reg_registry.specs.Rows.{Rows, bare_rows}
use Rattle.reg_closure.specs.Closure.{IsIn}
use Rattle.reg_permit.specs.Permitted.{IsLowest, IsPermitted}

-- the choice that has the feature of the lowest number and nothing else is permitted
abbrev pub LowestIsPermitted : Type 0
LowestIsPermitted =
    (r : Rows) (chosen : List Bool) (lowest : ℕ) → AreSound r → IsLowest r.option_rows lowest → IsIn chosen lowest
    → ((place : ℕ) → IsIn chosen place → place ≡ lowest) → IsPermitted r chosen

-- every choice of options that ask for nothing is permitted
abbrev pub BareIsFree : Type 0
BareIsFree = (options : List (List ℕ)) (chosen : List Bool) → IsPermitted (bare_rows options) chosen

-- a choice is permitted or it isn't, where what the rows name is there
abbrev pub PermittedOrNot : Type 0
PermittedOrNot = (r : Rows) (chosen : List Bool) → AreWithin r.rows → IsPermitted r chosen ⊎ (IsPermitted r chosen → ⊥)
