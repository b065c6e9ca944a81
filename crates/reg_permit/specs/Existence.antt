-- That a choice is permitted, or that there is a first option whose rule it breaks: a law of this crate.
use Rattle.std.specs.Prelude.{◌⊎◌, ℕ, Bool, List}
use Rattle.vkb_bytes.specs.First.{IsFirst}
use Rattle.reg_registry.specs.Laws.{AreWithin}
use Rattle.reg_registry.specs.Rows.{Rows}
use Rattle.reg_permit.specs.Permitted.{BreaksRule, IsPermitted}

-- where what the rows name is there
abbrev pub PermittedOrFirst : Type 0
PermittedOrFirst = (r : Rows) (chosen : List Bool) → AreWithin r.rows → IsPermitted r chosen ⊎ ((place : ℕ) × IsFirst (BreaksRule r chosen) place)
