-- Bounds of the places of a state. No public contract names it.
use Rattle.std.specs.Prelude.{ℕ, ◌<◌, ◌≤◌}
use Rattle.std.specs.List.{AllByRecursion}
use Rattle.reg_reader.specs.Within.{Within, AreWithin}
use Rattle.reg_reader.specs.Machine.{State}
use Rattle.reg_reader.specs.declared.phase.Phase.{Phase}
use Rattle.reg_reader.specs.declared.phase.Phase.TheVariants as phase
use Rattle.reg_reader.specs.declared.reader.Open.{Open}

abbrev pub IsPhaseWithin : ℕ → Phase → Type 0
IsPhaseWithin n phase.Outside = Unit {0}
IsPhaseWithin n (phase.Text run) = Within run.reference n
IsPhaseWithin n phase.Markup = 1 ≤ n
IsPhaseWithin n (phase.Comment from) = from < n
IsPhaseWithin n phase.Declaration = 2 ≤ n
IsPhaseWithin n (phase.Name from) = Unit {0}
IsPhaseWithin n phase.Tag = Unit {0}
IsPhaseWithin n (phase.Attribute from) = from ≤ n
IsPhaseWithin n (phase.Equals name) = (name.from ≤ name.to) × (name.to ≤ n)
IsPhaseWithin n (phase.Quote name) = (name.from ≤ name.to) × (name.to ≤ n)
IsPhaseWithin n (phase.Value name quote run) = (name.from ≤ name.to) × (name.to ≤ n) × Within run.reference n
IsPhaseWithin n phase.ValueEnd = Unit {0}
IsPhaseWithin n phase.Slash = Unit {0}
IsPhaseWithin n (phase.EndName from) = from ≤ n
IsPhaseWithin n phase.EndWhite = Unit {0}

abbrev pub IsOpenWithin : ℕ → Open → Type 0
IsOpenWithin n top = (top.name.from ≤ top.name.to) × (top.name.to ≤ n) × AreWithin n top.attributes

-- all places of a state lie before a place
pub record IsWithin (n : ℕ) (s : State) : Type 0 where
  pub phase : IsPhaseWithin n s.phase
  pub opens : AllByRecursion (IsOpenWithin n) s.opens
