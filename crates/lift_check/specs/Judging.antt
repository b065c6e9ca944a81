-- For private contracts: a verdict by the first link that breaks.
use Rattle.std.specs.Prelude.{◌≡◌, ℕ, List, None, Option, Some, length, slice_get}
use Rattle.vkb_formula.specs.declared.pool.NodeId.{NodeId}
use Rattle.vkb_formula.specs.declared.pool.PoolNode.{PoolNode}
use Rattle.lift_survey.specs.declared.LiftedMark.{LiftedMark}
use Rattle.lift_ask.specs.declared.breaking.Broken.{Broken}
use Rattle.lift_ask.specs.Breaking.{IsFound}
use Rattle.lift_check.specs.declared.Verdict.{Verdict}
use Rattle.lift_check.specs.declared.Verdict.TheVariants.{No, Yes}

-- yes with the number of links where none breaks, else no with the first
abbrev pub IsVerdictBy : List (List ℕ) → List LiftedMark → Option Broken → Verdict → Type 0
IsVerdictBy ids links None verdict = verdict ≡ Yes (length links)
IsVerdictBy ids links (Some broken) verdict =
    (link : LiftedMark) × (id : List ℕ) × (slice_get links broken.link ≡ Some link) × (slice_get ids broken.id.0 ≡ Some id)
    × (verdict ≡ No link.place id broken.set broken.count)

-- the verdict by the first link that breaks at a set of so many variables at which the rule is true
abbrev pub IsAsked : List PoolNode → NodeId → ℕ → List (List ℕ) → List LiftedMark → List LiftedMark → Verdict → Type 0
IsAsked nodes rule vars ids anchors links verdict =
    (broken : Option Broken) × IsFound nodes rule vars anchors links broken × IsVerdictBy ids links broken verdict
