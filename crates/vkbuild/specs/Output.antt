-- A stream of the system as a sink.
use Rattle.std.specs.Prelude.{◌≡◌, ℕ, List, ◌++◌, Option, refl}
use Rattle.std.specs.Io.KnownBytes.{Appends}
use Rattle.std.specs.Coded.{Coded, code_by, coded×, coded_ℕ}

-- the stream, and how often a write to it failed
pub record Output (W : Type 0) : Type 0 where
  pub stream : W
  pub faults : ℕ

-- it is stored as the pair of its fields
abbrev pub output_code : {W : Type 0} → Coded W → Coded (Output W)
output_code {W} stream =
    code_by (W × ℕ) (coded× stream coded_ℕ) (λ o. (o.stream, o.faults)) (λ p. record { stream = p.0; faults = p.1 }) (λ _. refl)

-- a prefix of these bytes went to the known ones
abbrev pub AppendsPrefix : Option (List ℕ) → Option (List ℕ) → List ℕ → Type 0
AppendsPrefix old new bytes = (front back : List ℕ) × (bytes ≡ front ++ back) × Appends old new front
