-- What is answered for a registry, by what its elements come to.
use Rattle.std.specs.Prelude.{◌≡◌, ◌≢◌, ℕ, [], Result, Ok, Err, ⊤}
use Rattle.reg_registry.specs.Naming.{IsNamingCycle, IsOnCircle}
use Rattle.reg_registry.specs.Rows.{Rows}
use Rattle.reg_forms.specs.declared.forms.Forms.{Forms}
use Rattle.reg_tables.specs.Bits.{Readings}
use Rattle.reg_tables.specs.Tables.{features_in}
use Rattle.reg_tables.specs.Words.{AreReadings}
use Rattle.reg_rows.specs.Faults.{IsFirst, faults_of}
use Rattle.reg_rows.specs.Rows.{rows_of}
use Rattle.reg_rows.specs.declared.fault.RowFault.TheVariants.{Bad, Memory, NamingCycle, NoFeature}
use Rattle.reg_rows.specs.declared.fault.RowFault.{RowFault}

-- there is one way to read the `depends` texts
abbrev pub AreReadOnce : Forms → Type 0
AreReadOnce f = (readings other : Readings) → AreReadings f readings → AreReadings f other → other ≡ readings

-- nothing is wrong with it
pub record IsAccepted (f : Forms) (readings : Readings) : Type 0 where
  pub read : AreReadings f readings
  pub sound : faults_of f readings ≡ []
  pub offered : features_in f ≢ []

-- The first fault, or that no feature is there, or that names are a circle, or else the rows. Of several circles through the first name
-- any may be told, and want of memory may be told in the place of all.
abbrev pub IsAnswer : Forms → Result Rows RowFault → Type 0
IsAnswer f (Ok rows) =
    (readings : Readings) × IsAccepted f readings × (rows ≡ rows_of f readings) × ((place : ℕ) → IsOnCircle rows.rows place → ⊥)
IsAnswer f (Err (Bad code at word)) =
    (readings : Readings) × AreReadings f readings × IsFirst (faults_of f readings) (record { code = code; at = at; word = word })
IsAnswer f (Err NoFeature) = (readings : Readings) × AreReadings f readings × (faults_of f readings ≡ []) × (features_in f ≡ [])
IsAnswer f (Err (NamingCycle names)) = (readings : Readings) × IsAccepted f readings × IsNamingCycle (rows_of f readings) names
IsAnswer f (Err Memory) = ⊤
