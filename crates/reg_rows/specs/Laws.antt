-- What is answered for any registry: the laws of this crate.
use Rattle.std.specs.Prelude.{◌≡◌, List, Result, Ok, Err, ⊤}
use Rattle.vkb_bytes.specs.First.{first_of}
use Rattle.reg_forms.specs.declared.forms.Forms.{Forms}
use Rattle.reg_registry.specs.Laws.{AreWithin}
use Rattle.reg_registry.specs.Rows.{Rows}
use Rattle.reg_rows.specs.Answer.{IsAnswer}
use Rattle.reg_rows.specs.declared.fault.RowFault.TheVariants.{Bad, Memory, NamingCycle, NoFeature}
use Rattle.reg_rows.specs.declared.fault.RowFault.{RowFault}

-- it isn't want of memory
abbrev pub IsTold : Result Rows RowFault → Type 0
IsTold (Ok rows) = ⊤
IsTold (Err (Bad code at word)) = ⊤
IsTold (Err NoFeature) = ⊤
IsTold (Err (NamingCycle names)) = ⊤
IsTold (Err Memory) = ⊥

-- whatever a registry comes to, there is an answer
abbrev pub EachIsAnswered : Type 0
EachIsAnswered = (f : Forms) → (answer : Result Rows RowFault) × IsTold answer × IsAnswer f answer

-- two faults are the same, or circles through one name
abbrev pub IsSameFault : RowFault → RowFault → Type 0
IsSameFault (NamingCycle names) (NamingCycle others) = first_of names ≡ first_of others
IsSameFault fault other = fault ≡ other

abbrev pub IsSameAnswer : Result Rows RowFault → Result Rows RowFault → Type 0
IsSameAnswer (Err fault) (Err other) = IsSameFault fault other
IsSameAnswer answer other = answer ≡ other

-- and there is one, but for which of several circles through the first name on any is told
abbrev pub AnswersAreOne : Type 0
AnswersAreOne =
    (f : Forms) (answer other : Result Rows RowFault) → IsTold answer → IsTold other → IsAnswer f answer → IsAnswer f other → IsSameAnswer answer other

-- what the rows of a registry name is there
abbrev pub RowsAreWithin : Type 0
RowsAreWithin = (f : Forms) (r : Rows) → IsAnswer f (Ok r) → AreWithin r.rows
