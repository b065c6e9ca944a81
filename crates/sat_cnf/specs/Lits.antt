-- Literals: a variable v is the number 2v, and its negation 2v + 1.
use Rattle.std.specs.Prelude.{ℕ, ◌+◌, ◌-◌, ◌/◌, ◌%◌, Bool, ◌==◌, if◌then◌else◌}
use Rattle.sat_cnf.specs.declared.lit.Lit.{Lit}

abbrev pub variable_of : Lit → ℕ
variable_of lit = lit.0 / 2

abbrev pub is_negated : Lit → Bool
is_negated lit = lit.0 % 2 == 1

-- the other literal of the same variable
abbrev pub negation_of : Lit → Lit
negation_of lit = record { 0 = if is_negated lit then lit.0 - 1 else lit.0 + 1 }
