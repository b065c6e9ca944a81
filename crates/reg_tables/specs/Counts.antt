-- Names that are counted up to what a table holds, for private contracts alone. No public contract names it.
use Rattle.std.specs.Prelude.{◌≡◌, ℕ, List, Option, map}
use Rattle.std.specs.Option.{option_to_list}
use Rattle.reg_forms.specs.declared.forms.Fault.{Fault}
use Rattle.reg_tables.specs.Bits.{Atom}
use Rattle.reg_tables.specs.Lists.{firsts}
use Rattle.reg_tables.specs.Wrong.{past_limit}

-- the different names of these, and the fault of the first that is past the limit
pub record IsCounted (named : List Atom) (names : List (List ℕ)) (past : Option Fault) : Type 0 where
  pub names_are : names ≡ map (λ atom. atom.1) (firsts (λ atom. atom.1) named)
  pub past_is : option_to_list past ≡ past_limit named
