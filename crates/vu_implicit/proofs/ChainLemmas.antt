-- What is said of the chain of a struct that others extend.
use Rattle.std.proofs.Common.{◌≡◌, ℕ, zero, suc, Bool, true, false, List, [], ◌∷◌, ◌++◌, nat_eq, nat_lt, if◌then◌else◌, arith}
use Rattle.std.proofs.lemmas.Bool.{lt-ltb}
use Rattle.vu_implicit.specs.declared.statement.Statement.{Statement}
use Rattle.vu_implicit.specs.Wording.{where_so}
use Rattle.vu_implicit.proofs.JoinLemmas.{joined}

pub positive : (n : ℕ) → nat_eq n 0 ≡ false → nat_lt 0 n ≡ true
positive zero e = absurd (cc)
positive (suc n) e = lt-ltb 0 (suc n) (omega arith)

pub extended : (empty full : Bool) (x each unique : Statement) (may start first second third : List Statement) → empty ≡ false → full ≡ true
    → first ≡ start ++ each ∷ [] → second ≡ first ++ may → third ≡ second ++ unique ∷ []
    → third ≡ start ++ (where_so empty x ++ (if full then each ∷ may else []) ++ where_so full unique)
extended true full x each unique may start first second third e f a b c = absurd (cc)
extended false false x each unique may start first second third e f a b c = absurd (cc)
extended false true x each unique may start first second third e f a b c =
    joined start second third (each ∷ may) (unique ∷ []) (joined start first second (each ∷ []) may a b) c
