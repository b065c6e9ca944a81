-- What is learned from a conflict.
use Rattle.std.specs.Prelude.{◌≡◌, ◌⊎◌, ℕ, ◌<◌, ◌≤◌, List, [], All, Contains}
use Rattle.sat_cnf.specs.declared.lit.Lit.{Lit}
use Rattle.sat_cnf.specs.Clauses.{IsWithin}
use Rattle.sat_proof.specs.Refutations.{Follows}
use Rattle.sat_core.specs.declared.conflict.Learned.{Learned}
use Rattle.sat_core.specs.declared.entry.Entry.{Entry}
use Rattle.sat_core.specs.Searching.{State, held_in}
use Rattle.sat_core.specs.Trails.{IsFalseUnder, decisions_of}

-- all literals of a clause are false, one of them alone under the last decision, and the greatest decision of the others is this one
pub record IsAssertion (trail : List Entry) (clause : List Lit) (back : ℕ) : Type 0 where
  pub lit : Lit
  pub stands : Contains clause lit
  pub last : IsFalseUnder trail lit (decisions_of trail)
  pub earlier : back < decisions_of trail
  pub others : All (λ other. (other ≡ lit) ⊎ ((decision : ℕ) × IsFalseUnder trail other decision × (decision ≤ back))) clause
  pub greatest : (back ≡ 0) ⊎ ((other : Lit) × Contains clause other × IsFalseUnder trail other back)

-- the step follows from the clauses that are held; with no decision made its clause is empty, else it asserts
pub record IsLearnedBy (vars : ℕ) (held : List (List Lit)) (trail : List Entry) (learned : Learned) : Type 0 where
  pub follows : Follows held learned.step
  pub within : All (IsWithin vars) learned.step.clause
  pub none : decisions_of trail ≡ 0 → (learned.step.clause ≡ []) × (learned.back ≡ 0)
  pub asserts : 0 < decisions_of trail → IsAssertion trail learned.step.clause learned.back

abbrev pub IsLearnedFrom : State → Learned → Type 0
IsLearnedFrom s learned = IsLearnedBy s.vars (held_in s) s.trail learned
