-- A literal to watch, found in the parts of a clause.
use Rattle.std.proofs.Common.{◌≡◌, ℕ, List, ◌++◌, take, drop, Option, Some, None, Contains, All, subst}
use Rattle.std.proofs.lemmas.List.{take-append-drop}
use Rattle.std.proofs.lemmas.List.Elements.{All-append, Contains-append_left, Contains-append_right}
use Rattle.sat_cnf.specs.declared.lit.Lit.{Lit}
use Rattle.sat_core.specs.Walking.{IsBlocked, IsReplacement}

module _ (known clause : List Lit) (lit other : Lit) (place : ℕ) where
  whole : take place clause ++ drop place clause ≡ clause
  whole = take-append-drop place clause

  pub free-behind : (to : Lit) → IsReplacement known (drop place clause) lit other (Some to) → IsReplacement known clause lit other (Some to)
  free-behind to (has, free) = (subst (λ all. Contains all to) whole (Contains-append_right (take place clause) (drop place clause) to has), free)

  pub free-before : (found : Option Lit) → IsReplacement known (drop place clause) lit other None → IsReplacement known (take place clause) lit other found
      → IsReplacement known clause lit other found
  free-before None behind before =
      subst (All (IsBlocked known lit other)) whole (All-append (IsBlocked known lit other) (take place clause) (drop place clause) before behind)
  free-before (Some to) behind (has, free) =
      (subst (λ all. Contains all to) whole (Contains-append_left (take place clause) (drop place clause) to has), free)
