use Rattle.std.proofs.Common.{◌≡◌, ◌⊎◌, ◌≤◌, ℕ, take, Some, All, Contains}
use Rattle.std.specs.Option.{IsSomeAnd}
use Rattle.reg_registry.proofs.circles.walk.least.Given as goal

abbrev pub invariant-loop-name : goal.invariant-loop-name
invariant-loop-name l = record {
  among : All (λ name. IsSomeAnd l.least (λ least. least ≤ name)) (take l.name-index l.names);
  before : (name : ℕ) → l.fn.first ≡ Some name → IsSomeAnd l.least (λ least. least ≤ name);
  one : (name : ℕ) → l.least ≡ Some name → Contains (take l.name-index l.names) name ⊎ (l.fn.first ≡ Some name);
}
