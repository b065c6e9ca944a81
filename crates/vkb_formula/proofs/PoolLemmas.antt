-- Pools that grow at their end, and what is made of their nodes.
use Rattle.std.proofs.Common.{◌≡◌, ℕ, zero, suc, ◌+◌, ◌<◌, List, [], ◌∷◌, ◌++◌, length, take, Some, slice_get, All, refl, sym, ap, subst, ◌⊎◌, inl, inr, ⊎_elim}
use Rattle.std.proofs.lemmas.List.Sums.{sum_by_push}
use Rattle.vkb_formula.specs.declared.pool.PoolNode.{PoolNode}
use Rattle.vkb_formula.specs.Pools.{parts_of, IsPool, entries_of, pool_size}

-- what stands at a place after one more was put last
pub push-cases : {X : Type 0} (xs : List X) (x y : X) (k : ℕ) → slice_get (xs ++ x ∷ []) k ≡ Some y → (slice_get xs k ≡ Some y) ⊎ ((k ≡ length xs) × (x ≡ y))
push-cases [] x y zero e = inr (refl, cc)
push-cases [] x y (suc k) e = absurd (cc)
push-cases (z ∷ zs) x y zero e = inl e
push-cases (z ∷ zs) x y (suc k) e = ⊎_elim inl (λ p. inr (ap suc p.0, p.1)) (push-cases zs x y k e)

take-slice_get : {X : Type 0} (n : ℕ) (xs : List X) (k : ℕ) (y : X) → slice_get (take n xs) k ≡ Some y → slice_get xs k ≡ Some y
take-slice_get zero xs k y e = absurd (cc)
take-slice_get (suc n) [] k y e = e
take-slice_get (suc n) (x ∷ xs) zero y e = e
take-slice_get (suc n) (x ∷ xs) (suc k) y e = take-slice_get n xs k y e

pub IsPool-push : (nodes : List PoolNode) (node : PoolNode) → IsPool nodes → All (λ part. part < length nodes) (parts_of node) → IsPool (nodes ++ node ∷ [])
IsPool-push nodes node h before place found e =
    ⊎_elim (λ old. h place found old)
    (λ new. subst (λ n. All (λ part. part < n) (parts_of found)) (sym new.0) (subst (λ n. All (λ part. part < length nodes) (parts_of n)) new.1 before))
    (push-cases nodes node found place e)

pub IsPool-take : (n : ℕ) (nodes : List PoolNode) → IsPool nodes → IsPool (take n nodes)
IsPool-take n nodes h place node e = h place node (take-slice_get n nodes place node e)

pub pool_size-push : (nodes : List PoolNode) (node : PoolNode) → pool_size (nodes ++ node ∷ []) ≡ pool_size nodes + entries_of node
pool_size-push nodes node = sum_by_push entries_of nodes node

pub ruleset pool_facts = (IsPool-push, IsPool-take, pool_size-push)
