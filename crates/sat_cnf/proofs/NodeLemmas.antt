-- What the code puts for a node is its list of clauses.
use Rattle.std.proofs.Common.{◌≡◌, ℕ, zero, suc, List, [], ◌∷◌, ◌++◌, map, get_or, All, sym, ap, subst, ◌∙◌, arith}
use Rattle.vkb_formula.specs.declared.pool.NodeId.{NodeId}
use Rattle.vkb_formula.specs.declared.pool.PoolNode.{PoolNode}
use Rattle.vkb_formula.specs.declared.pool.PoolNode.TheVariants as node
use Rattle.vkb_formula.specs.Pools.{parts_of}
use Rattle.sat_cnf.specs.declared.lit.Lit.{Lit}
use Rattle.sat_cnf.specs.Lits.{negation_of}
use Rattle.sat_cnf.specs.Clauses.{Cnf, IsWithin}
use Rattle.sat_cnf.specs.Coding.{gate_clauses, positive, negative, node_list}
use Rattle.sat_cnf.proofs.GateLemmas.{negation-within}
use Rattle.sat_cnf.proofs.CodingLemmas.{All-unmap}

map-within : {X : Type 0} (vars : ℕ) (f : X → Lit) (xs : List X) → All (λ x. IsWithin vars (f x)) xs → All (IsWithin vars) (map f xs)
map-within vars f [] h k d lt = absurd (omega arith)
map-within vars f (x ∷ xs) h zero d lt = h 0 x (omega arith)
map-within vars f (x ∷ xs) h (suc k) d lt = map-within vars f xs (λ j e l. h (suc j) e (omega arith)) k d (omega arith)

pub clause-within : (vars more : ℕ) (head : Lit) (inputs clause items : List Lit) → more ≡ vars → items ≡ clause → clause ≡ head ∷ map negation_of inputs → IsWithin vars head → All (IsWithin vars) inputs → All (IsWithin more) items
clause-within vars more head inputs clause items v i e h g =
    subst (λ n. All (IsWithin n) items) (sym v) (subst (All (IsWithin vars)) (sym (i ∙ e)) all)
  where
    all : All (IsWithin vars) (head ∷ map negation_of inputs)
    all zero d lt = h
    all (suc k) d lt = map-within vars negation_of inputs (λ j x l. negation-within vars (get_or inputs j x) (g j x l)) k d (omega arith)

module _ (vars next : ℕ) (lit_of : ℕ → Lit) (n : PoolNode) (parts now : List NodeId) (items slice : List Lit) where
  pub all-within : n ≡ node.All parts → now ≡ parts → items ≡ map (λ (part : NodeId). lit_of part.0) now → slice ≡ items → All (λ part. IsWithin vars (lit_of part)) (parts_of n) → All (IsWithin vars) slice
  all-within is a b e h =
      subst (All (IsWithin vars)) (sym (e ∙ b ∙ ap (map (λ (part : NodeId). lit_of part.0)) a))
      (map-within vars (λ (part : NodeId). lit_of part.0) parts
      (All-unmap (λ part. IsWithin vars (lit_of part)) (λ (part : NodeId). part.0) parts (subst (λ m. All (λ part. IsWithin vars (lit_of part)) (parts_of m)) is h)))

  pub any-within : n ≡ node.Any parts → now ≡ parts → items ≡ map (λ (part : NodeId). negation_of (lit_of part.0)) now → slice ≡ items → All (λ part. IsWithin vars (lit_of part)) (parts_of n) → All (IsWithin vars) slice
  any-within is a b e h =
      subst (All (IsWithin vars)) (sym (e ∙ b ∙ ap (map (λ (part : NodeId). negation_of (lit_of part.0))) a))
      (map-within vars (λ (part : NodeId). negation_of (lit_of part.0)) parts
      (λ k d lt. negation-within vars (lit_of (get_or parts k d).0)
      (All-unmap (λ part. IsWithin vars (lit_of part)) (λ (part : NodeId). part.0) parts (subst (λ m. All (λ part. IsWithin vars (lit_of part)) (parts_of m)) is h) k d lt)))

  pub all-list : (old new : Cnf) → n ≡ node.All parts → now ≡ parts → items ≡ map (λ (part : NodeId). lit_of part.0) now → slice ≡ items → new ≡ record old { list = old.list ++ gate_clauses (positive next) slice } → new ≡ record old { list = old.list ++ node_list lit_of next n }
  all-list old new is a b e h =
      h ∙ ap (λ inputs. record old { list = old.list ++ gate_clauses (positive next) inputs }) (e ∙ b ∙ ap (map (λ (part : NodeId). lit_of part.0)) a)
      ∙ ap (λ m. record old { list = old.list ++ node_list lit_of next m }) (sym is)

  pub any-list : (old new : Cnf) → n ≡ node.Any parts → now ≡ parts → items ≡ map (λ (part : NodeId). negation_of (lit_of part.0)) now → slice ≡ items → new ≡ record old { list = old.list ++ gate_clauses (negative next) slice } → new ≡ record old { list = old.list ++ node_list lit_of next n }
  any-list old new is a b e h =
      h ∙ ap (λ inputs. record old { list = old.list ++ gate_clauses (negative next) inputs }) (e ∙ b ∙ ap (map (λ (part : NodeId). negation_of (lit_of part.0))) a)
      ∙ ap (λ m. record old { list = old.list ++ node_list lit_of next m }) (sym is)
