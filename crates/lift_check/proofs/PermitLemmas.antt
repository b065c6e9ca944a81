-- Nodes that are put behind those of a pool, and those of a registry.
use Rattle.std.proofs.Common.{◌≡◌, ℕ, zero, suc, ◌<◌, ◌≤◌, max, false, List, [], ◌∷◌, ◌++◌, length, map, get_or, slice_get, All, Some, refl, ap, sym, subst, ◌∙◌, arith, length-append}
use Rattle.std.proofs.lemmas.List.Elements.{All-weaker}
use Rattle.std.proofs.lemmas.Option.{get_or_from_slice_get, none-some, same_Some, slice_get_within}
use Rattle.vkb_formula.specs.Formulas.{value_of}
use Rattle.vkb_formula.specs.Pools.{Extends, pool_reach, pool_values, unfolded}
use Rattle.vkb_formula.specs.declared.pool.NodeId.{NodeId}
use Rattle.vkb_formula.specs.declared.pool.PoolNode.{PoolNode}
use Rattle.reg_registry.specs.Rows.{Rows}
use Rattle.reg_closure.specs.Presence.{SayPresence}
use Rattle.reg_permit.specs.Size.{SaysPermitted}
use Rattle.doc_build.specs.Choices.{Choice}
use Rattle.lift_check.specs.Keeping.{is_on}
use Rattle.lift_check.specs.Permits.{AreOfRegistry}
use Rattle.lift_check.specs.declared.permits.RegistryNodes.{RegistryNodes}

-- lists with one element at a place give one value there
mapped-alike : {X Y : Type 0} (f : X → Y) (none : Y) (xs ys : List X) (place : ℕ) → slice_get xs place ≡ slice_get ys place → get_or (map f xs) place none ≡ get_or (map f ys) place none
mapped-alike f none [] [] place same = refl
mapped-alike f none [] (y ∷ ys) zero same = absurd (none-some y same)
mapped-alike f none [] (y ∷ ys) (suc place) same = mapped-alike f none [] ys place same
mapped-alike f none (x ∷ xs) [] zero same = absurd (none-some x (sym same))
mapped-alike f none (x ∷ xs) [] (suc place) same = mapped-alike f none xs [] place same
mapped-alike f none (x ∷ xs) (y ∷ ys) zero same = ap f (same_Some x y same)
mapped-alike f none (x ∷ xs) (y ∷ ys) (suc place) same = mapped-alike f none xs ys place same

-- the node at a place lies in the pool
held-at : (count : ℕ) (ids : List NodeId) (place : ℕ) (id : NodeId) → slice_get ids place ≡ Some id → All (λ id. id.0 < count) ids → id.0 < count
held-at count ids place id at all =
    subst (λ (x : NodeId). x.0 < count) (get_or_from_slice_get ids place id id at) (all place id (slice_get_within ids place id at))

module _ (stay : (nodes more : List PoolNode) (place : ℕ) → place < length nodes → slice_get (unfolded (nodes ++ more)) place ≡ slice_get (unfolded nodes) place) where
  -- a node from before keeps its value
  pub kept-behind : (old new : List PoolNode) → Extends old new → (choice : Choice) (node : NodeId) → node.0 < length old → is_on (pool_values choice new) node ≡ is_on (pool_values choice old) node
  kept-behind old new extends choice node below =
      ap (λ (nodes : List PoolNode). is_on (pool_values choice nodes) node) extends.1 ∙ mapped-alike (value_of choice) false (unfolded (old ++ extends.0)) (unfolded old) node.0 (stay old extends.0 node.0 below)

  grown : (old new : List PoolNode) → Extends old new → length old ≤ length new
  grown old new extends = omega (arith, ap length extends.1, length-append {A = PoolNode})

  -- so the nodes of names tell what they told
  presence-behind : (r : Rows) (old new : List PoolNode) (ids : List NodeId) → Extends old new → SayPresence r old ids → SayPresence r new ids
  presence-behind r old new ids extends says = record {
    count = says.count;
    held = All-weaker (λ (id : NodeId). id.0 < length old) (λ (id : NodeId). id.0 < length new) (λ id below. omega (arith, below, grown old new extends)) ids says.held;
    each = λ choice fits place id at.
        let same = kept-behind old new extends choice id (held-at (length old) ids place id at says.held) in
        record { only = λ on. (says.each choice fits place id at).only (sym same ∙ on); all = λ there. same ∙ (says.each choice fits place id at).all there };
  }

  -- what is put in two steps
  pub of-registry : (r : Rows) (old middle new : List PoolNode) (nodes : RegistryNodes) → Extends old middle → Extends middle new → pool_reach middle ≤ max (pool_reach old) (length r.options)
      → pool_reach new ≤ max (pool_reach middle) (length r.options) → SayPresence r middle nodes.names.items → nodes.permit.0 < length new
      → ((choice : Choice) → length choice ≡ length r.options → SaysPermitted r new nodes.permit choice) → AreOfRegistry r old new nodes
  of-registry r old middle new nodes first then reach further says within permitted = record {
    count = omega (arith, grown old middle first, grown middle new then);
    reach = omega (arith, reach, further);
    kept = λ choice node below. kept-behind middle new then choice node (omega (arith, below, grown old middle first)) ∙ kept-behind old middle first choice node below;
    names = presence-behind r middle new nodes.names.items then says;
    permit = within;
    permitted = permitted;
  }
