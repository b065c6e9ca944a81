-- What is made of each condition with those round it, and the nodes of these.
use Rattle.std.proofs.Common.{◌≡◌, ◌∙◌, refl, sym, ap, ℕ, zero, suc, ◌+◌, ◌<◌, Bool, true, ◌&&◌, List, [], ◌∷◌, ◌++◌, length, map, take, All, Option, Some, None, get_or}
use Rattle.std.proofs.lemmas.List.{take_more}
use Rattle.std.proofs.lemmas.List.Elements.{All-head, All-tail}
use Rattle.doc_tree.specs.declared.Cond.{Cond}
use Rattle.doc_tree.specs.declared.CondId.{CondId}
use Rattle.vkb_formula.specs.declared.pool.NodeId.{NodeId}
use Rattle.lift_check.specs.Keeping.{always_on, is_on, node_in}
use Rattle.doc_build.specs.Keeping.{met_at, met_from}

-- an item of a map, where what is given in its place beyond the end is mapped too
pub get_or-mapped : {X Y : Type 0} (f : X → Y) (xs : List X) (k : ℕ) (d : X) → get_or (map f xs) k (f d) ≡ f (get_or xs k d)
get_or-mapped f [] k d = refl
get_or-mapped f (x ∷ xs) zero d = refl
get_or-mapped f (x ∷ xs) (suc k) d = get_or-mapped f xs k d

module _ (met : Cond → Bool) where
  -- one condition more
  met_from-push : (made : List Bool) (conds : List Cond) (last : Cond) → met_from met made (conds ++ last ∷ []) ≡ met_from met made conds ++ (met_at (met_from met made conds) last.within && met last) ∷ []
  met_from-push made [] last = refl
  met_from-push made (first ∷ conds) last = met_from-push (made ++ (met_at made first.within && met first) ∷ []) conds last

  pub met_from-more : (conds : List Cond) (index : ℕ) (here : Cond) → index < length conds → here ≡ get_or conds index here
      → met_from met [] (take (index + 1) conds) ≡ met_from met [] (take index conds) ++ (met_at (met_from met [] (take index conds)) here.within && met here) ∷ []
  met_from-more conds index here within is =
      ap (met_from met []) (take_more conds index here within ∙ ap (λ last. take index conds ++ last ∷ []) (sym is)) ∙ met_from-push [] (take index conds) here

-- the node of a condition is true where it was made true
pub node_in-met : (values : List Bool) (nodes : List NodeId) (made : List Bool) → is_on values always_on ≡ true → map (is_on values) nodes ≡ made → (cond : Option CondId) → is_on values (node_in nodes cond) ≡ met_at made cond
node_in-met values nodes made true_ same None = true_
node_in-met values nodes made true_ same (Some c) =
    sym (get_or-mapped (is_on values) nodes c.0 always_on) ∙ (ap (λ (d : Bool). get_or (map (is_on values) nodes) c.0 d) true_ ∙ ap (λ (bs : List Bool). get_or bs c.0 true) same)

node-below : (count : ℕ) (nodes : List NodeId) → 0 < count → All (λ node. node.0 < count) nodes → (k : ℕ) → (get_or nodes k always_on).0 < count
node-below count [] some within k = some
node-below count (n ∷ nodes) some within zero = All-head (λ (m : NodeId). m.0 < count) n nodes within
node-below count (n ∷ nodes) some within (suc k) = node-below count nodes some (All-tail (λ (m : NodeId). m.0 < count) n nodes within) k

-- the node of a condition lies in the pool
pub node_in-below : (count : ℕ) (nodes : List NodeId) → 0 < count → All (λ node. node.0 < count) nodes → (cond : Option CondId) → (node_in nodes cond).0 < count
node_in-below count nodes some within None = some
node_in-below count nodes some within (Some c) = node-below count nodes some within c.0
