-- What is made of the nodes of a pool, in order.
use Rattle.std.proofs.Common.{◌≡◌, ℕ, ◌+◌, ◌<◌, ◌≤◌, Bool, true, false, eqb, List, [], ◌∷◌, ◌++◌, length, get_or, slice_index_or, refl, sym, ap, ◌∙◌, ⊎_elim, arith}
use Rattle.std.specs.List.{AllByRecursion, list_any}
use Rattle.std.proofs.lemmas.List.{length_push, get_or_append_left, get_or_at, get_or_past}
use Rattle.std.proofs.lemmas.Bool.{cases_order, or_cases, eqb-true, true≢false}
use Rattle.vkb_formula.specs.declared.formula.Formula.{Formula}
use Rattle.vkb_formula.specs.declared.pool.PoolNode.{PoolNode}
use Rattle.vkb_formula.specs.Pools.{parts_of, made_from, formula_at, unfolded, reached_at, reaches}
use Rattle.vkb_formula.specs.Trees.{AreFrom}

module _ {A : Type 0} (make : List A → PoolNode → A) where
  pub made_from-append : (made : List A) (xs ys : List PoolNode) → made_from make made (xs ++ ys) ≡ made_from make (made_from make made xs) ys
  made_from-append made [] ys = refl
  made_from-append made (x ∷ xs) ys = made_from-append (made ++ make made x ∷ []) xs ys

  pub length-made_from : (made : List A) (xs : List PoolNode) → length (made_from make made xs) ≡ length made + length xs
  length-made_from made [] = omega arith
  length-made_from made (x ∷ xs) = omega (arith, length-made_from (made ++ make made x ∷ []) xs, length_push made (make made x))

  -- what was made stays at its place
  pub made_from-old : (made : List A) (xs : List PoolNode) (k : ℕ) (d : A) → k < length made → get_or (made_from make made xs) k d ≡ get_or made k d
  made_from-old made [] k d h = refl
  made_from-old made (x ∷ xs) k d h =
      made_from-old (made ++ make made x ∷ []) xs k d (omega (arith, length_push made (make made x))) ∙ get_or_append_left made (make made x ∷ []) d k h

pub length-unfolded : (nodes : List PoolNode) → length (unfolded nodes) ≡ length nodes
length-unfolded nodes = omega (arith, length-made_from formula_at [] nodes)

pub unfolded-push : (nodes : List PoolNode) (node : PoolNode) → unfolded (nodes ++ node ∷ []) ≡ unfolded nodes ++ formula_at (unfolded nodes) node ∷ []
unfolded-push nodes node = made_from-append formula_at [] nodes (node ∷ [])

-- the formula of a node stays
pub unfolded-old : (nodes more : List PoolNode) (k : ℕ) (d : Formula) → k < length nodes → get_or (unfolded (nodes ++ more)) k d ≡ get_or (unfolded nodes) k d
unfolded-old nodes more k d h =
    ap (λ made. get_or made k d) (made_from-append formula_at [] nodes more) ∙ made_from-old formula_at (unfolded nodes) more k d (omega (arith, length-unfolded nodes))

pub unfolded-last : (nodes : List PoolNode) (node : PoolNode) (d : Formula) → get_or (unfolded (nodes ++ node ∷ [])) (length nodes) d ≡ formula_at (unfolded nodes) node
unfolded-last nodes node d =
    ap (λ made. get_or made (length nodes) d) (unfolded-push nodes node) ∙ get_or_at (unfolded nodes) (formula_at (unfolded nodes) node) [] d (length nodes) (length-unfolded nodes)

-- what nodes from a base on reach stands from the base on
abbrev ReachesFrom : ℕ → List (ℕ → Bool) → Type 0
ReachesFrom base made = (root place : ℕ) → base ≤ root → get_or made root (λ _. false) place ≡ true → base ≤ place

none-reached : (base : ℕ) (made : List (ℕ → Bool)) → length made ≤ base → ReachesFrom base made
none-reached base made le root place from e =
    absurd (true≢false (sym e ∙ ap (λ (f : ℕ → Bool). f place) (get_or_past made root (λ _. false) (omega arith))))

part-reaches : (base : ℕ) (made : List (ℕ → Bool)) → ReachesFrom base made → (place : ℕ) (parts : List ℕ) → AllByRecursion (λ part. base ≤ part) parts → list_any (λ part. slice_index_or made part (λ _. false) place) parts ≡ true → base ≤ place
part-reaches base made h place [] own e = absurd (true≢false (sym e))
part-reaches base made h place (p ∷ ps) own e =
    ⊎_elim (λ now. h p place own.0 now) (λ later. part-reaches base made h place ps own.1 later)
    (or_cases (slice_index_or made p (λ _. false) place) (list_any (λ part. slice_index_or made part (λ _. false) place) ps) e)

one-reached : (base : ℕ) (made : List (ℕ → Bool)) (node : PoolNode) → base ≤ length made → ReachesFrom base made → AllByRecursion (λ part. base ≤ part) (parts_of node) → ReachesFrom base (made ++ reached_at made node ∷ [])
one-reached base made node le h own root place from e =
    ⊎_elim
    (λ at. ⊎_elim
    (λ itself. omega (arith, eqb-true place (length made) itself))
    (λ part. part-reaches base made h place (parts_of node) own part)
    (or_cases (eqb place (length made)) (list_any (λ part. slice_index_or made part (λ _. false) place) (parts_of node))
    (sym (ap (λ (f : ℕ → Bool). f place) (get_or_at made (reached_at made node) [] (λ _. false) root (sym at))) ∙ e)))
    (⊎_elim
    (λ before. h root place from (sym (ap (λ (f : ℕ → Bool). f place) (get_or_append_left made (reached_at made node ∷ []) (λ _. false) root before)) ∙ e))
    (λ past. absurd (true≢false (sym e ∙ ap (λ (f : ℕ → Bool). f place) (get_or_past (made ++ reached_at made node ∷ []) root (λ _. false) (omega (arith, length_push made (reached_at made node))))))))
    (cases_order root (length made))

all-reached : (base : ℕ) (made : List (ℕ → Bool)) (nodes : List PoolNode) → base ≤ length made → ReachesFrom base made → AreFrom base nodes → ReachesFrom base (made_from reached_at made nodes)
all-reached base made [] le h own = h
all-reached base made (n ∷ ns) le h own =
    all-reached base (made ++ reached_at made n ∷ []) ns (omega (arith, length_push made (reached_at made n))) (one-reached base made n le h own.0) own.1

pub reaches-own : (old more : List PoolNode) → AreFrom (length old) more → (root place : ℕ) → length old ≤ root → reaches (old ++ more) root place ≡ true → length old ≤ place
reaches-own old more own root place from e =
    all-reached (length old) (made_from reached_at [] old) more (omega (arith, length-made_from reached_at [] old))
    (none-reached (length old) (made_from reached_at [] old) (omega (arith, length-made_from reached_at [] old))) own root place from
    (sym (ap (λ (made : List (ℕ → Bool)). get_or made root (λ _. false) place) (made_from-append reached_at [] old more)) ∙ e)
