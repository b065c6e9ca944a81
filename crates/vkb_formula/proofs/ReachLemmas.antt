-- What a node reaches, and the sums over it, when nodes are put after it or on it.
use Rattle.std.proofs.Common.{◌≡◌, ℕ, ◌+◌, ◌<◌, ◌≤◌, Bool, true, false, cond, eqb, ◌||◌, List, [], ◌∷◌, ◌++◌, length, get_or, slice_get, slice_index_or, sum_by, Some, refl, sym, ap, subst, ◌∙◌, ⊎_elim, arith}
use Rattle.std.specs.List.{list_any}
use Rattle.std.proofs.lemmas.List.{length_push, get_or_append_left, get_or_at, get_or_past}
use Rattle.std.proofs.lemmas.List.Sums.{sum_by-cons}
use Rattle.std.proofs.lemmas.Bool.{cases_order, or_cases, eqb-true, true≢false, false_from_ne_true, cases_Bool, cond_both}
use Rattle.std.proofs.lemmas.Option.{slice_get-get_or}
use Rattle.vkb_formula.specs.declared.formula.Formula.TheVariants as formula
use Rattle.vkb_formula.specs.declared.pool.PoolNode.{PoolNode}
use Rattle.vkb_formula.specs.Pools.{parts_of, made_from, unfolded, reached_at, reaches, sum_where, sum_reached}
use Rattle.vkb_formula.proofs.MadeLemmas.{made_from-append, made_from-old, length-made_from, length-unfolded, unfolded-old}
use Rattle.vkb_formula.proofs.TreeLemmas.{sum_where-append}

-- no node reaches further than the nodes
abbrev ReachesBelow : List (ℕ → Bool) → Type 0
ReachesBelow made = (root place : ℕ) → get_or made root (λ _. false) place ≡ true → place < length made

part-below : (made : List (ℕ → Bool)) → ReachesBelow made → (place : ℕ) (parts : List ℕ) → list_any (λ part. slice_index_or made part (λ _. false) place) parts ≡ true → place < length made
part-below made h place [] e = absurd (true≢false (sym e))
part-below made h place (p ∷ ps) e =
    ⊎_elim (λ now. h p place now) (λ later. part-below made h place ps later)
    (or_cases (slice_index_or made p (λ _. false) place) (list_any (λ part. slice_index_or made part (λ _. false) place) ps) e)

one-below : (made : List (ℕ → Bool)) (node : PoolNode) → ReachesBelow made → ReachesBelow (made ++ reached_at made node ∷ [])
one-below made node h root place e =
    let more = length_push made (reached_at made node) in
    ⊎_elim
    (λ at. ⊎_elim
    (λ itself. omega (arith, more, eqb-true place (length made) itself))
    (λ part. omega (arith, more, part-below made h place (parts_of node) part))
    (or_cases (eqb place (length made)) (list_any (λ part. slice_index_or made part (λ _. false) place) (parts_of node))
    (sym (ap (λ (f : ℕ → Bool). f place) (get_or_at made (reached_at made node) [] (λ _. false) root (sym at))) ∙ e)))
    (⊎_elim
    (λ before. omega (arith, more, h root place (sym (ap (λ (f : ℕ → Bool). f place) (get_or_append_left made (reached_at made node ∷ []) (λ _. false) root before)) ∙ e)))
    (λ past. absurd (true≢false (sym e ∙ ap (λ (f : ℕ → Bool). f place) (get_or_past (made ++ reached_at made node ∷ []) root (λ _. false) (omega (arith, more)))))))
    (cases_order root (length made))

all-below : (nodes : List PoolNode) (made : List (ℕ → Bool)) → ReachesBelow made → ReachesBelow (made_from reached_at made nodes)
all-below [] made h = h
all-below (n ∷ ns) made h = all-below ns (made ++ reached_at made n ∷ []) (one-below made n h)

pub reaches-below : (nodes : List PoolNode) (root place : ℕ) → reaches nodes root place ≡ true → place < length nodes
reaches-below nodes root place e =
    let below = all-below nodes [] (λ r p f. absurd (true≢false (sym f))) root place e in
    omega (arith, below, length-made_from reached_at [] nodes)

pub reaches-old : (nodes more : List PoolNode) (root : ℕ) → root < length nodes → reaches (nodes ++ more) root ≡ reaches nodes root
reaches-old nodes more root h =
    ap (λ (made : List (ℕ → Bool)). get_or made root (λ _. false)) (made_from-append reached_at [] nodes more)
    ∙ made_from-old reached_at (made_from reached_at [] nodes) more root (λ _. false) (omega (arith, length-made_from reached_at [] nodes))

sum_where-above : (weigh : PoolNode → ℕ) (passes : ℕ → Bool) (base place : ℕ) (nodes : List PoolNode) → ((k : ℕ) → passes k ≡ true → k < base) → base ≤ place → sum_where weigh passes place nodes ≡ 0
sum_where-above weigh passes base place [] h le = refl
sum_where-above weigh passes base place (n ∷ ns) h le =
    let no : passes place ≡ false = false_from_ne_true (passes place) (λ e. let at : place < base = h place e in omega arith) in
    ap (λ b. cond b (weigh n) 0 + sum_where weigh passes (place + 1) ns) no ∙ (let rest = sum_where-above weigh passes base (place + 1) ns h (omega arith) in omega arith)

-- the sum over what a node reaches stays when others are put last
pub sum_reached-old : (nodes more : List PoolNode) (root : ℕ) (weigh : PoolNode → ℕ) → root < length nodes → sum_reached weigh (nodes ++ more) root ≡ sum_reached weigh nodes root
sum_reached-old nodes more root weigh h =
    ap (λ (passes : ℕ → Bool). sum_where weigh passes 0 (nodes ++ more)) (reaches-old nodes more root h)
    ∙ sum_where-append weigh (reaches nodes root) 0 nodes more
    ∙ (let none = sum_where-above weigh (reaches nodes root) (length nodes) (0 + length nodes) more (reaches-below nodes root) (omega arith) in omega arith)

pub formulas-stay : (nodes more : List PoolNode) (place : ℕ) → place < length nodes → slice_get (unfolded (nodes ++ more)) place ≡ slice_get (unfolded nodes) place
formulas-stay nodes more place h =
    let all : place < length (unfolded (nodes ++ more)) = let count = length-unfolded (nodes ++ more) in let parts = length-of nodes more in omega arith in
    slice_get-get_or (unfolded (nodes ++ more)) place formula.Never all
    ∙ ap Some (unfolded-old nodes more place formula.Never h)
    ∙ sym (slice_get-get_or (unfolded nodes) place formula.Never (omega (arith, length-unfolded nodes)))
  where
    length-of : (xs ys : List PoolNode) → length xs ≤ length (xs ++ ys)
    length-of [] ys = omega arith
    length-of (x ∷ xs) ys = let rest = length-of xs ys in omega arith

-- ---- a node that is put on others

pub sum_where-wider : (weigh : PoolNode → ℕ) (less more : ℕ → Bool) (place : ℕ) (nodes : List PoolNode) → ((k : ℕ) → k < place + length nodes → less k ≡ true → more k ≡ true) → sum_where weigh less place nodes ≤ sum_where weigh more place nodes
sum_where-wider weigh less more place [] h = omega arith
sum_where-wider weigh less more place (n ∷ ns) h =
    let rest = sum_where-wider weigh less more (place + 1) ns (λ k lt e. h k (omega arith) e) in
    ⊎_elim
    (λ yes. let b : cond (more place) (weigh n) 0 ≡ weigh n = ap (λ t. cond t (weigh n) 0) (h place (omega arith) yes) in
    let a : cond (less place) (weigh n) 0 ≡ weigh n = ap (λ t. cond t (weigh n) 0) yes in omega arith)
    (λ no. let a : cond (less place) (weigh n) 0 ≡ 0 = ap (λ t. cond t (weigh n) 0) no in omega arith)
    (cases_Bool (less place))

sum_where-or : (weigh : PoolNode → ℕ) (first second : ℕ → Bool) (place : ℕ) (nodes : List PoolNode) → sum_where weigh (λ k. first k || second k) place nodes ≤ sum_where weigh first place nodes + sum_where weigh second place nodes
sum_where-or weigh first second place [] = omega arith
sum_where-or weigh first second place (n ∷ ns) =
    let rest = sum_where-or weigh first second (place + 1) ns in
    let here : cond (first place || second place) (weigh n) 0 ≤ cond (first place) (weigh n) 0 + cond (second place) (weigh n) 0 = either (first place) (second place) (weigh n) in
    omega arith
  where
    either : (a b : Bool) (w : ℕ) → cond (a || b) w 0 ≤ cond a w 0 + cond b w 0
    either true b w = cond_both b w 0 (λ x. w ≤ w + x) (λ _. omega arith) (λ _. omega arith)
    either false true w = omega arith
    either false false w = omega arith

sum_where-any : (weigh : PoolNode → ℕ) (of : ℕ → ℕ → Bool) (parts : List ℕ) (place : ℕ) (nodes : List PoolNode) → sum_where weigh (λ k. list_any (λ part. of part k) parts) place nodes ≤ sum_by (λ part. sum_where weigh (of part) place nodes) parts
sum_where-any weigh of [] place nodes = none place nodes
  where
    none : (place : ℕ) (nodes : List PoolNode) → sum_where weigh (λ k. false) place nodes ≤ 0
    none place [] = omega arith
    none place (n ∷ ns) = let rest = none (place + 1) ns in omega arith
sum_where-any weigh of (p ∷ ps) place nodes =
    omega (arith, sum_where-or weigh (of p) (λ k. list_any (λ part. of part k) ps) place nodes, sum_where-any weigh of ps place nodes, sum_by-cons (λ part. sum_where weigh (of part) place nodes) p ps)

-- a node that is put last adds its own weight to the sums of its parts, at most
pub sum_reached-last : (nodes : List PoolNode) (last : PoolNode) (weigh : PoolNode → ℕ) → sum_reached weigh (nodes ++ last ∷ []) (length nodes) ≤ weigh last + sum_by (sum_reached weigh nodes) (parts_of last)
sum_reached-last nodes last weigh =
    let made = made_from reached_at [] nodes in
    let count : length made ≡ length nodes = length-made_from reached_at [] nodes ∙ (let e : 0 + length nodes ≡ length nodes = omega arith in e) in
    let top : reaches (nodes ++ last ∷ []) (length nodes) ≡ reached_at made last =
    ap (λ (all : List (ℕ → Bool)). get_or all (length nodes) (λ _. false)) (made_from-append reached_at [] nodes (last ∷ []))
    ∙ get_or_at made (reached_at made last) [] (λ _. false) (length nodes) count in
    let wide = sum_where-wider weigh (reached_at made last) (λ k. list_any (λ part. reaches nodes part k) (parts_of last)) 0 nodes
    (λ k lt e. ⊎_elim (λ itself. absurd (omega (arith, eqb-true k (length made) itself, count))) (λ part. part)
    (or_cases (eqb k (length made)) (list_any (λ part. reaches nodes part k) (parts_of last)) e)) in
    let own : cond (reached_at made last (0 + length nodes)) (weigh last) 0 ≤ weigh last = cond_both (reached_at made last (0 + length nodes)) (weigh last) 0 (λ x. x ≤ weigh last) (λ _. omega arith) (λ _. omega arith) in
    subst (λ (passes : ℕ → Bool). sum_where weigh passes 0 (nodes ++ last ∷ []) ≤ weigh last + sum_by (sum_reached weigh nodes) (parts_of last)) (sym top)
    (omega (arith, sum_where-append weigh (reached_at made last) 0 nodes (last ∷ []), wide, own, sum_where-any weigh (reaches nodes) (parts_of last) 0 nodes))
