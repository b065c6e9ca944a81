-- What the nodes of a pool reach, from both sides, and their values by their parts.
use Rattle.std.proofs.Common.{◌≡◌, ℕ, zero, suc, ◌+◌, ◌<◌, ◌≤◌, Bool, true, false, not, cond, eqb, ◌&&◌, ◌||◌, List, [], ◌∷◌, ◌++◌, length, get_or, take, slice_get, slice_index_or, All, Some, refl, sym, ap, subst, ◌∙◌, ⊎_elim, arith, append_assoc}
use Rattle.std.specs.List.{list_any, list_all}
use Rattle.std.proofs.lemmas.List.{length_push, get_or_at, get_or_past}
use Rattle.std.proofs.lemmas.List.Folds.{list_any_at}
use Rattle.std.proofs.lemmas.Bool.{cases_order, or_cases, or_left, or_right, eqb-true, eq-eqb, true≢false}
use Rattle.std.proofs.lemmas.Option.{slice_get-get_or, slice_get_within, get_or_from_slice_get}
use Rattle.vkb_formula.specs.declared.formula.Formula.TheVariants as formula
use Rattle.vkb_formula.specs.declared.pool.NodeId.{NodeId}
use Rattle.vkb_formula.specs.declared.pool.PoolNode.{PoolNode}
use Rattle.vkb_formula.specs.declared.pool.PoolNode.TheVariants as node
use Rattle.vkb_formula.specs.Formulas.{value_of}
use Rattle.vkb_formula.specs.Pools.{parts_of, IsPool, made_from, unfolded, pool_values, value_at, reach_at, pool_reach, reached_at, reaches, reaches_any, sum_where}
use Rattle.vkb_formula.specs.Reaches.{IsClosed, ReachIsByParts, ReachIsDown, ReachHasRoots, ReachIsClosed, ReachIsLeast, SumIsLeast, SumIsExact, OneRoot, ValuesAreByParts, ReachIsGreatest}
use Rattle.vkb_formula.proofs.MadeLemmas.{made_from-append, made_from-old, length-made_from, unfolded-old, unfolded-last}
use Rattle.vkb_formula.proofs.PoolValueLemmas.{value-read, value-at, All-unmap, reach-place}
use Rattle.vkb_formula.proofs.ReachLemmas.{reaches-old, sum_where-wider}

record Split (nodes : List PoolNode) (place : ℕ) (node : PoolNode) : Type 0 where
  before : List PoolNode
  after : List PoolNode
  is : nodes ≡ before ++ node ∷ after
  count : length before ≡ place

split-at : (nodes : List PoolNode) (place : ℕ) (node : PoolNode) → slice_get nodes place ≡ Some node → Split nodes place node
split-at [] place node e = absurd (let h = slice_get_within [] place node e in omega arith)
split-at (n ∷ ns) zero node e = record { before = []; after = ns; is = (let same : n ≡ node = cc in ap (λ m. m ∷ ns) same); count = refl }
split-at (n ∷ ns) (suc k) node e =
    let rest = split-at ns k node e in
    record { before = n ∷ rest.before; after = rest.after; is = ap (λ xs. n ∷ xs) rest.is; count = ap suc rest.count }

any-same : (f g : ℕ → Bool) (xs : List ℕ) → ((k : ℕ) → k < length xs → f (get_or xs k 0) ≡ g (get_or xs k 0)) → list_any f xs ≡ list_any g xs
any-same f g [] h = refl
any-same f g (x ∷ xs) h = ap (λ b. b || list_any f xs) (h 0 (omega arith)) ∙ ap (λ b. g x || b) (any-same f g xs (λ k lt. h (suc k) (omega arith)))

any-found : (f : ℕ → Bool) (xs : List ℕ) → list_any f xs ≡ true → (k : ℕ) × (k < length xs) × (f (get_or xs k 0) ≡ true)
any-found f [] e = absurd (true≢false (sym e))
any-found f (x ∷ xs) e =
    ⊎_elim (λ now. (0, omega arith, now))
    (λ later. let rest = any-found f xs later in (suc rest.0, omega (arith, rest.1), rest.2))
    (or_cases (f x) (list_any f xs) e)

-- a node reaches itself and what its parts reach
reaches-here : (before after : List PoolNode) (n : PoolNode) (place : ℕ) → All (λ part. part < length before) (parts_of n) → reaches (before ++ n ∷ after) (length before) place ≡ (eqb place (length before) || list_any (λ part. reaches (before ++ n ∷ after) part place) (parts_of n))
reaches-here before after n place parts =
    let made = made_from reached_at [] before in
    let count : length made ≡ length before = omega (arith, length-made_from reached_at [] before) in
    let top : reaches (before ++ n ∷ after) (length before) ≡ reached_at made n =
    ap (λ (all : List (ℕ → Bool)). get_or all (length before) (λ _. false)) (made_from-append reached_at [] before (n ∷ after))
    ∙ made_from-old reached_at (made ++ reached_at made n ∷ []) after (length before) (λ _. false) (omega (arith, length_push made (reached_at made n)))
    ∙ get_or_at made (reached_at made n) [] (λ _. false) (length before) count in
    ap (λ (f : ℕ → Bool). f place) top
    ∙ ap (λ m. eqb place m || list_any (λ part. slice_index_or made part (λ _. false) place) (parts_of n)) count
    ∙ ap (λ b. eqb place (length before) || b)
    (any-same (λ part. slice_index_or made part (λ _. false) place) (λ part. reaches (before ++ n ∷ after) part place) (parts_of n)
    (λ k lt. ap (λ (f : ℕ → Bool). f place) (sym (reaches-old before (n ∷ after) (get_or (parts_of n) k 0) (parts k 0 lt)))))

pub reach-by-parts : ReachIsByParts
reach-by-parts nodes root n pool e place =
    let s = split-at nodes root n e in
    subst (λ (ns : List PoolNode). reaches ns root place ≡ (eqb place root || list_any (λ part. reaches ns part place) (parts_of n))) (sym s.is)
    (subst (λ r. reaches (s.before ++ n ∷ s.after) r place ≡ (eqb place r || list_any (λ part. reaches (s.before ++ n ∷ s.after) part place) (parts_of n))) s.count
    (reaches-here s.before s.after n place (subst (λ r. All (λ part. part < r) (parts_of n)) (sym s.count) (pool root n e))))

root-held : (nodes : List PoolNode) (root place : ℕ) → reaches nodes root place ≡ true → root < length nodes
root-held nodes root place e =
    let count : length (made_from reached_at [] nodes) ≡ 0 + length nodes = length-made_from reached_at [] nodes in
    let past : length nodes ≤ root → ⊥ = λ past. true≢false (sym e ∙ ap (λ (f : ℕ → Bool). f place) (get_or_past (made_from reached_at [] nodes) root (λ _. false) (omega arith))) in
    ⊎_elim (λ at. absurd (past (omega arith))) (⊎_elim (λ before. before) (λ after. absurd (past (omega arith)))) (cases_order root (length nodes))

node-at : (nodes : List PoolNode) (place : ℕ) → place < length nodes → (n : PoolNode) × (slice_get nodes place ≡ Some n)
node-at nodes place h = (get_or nodes place node.Always, slice_get-get_or nodes place node.Always h)

-- what reaches a place is the place itself, or has a part that reaches it
reach-cases : (P : Type 0) (nodes : List PoolNode) (root place : ℕ) → IsPool nodes → reaches nodes root place ≡ true
    → (place ≡ root → P)
    → ((n : PoolNode) → slice_get nodes root ≡ Some n → (k : ℕ) → k < length (parts_of n) → get_or (parts_of n) k 0 < root → reaches nodes (get_or (parts_of n) k 0) place ≡ true → P)
    → P
reach-cases P nodes root place pool e itself later =
    let here = node-at nodes root (root-held nodes root place e) in
    ⊎_elim (λ same. itself (eqb-true place root same))
    (λ part. let found = any-found (λ part. reaches nodes part place) (parts_of here.0) part in
    later here.0 here.1 found.0 found.1 (pool root here.0 here.1 found.0 0 found.1) found.2)
    (or_cases (eqb place root) (list_any (λ part. reaches nodes part place) (parts_of here.0))
    (sym (reach-by-parts nodes root here.0 pool here.1 place) ∙ e))

down-below : (nodes : List PoolNode) → IsPool nodes → (n root place : ℕ) → root < n → reaches nodes root place ≡ true → place ≤ root
down-below nodes pool zero root place h e = absurd (omega arith)
down-below nodes pool (suc n) root place h e =
    reach-cases (place ≤ root) nodes root place pool e (λ same. omega arith)
    (λ m held k lt below reach. let deep = down-below nodes pool n (get_or (parts_of m) k 0) place (omega arith) reach in omega arith)

pub reach-down : ReachIsDown
reach-down nodes root place pool e = down-below nodes pool (root + 1) root place (omega arith) e

reach-itself : (nodes : List PoolNode) (root : ℕ) → IsPool nodes → root < length nodes → reaches nodes root root ≡ true
reach-itself nodes root pool h =
    let here = node-at nodes root h in
    reach-by-parts nodes root here.0 pool here.1 root ∙ or_left (eqb root root) (list_any (λ part. reaches nodes part root) (parts_of here.0)) (eq-eqb root root refl)

-- what a part reaches is reached
reach-more : (nodes : List PoolNode) (root place : ℕ) (n : PoolNode) (k : ℕ) → IsPool nodes → slice_get nodes root ≡ Some n → k < length (parts_of n) → reaches nodes (get_or (parts_of n) k 0) place ≡ true → reaches nodes root place ≡ true
reach-more nodes root place n k pool e lt reach =
    reach-by-parts nodes root n pool e place
    ∙ or_right (eqb place root) (list_any (λ part. reaches nodes part place) (parts_of n)) (list_any_at (λ part. reaches nodes part place) (parts_of n) k 0 lt reach)

closed-below : (nodes : List PoolNode) → IsPool nodes → (n root place : ℕ) (m : PoolNode) → root < n → slice_get nodes place ≡ Some m → reaches nodes root place ≡ true → (k d : ℕ) → k < length (parts_of m) → reaches nodes root (get_or (parts_of m) k d) ≡ true
closed-below nodes pool zero root place m h held e k d lt = absurd (omega arith)
closed-below nodes pool (suc n) root place m h held e k d lt =
    reach-cases (reaches nodes root (get_or (parts_of m) k d) ≡ true) nodes root place pool e
    (λ same. let at : slice_get nodes root ≡ Some m = subst (λ p. slice_get nodes p ≡ Some m) same held in
    reach-by-parts nodes root m pool at (get_or (parts_of m) k d)
    ∙ or_right (eqb (get_or (parts_of m) k d) root) (list_any (λ part. reaches nodes part (get_or (parts_of m) k d)) (parts_of m))
    (list_any_at (λ part. reaches nodes part (get_or (parts_of m) k d)) (parts_of m) k d lt
    (reach-itself nodes (get_or (parts_of m) k d) pool
    (let before = pool place m held k d lt in let within = slice_get_within nodes place m held in omega arith))))
    (λ r at j jlt below reach. reach-more nodes root (get_or (parts_of m) k d) r j pool at jlt
    (closed-below nodes pool n (get_or (parts_of r) j 0) place m (omega arith) held reach k d lt))

closed-any : (nodes : List PoolNode) (pool : IsPool nodes) (roots : List ℕ) (place : ℕ) (m : PoolNode) → slice_get nodes place ≡ Some m → reaches_any nodes roots place ≡ true → (k d : ℕ) → k < length (parts_of m) → reaches_any nodes roots (get_or (parts_of m) k d) ≡ true
closed-any nodes pool [] place m held e k d lt = absurd (true≢false (sym e))
closed-any nodes pool (r ∷ rs) place m held e k d lt =
    ⊎_elim
    (λ now. or_left (reaches nodes r (get_or (parts_of m) k d)) (reaches_any nodes rs (get_or (parts_of m) k d)) (closed-below nodes pool (r + 1) r place m (omega arith) held now k d lt))
    (λ later. or_right (reaches nodes r (get_or (parts_of m) k d)) (reaches_any nodes rs (get_or (parts_of m) k d)) (closed-any nodes pool rs place m held later k d lt))
    (or_cases (reaches nodes r place) (reaches_any nodes rs place) e)

pub reach-closed : ReachIsClosed
reach-closed nodes roots pool place m held e k d lt = closed-any nodes pool roots place m held e k d lt

pub reach-roots : ReachHasRoots
reach-roots nodes roots pool h k d lt =
    list_any_at (λ root. reaches nodes root (get_or roots k d)) roots k d lt (reach-itself nodes (get_or roots k d) pool (h k d lt))

least-below : (nodes : List PoolNode) (kept : ℕ → Bool) → IsPool nodes → IsClosed nodes kept → (n root place : ℕ) → root < n → kept root ≡ true → reaches nodes root place ≡ true → kept place ≡ true
least-below nodes kept pool closed zero root place h own e = absurd (omega arith)
least-below nodes kept pool closed (suc n) root place h own e =
    reach-cases (kept place ≡ true) nodes root place pool e (λ same. ap kept same ∙ own)
    (λ m held k lt below reach. least-below nodes kept pool closed n (get_or (parts_of m) k 0) place (omega arith) (closed root m held own k 0 lt) reach)

least-any : (nodes : List PoolNode) (kept : ℕ → Bool) → IsPool nodes → IsClosed nodes kept → (roots : List ℕ) → ((k : ℕ) → k < length roots → kept (get_or roots k 0) ≡ true) → (place : ℕ) → reaches_any nodes roots place ≡ true → kept place ≡ true
least-any nodes kept pool closed [] own place e = absurd (true≢false (sym e))
least-any nodes kept pool closed (r ∷ rs) own place e =
    ⊎_elim (λ now. least-below nodes kept pool closed (r + 1) r place (omega arith) (own 0 (omega arith)) now)
    (λ later. least-any nodes kept pool closed rs (λ k lt. own (suc k) (omega arith)) place later)
    (or_cases (reaches nodes r place) (reaches_any nodes rs place) e)

pub reach-least : ReachIsLeast
reach-least nodes roots kept pool own closed place e = least-any nodes kept pool closed roots (λ k lt. own k 0 lt) place e

pub sum-least : SumIsLeast
sum-least weigh nodes roots kept pool own closed =
    sum_where-wider weigh (reaches_any nodes roots) kept 0 nodes (λ k lt e. reach-least nodes roots kept pool own closed k e)

pub sum-exact : SumIsExact
sum-exact weigh nodes roots kept pool own closed only =
    let most = sum-least weigh nodes roots kept pool own closed in
    let least = sum_where-wider weigh kept (reaches_any nodes roots) 0 nodes (λ k lt e. only k e) in
    omega arith

or-false : (b : Bool) → (b || false) ≡ b
or-false true = refl
or-false false = refl

where-same : (weigh : PoolNode → ℕ) (f g : ℕ → Bool) (place : ℕ) (nodes : List PoolNode) → ((k : ℕ) → f k ≡ g k) → sum_where weigh f place nodes ≡ sum_where weigh g place nodes
where-same weigh f g place [] h = refl
where-same weigh f g place (n ∷ ns) h =
    ap (λ b. cond b (weigh n) 0 + sum_where weigh f (place + 1) ns) (h place) ∙ ap (λ m. cond (g place) (weigh n) 0 + m) (where-same weigh f g (place + 1) ns h)

pub one-root : OneRoot
one-root weigh nodes root = where-same weigh (reaches_any nodes (root ∷ [])) (reaches nodes root) 0 nodes (λ k. or-false (reaches nodes root k))

-- ---- values

module _ (vs ws : List Bool) where
  all-same : (parts : List NodeId) → ((k : ℕ) → k < length parts → get_or vs (get_or parts k (record { 0 = 0 })).0 false ≡ get_or ws (get_or parts k (record { 0 = 0 })).0 false) → list_all (λ (part : NodeId). get_or vs part.0 false) parts ≡ list_all (λ (part : NodeId). get_or ws part.0 false) parts
  all-same [] h = refl
  all-same (p ∷ ps) h = ap (λ b. b && list_all (λ (part : NodeId). get_or vs part.0 false) ps) (h 0 (omega arith)) ∙ ap (λ b. get_or ws p.0 false && b) (all-same ps (λ k lt. h (suc k) (omega arith)))

  some-same : (parts : List NodeId) → ((k : ℕ) → k < length parts → get_or vs (get_or parts k (record { 0 = 0 })).0 false ≡ get_or ws (get_or parts k (record { 0 = 0 })).0 false) → list_any (λ (part : NodeId). get_or vs part.0 false) parts ≡ list_any (λ (part : NodeId). get_or ws part.0 false) parts
  some-same [] h = refl
  some-same (p ∷ ps) h = ap (λ b. b || list_any (λ (part : NodeId). get_or vs part.0 false) ps) (h 0 (omega arith)) ∙ ap (λ b. get_or ws p.0 false || b) (some-same ps (λ k lt. h (suc k) (omega arith)))

  -- a node's value comes from the values of its parts alone
  value-same : (set : List Bool) (n : PoolNode) → All (λ part. get_or vs part false ≡ get_or ws part false) (parts_of n) → value_at set vs n ≡ value_at set ws n
  value-same set node.Always h = refl
  value-same set node.Never h = refl
  value-same set (node.Var variable) h = refl
  value-same set (node.Not part) h = ap not (h 0 0 (omega arith))
  value-same set (node.All parts) h = all-same parts (λ k lt. All-unmap (λ part. get_or vs part false ≡ get_or ws part false) (λ (part : NodeId). part.0) parts h k (record { 0 = 0 }) lt)
  value-same set (node.Any parts) h = some-same parts (λ k lt. All-unmap (λ part. get_or vs part false ≡ get_or ws part false) (λ (part : NodeId). part.0) parts h k (record { 0 = 0 }) lt)

value-old : (set : List Bool) (before more : List PoolNode) (k : ℕ) → k < length before → get_or (pool_values set (before ++ more)) k false ≡ get_or (pool_values set before) k false
value-old set before more k h =
    sym (value-read set (unfolded (before ++ more)) k) ∙ ap (value_of set) (unfolded-old before more k formula.Never h) ∙ value-read set (unfolded before) k

value-here : (set : List Bool) (before after : List PoolNode) (n : PoolNode) → All (λ part. part < length before) (parts_of n) → get_or (pool_values set (before ++ n ∷ after)) (length before) false ≡ value_at set (pool_values set (before ++ n ∷ after)) n
value-here set before after n parts =
    ap (λ ns. get_or (pool_values set ns) (length before) false) (sym (append_assoc before (n ∷ []) after))
    ∙ value-old set (before ++ n ∷ []) after (length before) (omega (arith, length_push before n))
    ∙ sym (value-read set (unfolded (before ++ n ∷ [])) (length before))
    ∙ ap (value_of set) (unfolded-last before n formula.Never)
    ∙ value-at set (unfolded before) n
    ∙ value-same (pool_values set before) (pool_values set (before ++ n ∷ after)) set n (λ k d lt. sym (value-old set before (n ∷ after) (get_or (parts_of n) k d) (parts k d lt)))

pub values-by-parts : ValuesAreByParts
values-by-parts set nodes place n pool e =
    let s = split-at nodes place n e in
    subst (λ (ns : List PoolNode). get_or (pool_values set ns) place false ≡ value_at set (pool_values set ns) n) (sym s.is)
    (subst (λ p. get_or (pool_values set (s.before ++ n ∷ s.after)) p false ≡ value_at set (pool_values set (s.before ++ n ∷ s.after)) n) s.count
    (value-here set s.before s.after n (subst (λ r. All (λ part. part < r) (parts_of n)) (sym s.count) (pool place n e))))

pub reach-greatest : ReachIsGreatest
reach-greatest nodes place n e =
    let h = slice_get_within nodes place n e in
    omega (arith, reach-place nodes place n h, ap reach_at (get_or_from_slice_get nodes place n n e))

reach-take : (n : ℕ) (nodes : List PoolNode) → pool_reach (take n nodes) ≤ pool_reach nodes
reach-take zero nodes = omega arith
reach-take (suc n) [] = omega arith
reach-take (suc n) (x ∷ xs) = omega (arith, reach-take n xs)

pub reach-cut : (n : ℕ) (old new : List PoolNode) → new ≡ take n old → pool_reach new ≤ pool_reach old
reach-cut n old new e = omega (arith, ap pool_reach e, reach-take n old)
