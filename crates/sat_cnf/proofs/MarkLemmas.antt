-- Which places are marked, from the last down, and the sums over them.
use Rattle.std.proofs.Common.{◌≡◌, ℕ, suc, ◌+◌, ◌<◌, ◌≤◌, Bool, true, false, cond, eqb, ◌||◌, List, [], ◌∷◌, ◌++◌, length, map, reverse, get_or, slice_get, sum_by, Some, All, refl, sym, ap, subst, ◌∙◌, ⊎_elim, ◌⊎◌, inl, inr, arith}
use Rattle.std.specs.declared.cmp.Ordering.{Ordering}
use Rattle.std.specs.declared.cmp.Ordering.TheVariants.{Less, Equal, Greater}
use Rattle.std.specs.Ordering.{nat_cmp, match_ordering}
use Rattle.std.specs.BTreeSet.{insert_key}
use Rattle.std.proofs.lemmas.Cmp.{ranked}
use Rattle.std.proofs.lemmas.List.{length-map, get_or-map, reverse-append}
use Rattle.std.proofs.lemmas.List.Folds.{list_any_at, list_any-append}
use Rattle.std.proofs.lemmas.List.Sums.{sum_by-cons}
use Rattle.std.proofs.lemmas.Bool.{true≢false, eq-eqb, eqb-true, cases_eq, or_cases, or_left, or_right, false_from_ne_true}
use Rattle.std.proofs.lemmas.Option.{get_or_from_slice_get}
use Rattle.vkb_formula.specs.declared.pool.NodeId.{NodeId}
use Rattle.vkb_formula.specs.declared.pool.PoolNode.{PoolNode}
use Rattle.vkb_formula.specs.declared.pool.PoolNode.TheVariants as node
use Rattle.vkb_formula.specs.Pools.{parts_of, IsPool, reaches_any, sum_where, sum_reached_any}
use Rattle.vkb_formula.specs.Reaches.{ReachHasRoots, ReachIsClosed, SumIsExact}
use Rattle.sat_cnf.specs.Coding.{has, AreRising, AreReached, IsMarking, top_of, sum_at}

-- ---- members

pub or-false : (b : Bool) → (b || false) ≡ b
or-false true = refl
or-false false = refl

or-comm : (a b : Bool) → (a || b) ≡ (b || a)
or-comm true true = refl
or-comm true false = refl
or-comm false true = refl
or-comm false false = refl

or-assoc : (a b c : Bool) → ((a || b) || c) ≡ (a || (b || c))
or-assoc true b c = refl
or-assoc false b c = refl

pub has-push : (xs : List ℕ) (x q : ℕ) → has (xs ++ x ∷ []) q ≡ (has xs q || eqb x q)
has-push xs x q = list_any-append (λ o. eqb o q) xs (x ∷ []) ∙ ap (λ b. has xs q || b) (or-false (eqb x q))

has-at : (xs : List ℕ) (q : ℕ) → has xs q ≡ true → (k : ℕ) × (k < length xs) × (get_or xs k 0 ≡ q)
has-at [] q e = absurd (true≢false (sym e))
has-at (x ∷ xs) q e =
    ⊎_elim (λ now. (0, omega arith, eqb-true x q now))
    (λ later. let rest = has-at xs q later in (suc rest.0, omega (arith, rest.1), rest.2))
    (or_cases (eqb x q) (has xs q) e)

pub at-has : (xs : List ℕ) (k d : ℕ) → k < length xs → has xs (get_or xs k d) ≡ true
at-has xs k d lt = list_any_at (λ o. eqb o (get_or xs k d)) xs k d lt (eq-eqb (get_or xs k d) (get_or xs k d) refl)

-- where a place is put among others in order
insert-case : (o : Ordering) (k x q : ℕ) (xs more : List ℕ) → nat_cmp k x ≡ o → has more q ≡ (has xs q || eqb k q) → has (match_ordering o (k ∷ x ∷ xs) (x ∷ xs) (x ∷ more)) q ≡ (has (x ∷ xs) q || eqb k q)
insert-case Less k x q xs more e ih = or-comm (eqb k q) (eqb x q || has xs q)
insert-case Equal k x q xs more e ih =
    let same : k ≡ x = ranked k x Equal (sym e) in
    absorb (eqb x q) (has xs q) ∙ ap (λ m. (eqb x q || has xs q) || eqb m q) (sym same)
  where
    absorb : (a b : Bool) → (a || b) ≡ ((a || b) || a)
    absorb true b = refl
    absorb false true = refl
    absorb false false = refl
insert-case Greater k x q xs more e ih = ap (λ b. eqb x q || b) ih ∙ sym (or-assoc (eqb x q) (has xs q) (eqb k q))

pub has-insert : (keys : List ℕ) (k q : ℕ) → has (insert_key nat_cmp keys k) q ≡ (has keys q || eqb k q)
has-insert [] k q = or-false (eqb k q)
has-insert (x ∷ xs) k q = insert-case (nat_cmp k x) k x q xs (insert_key nat_cmp xs k) refl (has-insert xs k q)

-- one more place that was added
pub has-more : (old mid new first : List ℕ) (x : ℕ) (rest : List ℕ) → ((q : ℕ) → has mid q ≡ (has old q || has first q)) → new ≡ insert_key nat_cmp mid x → rest ≡ first ++ x ∷ [] → (q : ℕ) → has new q ≡ (has old q || has rest q)
has-more old mid new first x rest h e r q =
    ap (λ keys. has keys q) e ∙ has-insert mid x q ∙ ap (λ b. b || eqb x q) (h q) ∙ or-assoc (has old q) (has first q) (eqb x q)
    ∙ ap (λ b. has old q || b) (sym (has-push first x q)) ∙ ap (λ xs. has old q || has xs q) (sym r)

-- ---- marking

reverse-push : (xs : List ℕ) (x : ℕ) → reverse (xs ++ x ∷ []) ≡ x ∷ reverse xs
reverse-push xs x = reverse-append xs (x ∷ [])

-- the places of nodes
pub places-below : (most : ℕ) (nodes : List NodeId) → All (λ (node : NodeId). node.0 < most) nodes → All (λ place. place < most) (map (λ (node : NodeId). node.0) nodes)
places-below most nodes h k d lt =
    let e : get_or (map (λ (node : NodeId). node.0) nodes) k d ≡ (get_or nodes k (record { 0 = 0 })).0 = get_or-map (λ (node : NodeId). node.0) nodes k (record { 0 = 0 }) d (let c = length-map nodes (λ (node : NodeId). node.0) in omega arith) in
    subst (λ m. m < most) (sym e) (h k (record { 0 = 0 }) (let c = length-map nodes (λ (node : NodeId). node.0) in omega arith))

pub marking-start : (nodes : List PoolNode) (roots ahead : List ℕ) → IsPool nodes → ReachHasRoots → All (λ root. root < length nodes) roots → ((q : ℕ) → has ahead q ≡ (has [] q || has roots q)) → IsMarking nodes roots ahead []
marking-start nodes roots ahead pool law below h = record {
  rising = tt;
  apart = λ place other a b. absurd (true≢false (sym b));
  within_ahead = λ place a. at-root (λ q. q < length nodes) (λ k lt. below k 0 lt) place (sym (h place) ∙ a);
  within_done = λ place a. absurd (true≢false (sym a));
  has_roots = λ k d lt. h (get_or roots k d) ∙ at-has roots k d lt;
  closed = λ place n e own. absurd (true≢false (sym own));
  only_ahead = λ place a. at-root (λ q. reaches_any nodes roots q ≡ true) (λ k lt. law nodes roots pool below k 0 lt) place (sym (h place) ∙ a);
  only_done = λ place a. absurd (true≢false (sym a));
}
  where
    at-root : (P : ℕ → Type 0) → ((k : ℕ) → k < length roots → P (get_or roots k 0)) → (q : ℕ) → has roots q ≡ true → P q
    at-root P g q e = let found = has-at roots q e in subst P found.2 (g found.0 found.1)

pub taken-is-ahead : (ahead left : List ℕ) (place : ℕ) → ahead ≡ left ++ place ∷ [] → has ahead place ≡ true
taken-is-ahead ahead left place e =
    ap (λ keys. has keys place) e ∙ has-push left place place ∙ or_right (has left place) (eqb place place) (eq-eqb place place refl)

pub marking-first : (nodes : List PoolNode) (roots none ahead places : List ℕ) → IsPool nodes → ReachHasRoots → All (λ root. root < length nodes) roots → none ≡ [] → ((q : ℕ) → has ahead q ≡ (has none q || has roots q)) → places ≡ [] → IsMarking nodes roots ahead (reverse places)
marking-first nodes roots none ahead places pool law below n h e =
    subst (λ ps. IsMarking nodes roots ahead (reverse ps)) (sym e) (marking-start nodes roots ahead pool law below (λ q. h q ∙ ap (λ keys. has keys q || has roots q) n))

pub none-left : (xs : List ℕ) → (0 < length xs → ⊥) → xs ≡ []
none-left [] h = refl
none-left (x ∷ xs) h = absurd (h (omega arith))

-- what one step of the marking takes out, and what it adds
pub record IsStep (nodes : List PoolNode) (ahead left new : List ℕ) (place : ℕ) (n : PoolNode) : Type 0 where
  pub pool : IsPool nodes
  pub held : slice_get nodes place ≡ Some n
  pub parts : All (λ part. part < place) (parts_of n)
  pub removal : ahead ≡ left ++ place ∷ []
  pub below : All (λ other. nat_cmp other place ≡ Less) left
  pub added : (q : ℕ) → has new q ≡ (has left q || has (parts_of n) q)

module _ (nodes : List PoolNode) (roots ahead left new done : List ℕ) (place : ℕ) (n : PoolNode) (s : IsStep nodes ahead left new place n) where
  has-ahead : (q : ℕ) → has ahead q ≡ (has left q || eqb place q)
  has-ahead q = ap (λ keys. has keys q) s.removal ∙ has-push left place q

  own : has ahead place ≡ true
  own = has-ahead place ∙ or_right (has left place) (eqb place place) (eq-eqb place place refl)

  left-below : (q : ℕ) → has left q ≡ true → q < place
  left-below q e = let found = has-at left q e in subst (λ m. m < place) found.2 (ranked (get_or left found.0 0) place Less (sym (s.below found.0 0 found.1)))

  part-below : (q : ℕ) → has (parts_of n) q ≡ true → q < place
  part-below q e = let found = has-at (parts_of n) q e in subst (λ m. m < place) found.2 (s.parts found.0 0 found.1)

  new-cases : (q : ℕ) → has new q ≡ true → (has left q ≡ true) ⊎ (has (parts_of n) q ≡ true)
  new-cases q e = or_cases (has left q) (has (parts_of n) q) (sym (s.added q) ∙ e)

  pub new-below : (q : ℕ) → has new q ≡ true → q < place
  new-below q e = ⊎_elim (left-below q) (part-below q) (new-cases q e)

  left-ahead : (q : ℕ) → has left q ≡ true → has ahead q ≡ true
  left-ahead q e = has-ahead q ∙ or_left (has left q) (eqb place q) e

  done-cases : (q : ℕ) → has (place ∷ done) q ≡ true → (place ≡ q) ⊎ (has done q ≡ true)
  done-cases q e = ⊎_elim (λ now. inl (eqb-true place q now)) (λ later. inr later) (or_cases (eqb place q) (has done q) e)

  -- what was marked stays so
  stays : (q : ℕ) → (has done q || has ahead q) ≡ true → (has (place ∷ done) q || has new q) ≡ true
  stays q e =
      ⊎_elim
      (λ (d : has done q ≡ true). or_left (has (place ∷ done) q) (has new q) (or_right (eqb place q) (has done q) d))
      (λ (a : has ahead q ≡ true).
      ⊎_elim
      (λ (l : has left q ≡ true). or_right (has (place ∷ done) q) (has new q) (s.added q ∙ or_left (has left q) (has (parts_of n) q) l))
      (λ (p : eqb place q ≡ true). or_left (has (place ∷ done) q) (has new q) (or_left (eqb place q) (has done q) p))
      (or_cases (has left q) (eqb place q) (sym (has-ahead q) ∙ a)))
      (or_cases (has done q) (has ahead q) e)

  module _ (law : ReachIsClosed) (m : IsMarking nodes roots ahead done) where
    place-within : place < length nodes
    place-within = m.within_ahead place own

    place-reached : reaches_any nodes roots place ≡ true
    place-reached = m.only_ahead place own

    step-closed : (q : ℕ) (o : PoolNode) → slice_get nodes q ≡ Some o → has (place ∷ done) q ≡ true → All (λ part. (has (place ∷ done) part || has new part) ≡ true) (parts_of o)
    step-closed q o e h k d lt =
        ⊎_elim
        (λ (same : place ≡ q).
        let node-same : n ≡ o = (let a : slice_get nodes place ≡ Some o = subst (λ p. slice_get nodes p ≡ Some o) (sym same) e in let b = s.held in cc) in
        or_right (has (place ∷ done) (get_or (parts_of o) k d)) (has new (get_or (parts_of o) k d))
        (s.added (get_or (parts_of o) k d) ∙ or_right (has left (get_or (parts_of o) k d)) (has (parts_of n) (get_or (parts_of o) k d))
        (ap (λ x. has (parts_of x) (get_or (parts_of o) k d)) node-same ∙ at-has (parts_of o) k d lt)))
        (λ (old : has done q ≡ true). stays (get_or (parts_of o) k d) (m.closed q o e old k d lt))
        (done-cases q h)

    pub marking-next : IsMarking nodes roots new (place ∷ done)
    marking-next = record {
      rising = ((λ other h. m.apart place other own h), m.rising);
      apart = λ p other a b. ⊎_elim
          (λ (same : place ≡ other). subst (λ x. p < x) same (new-below p a))
          (λ (old : has done other ≡ true). let lt = new-below p a in let up = m.apart place other own old in omega arith)
          (done-cases other b);
      within_ahead = λ p a. let lt = new-below p a in let here = place-within in omega arith;
      within_done = λ p a. ⊎_elim (λ (same : place ≡ p). subst (λ x. x < length nodes) same place-within) (λ (old : has done p ≡ true). m.within_done p old) (done-cases p a);
      has_roots = λ k d lt. stays (get_or roots k d) (m.has_roots k d lt);
      closed = step-closed;
      only_ahead = λ p a. ⊎_elim
          (λ (l : has left p ≡ true). m.only_ahead p (left-ahead p l))
          (λ (part : has (parts_of n) p ≡ true).
          let found = has-at (parts_of n) p part in
          subst (λ x. reaches_any nodes roots x ≡ true) found.2 (law nodes roots s.pool place n s.held place-reached found.0 0 found.1))
          (new-cases p a);
      only_done = λ p a. ⊎_elim (λ (same : place ≡ p). subst (λ x. reaches_any nodes roots x ≡ true) same place-reached) (λ (old : has done p ≡ true). m.only_done p old) (done-cases p a);
    }

-- the next step of the marking, with the places as they are pushed
pub marking-push : (nodes : List PoolNode) (roots ahead left new places more : List ℕ) (place : ℕ) (n : PoolNode) → IsStep nodes ahead left new place n → ReachIsClosed → IsMarking nodes roots ahead (reverse places) → more ≡ places ++ place ∷ [] → IsMarking nodes roots new (reverse more)
marking-push nodes roots ahead left new places more place n s law m e =
    subst (IsMarking nodes roots new) (sym (ap reverse e ∙ reverse-push places place)) (marking-next nodes roots ahead left new (reverse places) place n s law m)

-- where nothing is ahead, all that is reached is done
pub marking-end : (nodes : List PoolNode) (roots ahead done all : List ℕ) → ahead ≡ [] → all ≡ done → IsMarking nodes roots ahead done → AreReached nodes roots all
marking-end nodes roots ahead done all none same m = subst (AreReached nodes roots) (sym same) (record {
  rising = m.rising;
  within = m.within_done;
  has_roots = λ k d lt. only (get_or roots k d) (m.has_roots k d lt);
  closed = λ place n e h k d lt. only (get_or (parts_of n) k d) (m.closed place n e h k d lt);
  only = m.only_done;
})
  where
    only : (q : ℕ) → (has done q || has ahead q) ≡ true → has done q ≡ true
    only q e = sym (ap (λ keys. has done q || has keys q) none ∙ or-false (has done q)) ∙ e

-- ---- the marking ends

pub has-top : (xs : List ℕ) (q : ℕ) → has xs q ≡ true → q < top_of xs
has-top [] q e = absurd (true≢false (sym e))
has-top (x ∷ xs) q e =
    ⊎_elim (λ now. let same = eqb-true x q now in omega arith) (λ later. let rest = has-top xs q later in omega arith) (or_cases (eqb x q) (has xs q) e)

pub top-below : (xs : List ℕ) (most : ℕ) → ((q : ℕ) → has xs q ≡ true → q < most) → top_of xs ≤ most
top-below [] most h = omega arith
top-below (x ∷ xs) most h =
    let rest = top-below xs most (λ q e. h q (or_right (eqb x q) (has xs q) e)) in
    let here = h x (or_left (eqb x x) (has xs x) (eq-eqb x x refl)) in
    omega arith

pub top-falls : (nodes : List PoolNode) (ahead left new : List ℕ) (place : ℕ) (n : PoolNode) → IsStep nodes ahead left new place n → top_of new < top_of ahead
top-falls nodes ahead left new place n s =
    let low = top-below new place (new-below nodes [] ahead left new [] place n s) in
    let high = has-top ahead place (own nodes [] ahead left new [] place n s) in
    omega arith

-- ---- sums

where-from : (weigh : PoolNode → ℕ) (f g : ℕ → Bool) (base : ℕ) (nodes : List PoolNode) → ((k : ℕ) → base ≤ k → f k ≡ g k) → sum_where weigh f base nodes ≡ sum_where weigh g base nodes
where-from weigh f g base [] h = refl
where-from weigh f g base (n ∷ ns) h =
    ap (λ b. cond b (weigh n) 0 + sum_where weigh f (base + 1) ns) (h base (omega arith))
    ∙ ap (λ m. cond (g base) (weigh n) 0 + m) (where-from weigh f g (base + 1) ns (λ k le. h k (omega arith)))

where-none : (weigh : PoolNode → ℕ) (base : ℕ) (nodes : List PoolNode) → sum_where weigh (has []) base nodes ≡ 0
where-none weigh base [] = refl
where-none weigh base (n ∷ ns) = let rest = where-none weigh (base + 1) ns in omega arith

where-at : (weigh : PoolNode → ℕ) (w : ℕ → ℕ) (base : ℕ) (nodes : List PoolNode) (places : List ℕ) → ((k : ℕ) (n : PoolNode) → slice_get nodes k ≡ Some n → w (base + k) ≡ weigh n) → AreRising places → ((q : ℕ) → has places q ≡ true → (base ≤ q) × (q < base + length nodes)) → sum_where weigh (has places) base nodes ≡ sum_by w places
where-at weigh w base [] [] weighs up in_range = refl
where-at weigh w base [] (p ∷ ps) weighs up in_range =
    absurd (let h = in_range p (or_left (eqb p p) (has ps p) (eq-eqb p p refl)) in omega (arith, h.0, h.1))
where-at weigh w base (n ∷ ns) [] weighs up in_range = where-none weigh base (n ∷ ns)
where-at weigh w base (n ∷ ns) (p ∷ ps) weighs up in_range =
    let first : (base ≤ p) × (p < base + length (n ∷ ns)) = in_range p (or_left (eqb p p) (has ps p) (eq-eqb p p refl)) in
    let shifted : (k : ℕ) (m : PoolNode) → slice_get ns k ≡ Some m → w (base + 1 + k) ≡ weigh m = λ k m e. ap w (let s : base + 1 + k ≡ base + suc k = omega arith in s) ∙ weighs (suc k) m e in
    ⊎_elim
    (λ (same : p ≡ base).
    let rest = where-at weigh w (base + 1) ns ps shifted up.1
    (λ q h. let above = up.0 q h in let old = in_range q (or_right (eqb p q) (has ps q) h) in (omega arith, omega (arith, old.1))) in
    let here : cond (has (p ∷ ps) base) (weigh n) 0 ≡ w p =
    ap (λ b. cond b (weigh n) 0) (or_left (eqb p base) (has ps base) (eq-eqb p base same)) ∙ sym (weighs 0 n refl) ∙ ap w (let s : base + 0 ≡ p = omega arith in s) in
    let others : sum_where weigh (has (p ∷ ps)) (base + 1) ns ≡ sum_where weigh (has ps) (base + 1) ns =
    where-from weigh (has (p ∷ ps)) (has ps) (base + 1) ns (λ k le. ap (λ b. b || has ps k) (false_from_ne_true (eqb p k) (λ e. let at = eqb-true p k e in omega arith))) in
    omega (arith, here, others, rest, sum_by-cons w p ps))
    (λ (apart : p ≡ base → ⊥).
    let above : base < p = less base p first.0 apart in
    let none : has (p ∷ ps) base ≡ false = false_from_ne_true (has (p ∷ ps) base) (λ e.
    ⊎_elim (λ now. apart (eqb-true p base now)) (λ later. let up-here = up.0 base later in omega arith) (or_cases (eqb p base) (has ps base) e)) in
    let rest = where-at weigh w (base + 1) ns (p ∷ ps) shifted up
    (λ q h. let old = in_range q h in ((⊎_elim (λ now. let at = eqb-true p q now in omega arith) (λ later. let up-here = up.0 q later in omega arith) (or_cases (eqb p q) (has ps q) h)), omega (arith, old.1))) in
    ap (λ b. cond b (weigh n) 0 + sum_where weigh (has (p ∷ ps)) (base + 1) ns) none ∙ (let e : 0 + sum_where weigh (has (p ∷ ps)) (base + 1) ns ≡ sum_by w (p ∷ ps) = omega arith in e))
    (cases_eq p base)
  where
    less : (a b : ℕ) → a ≤ b → (b ≡ a → ⊥) → a < b
    less a b le ne = omega arith

-- the sum over what is reached is the sum over its places
pub reached-sum : (weigh : PoolNode → ℕ) (nodes : List PoolNode) (roots places : List ℕ) → SumIsExact → IsPool nodes → AreReached nodes roots places → sum_reached_any weigh nodes roots ≡ sum_at weigh nodes places
reached-sum weigh nodes roots places law pool r =
    law weigh nodes roots (has places) pool r.has_roots r.closed r.only
    ∙ where-at weigh (λ place. weigh (get_or nodes place node.Always)) 0 nodes places
    (λ k n e. ap (λ j. weigh (get_or nodes j node.Always)) (let z : 0 + k ≡ k = omega arith in z) ∙ ap weigh (get_or_from_slice_get nodes k n node.Always e))
    r.rising
    (λ q h. (omega arith, let in_range = r.within q h in omega arith))
