-- How many names are left, and names that wait for one less.
use Rattle.std.proofs.Common.{◌≡◌, ◌≢◌, ◌↔◌, ℕ, zero, suc, ◌+◌, ◌-◌, ◌<◌, ◌≤◌, ◌⊎◌, inl, inr, ⊎_elim, Bool, true, false, cond, eqb, ◌||◌, List, [], ◌∷◌, ◌++◌, length, map, get_or, set, take, slice_get, Some, Contains, refl, sym, ap, subst, ◌∙◌, length-set, arith}
use Rattle.std.specs.declared.cmp.Ordering.{Ordering}
use Rattle.std.specs.declared.cmp.Ordering.TheVariants.{Less, Equal, Greater}
use Rattle.std.specs.Ordering.{nat_cmp, match_ordering}
use Rattle.std.specs.BTreeSet.{insert_key}
use Rattle.std.proofs.lemmas.Bool.{cases_Bool, cases_eq, eq-eqb, eqb-true, false_from_ne_true, ne_eqb, or_cases, or_left, or_right, true≢false}
use Rattle.std.proofs.lemmas.Cmp.{ranked}
use Rattle.std.proofs.lemmas.List.{take_more}
use Rattle.std.proofs.lemmas.List.Elements.{Contains-append_left, Contains-get_or, Contains-push, Contains-push_cases}
use Rattle.std.proofs.lemmas.List.Folds.{list_any-append}
use Rattle.std.proofs.lemmas.Option.{get_or_from_slice_get, same_Some, slice_get_within}
use Rattle.vkb_formula.specs.declared.name_table.NameId.{NameId}
use Rattle.reg_registry.specs.Naming.{NoneTwice}
use Rattle.reg_registry.specs.Rows.{id_at}
use Rattle.reg_closure.proofs.PlacedLemmas.{Contains-cases, Contains-first, Contains-map, Contains-rest, set-other, set-same}
use Rattle.reg_closure.specs.Closure.{IsIn}
use Rattle.reg_closure.specs.Waiting.{Releases, Waits, is_placed, left}

-- ---- what is placed

pub placed-has : (placed : List ℕ) (x : ℕ) → is_placed placed x ≡ true → Contains placed x
placed-has [] x e = absurd (true≢false (sym e))
placed-has (y ∷ ys) x e =
    ⊎_elim (λ (s : eqb y x ≡ true). subst (λ (z : ℕ). Contains (y ∷ ys) z) (eqb-true y x s) (Contains-first y ys))
    (λ r. Contains-rest y ys x (placed-has ys x r)) (or_cases (eqb y x) (is_placed ys x) e)

pub has-placed : (placed : List ℕ) (x : ℕ) → Contains placed x → is_placed placed x ≡ true
has-placed [] x c = absurd (omega (arith, c.1))
has-placed (y ∷ ys) x c =
    ⊎_elim (λ (e : y ≡ x). or_left (eqb y x) (is_placed ys x) (eq-eqb y x e)) (λ r. or_right (eqb y x) (is_placed ys x) (has-placed ys x r))
    (Contains-cases y ys x c)

not-placed : (placed : List ℕ) (x : ℕ) → (Contains placed x → ⊥) → is_placed placed x ≡ false
not-placed placed x n = false_from_ne_true (is_placed placed x) (λ e. n (placed-has placed x e))

or-false : (b : Bool) → (b || false) ≡ b
or-false true = refl
or-false false = refl

placed-other : (placed : List ℕ) (y x : ℕ) → y ≢ x → is_placed (placed ++ y ∷ []) x ≡ is_placed placed x
placed-other placed y x n =
    list_any-append (λ o. eqb o x) placed (y ∷ []) ∙ ap
    (λ (b : Bool). is_placed placed x || (b || false)) (ne_eqb y x n) ∙ or-false (is_placed placed x)

-- ---- how many are left

pub left-none : (ids : List NameId) → left [] ids ≡ length ids
left-none [] = refl
left-none (id ∷ ids) = omega (arith, left-none ids)

pub left-other : (placed : List ℕ) (y : ℕ) (ids : List NameId) → (Contains ids (id_at y) → ⊥) → left (placed ++ y ∷ []) ids ≡ left placed ids
left-other placed y [] n = refl
left-other placed y (id ∷ ids) n =
    let d : y ≢ id.0 = λ e. n (subst (λ (z : ℕ). Contains (id ∷ ids) (id_at z)) (sym e) (Contains-first id ids)) in
    ap (λ (b : Bool). cond b 0 1 + left (placed ++ y ∷ []) ids) (placed-other placed y id.0 d)
    ∙ ap (λ (n : ℕ). cond (is_placed placed id.0) 0 1 + n) (left-other placed y ids (λ c. n (Contains-rest id ids (id_at y) c)))

pub left-one : (placed : List ℕ) (y : ℕ) (ids : List NameId) → NoneTwice (map (λ (id : NameId). id.0) ids)
    → Contains ids (id_at y) → (Contains placed y → ⊥)
    → left (placed ++ y ∷ []) ids + 1 ≡ left placed ids
left-one placed y [] once c n = absurd (omega (arith, c.1))
left-one placed y (id ∷ ids) once c n =
    ⊎_elim
    (λ (e : id ≡ id_at y).
    let is : id.0 ≡ y = ap (λ (i : NameId). i.0) e in
    let before : is_placed placed id.0 ≡ false = not-placed placed id.0 (λ k. n (subst (λ (z : ℕ). Contains placed z) is k)) in
    let now : is_placed (placed ++ y ∷ []) id.0 ≡ true = has-placed (placed ++ y ∷ []) id.0 (subst
    (λ (z : ℕ). Contains (placed ++ y ∷ []) z) (sym is) (Contains-push placed y)) in
    let rest : left (placed ++ y ∷ []) ids ≡ left placed ids =
    left-other placed y ids (λ k. once.0 (subst
    (λ (z : ℕ). Contains (map (λ (i : NameId). i.0) ids) z) (sym is) (Contains-map (λ (i : NameId). i.0) ids (id_at y) k))) in
    omega (arith, ap {B = ℕ} (λ (b : Bool). cond b 0 1) before, ap {B = ℕ} (λ (b : Bool). cond b 0 1) now, rest))
    (λ r.
    let d : y ≢ id.0 = λ e. once.0 (subst (λ (z : ℕ). Contains (map (λ (i : NameId). i.0) ids) z) e (Contains-map
    (λ (i : NameId). i.0) ids (id_at y) r)) in
    omega (arith, left-one placed y ids once.1 r n, ap {B = ℕ} (λ (b : Bool). cond b 0 1) (placed-other placed y id.0 d)))
    (Contains-cases id ids (id_at y) c)

pub none-left : (placed : List ℕ) (ids : List NameId) → left placed ids ≡ 0 → (other : ℕ) → Contains ids (id_at other) → Contains placed other
none-left placed [] e other c = absurd (omega (arith, c.1))
none-left placed (id ∷ ids) e other c =
    ⊎_elim
    (λ (t : is_placed placed id.0 ≡ true).
    ⊎_elim (λ (s : id ≡ id_at other). subst (λ (i : NameId). Contains placed i.0) s (placed-has placed id.0 t))
    (λ r. none-left placed ids (omega (arith, e, ap {B = ℕ} (λ (b : Bool). cond b 0 1) t)) other r) (Contains-cases id ids (id_at other) c))
    (λ (f : is_placed placed id.0 ≡ false). absurd (omega (arith, e, ap {B = ℕ} (λ (b : Bool). cond b 0 1) f)))
    (cases_Bool (is_placed placed id.0))

pub all-left : (placed : List ℕ) (ids : List NameId) → ((other : ℕ) → Contains ids (id_at other) → Contains placed other) → left placed ids ≡ 0
all-left placed [] h = refl
all-left placed (id ∷ ids) h =
    omega (
      arith,
      ap {B = ℕ} (λ (b : Bool). cond b 0 1) (has-placed placed id.0 (h id.0 (Contains-first id ids))),
      all-left placed ids
          (λ other c. h other (Contains-rest id ids (id_at other) c)),
    )

-- ---- a set with one more

insert-cases : (o : Ordering) (k x q : ℕ) (xs more : List ℕ) → nat_cmp k x ≡ o → (Contains more q → Contains xs q ⊎ (q ≡ k))
    → Contains (match_ordering o (k ∷ x ∷ xs) (x ∷ xs) (x ∷ more)) q → Contains (x ∷ xs) q ⊎ (q ≡ k)
insert-cases Less k x q xs more e ih c = ⊎_elim (λ (s : k ≡ q). inr (sym s)) (λ r. inl r) (Contains-cases k (x ∷ xs) q c)
insert-cases Equal k x q xs more e ih c = inl c
insert-cases Greater k x q xs more e ih c =
    ⊎_elim (λ (s : x ≡ q). inl (subst (λ (z : ℕ). Contains (x ∷ xs) z) s (Contains-first x xs)))
    (λ r. ⊎_elim (λ d. inl (Contains-rest x xs q d)) (λ s. inr s) (ih r))
    (Contains-cases x more q c)

pub insert-from : (xs : List ℕ) (k q : ℕ) → Contains (insert_key nat_cmp xs k) q → Contains xs q ⊎ (q ≡ k)
insert-from [] k q c = ⊎_elim (λ (s : k ≡ q). inr (sym s)) (λ r. inl r) (Contains-cases k [] q c)
insert-from (x ∷ xs) k q c = insert-cases (nat_cmp k x) k x q xs (insert_key nat_cmp xs k) refl (λ d. insert-from xs k q d) c

insert-case-old : (o : Ordering) (k x q : ℕ) (xs more : List ℕ) → (Contains xs q → Contains more q) → Contains (x ∷ xs) q
    → Contains (match_ordering o (k ∷ x ∷ xs) (x ∷ xs) (x ∷ more)) q
insert-case-old Less k x q xs more ih c = Contains-rest k (x ∷ xs) q c
insert-case-old Equal k x q xs more ih c = c
insert-case-old Greater k x q xs more ih c =
    ⊎_elim (λ (s : x ≡ q). subst (λ (z : ℕ). Contains (x ∷ more) z) s (Contains-first x more))
    (λ r. Contains-rest x more q (ih r)) (Contains-cases x xs q c)

pub insert-old : (xs : List ℕ) (k q : ℕ) → Contains xs q → Contains (insert_key nat_cmp xs k) q
insert-old [] k q c = Contains-rest k [] q c
insert-old (x ∷ xs) k q c = insert-case-old (nat_cmp k x) k x q xs (insert_key nat_cmp xs k) (λ d. insert-old xs k q d) c

insert-case-new : (o : Ordering) (k x : ℕ) (xs more : List ℕ) → nat_cmp k x ≡ o → Contains more k
    → Contains (match_ordering o (k ∷ x ∷ xs) (x ∷ xs) (x ∷ more)) k
insert-case-new Less k x xs more e ih = Contains-first k (x ∷ xs)
insert-case-new Equal k x xs more e ih = subst (λ (z : ℕ). Contains (x ∷ xs) z) (sym (ranked k x Equal (sym e))) (Contains-first x xs)
insert-case-new Greater k x xs more e ih = Contains-rest x more k ih

pub insert-new : (xs : List ℕ) (k : ℕ) → Contains (insert_key nat_cmp xs k) k
insert-new [] k = Contains-first k []
insert-new (x ∷ xs) k = insert-case-new (nat_cmp k x) k x xs (insert_key nat_cmp xs k) refl (insert-new xs k)

-- ---- names wait for one less

only-one : (x y : ℕ) → Contains (x ∷ []) y → x ≡ y
only-one x y c = ⊎_elim (λ (e : x ≡ y). e) (λ r. absurd (omega (arith, r.1))) (Contains-cases x [] y c)

-- one name, which is ready where it waits for none
pub releases-one : (v w : Waits) (name n : ℕ) → slice_get v.counts name ≡ Some (n + 1) → w.counts ≡ set v.counts name n
    → ((x : ℕ) → Contains v.ready x → Contains w.ready x) → (n ≡ 0 → Contains w.ready name) → ((x : ℕ) → Contains w.ready x → Contains v.ready x ⊎ ((x ≡ name) × (n ≡ 0)))
    → Releases (name ∷ []) v w
releases-one v w name n e f stays freed only = record {
  count = ap length f ∙ length-set v.counts name n;
  fewer = λ place m c g.
      let same = only-one name place c in
      let k : slice_get v.counts name ≡ Some (m + 1) = subst (λ (x : ℕ). slice_get v.counts x ≡ Some (m + 1)) (sym same) g in
      let is : n + 1 ≡ m + 1 = same_Some (n + 1) (m + 1) (sym e ∙ k) in
      subst (λ (x : ℕ). slice_get w.counts x ≡ Some m) same (here ∙ ap Some (omega (arith, is)));
  others = λ place d. ap (λ (xs : List ℕ). slice_get xs place) f ∙ set-other v.counts name place n
      (λ q. d (subst (λ (x : ℕ). Contains (name ∷ []) x) (sym q) (Contains-first name [])));
  stays = stays;
  freed = λ place c g.
      let same = only-one name place c in
      let k : slice_get w.counts name ≡ Some 0 = subst (λ (x : ℕ). slice_get w.counts x ≡ Some 0) (sym same) g in
      subst (λ (x : ℕ). Contains w.ready x) same (freed (same_Some n 0 (sym here ∙ k)));
  only = λ place c.
      ⊎_elim (λ d. inl d)
      (λ p. inr (
        subst (λ (x : ℕ). Contains (name ∷ []) x) (sym p.0) (Contains-first name []),
        subst (λ (x : ℕ). slice_get w.counts x ≡ Some 0) (sym p.0) (here ∙ ap Some p.1),
      ))
      (only place c);
}
  where
    here : slice_get w.counts name ≡ Some n
    here = ap (λ (xs : List ℕ). slice_get xs name) f ∙ set-same v.counts name n (n + 1) e

-- a name stands once among others
pub again : (xs : List ℕ) → NoneTwice xs → (k d : ℕ) → k < length xs → Contains (take k xs) (get_or xs k d) → ⊥
again [] once k d l c = absurd (omega (arith, l))
again (x ∷ xs) once zero d l c = absurd (omega (arith, c.1))
again (x ∷ xs) once (suc k) d l c =
    ⊎_elim (λ (e : x ≡ get_or xs k d). once.0 (subst (λ (z : ℕ). Contains xs z) (sym e) (Contains-get_or xs k d (omega (arith, l)))))
    (λ r. again xs once.1 k d (omega (arith, l)) r) (Contains-cases x (take k xs) (get_or xs k d) c)

-- and one more name
pub releases-more : (names : List ℕ) (k d : ℕ) → k < length names → NoneTwice names → (u v w : Waits)
    → Releases (take k names) u v → Releases (get_or names k d ∷ []) v w
    → Releases (take (k + 1) names) u w
releases-more names k d l once u v w m n =
    subst (λ (xs : List ℕ). Releases xs u w) (sym (take_more names k d l)) all
  where
    x : ℕ
    x = get_or names k d

    new : Contains (take k names) x → ⊥
    new c = again names once k d l c

    all : Releases (take k names ++ x ∷ []) u w
    all = record {
      count = n.count ∙ m.count;
      fewer = λ place p c e.
          ⊎_elim
          (λ a. n.others place (λ b. new (subst (λ (z : ℕ). Contains (take k names) z) (sym (only-one x place b)) a)) ∙ m.fewer place p a e)
          (λ (q : x ≡ place). n.fewer place p (subst (λ (z : ℕ). Contains (x ∷ []) z) q (Contains-first x [])) (m.others place
          (λ a. new (subst (λ (z : ℕ). Contains (take k names) z) (sym q) a)) ∙ e))
          (Contains-push_cases (take k names) x place c);
      others = λ place o.
          n.others place (λ b. o (subst (λ (z : ℕ). Contains (take k names ++ x ∷ []) z) (only-one x place b) (Contains-push (take k names) x)))
          ∙ m.others place (λ a. o (Contains-append_left (take k names) (x ∷ []) place a));
      stays = λ place c. n.stays place (m.stays place c);
      freed = λ place c e.
          ⊎_elim
          (λ a. n.stays place (m.freed place a (sym (n.others place
          (λ b. new (subst (λ (z : ℕ). Contains (take k names) z) (sym (only-one x place b)) a))) ∙ e)))
          (λ (q : x ≡ place). n.freed place (subst (λ (z : ℕ). Contains (x ∷ []) z) q (Contains-first x [])) e)
          (Contains-push_cases (take k names) x place c);
      only = λ place c.
          ⊎_elim
          (λ b. ⊎_elim (λ a. inl a)
          (λ p. inr (
            Contains-append_left (take k names) (x ∷ []) place p.0,
            n.others place (λ b. new (subst (λ (z : ℕ). Contains (take k names) z) (sym (only-one x place b)) p.0)) ∙ p.1,
          ))
          (m.only place b))
          (λ p. inr (subst (λ (z : ℕ). Contains (take k names ++ x ∷ []) z) (only-one x place p.0) (Contains-push (take k names) x), p.1))
          (n.only place c);
    }

-- what one more name waits for
pub waits-one : (names : List ℕ) (k d : ℕ) → k < length names → NoneTwice names → (u v : Waits) → Releases (take k names) u v
    → ((place : ℕ) → Contains names place → (n : ℕ) × (slice_get u.counts place ≡ Some (n + 1))) → (n : ℕ) × (slice_get v.counts (get_or names k d) ≡ Some (n + 1))
waits-one names k d l once u v m wait =
    let w = wait (get_or names k d) (Contains-get_or names k d l) in (w.0, m.others (get_or names k d) (λ c. again names once k d l c) ∙ w.1)

-- by the number that was read
pub releases-read : (inside v w : Waits) (name x n : ℕ) → inside ≡ v → slice_get v.counts name ≡ Some (n + 1)
    → x ≡ get_or inside.counts name x → w.counts ≡ set inside.counts name (x - 1)
    → ((y : ℕ) → Contains inside.ready y → Contains w.ready y) → (x - 1 ≡ 0 → Contains w.ready name)
    → ((y : ℕ) → Contains w.ready y → Contains inside.ready y ⊎ ((y ≡ name) × (x - 1 ≡ 0))) → Releases (name ∷ []) v w
releases-read inside v w name x n same e r f stays freed only =
    subst (λ (z : Waits). Releases (name ∷ []) z w) same (
    releases-one inside w name n here (f ∙ ap (set inside.counts name) is) stays (λ z. freed (is ∙ z))
    (λ y c. ⊎_elim (λ d. inl d) (λ p. inr (p.0, sym is ∙ p.1)) (only y c))
    )
  where
    here : slice_get inside.counts name ≡ Some (n + 1)
    here = subst (λ (z : Waits). slice_get z.counts name ≡ Some (n + 1)) (sym same) e

    is : x - 1 ≡ n
    is = omega (arith, r, get_or_from_slice_get inside.counts name (n + 1) x here)

-- ---- which names wait for none, of those before an end

module _ (set : List Bool) (counts : List ℕ) where
  abbrev pub AreReady : ℕ → List ℕ → Type 0
  AreReady end ready = (place : ℕ) → Contains ready place ↔ ((place < end) × IsIn set place × (slice_get counts place ≡ Some 0))

  pub ready-more : (end : ℕ) (old new : List ℕ) → AreReady end old → IsIn set end
      → slice_get counts end ≡ Some 0 → new ≡ insert_key nat_cmp old end → AreReady (end + 1) new
  ready-more end old new a i z e place = (
    (λ c. ⊎_elim (λ d. let o = (a place).0 d in (omega (arith, o.0), o.1, o.2))
        (λ (q : place ≡ end). (omega (arith, q), subst (IsIn set) (sym q) i, subst (λ (x : ℕ). slice_get counts x ≡ Some 0) (sym q) z))
        (insert-from old end place (subst (λ (xs : List ℕ). Contains xs place) e c))),
    (λ p. subst (λ (xs : List ℕ). Contains xs place) (sym e) (
        ⊎_elim (λ (q : place ≡ end). subst (λ (x : ℕ). Contains (insert_key nat_cmp old end) x) (sym q) (insert-new old end))
        (λ (d : place ≢ end). insert-old old end place ((a place).1 (omega (arith, p.0, d), p.1, p.2))) (cases_eq place end)
        )),
  )

  pub ready-less : (end : ℕ) (ready : List ℕ) → AreReady end ready → (IsIn set end → slice_get counts end ≡ Some 0 → ⊥) → AreReady (end + 1) ready
  ready-less end ready a n place = (
    (λ c. let o = (a place).0 c in (omega (arith, o.0), o.1, o.2)),
    (λ p.
        ⊎_elim (λ (q : place ≡ end). absurd (n (subst (IsIn set) q p.1) (subst (λ (x : ℕ). slice_get counts x ≡ Some 0) q p.2)))
        (λ (d : place ≢ end). (a place).1 (omega (arith, p.0, d), p.1, p.2)) (cases_eq place end)),
  )

  pub ready-all : (end : ℕ) (ready : List ℕ) → AreReady end ready → length counts ≤ end → (place : ℕ)
      → Contains ready place ↔ (IsIn set place × (slice_get counts place ≡ Some 0))
  ready-all end ready a l place = (
    (λ c. let o = (a place).0 c in (o.1, o.2)),
    (λ p. (a place).1 (let k = slice_get_within counts place 0 p.1 in omega (arith, k, l), p.0, p.1)),
  )
