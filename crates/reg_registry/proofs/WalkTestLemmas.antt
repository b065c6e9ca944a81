-- What the tests of a walk say of it.
use Rattle.std.proofs.Common.{◌≡◌, ◌≢◌, ℕ, zero, suc, ◌+◌, ◌-◌, ◌<◌, ◌≤◌, List, [], ◌∷◌, ◌++◌, length, take, get_or, slice_get, slice_index_or, Option, Some, None, All, Contains, MatchOption, refl, sym, ap, subst, ◌∙◌, length-append, length-take, arith}
use Rattle.std.proofs.Math.Seq.{take-append_seam}
use Rattle.std.proofs.lemmas.List.Elements.{All-contains, Contains-push}
use Rattle.std.proofs.lemmas.Option.{none-some, same_Some, slice_get_within, slice_get-get_or}
use Rattle.vkb_bytes.specs.First.{first_of}
use Rattle.reg_registry.specs.declared.registry.Row.{Row}
use Rattle.reg_registry.specs.declared.circles.groups.Group.{Group}
use Rattle.reg_registry.specs.declared.circles.walk.Mark.{Mark}
use Rattle.reg_registry.specs.declared.circles.walk.Mark.TheVariants.{OnPath}
use Rattle.reg_registry.specs.Walks.{AreStacked, IsAhead, IsPast, IsSpent, IsSpentAt, IsWalk, NoneBehind, Walked}
use Rattle.reg_registry.proofs.WalkLemmas.{join-ahead, last-start, walk-join, walk-skip}

last-split : (xs : List ℕ) (k x : ℕ) → slice_get xs k ≡ Some x → k + 1 ≡ length xs → xs ≡ take k xs ++ x ∷ []
last-split [] k x e l = absurd (cc)
last-split (y ∷ []) zero x e l = ap (λ (z : ℕ). z ∷ []) (same_Some y x e)
last-split (y ∷ z ∷ zs) zero x e l = absurd (omega (arith, l))
last-split (y ∷ ys) (suc k) x e l = ap (λ (z : List ℕ). y ∷ z) (last-split ys k x e (omega (arith, l)))

pub first-is : {X : Type 0} (xs : List X) (x : X) → Some x ≡ first_of xs → (rest : List X) × (xs ≡ x ∷ rest)
first-is [] x e = absurd (none-some x (sym e))
first-is (y ∷ ys) x e = (ys, ap (λ z. z ∷ ys) (sym (same_Some x y e)))

pub spent-by : (w : Walked) (g : Group) → Some g ≡ first_of w.groups → g.ahead ≡ length w.ahead → IsSpent w
spent-by w g e s = let r = first-is w.groups g e in record { group = g; more = r.0; last = r.1; spent = s }

pub by-spent : (w : Walked) (g : Group) → Some g ≡ first_of w.groups → IsSpent w → g.ahead ≡ length w.ahead
by-spent w g e s =
    let r = first-is w.groups g e in
    let same : g ≡ s.group = cc (sym r.1 ∙ s.last) in
    ap (λ (x : Group). x.ahead) same ∙ s.spent

pub popped-front : (xs front ys : List ℕ) (x n : ℕ) → n ≡ length xs → xs ≡ front ++ x ∷ [] → ys ≡ take (n - 1) xs → ys ≡ front
popped-front xs front ys x n l e r =
    let short : n - 1 ≡ length front = omega (arith, l, ap (λ (z : List ℕ). length z) e, length-append front (x ∷ [])) in
    r ∙ ap (λ (k : ℕ). take k xs) short ∙ ap (λ (z : List ℕ). take (length front) z) e ∙ take-append_seam front (x ∷ [])

abbrev pub IsToJoin : List Row → ℕ → Walked → Type 0
IsToJoin rows place w =
    IsWalk rows w × ((name : ℕ) × IsAhead w name × (slice_get w.marks name ≡ Some (OnPath place)))
    × ((group : Group) × (more : List Group) × (w.groups ≡ group ∷ more) × (place < group.start))

pub join-step : (rows : List Row) (place : ℕ) (w : Walked) (r : Option Group) (new : List Group) → IsToJoin rows place w
    → MatchOption r ((w.groups ≡ []) × (new ≡ [])) (λ g. w.groups ≡ g ∷ new)
    → IsWalk rows (record w { groups = new }) × ((name : ℕ) × IsAhead (record w { groups = new }) name × (slice_get w.marks name ≡ Some (OnPath place)))
join-step rows place w None new t p = absurd (cc (t.2.2, p.0))
join-step rows place w (Some g) new t p =
    let same : t.2.0 ≡ g = cc (sym t.2.2 ∙ p) in
    let behind : place < g.start = subst (λ (x : Group). place < x.start) same t.2.3 in
    (walk-join rows w t.0 g new p t.1.0 t.1.1 place t.1.2 behind, (t.1.0, join-ahead rows w t.0 g new p t.1.0 t.1.1 place t.1.2 behind, t.1.2))

pub skip-step : (rows : List Row) (w : Walked) (n : ℕ) (new : List ℕ) → IsWalk rows w → (name : ℕ) → IsAhead w name → IsPast w name
    → n ≡ length w.ahead → new ≡ take (n - 1) w.ahead → IsWalk rows (record w { ahead = new })
skip-step rows w n new walk name ahead past l r =
    subst (λ (x : List ℕ). IsWalk rows (record w { ahead = x })) (sym (popped-front w.ahead ahead.front new name n l ahead.last r)) (walk-skip rows w walk name ahead past)

-- where the last group doesn't begin behind a place, none does
pub none-behind : (rows : List Row) (w : Walked) → IsWalk rows w → (place : ℕ) → MatchOption (first_of w.groups) (w.groups ≡ []) (λ g. g.start ≤ place) → NoneBehind w.groups place
none-behind rows w walk place m = by w.groups walk.stacked m
  where
    by : (xs : List Group) → AreStacked xs (length w.path) (length w.ahead) → MatchOption (first_of xs) (w.groups ≡ []) (λ g. g.start ≤ place) → NoneBehind xs place
    by [] s n g c = absurd (omega (arith, c.1))
    by (x ∷ xs) s n g c = omega (arith, last-start x xs (length w.path) (length w.ahead) s g c, n)

-- what is ahead, where the last group isn't spent
pub ahead-by : (rows : List Row) (w : Walked) → IsWalk rows w → (IsSpent w → ⊥) → (name : ℕ) → Some name ≡ slice_get w.ahead (length w.ahead - 1) → IsAhead w name
ahead-by rows w walk open' name e = record { front = front; last = last; stacked = by w.groups refl }
  where
    lt : length w.ahead - 1 < length w.ahead
    lt = slice_get_within w.ahead (length w.ahead - 1) name (sym e)

    front : List ℕ
    front = take (length w.ahead - 1) w.ahead

    last : w.ahead ≡ front ++ name ∷ []
    last = last-split w.ahead (length w.ahead - 1) name (sym e) (omega (arith, lt))

    short : length front + 1 ≡ length w.ahead
    short = omega (arith, lt, length-take (length w.ahead - 1) w.ahead)

    by : (xs : List Group) → w.groups ≡ xs → AreStacked w.groups (length w.path) (length front)
    by [] q = subst (λ (x : List Group). AreStacked x (length w.path) (length front)) (sym q) (subst (λ (x : List Group). AreStacked x (length w.path) (length w.ahead)) q walk.stacked)
    by (g ∷ gs) q =
        let s = subst (λ (x : List Group). AreStacked x (length w.path) (length w.ahead)) q walk.stacked in
        let differs : g.ahead ≢ length w.ahead = λ h. open' (record { group = g; more = gs; last = q; spent = h }) in
        subst (λ (x : List Group). AreStacked x (length w.path) (length front)) (sym q) (s.0, omega (arith, s.1, short, differs), s.2)

pub none-ahead : (rows : List Row) (w : Walked) → IsWalk rows w → (IsSpent w → ⊥) → None ≡ slice_get w.ahead (length w.ahead - 1) → (w.groups ≡ []) × (w.ahead ≡ [])
none-ahead rows w walk open' e = (groups w.groups refl, empty)
  where
    by : (xs : List ℕ) → None ≡ slice_get xs (length xs - 1) → xs ≡ []
    by [] q = refl
    by (x ∷ xs) q = absurd (cc (q, slice_get-get_or (x ∷ xs) (length (x ∷ xs) - 1) 0 (omega arith)))

    empty : w.ahead ≡ []
    empty = by w.ahead e

    groups : (xs : List Group) → w.groups ≡ xs → w.groups ≡ []
    groups [] q = q
    groups (g ∷ gs) q =
        let s = subst (λ (x : List Group). AreStacked x (length w.path) (length w.ahead)) q walk.stacked in
        let none : length w.ahead ≡ 0 = ap (λ (x : List ℕ). length x) empty in
        absurd (open' (record { group = g; more = gs; last = q; spent = omega (arith, s.1, none) }))

pub ahead-within : (rows : List Row) (w : Walked) → IsWalk rows w → (name : ℕ) → IsAhead w name → name < length w.marks
ahead-within rows w walk name ahead =
    let here : Contains w.ahead name = subst (λ (x : List ℕ). Contains x name) (sym ahead.last) (Contains-push ahead.front name) in
    omega (arith, walk.count, All-contains (λ n. n < length rows) w.ahead name walk.within here)

pub path-within : (rows : List Row) (w : Walked) → IsWalk rows w → All (λ name. name < length w.marks) w.path
path-within rows w walk k d l =
    slice_get_within w.marks (get_or w.path k d) (OnPath k) (walk.placed (get_or w.path k d) k (slice_get-get_or w.path k d l))

pub mark-at : (marks : List Mark) (name : ℕ) (m k : Mark) → name < length marks → m ≡ slice_index_or marks name m → m ≡ k → slice_get marks name ≡ Some k
mark-at marks name m k l e q = slice_get-get_or marks name m l ∙ ap Some (sym e ∙ q)

pub top-within : (rows : List Row) (w : Walked) → IsWalk rows w → (place name : ℕ) → slice_get w.path place ≡ Some name → name < length rows
top-within rows w walk place name e = omega (arith, walk.count, slice_get_within w.marks name (OnPath place) (walk.placed name place e))

pub popped-rest : (gs : List Group) (g : Group) (r : Option Group) (new : List Group) → Some g ≡ first_of gs → MatchOption r ((gs ≡ []) × (new ≡ [])) (λ x. gs ≡ x ∷ new) → gs ≡ g ∷ new
popped-rest gs g None new e m = let r = first-is gs g e in absurd (cc (r.1, m.0))
popped-rest gs g (Some x) new e m =
    let r = first-is gs g e in
    let same : x ≡ g = cc (sym m ∙ r.1) in
    subst (λ (y : Group). gs ≡ y ∷ new) same m

pub same-first : (gs : List Group) (g h : Group) (new more : List Group) → gs ≡ g ∷ new → gs ≡ h ∷ more → h ≡ g
same-first gs g h new more e f = cc (sym f ∙ e)

abbrev pub spent-at : (w : Walked) (g : Group) (new : List Group) → w.groups ≡ g ∷ new → IsSpent w → IsSpentAt w g.start
spent-at w g new e s = record {
  group = g;
  more = new;
  last = e;
  spent = ap (λ (x : Group). x.ahead) (sym (same-first w.groups g s.group new s.more e s.last)) ∙ s.spent;
  begins = refl;
}
