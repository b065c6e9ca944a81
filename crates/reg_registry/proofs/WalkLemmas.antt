-- The steps of a walk along the names that rows name.
use Rattle.std.proofs.Common.{◌≡◌, ◌≢◌, ℕ, ◌<◌, ◌≤◌, ◌⊎◌, inl, inr, ⊎_elim, List, [], ◌∷◌, ◌++◌, length, get_or, set, slice_get, Some, All, Contains, refl, sym, ap, subst, ◌∙◌, length-set, length-append, arith}
use Rattle.std.proofs.lemmas.List.Elements.{All-append, All-take, Contains-append_left, Contains-push_cases}
use Rattle.std.proofs.lemmas.Option.{same_Some, slice_get_within, slice_get-get_or}
use Rattle.std.proofs.Math.Seq.{take-append_seam}
use Rattle.reg_registry.specs.declared.registry.Row.{Row}
use Rattle.reg_registry.specs.declared.circles.groups.Group.{Group}
use Rattle.reg_registry.specs.declared.circles.walk.Mark.{Mark}
use Rattle.reg_registry.specs.declared.circles.walk.Mark.TheVariants.{Unseen, OnPath, Done}
use Rattle.reg_registry.specs.Naming.{Leads, step, more, Names}
use Rattle.reg_registry.specs.Walks.{AreStacked, IsAhead, IsDone, IsFrom, IsMet, IsParted, IsPast, IsWalk, NoneBehind, Reaches, Walked}
use Rattle.reg_registry.proofs.PlacedLemmas.{Contains-cases, Contains-first, Contains-rest, append-place, left-place, place-of, push-place, right-place, seam-place, set-other, set-place, set-same}

-- where lists of groups begin

pub starts-below : (groups : List Group) (end ahead : ℕ) → AreStacked groups end ahead → (g : Group) → Contains groups g → (g.start < end) × (g.ahead ≤ ahead)
starts-below [] end ahead s g c = absurd (omega (arith, c.1))
starts-below (h ∷ gs) end ahead s g c =
    ⊎_elim
    (λ (e : h ≡ g). subst (λ (x : Group). (x.start < end) × (x.ahead ≤ ahead)) e (s.0, s.1))
    (λ (r : Contains gs g). let b = starts-below gs h.start h.ahead s.2 g r in (omega (arith, b.0, s.0), omega (arith, b.1, s.1)))
    (Contains-cases h gs g c)

pub last-start : (h : Group) (gs : List Group) (end ahead : ℕ) → AreStacked (h ∷ gs) end ahead → (g : Group) → Contains (h ∷ gs) g → g.start ≤ h.start
last-start h gs end ahead s g c =
    ⊎_elim
    (λ (e : h ≡ g). subst (λ (x : Group). x.start ≤ h.start) e (omega arith))
    (λ (r : Contains gs g). let b = starts-below gs h.start h.ahead s.2 g r in omega (arith, b.0))
    (Contains-cases h gs g c)

stacked-wider : (groups : List Group) (end ahead far high : ℕ) → 0 < end → end ≤ far → ahead ≤ high → AreStacked groups end ahead → AreStacked groups far high
stacked-wider [] end ahead far high l e a s = absurd (omega (arith, l, s))
stacked-wider (g ∷ gs) end ahead far high l e a s = (omega (arith, s.0, e), omega (arith, s.1, a), s.2)

-- what is ahead

from-front : (front : List ℕ) (name : ℕ) (start other : ℕ) → IsFrom (front ++ name ∷ []) start other → IsFrom front start other ⊎ (name ≡ other)
from-front front name start other f =
    ⊎_elim (λ e. inl (record { place = f.place; from = f.from; here = e })) (λ e. inr e.1) (push-place front name other f.place f.here)

from-more : (xs ys : List ℕ) (start other : ℕ) → IsFrom xs start other → IsFrom (xs ++ ys) start other
from-more xs ys start other f = record { place = f.place; from = f.from; here = left-place xs ys f.place other f.here }

from-right : (xs ys : List ℕ) (start other : ℕ) → start ≤ length xs → Contains ys other → IsFrom (xs ++ ys) start other
from-right xs ys start other l c =
    let p = place-of ys other c in
    let r = right-place xs ys p.0 other p.1 in
    record { place = r.0; from = omega (arith, l, r.1); here = r.2 }

from-split : (xs ys : List ℕ) (start other : ℕ) → IsFrom (xs ++ ys) start other → IsFrom xs start other ⊎ Contains ys other
from-split xs ys start other f =
    ⊎_elim (λ e. inl (record { place = f.place; from = f.from; here = e })) (λ e. inr e.1) (append-place xs ys f.place other f.here)

All-front : (P : ℕ → Type 0) (xs ys : List ℕ) → All P (xs ++ ys) → All P xs
All-front P xs ys all = subst (All P) (take-append_seam xs ys) (All-take P (length xs) (xs ++ ys) all)

pub none-from : (xs : List ℕ) (start other : ℕ) → length xs ≤ start → IsFrom xs start other → ⊥
none-from xs start other l f = omega (arith, l, f.from, slice_get_within xs f.place other f.here)

module _ (rows : List Row) where
  pub leads-then : {a b c : ℕ} → Leads rows a b → Leads rows b c → Leads rows a c
  leads-then (step n) l = more n l
  leads-then (more n m) l = more n (leads-then m l)

  pub reaches-leads : {a b c : ℕ} → Reaches rows a b → Leads rows b c → Leads rows a c
  reaches-leads {a} {b} {c} r l = ⊎_elim (λ e. subst (λ x. Leads rows x c) (sym e) l) (λ m. leads-then m l) r

  leads-reaches : {a b c : ℕ} → Leads rows a b → Reaches rows b c → Leads rows a c
  leads-reaches {a} {b} {c} l r = ⊎_elim (λ e. subst (λ x. Leads rows a x) e l) (λ m. leads-then l m) r

  module _ (w : Walked) (walk : IsWalk rows w) where
    module _ (g : Group) (gs : List Group) (e : w.groups ≡ g ∷ gs) where
      pub last-known : Contains w.groups g
      last-known = subst (λ (x : List Group). Contains x g) (sym e) (Contains-first g gs)

      pub last-stacked : AreStacked (g ∷ gs) (length w.path) (length w.ahead)
      last-stacked = subst (λ (x : List Group). AreStacked x (length w.path) (length w.ahead)) e walk.stacked

      pub known-cases : (h : Group) → Contains w.groups h → (g ≡ h) ⊎ Contains gs h
      known-cases h c = Contains-cases g gs h (subst (λ (x : List Group). Contains x h) e c)

      pub known-rest : (h : Group) → Contains gs h → Contains w.groups h
      known-rest h c = subst (λ (x : List Group). Contains x h) (sym e) (Contains-rest g gs h c)

      pub last-name : (top : ℕ) × (slice_get w.path g.start ≡ Some top)
      last-name = (get_or w.path g.start 0, slice_get-get_or w.path g.start 0 (last-stacked.0))

      none-parted : (high : ℕ) → IsParted w.groups g.start high → ⊥
      none-parted high p =
          let l = last-start g gs (length w.path) (length w.ahead) last-stacked p.group (subst (λ (x : List Group). Contains x p.group) e p.known) in
          omega (arith, l, p.behind)

      -- all names on the path lead to the name with which the last group begins
      pub all-reach : (high one top : ℕ) → slice_get w.path high ≡ Some one → slice_get w.path g.start ≡ Some top → Reaches rows one top
      all-reach high one top here begins = ⊎_elim (λ p. absurd (none-parted high p)) (λ r. r) (walk.joined g.start high one top here begins)

      -- and to what it has put ahead
      all-lead : (name : ℕ) → IsFrom w.ahead g.ahead name → (high one : ℕ) → slice_get w.path high ≡ Some one → Leads rows one name
      all-lead name f high one here =
          reaches-leads (all-reach high one last-name.0 here last-name.1) (walk.leads g last-known last-name.0 name last-name.1 f)

      module _ (name : ℕ) (ahead : IsAhead w name) where
        front-stacked : AreStacked (g ∷ gs) (length w.path) (length ahead.front)
        front-stacked = subst (λ (x : List Group). AreStacked x (length w.path) (length ahead.front)) e ahead.stacked

        is-ahead : IsFrom w.ahead g.ahead name
        is-ahead = record {
          place = length ahead.front;
          from = front-stacked.1;
          here = subst (λ (x : List ℕ). slice_get x (length ahead.front) ≡ Some name) (sym ahead.last) (seam-place ahead.front name []);
        }

        module _ (place : ℕ) (marked : slice_get w.marks name ≡ Some (OnPath place)) (behind : place < g.start) where
          part-joined : (low high one other : ℕ) → slice_get w.path high ≡ Some one → slice_get w.path low ≡ Some other
              → low < g.start → g.start ≤ high → IsParted gs low high ⊎ Reaches rows one other
          part-joined low high one other e1 e2 lt le =
              ⊎_elim
              (λ (p : IsParted w.groups low place).
              ⊎_elim
              (λ (q : g ≡ p.group). absurd (let l = subst (λ (x : Group). x.start ≤ place) (sym q) p.upto in omega (arith, l, behind)))
              (λ (c : Contains gs p.group). inl (record { group = p.group; known = c; behind = p.behind; upto = omega (arith, p.upto, behind, le) }))
              (known-cases p.group p.known))
              (λ (r : Reaches rows name other). inr (inr (leads-reaches (all-lead name is-ahead high one e1) r)))
              (walk.joined low place name other (walk.found name place marked) e2)

          pub walk-join : IsWalk rows (record w { groups = gs })
          walk-join = record {
            count = walk.count;
            stacked = stacked-wider gs g.start g.ahead (length w.path) (length w.ahead) (omega (arith, behind)) (omega (arith, last-stacked.0)) last-stacked.1 last-stacked.2;
            placed = walk.placed;
            found = walk.found;
            within = walk.within;
            left = walk.left;
            joined = λ low high one other e1 e2.
                ⊎_elim
                (λ (p : IsParted w.groups low high).
                ⊎_elim
                (λ (q : g ≡ p.group). part-joined low high one other e1 e2 (subst (λ (x : Group). low < x.start) (sym q) p.behind) (subst (λ (x : Group). x.start ≤ high) (sym q) p.upto))
                (λ (c : Contains gs p.group). inl (record { group = p.group; known = c; behind = p.behind; upto = p.upto }))
                (known-cases p.group p.known))
                (λ r. inr r)
                (walk.joined low high one other e1 e2);
            looked = λ h c. walk.looked h (known-rest h c);
            leads = λ h c. walk.leads h (known-rest h c);
            closed = walk.closed;
            least = walk.least;
            first = walk.first;
          }

          pub join-ahead : IsAhead (record w { groups = gs }) name
          join-ahead = record {
            front = ahead.front;
            last = ahead.last;
            stacked = stacked-wider gs g.start g.ahead (length w.path) (length ahead.front) (omega (arith, behind)) (omega (arith, front-stacked.0)) front-stacked.1 front-stacked.2;
          }

    path-cases : (x : ℕ) (p n : ℕ) → slice_get (w.path ++ x ∷ []) p ≡ Some n → (slice_get w.path p ≡ Some n) ⊎ ((p ≡ length w.path) × (x ≡ n))
    path-cases x p n e = push-place w.path x n p e

    -- a name comes to the path, and behind what is ahead what it names
    module _ (name : ℕ) (ahead : IsAhead w name) (unseen : slice_get w.marks name ≡ Some Unseen) (named : List ℕ)
        (names-named : (other : ℕ) → Names rows name other → Contains named other) (named-names : (other : ℕ) → Contains named other → Names rows name other)
        (within : All (λ other. other < length rows) named) where
      abbrev pub entered : Walked
      entered = record {
        marks = set w.marks name (OnPath (length w.path));
        path = w.path ++ name ∷ [];
        ahead = w.ahead ++ named;
        groups = record { start = length w.path; ahead = length w.ahead } ∷ w.groups;
        first = w.first;
      }

      abbrev new-group : Group
      new-group = record { start = length w.path; ahead = length w.ahead }

      group-cases : (h : Group) → Contains (new-group ∷ w.groups) h → (new-group ≡ h) ⊎ Contains w.groups h
      group-cases h c = Contains-cases new-group w.groups h c

      differs : (other : ℕ) (m : Mark) → slice_get w.marks other ≡ Some m → (m ≡ Unseen → ⊥) → other ≢ name
      differs other m e n q = n (same_Some m Unseen (sym e ∙ subst (λ (x : ℕ). slice_get w.marks x ≡ Some Unseen) (sym q) unseen))

      mark-stays : (other : ℕ) (m : Mark) → slice_get w.marks other ≡ Some m → (m ≡ Unseen → ⊥) → slice_get (set w.marks name (OnPath (length w.path))) other ≡ Some m
      mark-stays other m e n = set-other w.marks name other (OnPath (length w.path)) (differs other m e n) ∙ e

      done-before : (other : ℕ) → IsDone (set w.marks name (OnPath (length w.path))) other → IsDone w.marks other
      done-before other e =
          ⊎_elim (λ (p : (other ≡ name) × (OnPath (length w.path) ≡ Done)). absurd (cc (p.1)))
          (λ (p : (other ≢ name) × (slice_get w.marks other ≡ Some Done)). p.1) (set-place w.marks name other (OnPath (length w.path)) Done e)

      all-lead-here : (high one : ℕ) → slice_get w.path high ≡ Some one → Leads rows one name
      all-lead-here high one here = by w.groups refl
        where
          by : (xs : List Group) → w.groups ≡ xs → Leads rows one name
          by [] e =
              absurd (let z : length w.path ≡ 0 = subst (λ (x : List Group). AreStacked x (length w.path) (length w.ahead)) e walk.stacked in
              omega (arith, z, slice_get_within w.path high one here))
          by (g ∷ gs) e = all-lead g gs e name (is-ahead g gs e name ahead) high one here

      known-below : (h : Group) → Contains w.groups h → (h.start < length w.path) × (h.ahead ≤ length w.ahead)
      known-below h c = starts-below w.groups (length w.path) (length w.ahead) walk.stacked h c

      enter-joined : (low high one other : ℕ) → slice_get (w.path ++ name ∷ []) high ≡ Some one → slice_get (w.path ++ name ∷ []) low ≡ Some other
          → IsParted (new-group ∷ w.groups) low high ⊎ Reaches rows one other
      enter-joined low high one other e1 e2 =
          ⊎_elim
          (λ (h : slice_get w.path high ≡ Some one).
          ⊎_elim
          (λ (l : slice_get w.path low ≡ Some other).
          ⊎_elim
          (λ (p : IsParted w.groups low high). inl (record { group = p.group; known = Contains-rest new-group w.groups p.group p.known; behind = p.behind; upto = p.upto }))
          (λ (r : Reaches rows one other). inr r)
          (walk.joined low high one other h l))
          (λ (l : (low ≡ length w.path) × (name ≡ other)). inr (inr (subst (λ (x : ℕ). Leads rows one x) l.1 (all-lead-here high one h))))
          (path-cases name low other e2))
          (λ (h : (high ≡ length w.path) × (name ≡ one)).
          ⊎_elim
          (λ (l : slice_get w.path low ≡ Some other).
          inl (record { group = new-group; known = Contains-first new-group w.groups; behind = slice_get_within w.path low other l; upto = omega (arith, h.0) }))
          (λ (l : (low ≡ length w.path) × (name ≡ other)). inr (inl (sym h.1 ∙ l.1)))
          (path-cases name low other e2))
          (path-cases name high one e1)

      met-then : (g : Group) (other : ℕ) → IsMet w g other → IsMet entered g other
      met-then g other m =
          ⊎_elim (λ (a : IsFrom w.ahead g.ahead other). inl (from-more w.ahead named g.ahead other a))
          (λ (r : IsDone w.marks other ⊎ IsFrom w.path g.start other).
          ⊎_elim (λ (d : IsDone w.marks other). inr (inl (mark-stays other Done d (λ q. cc (q)))))
          (λ (f : IsFrom w.path g.start other). inr (inr (from-more w.path (name ∷ []) g.start other f))) r)
          m

      enter-looked : (g : Group) → Contains (new-group ∷ w.groups) g → (n other : ℕ) → IsFrom (w.path ++ name ∷ []) g.start n → Names rows n other
          → IsMet entered g other
      enter-looked g c n other f names =
          ⊎_elim
          (λ (h : slice_get w.path f.place ≡ Some n).
          ⊎_elim
          (λ (q : new-group ≡ g). absurd (let l = subst (λ (x : Group). x.start ≤ f.place) (sym q) f.from in omega (arith, l, slice_get_within w.path f.place n h)))
          (λ (k : Contains w.groups g). met-then g other (walk.looked g k n other (record { place = f.place; from = f.from; here = h }) names))
          (group-cases g c))
          (λ (h : (f.place ≡ length w.path) × (name ≡ n)).
          inl (from-right w.ahead named g.ahead other
          (⊎_elim (λ (q : new-group ≡ g). subst (λ (x : Group). x.ahead ≤ length w.ahead) q (omega arith))
          (λ (k : Contains w.groups g). (known-below g k).1) (group-cases g c))
          (names-named other (subst (λ (x : ℕ). Names rows x other) (sym h.1) names))))
          (path-cases name f.place n f.here)

      enter-leads : (g : Group) → Contains (new-group ∷ w.groups) g → (n other : ℕ) → slice_get (w.path ++ name ∷ []) g.start ≡ Some n
          → IsFrom (w.ahead ++ named) g.ahead other → Leads rows n other
      enter-leads g c n other here f =
          ⊎_elim
          (λ (h : slice_get w.path g.start ≡ Some n).
          ⊎_elim
          (λ (q : new-group ≡ g). absurd (let l = subst (λ (x : Group). length w.path ≤ x.start) q (omega arith) in omega (arith, l, slice_get_within w.path g.start n h)))
          (λ (k : Contains w.groups g).
          ⊎_elim
          (λ (a : IsFrom w.ahead g.ahead other). walk.leads g k n other h a)
          (λ (b : Contains named other). leads-then (all-lead-here g.start n h) (step (named-names other b)))
          (from-split w.ahead named g.ahead other f))
          (group-cases g c))
          (λ (h : (g.start ≡ length w.path) × (name ≡ n)).
          ⊎_elim
          (λ (q : new-group ≡ g).
          ⊎_elim
          (λ (a : IsFrom w.ahead g.ahead other). absurd (none-from w.ahead g.ahead other (subst (λ (x : Group). length w.ahead ≤ x.ahead) q (omega arith)) a))
          (λ (b : Contains named other). subst (λ (x : ℕ). Leads rows x other) h.1 (step (named-names other b)))
          (from-split w.ahead named g.ahead other f))
          (λ (k : Contains w.groups g). absurd (omega (arith, h.0, (known-below g k).0)))
          (group-cases g c))
          (path-cases name g.start n here)

      pub walk-enter : IsWalk rows entered
      walk-enter = record {
        count = length-set w.marks name (OnPath (length w.path)) ∙ walk.count;
        stacked = (omega (arith, length-append w.path (name ∷ [])), omega (arith, length-append w.ahead named), walk.stacked);
        placed = λ n p e.
            ⊎_elim (λ (h : slice_get w.path p ≡ Some n). mark-stays n (OnPath p) (walk.placed n p h) (λ q. cc (q)))
            (λ (h : (p ≡ length w.path) × (name ≡ n)).
            subst (λ (x : ℕ). slice_get (set w.marks name (OnPath (length w.path))) x ≡ Some (OnPath p)) h.1
            (set-same w.marks name (OnPath (length w.path)) Unseen unseen ∙ ap (λ (x : ℕ). Some (OnPath x)) (sym h.0)))
            (path-cases name p n e);
        found = λ n p e.
            ⊎_elim
            (λ (h : (n ≡ name) × (OnPath (length w.path) ≡ OnPath p)).
            let same : length w.path ≡ p = cc (h.1) in
            subst (λ (x : ℕ). slice_get (w.path ++ name ∷ []) x ≡ Some n) same (seam-place w.path name [] ∙ ap Some (sym h.0)))
            (λ (h : (n ≢ name) × (slice_get w.marks n ≡ Some (OnPath p))). left-place w.path (name ∷ []) p n (walk.found n p h.1))
            (set-place w.marks name n (OnPath (length w.path)) (OnPath p) e);
        within = All-append (λ n. n < length rows) w.ahead named walk.within within;
        left = λ n e.
            ⊎_elim
            (λ (h : (n ≡ name) × (OnPath (length w.path) ≡ Unseen)). absurd (cc (h.1)))
            (λ (h : (n ≢ name) × (slice_get w.marks n ≡ Some Unseen)). Contains-append_left w.ahead named n (walk.left n h.1))
            (set-place w.marks name n (OnPath (length w.path)) Unseen e);
        joined = enter-joined;
        looked = enter-looked;
        leads = enter-leads;
        closed = λ n other d names. mark-stays other Done (walk.closed n other (done-before n d) names) (λ q. cc (q));
        least = λ n d. walk.least n (done-before n d);
        first = walk.first;
      }

    -- the name ahead is left
    module _ (name : ℕ) (ahead : IsAhead w name) (past : IsPast w name) where
      not-unseen : slice_get w.marks name ≡ Some Unseen → ⊥
      not-unseen u =
          ⊎_elim (λ (d : IsDone w.marks name). absurd (cc (u, d)))
          (λ (p : (place : ℕ) × (slice_get w.path place ≡ Some name) × NoneBehind w.groups place). absurd (cc (u, walk.placed name p.0 p.1))) past

      split-ahead : (start other : ℕ) → IsFrom w.ahead start other → IsFrom ahead.front start other ⊎ (name ≡ other)
      split-ahead start other f = from-front ahead.front name start other (subst (λ (x : List ℕ). IsFrom x start other) ahead.last f)

      front-ahead : (start other : ℕ) → IsFrom ahead.front start other → IsFrom w.ahead start other
      front-ahead start other f = subst (λ (x : List ℕ). IsFrom x start other) (sym ahead.last) (from-more ahead.front (name ∷ []) start other f)

      past-met : (g : Group) → Contains w.groups g → IsMet (record w { ahead = ahead.front }) g name
      past-met g c =
          ⊎_elim (λ (d : IsDone w.marks name). inr (inl d))
          (λ (p : (place : ℕ) × (slice_get w.path place ≡ Some name) × NoneBehind w.groups place).
          inr (inr (record { place = p.0; from = p.2 g c; here = p.1 }))) past

      pub walk-skip : IsWalk rows (record w { ahead = ahead.front })
      walk-skip = record {
        count = walk.count;
        stacked = ahead.stacked;
        placed = walk.placed;
        found = walk.found;
        within = All-front (λ n. n < length rows) ahead.front (name ∷ []) (subst (λ (x : List ℕ). All (λ n. n < length rows) x) ahead.last walk.within);
        left = λ other u.
            ⊎_elim (λ (c : Contains ahead.front other). c)
            (λ (q : name ≡ other). absurd (not-unseen (subst (λ (x : ℕ). slice_get w.marks x ≡ Some Unseen) (sym q) u)))
            (Contains-push_cases ahead.front name other (subst (λ (x : List ℕ). Contains x other) ahead.last (walk.left other u)));
        joined = walk.joined;
        looked = λ g c n other f names.
            ⊎_elim
            (λ (a : IsFrom w.ahead g.ahead other).
            ⊎_elim (λ (b : IsFrom ahead.front g.ahead other). inl b)
            (λ (q : name ≡ other). subst (λ (x : ℕ). IsMet (record w { ahead = ahead.front }) g x) q (past-met g c))
            (split-ahead g.ahead other a))
            (λ r. inr r)
            (walk.looked g c n other f names);
        leads = λ g c n other here f. walk.leads g c n other here (front-ahead g.ahead other f);
        closed = walk.closed;
        least = walk.least;
        first = walk.first;
      }
