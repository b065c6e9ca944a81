-- The last group of a walk is done.
use Rattle.std.proofs.Common.{◌≡◌, ◌≢◌, ℕ, zero, suc, ◌+◌, ◌<◌, ◌≤◌, ◌⊎◌, inl, inr, ⊎_elim, List, ◌∷◌, length, take, drop, get_or, slice_get, Option, Some, None, Contains, IfSome, refl, sym, ap, subst, ◌∙◌, length-take, arith}
use Rattle.std.specs.Option.{IsSomeAnd}
use Rattle.std.proofs.lemmas.Option.{same_Some, slice_get-get_or, slice_get_within}
use Rattle.reg_registry.specs.declared.registry.Row.{Row}
use Rattle.reg_registry.specs.declared.circles.groups.Group.{Group}
use Rattle.reg_registry.specs.declared.circles.walk.Mark.{Mark}
use Rattle.reg_registry.specs.declared.circles.walk.Mark.TheVariants.{Unseen, OnPath, Done}
use Rattle.reg_registry.specs.Naming.{IsOnCircle, Leads, step, more, Names}
use Rattle.reg_registry.specs.Walks.{AreStacked, IsDone, IsFirstWith, IsFrom, IsMet, IsParted, IsSpentAt, IsWalk, Reaches, Walked, steps_of, weight_of, with_done}
use Rattle.reg_registry.proofs.PlacedLemmas.{Contains-drop, drop-place, place-of, place-take, take-place}
use Rattle.reg_registry.proofs.WalkLemmas.{known-cases, known-rest, last-known, last-name, last-stacked, last-start, leads-then, none-from}
use Rattle.reg_registry.proofs.WalkWeightLemmas.{done-in, done-keeps, done-stays, done-was, length-done, same-or-not, weight-done}

pub before-or-not : (x y : ℕ) → (x < y) ⊎ (y ≤ x)
before-or-not x zero = inr (omega arith)
before-or-not zero (suc y) = inl (omega arith)
before-or-not (suc x) (suc y) = ⊎_elim (λ l. inl (omega (arith, l))) (λ l. inr (omega (arith, l))) (before-or-not x y)

pub some-and : (o : Option ℕ) (n : ℕ) → IsSomeAnd o (λ first. first ≤ n) → (m : ℕ) × (o ≡ Some m) × (m ≤ n)
some-and None n s = absurd s
some-and (Some m) n s = (m, refl, s)

pub and-less : (o : Option ℕ) (m n : ℕ) → m ≤ n → IsSomeAnd o (λ first. first ≤ m) → IsSomeAnd o (λ first. first ≤ n)
and-less None m n l s = s
and-less (Some k) m n l s = omega (arith, l, s)

module _ (rows : List Row) (w : Walked) (walk : IsWalk rows w) (g : Group) (gs : List Group) (e : w.groups ≡ g ∷ gs) (spent : g.ahead ≡ length w.ahead) where
  marked-at : (name : ℕ) → IsFrom w.path g.start name → (place : ℕ) × (slice_get w.marks name ≡ Some (OnPath place)) × (g.start ≤ place)
  marked-at name f = (f.place, walk.placed name f.place f.here, f.from)

  same-place : (name one two : ℕ) → slice_get w.path one ≡ Some name → slice_get w.path two ≡ Some name → one ≡ two
  same-place name one two e1 e2 =
      let both : Some (OnPath one) ≡ Some (OnPath two) = sym (walk.placed name one e1) ∙ walk.placed name two e2 in cc (both)

  not-done : (name place : ℕ) → slice_get w.path place ≡ Some name → IsDone w.marks name → ⊥
  not-done name place here d = cc (walk.placed name place here, d)

  -- what the group's names name is done, or in the group
  group-named : (name other : ℕ) → IsFrom w.path g.start name → Names rows name other → IsDone w.marks other ⊎ IsFrom w.path g.start other
  group-named name other f names =
      ⊎_elim (λ (a : IsFrom w.ahead g.ahead other). absurd (none-from w.ahead g.ahead other (omega (arith, spent)) a)) (λ r. r)
      (walk.looked g (last-known rows w walk g gs e) name other f names)

  done-lead : {name other : ℕ} → Leads rows name other → IsDone w.marks name → IsDone w.marks other
  done-lead {name} {other} (step n) d = walk.closed name other d n
  done-lead {name} {other} (more {next = next} n l) d = done-lead l (walk.closed name next d n)

  -- where it has one name that doesn't name itself, that is on no circle
  pub alone : (name : ℕ) → length w.path ≤ g.start + 1 → slice_get w.path g.start ≡ Some name → (Names rows name name → ⊥) → IsOnCircle rows name → ⊥
  alone name short here never circle = by circle refl refl
    where
      one : (other : ℕ) → IsFrom w.path g.start other → name ≡ other
      one other f =
          let l : g.start ≡ f.place = omega (arith, short, f.from, slice_get_within w.path f.place other f.here) in
          same_Some name other (sym here ∙ subst (λ (x : ℕ). slice_get w.path x ≡ Some other) (sym l) f.here)

      self : IsFrom w.path g.start name
      self = record { place = g.start; from = omega arith; here = here }

      by : {a b : ℕ} → Leads rows a b → name ≡ a → name ≡ b → ⊥
      by {a} {b} (step n) p q = never (subst (λ (x : ℕ). Names rows name x) (sym q) (subst (λ (x : ℕ). Names rows x b) (sym p) n))
      by {a} {b} (more {next = next} n l) p q =
          let first : Names rows name next = subst (λ (x : ℕ). Names rows x next) (sym p) n in
          ⊎_elim
          (λ (d : IsDone w.marks next). not-done name g.start here (subst (λ (x : ℕ). IsDone w.marks x) (sym q) (done-lead l d)))
          (λ (f : IsFrom w.path g.start next). never (subst (λ (x : ℕ). Names rows name x) (sym (one next f)) first))
          (group-named name next self first)

  -- where it has more than one, each is on a circle
  pub together : (name : ℕ) → g.start + 1 < length w.path → IsFrom w.path g.start name → IsOnCircle rows name
  together name long f =
      ⊎_elim
      (λ (q : f.place ≡ g.start). around (g.start + 1) (second.0) (second.1) (omega (arith, q)) (omega arith))
      (λ (q : f.place ≢ g.start). around g.start (last-name rows w walk g gs e).0 (last-name rows w walk g gs e).1 (λ r. q (sym r)) (omega arith))
      (same-or-not f.place g.start)
    where
      second : (name : ℕ) × (slice_get w.path (g.start + 1) ≡ Some name)
      second = (get_or w.path (g.start + 1) 0, slice_get-get_or w.path (g.start + 1) 0 long)

      reach : (low high one other : ℕ) → g.start ≤ high → slice_get w.path low ≡ Some one → slice_get w.path high ≡ Some other → Reaches rows one other
      reach low high one other l e1 e2 =
          ⊎_elim
          (λ (p : IsParted w.groups high low).
          absurd (let b = last-start g gs (length w.path) (length w.ahead) (last-stacked rows w walk g gs e) p.group (subst (λ (x : List Group). Contains x p.group) e p.known) in omega (arith, b, p.behind, l)))
          (λ (r : Reaches rows one other). r)
          (walk.joined high low one other e1 e2)

      around : (place other : ℕ) → slice_get w.path place ≡ Some other → (place ≢ f.place) → g.start ≤ place → IsOnCircle rows name
      around place other here differ from =
          lead-round (reach f.place place name other from f.here here) (reach place f.place other name f.from here f.here)
          (λ q. differ (same-place name place f.place (here ∙ ap Some (sym q)) f.here))
        where
          lead-round : Reaches rows name other → Reaches rows other name → (name ≡ other → ⊥) → IsOnCircle rows name
          lead-round r s n = ⊎_elim (λ q. absurd (n q)) (λ l. ⊎_elim (λ q. absurd (n (sym q))) (λ m. leads-then rows l m) s) r

  module _ (first : Option ℕ) (found : IsFirstWith rows w g.start first) where
    abbrev pub closed-walk : Walked
    closed-walk = record {
      marks = with_done (drop g.start w.path) w.marks;
      path = take g.start w.path;
      ahead = w.ahead;
      groups = gs;
      first = first;
    }

    dropped-from : (name : ℕ) → Contains (drop g.start w.path) name → IsFrom w.path g.start name
    dropped-from name c =
        let p = place-of (drop g.start w.path) name c in
        let r = drop-place w.path g.start p.0 name p.1 in
        record { place = r.0; from = r.1; here = r.2 }

    from-dropped : (name : ℕ) → IsFrom w.path g.start name → Contains (drop g.start w.path) name
    from-dropped name f = Contains-drop w.path g.start f.place name f.from f.here

    now-done : (name : ℕ) → IsFrom w.path g.start name → IsDone closed-walk.marks name
    now-done name f = done-in (drop g.start w.path) w.marks name (OnPath f.place) (walk.placed name f.place f.here) (from-dropped name f)

    done-cases : (name : ℕ) → IsDone closed-walk.marks name → IsFrom w.path g.start name ⊎ IsDone w.marks name
    done-cases name d =
        ⊎_elim (λ h. inl (dropped-from name h.0)) (λ h. inr h) (done-was (drop g.start w.path) w.marks name Done d)

    close-met : (h : Group) (other : ℕ) → IsMet w h other → IsMet closed-walk h other
    close-met h other m =
        ⊎_elim (λ a. inl a)
        (λ (r : IsDone w.marks other ⊎ IsFrom w.path h.start other).
        ⊎_elim (λ (d : IsDone w.marks other). inr (inl (done-keeps (drop g.start w.path) w.marks other d)))
        (λ (f : IsFrom w.path h.start other).
        ⊎_elim
        (λ (l : f.place < g.start). inr (inr (record { place = f.place; from = f.from; here = place-take w.path g.start f.place other l f.here })))
        (λ (l : g.start ≤ f.place). inr (inl (now-done other (record { place = f.place; from = l; here = f.here }))))
        (before-or-not f.place g.start)) r)
        m

    pub walk-close : IsWalk rows closed-walk
    walk-close = record {
      count = length-done (drop g.start w.path) w.marks ∙ walk.count;
      stacked =
          let s = last-stacked rows w walk g gs e in
          let short : length (take g.start w.path) ≡ g.start = omega (arith, s.0, length-take g.start w.path) in
          subst (λ (x : ℕ). AreStacked gs x (length w.ahead)) (sym short) (subst (λ (x : ℕ). AreStacked gs g.start x) spent s.2);
      placed = λ n p h.
          let t = take-place w.path g.start p n h in
          ⊎_elim
          (λ d. absurd (let f = dropped-from n d.0 in omega (arith, f.from, same-place n p f.place t.1 f.here, t.0)))
          (λ k. k)
          (done-stays (drop g.start w.path) w.marks n (OnPath p) (walk.placed n p t.1));
      found = λ n p h.
          ⊎_elim
          (λ d. absurd (cc (d.1)))
          (λ k. ⊎_elim
          (λ l. place-take w.path g.start p n l (walk.found n p k))
          (λ l. absurd (let d = now-done n (record { place = p; from = l; here = walk.found n p k }) in cc (d, h)))
          (before-or-not p g.start))
          (done-was (drop g.start w.path) w.marks n (OnPath p) h);
      within = walk.within;
      left = λ n h. ⊎_elim (λ d. absurd (cc (d.1))) (λ k. walk.left n k) (done-was (drop g.start w.path) w.marks n Unseen h);
      joined = λ low high one other e1 e2.
          let t1 = take-place w.path g.start high one e1 in
          let t2 = take-place w.path g.start low other e2 in
          ⊎_elim
          (λ (p : IsParted w.groups low high).
          ⊎_elim
          (λ (q : g ≡ p.group). absurd (let l = subst (λ (x : Group). x.start ≤ high) (sym q) p.upto in omega (arith, l, t1.0)))
          (λ (c : Contains gs p.group). inl (record { group = p.group; known = c; behind = p.behind; upto = p.upto }))
          (known-cases rows w walk g gs e p.group p.known))
          (λ r. inr r)
          (walk.joined low high one other t1.1 t2.1);
      looked = λ h c n other f names.
          close-met h other (walk.looked h (known-rest rows w walk g gs e h c) n other
          (record { place = f.place; from = f.from; here = (take-place w.path g.start f.place n f.here).1 }) names);
      leads = λ h c n other here f. walk.leads h (known-rest rows w walk g gs e h c) n other (take-place w.path g.start h.start n here).1 f;
      closed = λ n other d names.
          ⊎_elim
          (λ (f : IsFrom w.path g.start n).
          ⊎_elim (λ k. done-keeps (drop g.start w.path) w.marks other k) (λ k. now-done other k) (group-named n other f names))
          (λ (k : IsDone w.marks n). done-keeps (drop g.start w.path) w.marks other (walk.closed n other k names))
          (done-cases n d);
      least = λ n d circle.
          ⊎_elim
          (λ (f : IsFrom w.path g.start n). found.among n f circle)
          (λ (k : IsDone w.marks n).
          let s = some-and w.first n (walk.least n k circle) in
          and-less first s.0 n s.2 (found.before s.0 s.1))
          (done-cases n d);
      first = found.on_circle;
    }

    pub dropped-seen : (name : ℕ) → Contains (drop g.start w.path) name → slice_get w.marks name ≡ Some Unseen → ⊥
    dropped-seen name c u = let f = dropped-from name c in cc (u, walk.placed name f.place f.here)

module _ (rows : List Row) (w : Walked) (walk : IsWalk rows w) (start : ℕ) (s : IsSpentAt w start) where
  moved : (name : ℕ) → IsFrom w.path start name → IsFrom w.path s.group.start name
  moved name f = subst (λ (x : ℕ). IsFrom w.path x name) (sym s.begins) f

  pub spent-together : start + 1 < length w.path → (name : ℕ) → IsFrom w.path start name → IsOnCircle rows name
  spent-together l name f = together rows w walk s.group s.more s.last s.spent name (omega (arith, l, s.begins)) (moved name f)

  only : length w.path ≤ start + 1 → (top : ℕ) → slice_get w.path start ≡ Some top → (name : ℕ) → IsFrom w.path start name → top ≡ name
  only short top here name f =
      let same : start ≡ f.place = omega (arith, short, f.from, slice_get_within w.path f.place name f.here) in
      same_Some top name (sym here ∙ subst (λ (x : ℕ). slice_get w.path x ≡ Some name) (sym same) f.here)

  pub spent-alone : length w.path ≤ start + 1 → (top : ℕ) → slice_get w.path start ≡ Some top → (Names rows top top → ⊥)
      → (name : ℕ) → IsFrom w.path start name → IsOnCircle rows name → ⊥
  spent-alone short top here never name f circle =
      alone rows w walk s.group s.more s.last s.spent top (omega (arith, short, s.begins))
      (subst (λ (x : ℕ). slice_get w.path x ≡ Some top) (sym s.begins) here) never
      (subst (λ (x : ℕ). IsOnCircle rows x) (sym (only short top here name f)) circle)

  pub spent-itself : length w.path ≤ start + 1 → (top : ℕ) → slice_get w.path start ≡ Some top → Names rows top top
      → (name : ℕ) → IsFrom w.path start name → IsOnCircle rows name
  spent-itself short top here names name f = subst (λ (x : ℕ). IsOnCircle rows x) (only short top here name f) (step names)

  pub spent-below : start < length w.path
  spent-below =
      let l = last-stacked rows w walk s.group s.more s.last in omega (arith, l.0, s.begins)

  pub first-least : (least : Option ℕ) → ((name : ℕ) → IsFrom w.path start name → IsOnCircle rows name)
      → ((name : ℕ) → Contains (drop start w.path) name → IsSomeAnd least (λ first. first ≤ name))
      → ((name : ℕ) → w.first ≡ Some name → IsSomeAnd least (λ first. first ≤ name))
      → ((name : ℕ) → least ≡ Some name → Contains (drop start w.path) name ⊎ (w.first ≡ Some name))
      → IsFirstWith rows w start least
  first-least least circular among before one = record {
    on_circle = circle least one;
    among = λ name f _. among name (Contains-drop w.path start f.place name f.from f.here);
    before = before;
  }
    where
      at-first : (o : Option ℕ) (name : ℕ) → o ≡ Some name → IfSome o (IsOnCircle rows) → IsOnCircle rows name
      at-first None name e i = absurd (cc)
      at-first (Some x) name e i = subst (λ (y : ℕ). IsOnCircle rows y) (same_Some x name e) i

      circle : (o : Option ℕ) → ((name : ℕ) → o ≡ Some name → Contains (drop start w.path) name ⊎ (w.first ≡ Some name)) → IfSome o (IsOnCircle rows)
      circle None f = tt
      circle (Some x) f =
          ⊎_elim
          (λ c. let p = place-of (drop start w.path) x c in let r = drop-place w.path start p.0 x p.1 in circular x (record { place = r.0; from = r.1; here = r.2 }))
          (λ e. at-first w.first x e walk.first)
          (f x refl)

  pub first-none : ((name : ℕ) → IsFrom w.path start name → IsOnCircle rows name → ⊥) → IsFirstWith rows w start w.first
  first-none none = record {
    on_circle = walk.first;
    among = λ name f circle. absurd (none name f circle);
    before = λ name e. subst (λ (o : Option ℕ). IsSomeAnd o (λ first. first ≤ name)) (sym e) (omega arith);
  }

  pub close-step : (first : Option ℕ) (marks : List Mark) (path : List ℕ) (groups : List Group) → IsFirstWith rows w start first
      → marks ≡ with_done (drop start w.path) w.marks → path ≡ take start w.path → w.groups ≡ s.group ∷ groups
      → IsWalk rows (record { marks = marks; path = path; ahead = w.ahead; groups = groups; first = first })
      × (steps_of rows (record { marks = marks; path = path; ahead = w.ahead; groups = groups; first = first }) < steps_of rows w)
  close-step first marks path groups found em ep eg =
      let begins : s.group.start ≡ start = s.begins in
      let found2 : IsFirstWith rows w s.group.start first = subst (λ (x : ℕ). IsFirstWith rows w x first) (sym begins) found in
      let done : IsWalk rows (closed-walk rows w walk s.group groups eg s.spent first found2) = walk-close rows w walk s.group groups eg s.spent first found2 in
      let em2 : marks ≡ with_done (drop s.group.start w.path) w.marks = em ∙ ap (λ (x : ℕ). with_done (drop x w.path) w.marks) (sym begins) in
      let ep2 : path ≡ take s.group.start w.path = ep ∙ ap (λ (x : ℕ). take x w.path) (sym begins) in
      let weight : weight_of rows marks ≡ weight_of rows w.marks =
      ap (weight_of rows) em2 ∙ weight-done rows (drop s.group.start w.path) w.marks (dropped-seen rows w walk s.group groups eg s.spent first found2) in
      let fewer : length w.groups ≡ length groups + 1 = omega (arith, ap (λ (x : List Group). length x) eg) in (
        subst (λ (x : List Mark). IsWalk rows (record { marks = x; path = path; ahead = w.ahead; groups = groups; first = first })) (sym em2)
            (subst (λ (x : List ℕ). IsWalk rows (record { marks = with_done (drop s.group.start w.path) w.marks; path = x; ahead = w.ahead; groups = groups; first = first })) (sym ep2) done),
        omega (arith, weight, fewer),
      )
