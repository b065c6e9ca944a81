-- The next name of an order, and what it leaves.
use Rattle.std.proofs.Common.{◌≡◌, ◌↔◌, ℕ, ◌+◌, ◌<◌, ◌≤◌, ⊎_elim, Bool, true, List, [], ◌∷◌, ◌++◌, length, map, take, slice_get, Some, All, Contains, option_map, sym, ap, subst, ◌∙◌, arith}
use Rattle.std.proofs.Math.Seq.{take-append_seam}
use Rattle.std.proofs.lemmas.List.{map_push, take-append-le, take_more}
use Rattle.std.proofs.lemmas.List.Elements.{All-contains, Contains-append_left, Contains-push, Contains-push_cases}
use Rattle.std.proofs.lemmas.Option.{get_or_from_slice_get, same_Some, slice_get-map, slice_get_within}
use Rattle.vkb_bytes.specs.First.{IsFirst}
use Rattle.vkb_formula.specs.declared.name_table.NameId.{NameId}
use Rattle.reg_registry.specs.declared.registry.Row.{Row}
use Rattle.reg_registry.specs.Naming.{AreSound, Names, NoneTwice}
use Rattle.reg_registry.specs.Rows.{Rows}
use Rattle.reg_closure.proofs.PlacedLemmas.{Contains-at, Contains-cases, Contains-first, Contains-rest, in-names, names-in, place-of, push-place, take-place}
use Rattle.reg_closure.specs.Closure.{IsIn}
use Rattle.reg_closure.specs.Orders.{MayStand}
use Rattle.reg_closure.specs.Waiting.{AreNamers, ArePlaced, IsWaiting, Releases, Waits, left}
use Rattle.reg_closure.proofs.NumberLemmas.{has-or-not}
use Rattle.reg_closure.proofs.WaitLemmas.{all-left, left-none, left-one, left-other, none-left}
use Rattle.reg_closure.proofs.WholeLemmas.{placed-few, row-at}

-- each row has each name that it names once
abbrev pub NameOnce : List Row → Type 0
NameOnce rows = (place : ℕ) (row : Row) → slice_get rows place ≡ Some row → NoneTwice (map (λ (id : NameId). id.0) row.named)

pub name-once : (r : Rows) → AreSound r → NameOnce r.rows
name-once r sound place row h =
    subst (λ (x : Row). NoneTwice (map (λ (id : NameId). id.0) x.named)) (get_or_from_slice_get r.rows place row row h)
    (sound.each_row place row (slice_get_within r.rows place row h)).named_once

-- how many names one more row names
pub counts-more : (rows : List Row) (k : ℕ) (row : Row) → slice_get rows k ≡ Some row
    → (old new : List ℕ) (n : ℕ) → old ≡ map (λ (x : Row). length x.named) (take k rows)
    → n ≡ length row.named → new ≡ old ++ n ∷ [] → new ≡ map (λ (x : Row). length x.named) (take (k + 1) rows)
counts-more rows k row h old new n e same f =
    let more : take (k + 1) rows ≡ take k rows ++ row ∷ [] =
    take_more rows k row (slice_get_within rows k row h) ∙ ap (λ (x : Row). take k rows ++ x ∷ []) (get_or_from_slice_get rows k row row h) in
    f ∙ ap (λ (xs : List ℕ). xs ++ n ∷ []) e ∙ ap (λ (m : ℕ). map (λ (x : Row). length x.named) (take k rows) ++ m ∷ []) same
    ∙ sym (ap (map (λ (x : Row). length x.named)) more ∙ map_push (λ (x : Row). length x.named) (take k rows) row)

module _ (rows : List Row) (set : List Bool) (same : length set ≡ length rows) where
  row-in : (place : ℕ) → IsIn set place → (row : Row) × (slice_get rows place ≡ Some row)
  row-in place i = row-at rows place (omega (arith, slice_get_within set place true i, same))

  -- nothing is placed
  pub waiting-begin : (counts ready : List ℕ) → counts ≡ map (λ (row : Row). length row.named) rows → length counts ≡ length set
      → ((place : ℕ) → Contains ready place ↔ (IsIn set place × (slice_get counts place ≡ Some 0))) → IsWaiting rows set [] (record { counts = counts; ready = ready })
  waiting-begin counts ready e l r = record {
    count = l;
    counts = λ place row i h. count-at place row h ∙ ap Some (sym (left-none row.named));
    only = λ place c. let p = (r place).0 c in
        let row = row-in place p.0 in record {
          one = p.0;
          new = λ d. absurd (omega (arith, d.1));
          after = λ other n.
              let k = names-in rows place row.0 row.1 other n in
              let none : length row.0.named ≡ 0 = same_Some (length row.0.named) 0 (sym (count-at place row.0 row.1) ∙ p.1) in
              absurd (omega (arith, k.1, none));
        };
    all = λ place m.
        let row = row-in place m.one in
        let none : left [] row.0.named ≡ 0 = all-left [] row.0.named (λ other c. m.after other (in-names rows place row.0 row.1 other c)) in
        (r place).1 (m.one, count-at place row.0 row.1 ∙ ap Some (sym (left-none row.0.named) ∙ none));
  }
    where
      count-at : (place : ℕ) (row : Row) → slice_get rows place ≡ Some row → slice_get counts place ≡ Some (length row.named)
      count-at place row h = ap (λ (xs : List ℕ). slice_get xs place) e ∙ slice_get-map
          (λ (x : Row). length x.named) rows place ∙ ap (option_map (λ (x : Row). length x.named)) h

  -- the first of those that are ready is placed
  module _ (placed : List ℕ) (each : ArePlaced rows set placed) (v u : Waits) (waiting : IsWaiting rows set placed v) (name : ℕ) (first : v.ready ≡ name ∷ u.ready)
      (least : All (λ other. name < other) u.ready) (kept : u.counts ≡ v.counts) where
    may : MayStand rows set placed name
    may = waiting.only name (subst (λ (xs : List ℕ). Contains xs name) (sym first) (Contains-first name u.ready))

    pub next-first : IsFirst (MayStand rows set placed) name
    next-first = record {
      here = may;
      first = λ before l m.
          ⊎_elim (λ (e : name ≡ before). omega (arith, e, l)) (λ c. let h = All-contains
          (λ other. name < other) u.ready before least c in omega (arith, h, l))
          (Contains-cases name u.ready before (subst (λ (xs : List ℕ). Contains xs before) first (waiting.all before m)));
    }

    pub next-within : name < length rows
    next-within = omega (arith, slice_get_within set name true may.one, same)

    pub placed-next : ArePlaced rows set (placed ++ name ∷ [])
    placed-next at place e =
        ⊎_elim
        (λ old. subst (λ (xs : List ℕ). IsFirst (MayStand rows set xs) place) (sym (take-append-le at placed (name ∷ []) (let l = slice_get_within placed at place old in omega (arith, l)))) (each at place old))
        (λ p.
        let front : take at (placed ++ name ∷ []) ≡ placed = ap (λ (n : ℕ). take n (placed ++ name ∷ [])) p.0 ∙ take-append_seam placed (name ∷ []) in
        subst (λ (xs : List ℕ). IsFirst (MayStand rows set xs) place) (sym front) (subst
        (λ (x : ℕ). IsFirst (MayStand rows set placed) x) p.1 next-first))
        (push-place placed name place at e)

    pub next-few : length (placed ++ name ∷ []) ≤ length set
    next-few = placed-few rows set (placed ++ name ∷ []) placed-next

    -- what names it isn't placed
    not-named : (place : ℕ) → Names rows place name → Contains placed place → ⊥
    not-named place n c =
        let p = place-of placed place c in
        let q = place-of (take p.0 placed) name ((each p.0 place p.1).here.after name n) in
        may.new (Contains-at placed q.0 name (take-place placed p.0 q.0 name q.1).1)

    not-itself : Names rows name name → ⊥
    not-itself n = may.new (may.after name n)

    module _ (once : NameOnce rows) (end : ℕ) (namers : List (List ℕ)) (are : AreNamers rows set end namers) (all-in : end ≡ length rows) (list : List ℕ)
        (here : slice_get namers name ≡ Some list) where
      names-it : (place : ℕ) → Contains list place → IsIn set place × Names rows place name
      names-it place c = let o = are.only name place list here c in (o.1, o.2)

      in-list : (place : ℕ) → IsIn set place → Names rows place name → Contains list place
      in-list place i n = are.all name place list here (omega (arith, slice_get_within set place true i, same, all-in)) i n

      -- one less is left where it is named
      one-less : (place : ℕ) (row : Row) → slice_get rows place ≡ Some row → Names rows place name
          → left (placed ++ name ∷ []) row.named + 1 ≡ left placed row.named
      one-less place row h n = left-one placed name row.named (once place row h) (names-in rows place row h name n) may.new

      pub wait-for : (place : ℕ) → Contains list place → (n : ℕ) × (slice_get u.counts place ≡ Some (n + 1))
      wait-for place c =
          let o = names-it place c in
          let row = row-in place o.0 in (
            left (placed ++ name ∷ []) row.0.named,
            ap (λ (xs : List ℕ). slice_get xs place) kept ∙ waiting.counts place row.0 o.0 row.1 ∙ ap Some (sym (one-less place row.0 row.1 o.1)),
          )

      module _ (w : Waits) (release : Releases list u w) where
        counted : (place : ℕ) (row : Row) → IsIn set place → slice_get rows place ≡ Some row
            → slice_get w.counts place ≡ Some (left (placed ++ name ∷ []) row.named)
        counted place row i h =
            let was : slice_get u.counts place ≡ Some (left placed row.named) = ap
            (λ (xs : List ℕ). slice_get xs place) kept ∙ waiting.counts place row i h in
            ⊎_elim
            (λ c. release.fewer place (left (placed ++ name ∷ []) row.named) c (was ∙ ap Some (sym (one-less place row h (names-it place c).1))))
            (λ n. release.others place n ∙ was ∙ ap Some (sym (left-other placed name row.named
            (λ c. n (in-list place i (in-names rows place row h name c))))))
            (has-or-not list place)

        stands : (place : ℕ) → Contains w.ready place → MayStand rows set (placed ++ name ∷ []) place
        stands place c =
            ⊎_elim
            (λ old.
            let m = waiting.only place (subst (λ (xs : List ℕ). Contains xs place) (sym first) (Contains-rest name u.ready place old)) in
            let above = All-contains (λ other. name < other) u.ready place least old in
            record {
              one = m.one;
              new = λ d. ⊎_elim (λ before. m.new before) (λ (e : name ≡ place). omega (arith, e, above)) (Contains-push_cases placed name place d);
              after = λ other n. Contains-append_left placed (name ∷ []) other (m.after other n);
            })
            (λ p.
            let o = names-it place p.0 in
            let row = row-in place o.0 in
            let none : left (placed ++ name ∷ []) row.0.named ≡ 0 = same_Some (left (placed ++ name ∷ []) row.0.named) 0 (sym (counted place row.0 o.0 row.1) ∙ p.1) in
            record {
              one = o.0;
              new = λ d. ⊎_elim (λ before. not-named place o.1 before)
                  (λ (e : name ≡ place). not-itself (subst (λ (x : ℕ). Names rows x name) (sym e) o.1)) (Contains-push_cases placed name place d);
              after = λ other n. none-left (placed ++ name ∷ []) row.0.named none other (names-in rows place row.0 row.1 other n);
            })
            (release.only place c)

        is-ready : (place : ℕ) → MayStand rows set (placed ++ name ∷ []) place → Contains w.ready place
        is-ready place m =
            let row = row-in place m.one in
            ⊎_elim
            (λ c.
            let none : left (placed ++ name ∷ []) row.0.named ≡ 0 = all-left (placed ++ name ∷ []) row.0.named
            (λ other k. m.after other (in-names rows place row.0 row.1 other k)) in
            release.freed place c (counted place row.0 m.one row.1 ∙ ap Some none))
            (λ n.
            let before : MayStand rows set placed place = record {
              one = m.one;
              new = λ d. m.new (Contains-append_left placed (name ∷ []) place d);
              after = λ other k. ⊎_elim (λ d. d) (λ (e : name ≡ other). absurd (n (in-list place m.one (subst
                  (λ (x : ℕ). Names rows place x) (sym e) k)))) (Contains-push_cases placed name other (m.after other k));
            } in
            ⊎_elim (λ (e : name ≡ place). absurd (m.new (subst (λ (x : ℕ). Contains (placed ++ name ∷ []) x) e (Contains-push placed name))))
            (λ d. release.stays place d)
            (Contains-cases name u.ready place (subst (λ (xs : List ℕ). Contains xs place) first (waiting.all place before))))
            (has-or-not list place)

        pub waiting-next : IsWaiting rows set (placed ++ name ∷ []) w
        waiting-next = record { count = release.count ∙ ap length kept ∙ waiting.count; counts = counted; only = stands; all = is-ready }
