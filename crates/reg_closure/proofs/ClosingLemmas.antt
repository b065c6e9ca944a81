-- The closure by what is marked: the roots, and what marked names name.
use Rattle.std.proofs.Common.{◌≡◌, ◌≢◌, ℕ, ◌+◌, ◌<◌, ◌≤◌, ⊎_elim, Bool, true, false, not, ◌&&◌, ◌||◌, List, length, take, get_or, set, slice_get, Some, None, refl, sym, ap, subst, ◌∙◌, arith}
use Rattle.std.specs.Prelude.{◌==◌}
use Rattle.std.proofs.lemmas.Bool.{and_from, cases_eq, cases_lt, eq-eqb, ne_eqb, not_from_false}
use Rattle.std.proofs.lemmas.List.Folds.{list_any_more}
use Rattle.std.proofs.lemmas.Option.{none-some, same_Some, get_or_from_slice_get, slice_get_within, slice_get-get_or}
use Rattle.vkb_formula.specs.declared.name_table.NameId.{NameId}
use Rattle.reg_registry.specs.declared.registry.Block.{Block}
use Rattle.reg_registry.specs.Naming.{Names}
use Rattle.reg_registry.specs.Rows.{Rows}
use Rattle.reg_closure.proofs.PlacedLemmas.{place-of, set-other, set-same}
use Rattle.reg_closure.specs.Closure.{IsClosure, IsIn, IsInClosure, has_name, is_active, is_required, is_removed, is_root, lists_name, root, named}
use Rattle.reg_closure.specs.Marking.{IsClosing, IsMarking, Marked, Marks, Tells, is_kind, is_listed}

or-false : (b : Bool) → (b || false) ≡ b
or-false true = refl
or-false false = refl

or-true : (b : Bool) → (b || true) ≡ true
or-true true = refl
or-true false = refl

or-assoc : (a b c : Bool) → ((a || b) || c) ≡ (a || (b || c))
or-assoc true b c = refl
or-assoc false b c = refl

-- a name is added to a set
pub adds-one : (old now : List Bool) (ids : List NameId) (k : ℕ) (d : NameId) → k < length ids
    → ((place : ℕ) (was : Bool) → slice_get old place ≡ Some was → slice_get now place ≡ Some (was || has_name (take k ids) place))
    → (place : ℕ) (was : Bool) → slice_get old place ≡ Some was → slice_get (set now (get_or ids k d).0 true) place ≡ Some (was || has_name (take (k + 1) ids) place)
adds-one old now ids k d l each place was e =
    ⊎_elim
    (λ (q : place ≡ (get_or ids k d).0).
    subst (λ (x : ℕ). slice_get (set now x true) place ≡ Some true) q (set-same now place true (was || has_name (take k ids) place) (each place was e))
    ∙ ap Some (sym (ap (λ (b : Bool). was || b) (more ∙ ap (λ (b : Bool). has_name (take k ids) place || b) (eq-eqb (get_or ids k d).0 place (sym q))
    ∙ or-true (has_name (take k ids) place)) ∙ or-true was)))
    (λ (n : place ≢ (get_or ids k d).0).
    set-other now (get_or ids k d).0 place true n ∙ each place was e
    ∙ ap (λ (b : Bool). Some (was || b)) (sym (more ∙ ap (λ (b : Bool). has_name (take k ids) place || b) (ne_eqb (get_or ids k d).0 place (λ q. n (sym q)))
    ∙ or-false (has_name (take k ids) place))))
    (cases_eq place (get_or ids k d).0)
  where
    more : has_name (take (k + 1) ids) place ≡ (has_name (take k ids) place || ((get_or ids k d).0 == place))
    more = list_any_more (λ (id : NameId). id.0 == place) ids k d l

-- one more block
module _ (count : ℕ) (adds : Bool) (chosen : List Bool) (blocks : List Block) (k : ℕ) (b : Block) (l : k < length blocks) (here : b ≡ get_or blocks k b)
    (set : List Bool) (so_far : Tells count (is_listed adds (take k blocks) chosen) set) where
  more-blocks : (place : ℕ) → is_listed adds (take (k + 1) blocks) chosen place ≡ (is_listed adds (take k blocks) chosen place || (is_kind adds b && is_active chosen b && lists_name place b))
  more-blocks place =
      list_any_more (λ (x : Block). is_kind adds x && is_active chosen x && lists_name place x) blocks k b l
      ∙ ap (λ (x : Block). is_listed adds (take k blocks) chosen place || (is_kind adds x && is_active chosen x && lists_name place x)) (sym here)

  pub tells-more : (new : List Bool) → (is_kind adds b && is_active chosen b) ≡ true → length new ≡ length set
      → ((place : ℕ) (was : Bool) → slice_get set place ≡ Some was → slice_get new place ≡ Some (was || has_name b.lists place))
      → Tells count (is_listed adds (take (k + 1) blocks) chosen) new
  tells-more new active size each = record {
    size = size ∙ so_far.size;
    each = λ place i.
        each place (is_listed adds (take k blocks) chosen place) (so_far.each place i)
        ∙ ap Some (sym (more-blocks place ∙ ap (λ (x : Bool). is_listed adds (take k blocks) chosen place || (x && lists_name place b)) active));
  }

  pub tells-less : (is_kind adds b && is_active chosen b) ≡ false → Tells count (is_listed adds (take (k + 1) blocks) chosen) set
  tells-less idle = record {
    size = so_far.size;
    each = λ place i.
        so_far.each place i
        ∙ ap Some (sym (more-blocks place ∙ ap (λ (x : Bool). is_listed adds (take k blocks) chosen place || (x && lists_name place b)) idle
        ∙ or-false (is_listed adds (take k blocks) chosen place)));
  }

-- what is required and isn't removed is a root
module _ (count : ℕ) (blocks : List Block) (chosen required removed : List Bool) (a : Tells count (is_listed true blocks chosen) required)
    (b : Tells count (is_listed false blocks chosen) removed) where
  pub kept-root : (place : ℕ) → IsIn required place → slice_get removed place ≡ Some false → (place < count) × (is_root blocks chosen place ≡ true)
  kept-root place i n =
      let l : place < count = omega (arith, slice_get_within required place true i, a.size) in (
        l,
        and_from (is_required blocks chosen place) (not (is_removed blocks chosen place)) (same_Some (is_required blocks chosen place) true (sym (a.each place l) ∙ i))
            (not_from_false (is_removed blocks chosen place) (same_Some (is_removed blocks chosen place) false (sym (b.each place l) ∙ n))),
      )

module _ (r : Rows) (chosen : List Bool) where
  pub closing-begin : (m : Marked) → IsMarking m → length m.marked ≡ length r.names
      → ((place : ℕ) → IsIn m.marked place → (place < length r.names) × (is_root r.blocks chosen place ≡ true))
      → ((place : ℕ) → place < length r.names → is_root r.blocks chosen place ≡ true → IsIn m.marked place) → IsClosing r chosen m 0
  closing-begin m marking count only all = record {
    marking = marking;
    count = count;
    only = λ place i. root (only place i).0 (only place i).1;
    roots = all;
    looked = λ at name other l e n. absurd (omega (arith, l));
  }

  pub closing-within : (m : Marked) (place name : ℕ) → IsClosing r chosen m place → slice_get m.names place ≡ Some name → name < length r.names
  closing-within m place name c e =
      omega (arith, slice_get_within m.marked name true (c.marking.only name (place, slice_get_within m.names place name e, get_or_from_slice_get m.names place name name e)), c.count)

  pub closing-few : (m : Marked) (place name : ℕ) → IsClosing r chosen m place → slice_get m.names place ≡ Some name → place < length m.marked
  closing-few m place name c e = omega (arith, slice_get_within m.names place name e, c.marking.each_once)

  pub closing-more : (m n : Marked) (place name : ℕ) → IsClosing r chosen m place → slice_get m.names place ≡ Some name
      → Marks (Names r.rows name) m n → IsClosing r chosen n (place + 1)
  closing-more m n place name c e marks = record {
    marking = marks.marking;
    count = marks.count ∙ c.count;
    only = λ x i. ⊎_elim (λ j. c.only x j) (λ k. named (c.only name (c.marking.only name (place, slice_get_within m.names place name e, get_or_from_slice_get m.names place name name e))) k) (marks.only x i);
    roots = λ x l k. marks.stays x (c.roots x l k);
    looked = λ at x other l f k.
        ⊎_elim
        (λ (b : at < place).
        let old : slice_get m.names at ≡ Some (get_or m.names at x) = slice_get-get_or m.names at x (omega (arith, b, slice_get_within m.names place name e)) in
        let same : get_or m.names at x ≡ x = same_Some (get_or m.names at x) x (sym (marks.front at (get_or m.names at x) old) ∙ f) in
        marks.stays other (c.looked at x other b (old ∙ ap Some same) k))
        (λ (b : place ≤ at).
        let same : place ≡ at = omega (arith, b, l) in
        let is : name ≡ x = same_Some name x (sym (marks.front place name e) ∙ subst (λ (y : ℕ). slice_get n.names y ≡ Some x) (sym same) f) in
        marks.all other (subst (λ (y : ℕ). Names r.rows y other) (sym is) k))
        (cases_lt at place);
  }

  -- where nothing is left to be looked at, what is marked is the closure
  pub closing-end : (m : Marked) (place : ℕ) → IsClosing r chosen m place → slice_get m.names place ≡ None → IsClosure r chosen m.marked
  closing-end m place c e = record { count = c.count; has_only = c.only; has_all = all }
    where
      past : length m.names ≤ place
      past = ⊎_elim (λ (l : place < length m.names). absurd (none-some (get_or m.names place 0) (sym e ∙ slice_get-get_or m.names place 0 l)))
          (λ (l : length m.names ≤ place). l) (cases_lt place (length m.names))

      all : (x : ℕ) → IsInClosure r chosen x → IsIn m.marked x
      all x (root l k) = c.roots x l k
      all x (named {place = before} i k) =
          let at = place-of m.names before (c.marking.all before (all before i)) in
          c.looked at.0 before x (omega (arith, slice_get_within m.names at.0 before at.1, past)) at.1 k
