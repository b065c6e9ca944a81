-- Names that are marked, kind by kind.
use Rattle.std.proofs.Common.{◌≡◌, ◌≢◌, ℕ, zero, suc, ◌+◌, ◌<◌, ◌⊎◌, inl, inr, ⊎_elim, Bool, true, false, List, [], ◌∷◌, ◌++◌, length, get_or, replicate, set, take, slice_get, Some, Contains, refl, sym, ap, subst, ◌∙◌, length-append, length-set, arith}
use Rattle.std.proofs.lemmas.List.{get_or-replicate, length-replicate, take_more}
use Rattle.std.proofs.lemmas.List.Elements.{Contains-append_left, Contains-push, Contains-push_cases}
use Rattle.std.proofs.lemmas.Bool.{cases_eq, true≢false}
use Rattle.std.proofs.lemmas.Option.{get_or_from_slice_get, slice_get_within}
use Rattle.reg_closure.proofs.PlacedLemmas.{left-place, set-other, set-place, set-same}
use Rattle.vkb_formula.specs.declared.name_table.NameId.{NameId}
use Rattle.reg_registry.specs.Rows.{id_at}
use Rattle.reg_closure.specs.Closure.{IsIn}
use Rattle.reg_closure.specs.Marking.{IsMarking, Marked, Marks, unmarked_of}

unmarked-set : (marked : List Bool) (name : ℕ) → slice_get marked name ≡ Some false → 1 + unmarked_of (set marked name true) ≡ unmarked_of marked
unmarked-set [] name e = absurd (cc)
unmarked-set (true ∷ marked) zero e = absurd (cc (e))
unmarked-set (false ∷ marked) zero e = refl
unmarked-set (true ∷ marked) (suc name) e = unmarked-set marked name e
unmarked-set (false ∷ marked) (suc name) e = omega (arith, unmarked-set marked name e)

unmarked-all : (n : ℕ) → unmarked_of (replicate n false) ≡ n
unmarked-all zero = refl
unmarked-all (suc n) = omega (arith, unmarked-all n)

none-in : (n place : ℕ) → IsIn (replicate n false) place → ⊥
none-in n place i =
    true≢false (sym (get_or_from_slice_get (replicate n false) place true true i)
    ∙ get_or-replicate n place false true (omega (arith, slice_get_within (replicate n false) place true i, length-replicate n false)))

pub none-marked : (marked : List Bool) (n : ℕ) → marked ≡ replicate n false → (place : ℕ) → IsIn marked place → ⊥
none-marked marked n e place i = none-in n place (subst (λ (set : List Bool). IsIn set place) e i)

pub marking-none : (m : Marked) (n : ℕ) → m.marked ≡ replicate n false → m.names ≡ [] → IsMarking m
marking-none m n e f = record {
  each_once = omega (arith, ap length f, ap unmarked_of e ∙ unmarked-all n, ap length e ∙ length-replicate n false);
  only = λ place c. absurd (omega (arith, c.1, ap length f));
  all = λ place i. absurd (none-marked m.marked n e place i);
}

pub marks-then : (One Two Both : ℕ → Type 0) (a b c : Marked) → Marks One a b → Marks Two b c
    → ((place : ℕ) → Both place → One place ⊎ Two place) → ((place : ℕ) → One place → Both place) → ((place : ℕ) → Two place → Both place) → Marks Both a c
marks-then One Two Both a b c m n split one two = record {
  marking = n.marking;
  count = n.count ∙ m.count;
  stays = λ place i. n.stays place (m.stays place i);
  front = λ at place e. n.front at place (m.front at place e);
  all = λ place k. ⊎_elim (λ o. n.stays place (m.all place o)) (λ t. n.all place t) (split place k);
  only = λ place i. ⊎_elim (λ j. ⊎_elim (λ h. inl h) (λ o. inr (one place o)) (m.only place j)) (λ t. inr (two place t)) (n.only place i);
}

pub marks-as : (One Two : ℕ → Type 0) (a b : Marked) → Marks One a b → ((place : ℕ) → Two place → One place)
    → ((place : ℕ) → One place → Two place) → Marks Two a b
marks-as One Two a b m from to = record {
  marking = m.marking;
  count = m.count;
  stays = m.stays;
  front = m.front;
  all = λ place t. m.all place (from place t);
  only = λ place i. ⊎_elim (λ h. inl h) (λ o. inr (to place o)) (m.only place i);
}

-- a name is marked
pub marks-one : (m n : Marked) (name : ℕ) → IsMarking m → slice_get m.marked name ≡ Some false
    → n.marked ≡ set m.marked name true → n.names ≡ m.names ++ name ∷ []
    → Marks (λ place. place ≡ name) m n
marks-one m n name marking new e f = record {
  marking = record {
    each_once = omega (arith, marking.each_once, unmarked-set m.marked name new, length-append m.names (name ∷ []), ap unmarked_of e, ap length f, length-set m.marked name true, ap length e);
    only = λ place c.
        ⊎_elim (λ d. stays place (marking.only place d)) (λ (q : name ≡ place). subst (λ (x : ℕ). IsIn n.marked x) q here)
        (Contains-push_cases m.names name place (subst (λ (xs : List ℕ). Contains xs place) f c));
    all = λ place i.
        subst (λ (xs : List ℕ). Contains xs place) (sym f) (
        ⊎_elim (λ j. Contains-append_left m.names (name ∷ []) place (marking.all place j))
        (λ (q : place ≡ name). subst (λ (x : ℕ). Contains (m.names ++ name ∷ []) x) (sym q) (Contains-push m.names name))
        (only place i)
        );
  };
  count = ap length e ∙ length-set m.marked name true;
  stays = stays;
  front = λ at place g. subst (λ (xs : List ℕ). slice_get xs at ≡ Some place) (sym f) (left-place m.names (name ∷ []) at place g);
  all = λ place q. subst (λ (x : ℕ). IsIn n.marked x) (sym q) here;
  only = only;
}
  where
    here : IsIn n.marked name
    here = subst (λ (xs : List Bool). IsIn xs name) (sym e) (set-same m.marked name true false new)

    stays : (place : ℕ) → IsIn m.marked place → IsIn n.marked place
    stays place i =
        ⊎_elim (λ (q : place ≡ name). subst (λ (x : ℕ). IsIn n.marked x) (sym q) here)
        (λ (d : place ≢ name). subst (λ (xs : List Bool). IsIn xs place) (sym e) (set-other m.marked name place true d ∙ i))
        (cases_eq place name)

    only : (place : ℕ) → IsIn n.marked place → IsIn m.marked place ⊎ (place ≡ name)
    only place i = ⊎_elim (λ p. inr p.0) (λ p. inl p.1) (set-place m.marked name place true true (subst (λ (xs : List Bool). IsIn xs place) e i))

-- names of a list are marked, and one more
pub listed-more : (ids : List NameId) (k : ℕ) (d : NameId) → k < length ids
    → (a b c : Marked) → Marks (λ place. Contains (take k ids) (id_at place)) a b
    → Marks (λ place. place ≡ (get_or ids k d).0) b c → Marks (λ place. Contains (take (k + 1) ids) (id_at place)) a c
listed-more ids k d l a b c m n =
    marks-then (λ place. Contains (take k ids) (id_at place)) (λ place. place ≡ (get_or ids k d).0)
    (λ place. Contains (take (k + 1) ids) (id_at place)) a b c m n
    (λ place t. ⊎_elim (λ o. inl o) (λ (e : get_or ids k d ≡ id_at place). inr (sym (ap (λ (i : NameId). i.0) e))) (Contains-push_cases (take k ids) (get_or ids k d) (id_at place) (subst
    (λ (xs : List NameId). Contains xs (id_at place)) more t)))
    (λ place o. subst (λ (xs : List NameId). Contains xs (id_at place)) (sym more) (Contains-append_left (take k ids) (get_or ids k d ∷ []) (id_at place) o))
    (λ place (q : place ≡ (get_or ids k d).0). subst (λ (xs : List NameId). Contains xs (id_at place)) (sym more)
    (subst (λ (x : ℕ). Contains (take k ids ++ get_or ids k d ∷ []) (id_at x)) (sym q) (Contains-push (take k ids) (get_or ids k d))))
  where
    more : take (k + 1) ids ≡ take k ids ++ get_or ids k d ∷ []
    more = take_more ids k d l
