-- Numbers, each where it stands first, stand there once.
use Rattle.std.proofs.Common.{◌≡◌, ℕ, Bool, true, false, not, ◌==◌, List, [], ◌∷◌, map, filter, cond, Contains, refl, sym, ap, subst}
use Rattle.std.proofs.lemmas.Bool.{both_ways, eq-eqb}
use Rattle.std.proofs.lemmas.List.Elements.{All-contains, All-contains_itself, All-filter, filter_passes}
use Rattle.vkb_formula.specs.declared.name_table.NameId.{NameId}
use Rattle.reg_registry.specs.Naming.{NoneTwice}
use Rattle.reg_registry.specs.Rows.{id_at}
use Rattle.reg_rows.specs.Lists.{each_number}

module _ (p : ℕ → Bool) where
  -- what passes stood there before
  filter-contains : (ns : List ℕ) (n : ℕ) → Contains (filter p ns) n → Contains ns n
  filter-contains ns n there = All-contains (Contains ns) (filter p ns) n (All-filter p (Contains ns) ns (All-contains_itself ns)) there

  once-kept : (b : Bool) (n : ℕ) (ns : List ℕ) → (Contains ns n → ⊥) → NoneTwice (filter p ns) → NoneTwice (cond b (n ∷ filter p ns) (filter p ns))
  once-kept true n ns new once = ((λ again. new (filter-contains ns n again)), once)
  once-kept false n ns new once = once

  once-filter : (ns : List ℕ) → NoneTwice ns → NoneTwice (filter p ns)
  once-filter [] once = tt
  once-filter (n ∷ ns) once = once-kept (p n) n ns once.0 (once-filter ns once.1)

numbers-once : (ns : List ℕ) → NoneTwice (each_number ns)
numbers-once [] = tt
numbers-once (n ∷ ns) = (
  (λ again.
      both_ways (not (n == n)) (ap not (eq-eqb n n refl))
      (All-contains (λ other. not (other == n) ≡ true) (filter (λ other. not (other == n)) (each_number ns)) n
      (filter_passes (λ other. not (other == n)) (each_number ns)) again)),
  once-filter (λ other. not (other == n)) (each_number ns) (numbers-once ns),
)

ids-places : (ns : List ℕ) → map (λ (id : NameId). id.0) (map id_at ns) ≡ ns
ids-places [] = refl
ids-places (n ∷ ns) = ap (λ more. n ∷ more) (ids-places ns)

pub ids-once : (ns : List ℕ) → NoneTwice (map (λ (id : NameId). id.0) (map id_at (each_number ns)))
ids-once ns = subst NoneTwice (sym (ids-places (each_number ns))) (numbers-once ns)
