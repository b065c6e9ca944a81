-- The closure at a choice has a name or it hasn't: a root is the name, or leads to it.
use Rattle.std.proofs.Common.{◌≡◌, ◌⊎◌, ℕ, zero, suc, ◌<◌, Bool, true, false, List, length, refl, sym, subst, ◌∙◌, inl, inr, ⊎_elim, arith}
use Rattle.std.proofs.lemmas.Bool.{cases_eq, cases_lt, true≢false}
use Rattle.reg_registry.specs.Laws.{AreWithin, LeadsOrNot}
use Rattle.reg_registry.specs.Naming.{Leads, Names, step, more}
use Rattle.reg_registry.specs.Rows.{Rows}
use Rattle.reg_closure.specs.Closure.{IsInClosure, is_root, root, named}
use Rattle.reg_closure.specs.Laws.{InClosureOrNot}

module _ (r : Rows) (chosen : List Bool) where
  -- a root is the name, or leads to it
  abbrev ComesFrom : ℕ → ℕ → Type 0
  ComesFrom place origin = (is_root r.blocks chosen origin ≡ true) × ((origin ≡ place) ⊎ Leads r.rows origin place)

  leads-on : (origin place other : ℕ) → Leads r.rows origin place → Names r.rows place other → Leads r.rows origin other
  leads-on origin place other (step first) last = more first (step last)
  leads-on origin place other (more {next = next} first leads) last = more first (leads-on next place other leads last)

  origin-of : (place : ℕ) → IsInClosure r chosen place → (origin : ℕ) × (origin < length r.names) × ComesFrom place origin
  origin-of place (root within is) = (place, within, (is, inl refl))
  origin-of place (named {place = before} inside names) =
      let o = origin-of before inside in
      (o.0, o.1, (o.2.0, inr (⊎_elim (λ (e : o.0 ≡ before). step (subst (λ n. Names r.rows n place) (sym e) names)) (λ leads. leads-on o.0 before place leads names) o.2.1)))

  leads-inside : (origin place : ℕ) → IsInClosure r chosen origin → Leads r.rows origin place → IsInClosure r chosen place
  leads-inside origin place inside (step names) = named inside names
  leads-inside origin place inside (more {next = next} names leads) = leads-inside next place (named inside names) leads

  origin-inside : (place origin : ℕ) → origin < length r.names → ComesFrom place origin → IsInClosure r chosen place
  origin-inside place origin within comes =
      ⊎_elim (λ (e : origin ≡ place). subst (IsInClosure r chosen) e (root within comes.0)) (λ leads. leads-inside origin place (root within comes.0) leads) comes.1

  module _ (leads-or-not : LeadsOrNot) (there : AreWithin r.rows) (place : ℕ) where
    root-or-not : (b : Bool) (origin : ℕ) → is_root r.blocks chosen origin ≡ b → ComesFrom place origin ⊎ (ComesFrom place origin → ⊥)
    root-or-not false origin e = inr (λ comes. true≢false (sym comes.0 ∙ e))
    root-or-not true origin e =
        ⊎_elim (λ (same : origin ≡ place). inl (e, inl same))
        (λ other. ⊎_elim (λ leads. inl (e, inr leads)) (λ none. inr (λ comes. ⊎_elim other none comes.1)) (leads-or-not r.rows origin place there))
        (cases_eq origin place)

    below-or-last : (origin n : ℕ) → origin < suc n → (origin < n) ⊎ (origin ≡ n)
    below-or-last origin n below = ⊎_elim (λ l. inl l) (λ past. inr (omega (arith, below, past))) (cases_lt origin n)

    some-origin : (n : ℕ) → ((origin : ℕ) × (origin < n) × ComesFrom place origin) ⊎ ((origin : ℕ) → origin < n → ComesFrom place origin → ⊥)
    some-origin zero = inr (λ origin below comes. omega (arith, below))
    some-origin (suc n) =
        ⊎_elim (λ s. inl (s.0, omega (arith, s.1), s.2))
        (λ none. ⊎_elim (λ comes. inl (n, omega arith, comes))
        (λ not_last. inr (λ origin below comes. ⊎_elim (λ l. none origin l comes) (λ (e : origin ≡ n). not_last (subst (ComesFrom place) e comes)) (below-or-last origin n below)))
        (root-or-not (is_root r.blocks chosen n) n refl))
        (some-origin n)

    pub inside-or-not : IsInClosure r chosen place ⊎ (IsInClosure r chosen place → ⊥)
    inside-or-not =
        ⊎_elim (λ s. inl (origin-inside place s.0 s.1 s.2)) (λ none. inr (λ inside. let o = origin-of place inside in none o.0 o.1 o.2)) (some-origin (length r.names))

pub each-inside-or-not : LeadsOrNot → InClosureOrNot
each-inside-or-not leads-or-not r chosen place there = inside-or-not r chosen leads-or-not there place
