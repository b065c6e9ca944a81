-- A walk over the places that lead to one, from the greatest down, which reaches each of them.
use Rattle.std.proofs.Common.{◌≡◌, ℕ, ◌+◌, ◌<◌, ◌≤◌, List, length, get_or, Option, Some, None, sym, ap, ◌∙◌, ⊎_elim, arith}
use Rattle.std.proofs.lemmas.Bool.{cases_eq, cases_lt}
use Rattle.std.proofs.lemmas.List.{get_or_past}
use Rattle.reg_tables.specs.Chains.{AreLeaders, AreReached, Grow, IsLedBack, IsReached, greatest_leader, link_at, up_to}
use Rattle.reg_tables.specs.Places.{last_place_in}
use Rattle.reg_tables.proofs.LeaderLemmas.{leader-leads, leader-past}
use Rattle.reg_tables.proofs.ReachingLemmas.{grown-more, last-more, last-step, still-reached}

-- all that lead to the place from a bound on are reached, and what was reached before stays so
pub record IsGoingBack (next : List (Option ℕ)) (place : ℕ) (lasts_before : List (Option ℕ)) (order_before : List ℕ)
    (lasts : List (Option ℕ)) (order : List ℕ) (leader : Option ℕ) : Type 0 where
  pub bound : ℕ
  pub leader_is : leader ≡ greatest_leader next place bound
  pub bounded : bound ≤ length next
  pub behind : (from : ℕ) → bound ≤ from → link_at next from ≡ Some place → IsReached lasts from
  pub reached : AreReached next lasts order
  pub grown : Grow lasts_before order_before lasts order

-- the leader is one
pub back-leads : (next lasts_before lasts : List (Option ℕ)) (order_before order : List ℕ) (place from : ℕ) (leader : Option ℕ) → leader ≡ Some from
    → IsGoingBack next place lasts_before order_before lasts order leader → (from < length next) × (link_at next from ≡ Some place)
back-leads next lasts_before lasts order_before order place from leader is b =
    let leads = leader-leads next place b.bound from (sym b.leader_is ∙ is) in
    (omega (arith, leads.0, b.bounded), leads.1)

-- it is reached, and the next smaller one is the leader
pub back-on : (next greatest smaller lasts_before lasts after : List (Option ℕ)) (order_before order order_after : List ℕ) (place from : ℕ)
    (leader next_leader : Option ℕ)
    → AreLeaders next (length next) greatest smaller → leader ≡ Some from → IsGoingBack next place lasts_before order_before lasts order leader
    → Grow lasts order after order_after → IsReached after from → AreReached next after order_after → next_leader ≡ link_at smaller from
    → IsGoingBack next place lasts_before order_before after order_after next_leader
back-on next greatest smaller lasts_before lasts after order_before order order_after place from leader next_leader l is b g here r next_is =
    let leads = leader-leads next place b.bound from (sym b.leader_is ∙ is) in
    record {
      bound = from;
      leader_is = next_is ∙ l.smaller_are from place (omega (arith, leads.0, b.bounded)) leads.1;
      bounded = omega (arith, leads.0, b.bounded);
      behind = λ other ge link.
          ⊎_elim (λ same. rw same here)
          (λ ne.
          ⊎_elim
          (λ lt.
          let past = leader-past next place b.bound other lt link in
          let up : up_to (greatest_leader next place b.bound) ≡ from + 1 = ap up_to (sym b.leader_is ∙ is) in
          absurd (omega (arith, past, up)))
          (λ past. still-reached lasts after other g.kept (b.behind other past link))
          (cases_lt other b.bound))
          (cases_eq other from);
      reached = r;
      grown = grown-more lasts_before order_before lasts order after order_after b.grown g;
    }

pub back-smaller : (next greatest smaller : List (Option ℕ)) (place from : ℕ) (next_leader : Option ℕ)
    → AreLeaders next (length next) greatest smaller
    → (from < length next) × (link_at next from ≡ Some place) → next_leader ≡ link_at smaller from → up_to next_leader < from + 1
back-smaller next greatest smaller place from next_leader l leads is = below next_leader (is ∙ l.smaller_are from place leads.0 leads.1) where
  below : (link : Option ℕ) → link ≡ greatest_leader next place from → up_to link < from + 1
  below None e = omega arith
  below (Some other) e = let r = leader-leads next place from other (sym e) in omega (arith, r.0)

pub back-ends : (next lasts_before lasts : List (Option ℕ)) (order_before order : List ℕ) (place : ℕ) (leader : Option ℕ) → leader ≡ None
    → IsGoingBack next place lasts_before order_before lasts order leader → IsLedBack next place lasts
back-ends next lasts_before lasts order_before order place leader is b from link =
    ⊎_elim
    (λ lt.
    let past = leader-past next place b.bound from lt link in
    let up : up_to (greatest_leader next place b.bound) ≡ 0 = ap up_to (sym b.leader_is ∙ is) in
    absurd (omega (arith, past, up)))
    (λ ge. b.behind from ge link)
    (cases_lt from b.bound)

pub some-within : (links : List (Option ℕ)) (place last : ℕ) → link_at links place ≡ Some last → place < length links
some-within links place last link =
    ⊎_elim (λ lt. lt) (λ ge. let e = get_or_past links place None ge in absurd (cc)) (cases_lt place (length links))

pub order-within : (next lasts : List (Option ℕ)) (order : List ℕ) (at place : ℕ) → AreReached next lasts order → at < length order
    → place ≡ get_or order at 0 → place < length lasts
order-within next lasts order at place r inside is =
    let t = r.told at inside in
    some-within lasts place t.last (rw is t.told)

-- the chain from a place that leads to one of the order
pub back-last : (next lasts_before lasts : List (Option ℕ)) (order_before order : List ℕ) (place at from last : ℕ)
    → AreReached next lasts_before order_before → at < length order_before → place ≡ get_or order_before at 0 → link_at lasts_before place ≡ Some last
    → Grow lasts_before order_before lasts order → link_at next from ≡ Some place → last_place_in (length order + 1) next from ≡ Some last
back-last next lasts_before lasts order_before order place at from last r inside is here g link =
    let t = r.told at inside in
    let same : Some t.last ≡ Some last = sym t.told ∙ ap (link_at lasts_before) (sym is) ∙ here in
    let more = g.more at inside in
    last-more (at + 1 + 1) (length order + 1) next from last (omega (arith, more))
    (last-step (at + 1) next from place link ∙ ap (last_place_in (at + 1) next) is ∙ t.ends ∙ same)
