-- The lists of the places that lead to each place.
use Rattle.std.proofs.Common.{◌≡◌, ◌≢◌, ℕ, zero, suc, ◌+◌, ◌<◌, Bool, true, false, List, length, set, replicate, Option, Some, None, refl, sym, ◌∙◌, ⊎_elim, ◌⊎◌, inl, inr, arith, length-set, add-one}
use Rattle.std.specs.Prelude.{All, IfSome, if◌then◌else◌, ◌==◌}
use Rattle.std.specs.Option.{option_map_or}
use Rattle.std.proofs.lemmas.Bool.{cases_eq, cases_lt, false≢true}
use Rattle.std.proofs.lemmas.List.{get_or-set_same, get_or-set_other, get_or-replicate, get_or_past, length-replicate}
use Rattle.std.proofs.lemmas.List.Elements.{All-get_or}
use Rattle.reg_tables.specs.Chains.{AreLeaders, greatest_leader, leads_to, link_at, up_to}

leader-more : (next : List (Option ℕ)) (to count : ℕ) → leads_to next to count ≡ true → greatest_leader next to (count + 1) ≡ Some count
leader-more next to count leads = rw (add-one count, leads)

leader-kept : (next : List (Option ℕ)) (to count : ℕ) → leads_to next to count ≡ false
    → greatest_leader next to (count + 1) ≡ greatest_leader next to count
leader-kept next to count leads = rw (add-one count, leads)

leads-there : (next : List (Option ℕ)) (from to : ℕ) → link_at next from ≡ Some to → leads_to next to from ≡ true
leads-there next from to link = rw link (grind arith)

leads-elsewhere : (next : List (Option ℕ)) (from to other : ℕ) → link_at next from ≡ Some to → other ≢ to → leads_to next other from ≡ false
leads-elsewhere next from to other link ne = rw link (grind arith)

leads-nowhere : (next : List (Option ℕ)) (from to : ℕ) → link_at next from ≡ None → leads_to next to from ≡ false
leads-nowhere next from to link = rw link

pub nothing-at : (n place : ℕ) → link_at (replicate n None) place ≡ None
nothing-at n place =
    ⊎_elim (λ lt. get_or-replicate n place None None lt)
    (λ ge. get_or_past (replicate n None) place None (omega (arith, length-replicate {A = Option ℕ} n None)))
    (cases_lt place n)

pub leaders-none : (next : List (Option ℕ)) (n : ℕ) → n ≡ length next → AreLeaders next 0 (replicate n None) (replicate n None)
leaders-none next n count = record {
  greatest_count = length-replicate n None ∙ count;
  smaller_count = length-replicate n None ∙ count;
  greatest_are = λ to. nothing-at n to;
  smaller_are = λ from to inside link. absurd (omega arith);
}

-- the next place leads to one
pub leaders-more : (next greatest smaller : List (Option ℕ)) (count to : ℕ) (read : Option ℕ) → read ≡ link_at greatest to
    → count < length next → to < length next → link_at next count ≡ Some to
    → AreLeaders next count greatest smaller → AreLeaders next (count + 1) (set greatest to (Some count)) (set smaller count read)
leaders-more next greatest smaller count to read is inside within link l = record {
  greatest_count = length-set greatest to (Some count) ∙ l.greatest_count;
  smaller_count = length-set smaller count read ∙ l.smaller_count;
  greatest_are = λ other.
      ⊎_elim
      (λ same. rw (same, get_or-set_same greatest to (Some count) None (omega (arith, l.greatest_count)))
      (sym (leader-more next to count (leads-there next count to link))))
      (λ ne. get_or-set_other greatest to other (Some count) None ne ∙ l.greatest_are other
      ∙ sym (leader-kept next other count (leads-elsewhere next count to other link ne)))
      (cases_eq other to);
  smaller_are = λ from other below leads.
      ⊎_elim
      (λ same.
      let e : to ≡ other = cc in
      rw (same, get_or-set_same smaller count read None (omega (arith, l.smaller_count)), is, ← e) (l.greatest_are to))
      (λ ne. get_or-set_other smaller count from read None ne ∙ l.smaller_are from other (omega arith) leads)
      (cases_eq from count);
}

-- the next place leads nowhere
pub leaders-kept : (next greatest smaller : List (Option ℕ)) (count : ℕ) → link_at next count ≡ None → AreLeaders next count greatest smaller
    → AreLeaders next (count + 1) greatest smaller
leaders-kept next greatest smaller count link l = record {
  greatest_count = l.greatest_count;
  smaller_count = l.smaller_count;
  greatest_are = λ to. l.greatest_are to ∙ sym (leader-kept next to count (leads-nowhere next count to link));
  smaller_are = λ from to below leads.
      ⊎_elim (λ same. let e : Some to ≡ None = cc in absurd (cc)) (λ ne. l.smaller_are from to (omega arith) leads) (cases_eq from count);
}

link-there : (link : Option ℕ) (to : ℕ) → option_map_or (λ (other : ℕ). other == to) link false ≡ true → link ≡ Some to
link-there None to leads = absurd (false≢true leads)
link-there (Some other) to leads = grind arith

picked : (test : Bool) (count from : ℕ) (rest : Option ℕ) → (if test then Some count else rest) ≡ Some from
    → ((test ≡ true) × (count ≡ from)) ⊎ (rest ≡ Some from)
picked true count from rest is = inl (refl, cc)
picked false count from rest is = inr is

-- the greatest leader is one of them
pub leader-leads : (next : List (Option ℕ)) (to count from : ℕ) → greatest_leader next to count ≡ Some from
    → (from < count) × (link_at next from ≡ Some to)
leader-leads next to zero from is = absurd (cc)
leader-leads next to (suc count) from is =
    ⊎_elim (λ here. (omega (arith, here.1), rw here.1 at (link-there (link_at next count) to here.0)))
    (λ rest. let r = leader-leads next to count from rest in (omega (arith, r.0), r.1))
    (picked (leads_to next to count) count from (greatest_leader next to count) is)

below-picked : (test : Bool) (count from : ℕ) (rest : Option ℕ) → from < count → from < up_to rest → from < up_to (if test then Some count else rest)
below-picked true count from rest below inside = omega arith
below-picked false count from rest below inside = inside

-- and none of them stands behind it
pub leader-past : (next : List (Option ℕ)) (to count from : ℕ) → from < count → link_at next from ≡ Some to
    → from < up_to (greatest_leader next to count)
leader-past next to zero from inside link = absurd (omega arith)
leader-past next to (suc count) from inside link =
    ⊎_elim (λ same. rw (leads-there next count to (rw same at link)) (omega (arith, same)))
    (λ ne.
    let below : from < count = omega arith in
    below-picked (leads_to next to count) count from (greatest_leader next to count) below (leader-past next to count from below link))
    (cases_eq from count)

-- links lead to places below a bound
abbrev pub AreWithin : ℕ → List (Option ℕ) → Type 0
AreWithin n links = All (λ link. IfSome link (λ place. place < n)) links

pub link-within : (links : List (Option ℕ)) (n from to : ℕ) → AreWithin n links → link_at links from ≡ Some to → to < n
link-within links n from to within link =
    ⊎_elim (λ lt. below (link_at links from) (All-get_or (λ (link : Option ℕ). IfSome link (λ (p : ℕ). p < n)) links from None lt within) link)
    (λ ge. let e = get_or_past links from None ge in absurd (cc))
    (cases_lt from (length links)) where
      below : (link : Option ℕ) → IfSome link (λ (p : ℕ). p < n) → link ≡ Some to → to < n
      below None h is = absurd (cc)
      below (Some other) h is = let e : other ≡ to = cc in omega (arith, h, e)
