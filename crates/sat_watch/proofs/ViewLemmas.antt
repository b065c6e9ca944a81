-- What users know of all lists.
use Rattle.std.proofs.Common.{◌≡◌, ◌≢◌, ℕ, ◌<◌, List, [], ◌∷◌, ◌++◌, length, get_or, set, Option, Some, None, IfSome, refl, sym, ap, ◌∙◌, ⊎_elim, arith}
use Rattle.std.proofs.lemmas.Bool.{cases_eq, cases_lt}
use Rattle.std.proofs.lemmas.List.{length-map, length-set, get_or-set_same, get_or-set_other, map_push, append_assoc}
use Rattle.sat_watch.specs.declared.links.Link.{Link}
use Rattle.sat_watch.specs.Watching.{Watched, list_at, BeginsWith, EndsWith, StandsAt, StandsBehind, StandsOnce, rest_from}
use Rattle.sat_watch.specs.Linking.{next_at, relinked, heads_behind, links_behind, lists_of, clauses_of, times, AreCounted, AreLinked}
use Rattle.sat_watch.proofs.CountLemmas.{times-at, times-le, times-found, times-among-found, rest-from-at, split-once}
use Rattle.sat_watch.proofs.LinkLemmas.{lists-are, length-lists_of, length-clauses_of, at-most-once, elsewhere-none, list-within, linked-attach, linked-move, clauses-move}
use Rattle.sat_watch.proofs.ChainLemmas.{begins-chain, chain-behind}

-- a watcher in a list is there once
pub stands-some : (lists : List (List ℕ)) (list : ℕ) (passed : List ℕ) (w : ℕ) (rest : List ℕ) → StandsAt lists list passed w rest → 0 < times w (get_or lists list [])
stands-some lists list passed w rest at = omega (arith, ap (times w) at, times-at w passed rest)

pub stands-known : (count : ℕ) (lists : List (List ℕ)) (list : ℕ) (passed : List ℕ) (w : ℕ) (rest : List ℕ)
    → AreCounted count lists → StandsAt lists list passed w rest → w < count
stands-known count lists list passed w rest c at =
    ⊎_elim (λ lt. lt) (λ ge. absurd (omega (arith, c.known w ge, times-le w lists list, stands-some lists list passed w rest at))) (cases_lt w count)

-- two places of a watcher in one list are one
pub same-place : (count : ℕ) (lists : List (List ℕ)) (list : ℕ) (w : ℕ) (passed rest before behind : List ℕ)
    → AreCounted count lists → StandsAt lists list passed w rest → StandsAt lists list before w behind → (passed ≡ before) × (rest ≡ behind)
same-place count lists list w passed rest before behind c at other =
    split-once w passed rest before behind (sym at ∙ other)
    (omega (arith, ap (times w) at, times-le w lists list, at-most-once count lists w c))

pub stands-once : (links : List Link) (lists : List (List ℕ)) → AreCounted (length links) lists
    → StandsOnce (record { lists = lists; clauses = clauses_of links })
stands-once links lists c = record {
  somewhere = λ w lt.
      let found = times-among-found w lists (omega (arith, c.once w (omega (arith, lt, length-map links (λ (link : Link). link.clause))))) in
      let place = times-found w (get_or lists found.0 []) found.1 in
      (found.0, place.0, place.1, place.2);
  known = λ list w passed rest at. omega (arith, stands-known (length links) lists list passed w rest c at, length-map links (λ (link : Link). link.clause));
  once = λ w list other passed rest before behind at at_other.
      ⊎_elim
      (λ same. let both = same-place (length links) lists list w passed rest before behind c at (rw same at_other) in (same, both.0, both.1))
      (λ ne. absurd (omega (
        arith,
        stands-some lists list passed w rest at,
        stands-some lists other before w behind at_other,
        elsewhere-none w lists other list (at-most-once (length links) lists w c) (stands-some lists other before w behind at_other) ne,
      )))
      (cases_eq list other);
}

-- so the rest from a watcher on is found by the watcher
pub stands-ahead : (count : ℕ) (lists : List (List ℕ)) (list : ℕ) (passed : List ℕ) (w : ℕ) (rest : List ℕ)
    → AreCounted count lists → StandsAt lists list passed w rest → rest_from (list_at lists list) (Some w) ≡ w ∷ rest
stands-ahead count lists list passed w rest c at =
    ap (λ xs. rest_from xs (Some w)) at
    ∙ rest-from-at w passed rest (omega (arith, ap (times w) at, times-at w passed rest, times-le w lists list, at-most-once count lists w c))

-- what is first in a list, and what comes behind a watcher
pub first-begins : (heads : List (Option ℕ)) (links : List Link) (list : ℕ) → AreLinked heads links (lists_of heads links) → list < length heads
    → BeginsWith (list_at (lists_of heads links) list) (get_or heads list None)
first-begins heads links list l within = begins-chain links (get_or heads list None) (get_or (lists_of heads links) list []) (l.chains.chained list within)

begins-known : (count : ℕ) (lists : List (List ℕ)) (list : ℕ) (passed rest : List ℕ) (first : Option ℕ) → AreCounted count lists
    → list_at lists list ≡ passed ++ rest → BeginsWith rest first → IfSome first (λ w. w < count)
begins-known count lists list passed rest None c at begins = tt
begins-known count lists list passed rest (Some w) c at begins =
    stands-known count lists list passed w begins.0 c (at ∙ ap (λ xs. passed ++ xs) begins.1)

pub first-known : (heads : List (Option ℕ)) (links : List Link) (list : ℕ) → AreLinked heads links (lists_of heads links) → list < length heads
    → IfSome (get_or heads list None) (λ w. w < length (clauses_of links))
first-known heads links list l within =
    rw (length-clauses_of links)
    (begins-known (length links) (lists_of heads links) list [] (get_or (lists_of heads links) list []) (get_or heads list None) l.counted refl
    (first-begins heads links list l within))

pub next-begins : (heads : List (Option ℕ)) (links : List Link) (list : ℕ) (passed : List ℕ) (w : ℕ) (rest : List ℕ)
    → AreLinked heads links (lists_of heads links) → StandsAt (lists_of heads links) list passed w rest → BeginsWith rest (next_at links w)
next-begins heads links list passed w rest l at =
    let within : list < length heads = omega (arith, list-within (lists_of heads links) list passed w rest at, length-lists_of heads links) in
    begins-chain links (next_at links w) rest
    (chain-behind links (get_or heads list None) passed w rest (rw (← at) (l.chains.chained list within))).1

pub next-known : (heads : List (Option ℕ)) (links : List Link) (w : ℕ) → AreLinked heads links (lists_of heads links) → w < length links
    → IfSome (next_at links w) (λ next. next < length (clauses_of links))
next-known heads links w l within =
    let lists = lists_of heads links in
    let found = times-among-found w lists (omega (arith, l.counted.once w within)) in
    let place = times-found w (get_or lists found.0 []) found.1 in
    rw (length-clauses_of links)
    (begins-known (length links) lists found.0 (place.0 ++ w ∷ []) place.1 (next_at links w) l.counted
    (place.2 ∙ sym (append_assoc place.0 (w ∷ []) place.1))
    (next-begins heads links found.0 place.0 w place.1 l place.2))

-- the lists where a watcher is attached
pub attached-view : (heads : List (Option ℕ)) (links : List Link) (list : ℕ) (link : Link)
    → AreLinked heads links (lists_of heads links) → list < length heads → link.next ≡ get_or heads list None
    → let watched : Watched = record { lists = lists_of (set heads list (Some (length links))) (links ++ link ∷ []); clauses = clauses_of (links ++ link ∷ []) } in
    watched ≡ record { lists = set (lists_of heads links) list (length links ∷ list_at (lists_of heads links) list); clauses = clauses_of links ++ link.clause ∷ [] }
attached-view heads links list link l within next =
    let lists = lists-are _ _ _ (linked-attach heads links (lists_of heads links) list link l within next) in
    let clauses = map_push (λ (link : Link). link.clause) links link in
    cc

-- what stands before a watcher that is to be moved
pub before-known : (count : ℕ) (lists : List (List ℕ)) (list : ℕ) (before : Option ℕ) (passed : List ℕ) (w : ℕ) (rest : List ℕ)
    → AreCounted count lists → StandsAt lists list passed w rest → EndsWith passed before → IfSome before (λ b. b < count)
before-known count lists list None passed w rest c at ends = tt
before-known count lists list (Some b) passed w rest c at ends =
    stands-known count lists list ends.0 b (w ∷ rest) c
    (at ∙ ap (λ xs. xs ++ w ∷ rest) ends.1 ∙ append_assoc ends.0 (b ∷ []) (w ∷ rest))

-- the lists where a watcher is moved, wherever it is said to be
pub moved-view : (heads : List (Option ℕ)) (links : List Link) (list : ℕ) (before : Option ℕ) (passed : List ℕ) (w : ℕ) (rest : List ℕ) (to : ℕ)
    → AreLinked heads links (lists_of heads links) → StandsBehind (list_at (lists_of heads links) list) before w
    → StandsAt (lists_of heads links) list passed w rest → to < length heads → list ≢ to
    → let heads_then = heads_behind heads list before (next_at links w) in
    let links_then = links_behind links before (next_at links w) in
    let heads_now = set heads_then to (Some w) in
    let links_now = relinked links_then w (get_or heads_then to None) in
    let watched : Watched = record { lists = lists_of heads_now links_now; clauses = clauses_of links_now } in
    watched ≡ record { lists = set (set (lists_of heads links) list (passed ++ rest)) to (w ∷ list_at (lists_of heads links) to); clauses = clauses_of links }
moved-view heads links list before passed w rest to l place at within ne =
    let both = same-place (length links) (lists_of heads links) list w place.passed place.rest passed rest l.counted place.split at in
    let shorter : place.passed ++ place.rest ≡ passed ++ rest = let front = both.0 in let back = both.1 in cc in
    let lists = lists-are _ _ _ (linked-move heads links (lists_of heads links) list before place.passed w place.rest to l place.split place.last within ne) in
    let clauses = clauses-move links before (next_at links w) w (get_or (heads_behind heads list before (next_at links w)) to None) in
    cc

-- each list where a watcher is moved
pub list-left : (lists : List (List ℕ)) (list : ℕ) (passed : List ℕ) (w : ℕ) (rest : List ℕ) (to : ℕ) (xs : List ℕ)
    → StandsAt lists list passed w rest → list ≢ to → list_at (set (set lists list (passed ++ rest)) to xs) list ≡ passed ++ rest
list-left lists list passed w rest to xs at ne =
    get_or-set_other (set lists list (passed ++ rest)) to list xs [] ne
    ∙ get_or-set_same lists list (passed ++ rest) [] (list-within lists list passed w rest at)

pub list-joined : (lists : List (List ℕ)) (list : ℕ) (ys : List ℕ) (to : ℕ) (xs : List ℕ) → to < length lists
    → list_at (set (set lists list ys) to xs) to ≡ xs
list-joined lists list ys to xs within =
    get_or-set_same (set lists list ys) to xs [] (omega (arith, within, length-set lists list ys))

pub list-other : (lists : List (List ℕ)) (list : ℕ) (ys : List ℕ) (to : ℕ) (xs : List ℕ) (other : ℕ) → list ≢ other → to ≢ other
    → list_at (set (set lists list ys) to xs) other ≡ list_at lists other
list-other lists list ys to xs other list_ne to_ne =
    get_or-set_other (set lists list ys) to other xs [] (λ e. to_ne (sym e)) ∙ get_or-set_other lists list other ys [] (λ e. list_ne (sym e))
