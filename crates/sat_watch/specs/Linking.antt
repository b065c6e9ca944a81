-- For private contracts: how the lists lie in one vector of links.
use Rattle.std.specs.Prelude.{◌≡◌, ℕ, zero, suc, ◌+◌, ◌<◌, ◌≤◌, ◌==◌, if◌then◌else◌, List, [], ◌∷◌, length, map, slice_index_or, slice_set, Option, Some, None}
use Rattle.sat_watch.specs.Watching.{list_at}
use Rattle.sat_watch.specs.declared.links.Link.{Link}

-- what stands for a link past the last
abbrev pub no_link : Link
no_link = record { clause = 0; next = None }

-- the watcher behind another, and the clause of a watcher
abbrev pub next_at : List Link → ℕ → Option ℕ
next_at links watcher = (slice_index_or links watcher no_link).next

abbrev pub clause_at : List Link → ℕ → ℕ
clause_at links watcher = (slice_index_or links watcher no_link).clause

-- the links where another comes behind a watcher
abbrev pub relinked : List Link → ℕ → Option ℕ → List Link
relinked links watcher next = slice_set links watcher (record { clause = clause_at links watcher; next = next })

-- the heads and the links where another comes behind a watcher of a list, or first in it
abbrev pub heads_behind : List (Option ℕ) → ℕ → Option ℕ → Option ℕ → List (Option ℕ)
heads_behind heads list None next = slice_set heads list next
heads_behind heads list (Some before) next = heads

abbrev pub links_behind : List Link → Option ℕ → Option ℕ → List Link
links_behind links None next = links
links_behind links (Some before) next = relinked links before next

-- the watchers to which a head leads, and no more than so many
abbrev pub chain : ℕ → List Link → Option ℕ → List ℕ
chain zero links head = []
chain (suc most) links None = []
chain (suc most) links (Some watcher) = watcher ∷ chain most links (next_at links watcher)

abbrev pub lists_of : List (Option ℕ) → List Link → List (List ℕ)
lists_of heads links = map (chain (length links) links) heads

abbrev pub clauses_of : List Link → List ℕ
clauses_of links = map (λ link. link.clause) links

-- a head leads to these watchers, and no others
abbrev pub IsChain : List Link → Option ℕ → List ℕ → Type 0
IsChain links head [] = head ≡ None
IsChain links head (watcher ∷ watchers) =
    (head ≡ Some watcher) × (watcher < length links) × IsChain links (next_at links watcher) watchers

pub record AreChains (heads : List (Option ℕ)) (links : List Link) (lists : List (List ℕ)) : Type 0 where
  pub each : length lists ≡ length heads
  pub chained : (list : ℕ) → list < length heads → IsChain links (slice_index_or heads list None) (list_at lists list)

-- how often a watcher is in a list, and in all lists
abbrev pub times : ℕ → List ℕ → ℕ
times watcher [] = 0
times watcher (other ∷ others) = (if other == watcher then 1 else 0) + times watcher others

abbrev pub times_among : ℕ → List (List ℕ) → ℕ
times_among watcher [] = 0
times_among watcher (list ∷ lists) = times watcher list + times_among watcher lists

abbrev pub total_length : List (List ℕ) → ℕ
total_length [] = 0
total_length (list ∷ lists) = length list + total_length lists

-- of so many watchers each is in one list, once, and the lists have no others
pub record AreCounted (count : ℕ) (lists : List (List ℕ)) : Type 0 where
  pub once : (watcher : ℕ) → watcher < count → times_among watcher lists ≡ 1
  pub known : (watcher : ℕ) → count ≤ watcher → times_among watcher lists ≡ 0
  pub total : total_length lists ≡ count

pub record AreLinked (heads : List (Option ℕ)) (links : List Link) (lists : List (List ℕ)) : Type 0 where
  pub chains : AreChains heads links lists
  pub counted : AreCounted (length links) lists
