-- To which watchers a head leads.
use Rattle.std.proofs.Common.{◌≡◌, ◌≢◌, ℕ, zero, suc, ◌<◌, ◌≤◌, List, [], ◌∷◌, ◌++◌, length, Option, Some, refl, ap, arith, length-append, length-set}
use Rattle.std.proofs.lemmas.List.{get_or-set_same, get_or-set_other, get_or_append_left, get_or_push}
use Rattle.sat_watch.specs.declared.links.Link.{Link}
use Rattle.sat_watch.specs.Watching.{BeginsWith}
use Rattle.sat_watch.specs.Linking.{no_link, next_at, relinked, chain, IsChain, times}
use Rattle.sat_watch.proofs.CountLemmas.{times-none}

next-same : (links : List Link) (w : ℕ) (next : Option ℕ) → w < length links → next_at (relinked links w next) w ≡ next
next-same links w next within = ap (λ (link : Link). link.next) (get_or-set_same links w _ no_link within)

next-other : (links : List Link) (w x : ℕ) (next : Option ℕ) → x ≢ w → next_at (relinked links w next) x ≡ next_at links x
next-other links w x next ne = ap (λ (link : Link). link.next) (get_or-set_other links w x _ no_link ne)

pub length-relinked : (links : List Link) (w : ℕ) (next : Option ℕ) → length (relinked links w next) ≡ length links
length-relinked links w next = length-set links w _

-- a chain and the number of its watchers give its list
pub chain-is : (most : ℕ) (links : List Link) (head : Option ℕ) (xs : List ℕ) → IsChain links head xs → length xs ≤ most → chain most links head ≡ xs
chain-is zero links head [] c few = refl
chain-is zero links head (x ∷ xs) c few = absurd (omega arith)
chain-is (suc most) links head [] c few = rw c refl
chain-is (suc most) links head (x ∷ xs) c few =
    rw c.0 (ap (λ ys. x ∷ ys) (chain-is most links (next_at links x) xs c.2 (omega (arith, few))))

pub begins-chain : (links : List Link) (head : Option ℕ) (xs : List ℕ) → IsChain links head xs → BeginsWith xs head
begins-chain links head [] c = rw c refl
begins-chain links head (x ∷ xs) c = rw c.0 (xs, refl)

-- behind a watcher of a chain comes the rest
pub chain-behind : (links : List Link) (head : Option ℕ) (passed : List ℕ) (w : ℕ) (rest : List ℕ)
    → IsChain links head (passed ++ w ∷ rest) → (w < length links) × IsChain links (next_at links w) rest
chain-behind links head [] w rest c = (c.1, c.2)
chain-behind links head (x ∷ passed) w rest c = chain-behind links (next_at links x) passed w rest c.2

-- another link changes no chain
pub chain-push : (links : List Link) (link : Link) (head : Option ℕ) (xs : List ℕ) → IsChain links head xs → IsChain (links ++ link ∷ []) head xs
chain-push links link head [] c = c
chain-push links link head (x ∷ xs) c =
    let same : next_at (links ++ link ∷ []) x ≡ next_at links x =
    ap (λ (link : Link). link.next) (get_or_append_left links (link ∷ []) no_link x c.1) in
    (c.0, omega (arith, c.1, length-append links (link ∷ [])), rw same (chain-push links link (next_at links x) xs c.2))

-- nor does the link of a watcher that isn't in it
pub chain-relinked : (links : List Link) (w : ℕ) (next head : Option ℕ) (xs : List ℕ) → times w xs ≡ 0
    → IsChain links head xs → IsChain (relinked links w next) head xs
chain-relinked links w next head [] none c = c
chain-relinked links w next head (x ∷ xs) none c =
    let absent = times-none w x xs none in (
      c.0,
      omega (arith, c.1, length-relinked links w next),
      rw (next-other links w x next absent.0) (chain-relinked links w next (next_at links x) xs absent.1 c.2),
    )

-- a watcher goes out of a chain, where the one before it is linked to the one behind it
pub chain-skip : (links : List Link) (head : Option ℕ) (front : List ℕ) (b w : ℕ) (rest : List ℕ)
    → times b front ≡ 0 → times b rest ≡ 0 → IsChain links head (front ++ b ∷ w ∷ rest)
    → IsChain (relinked links b (next_at links w)) head (front ++ b ∷ rest)
chain-skip links head [] b w rest front_none rest_none c =
    let behind = chain-behind links (next_at links b) [] w rest c.2 in (
      c.0,
      omega (arith, c.1, length-relinked links b (next_at links w)),
      rw (next-same links b (next_at links w) c.1) (chain-relinked links b (next_at links w) (next_at links w) rest rest_none behind.1),
    )
chain-skip links head (x ∷ front) b w rest front_none rest_none c =
    let absent = times-none b x front front_none in (
      c.0,
      omega (arith, c.1, length-relinked links b (next_at links w)),
      rw (next-other links b x (next_at links w) absent.0) (chain-skip links (next_at links x) front b w rest absent.1 rest_none c.2),
    )

-- a watcher goes to the front of a chain that it isn't in
pub chain-front : (links : List Link) (head : Option ℕ) (w : ℕ) (xs : List ℕ) → w < length links → times w xs ≡ 0
    → IsChain links head xs → IsChain (relinked links w head) (Some w) (w ∷ xs)
chain-front links head w xs within none c = (
  refl,
  omega (arith, within, length-relinked links w head),
  rw (next-same links w head within) (chain-relinked links w head head xs none c),
)

-- the link that was put last is at the front of a chain
pub chain-attach : (links : List Link) (link : Link) (xs : List ℕ) → IsChain links link.next xs
    → IsChain (links ++ link ∷ []) (Some (length links)) (length links ∷ xs)
chain-attach links link xs c =
    let same : next_at (links ++ link ∷ []) (length links) ≡ link.next = ap (λ (link : Link). link.next) (get_or_push links link no_link (length links) refl) in
    (refl, omega (arith, length-append links (link ∷ [])), rw same (chain-push links link link.next xs c))
