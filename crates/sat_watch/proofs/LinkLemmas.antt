-- How all lists change where a watcher is attached or moved.
use Rattle.std.proofs.Common.{◌≡◌, ◌≢◌, ℕ, ◌+◌, ◌<◌, ◌≤◌, List, [], ◌∷◌, ◌++◌, length, get_or, set, Option, Some, None, refl, sym, ap, subst, ◌∙◌, ⊎_elim, arith, replicate, length-append, length-set}
use Rattle.std.proofs.lemmas.List.{get_or-set_same, get_or-set_other, get_or-replicate, set-get_or, length-map, length-replicate, get_or-map, ext_get_or, get_or_past, append_assoc}
use Rattle.std.proofs.Math.Seq.{map-set_same}
use Rattle.std.proofs.lemmas.Bool.{cases_eq, cases_lt}
use Rattle.sat_watch.specs.declared.links.Link.{Link}
use Rattle.sat_watch.specs.Watching.{StandsAt, EndsWith}
use Rattle.sat_watch.specs.Linking.{no_link, next_at, relinked, heads_behind, links_behind, chain, lists_of, clauses_of, IsChain, AreChains, times, times_among, AreCounted, AreLinked}
use Rattle.sat_watch.proofs.CountLemmas.{times-append, times-at, times-other, times-le, times-two, times-set, total-set, length-le-total, times-empty, total-empty}
use Rattle.sat_watch.proofs.ChainLemmas.{length-relinked, chain-is, chain-behind, chain-push, chain-relinked, chain-skip, chain-front, chain-attach}

-- the lists that the vectors mean are those to which the heads lead
pub lists-are : (heads : List (Option ℕ)) (links : List Link) (lists : List (List ℕ)) → AreLinked heads links lists → lists_of heads links ≡ lists
lists-are heads links lists l =
    ext_get_or [] (lists_of heads links) lists
    (length-map heads (chain (length links) links) ∙ sym l.chains.each)
    (λ i within.
    let here : i < length heads = omega (arith, within, length-map heads (chain (length links) links)) in
    get_or-map (chain (length links) links) heads i None [] here
    ∙ chain-is (length links) links (get_or heads i None) (get_or lists i []) (l.chains.chained i here)
    (omega (arith, length-le-total lists i, l.counted.total)))

pub length-lists_of : (heads : List (Option ℕ)) (links : List Link) → length (lists_of heads links) ≡ length heads
length-lists_of heads links = length-map heads (chain (length links) links)

pub length-clauses_of : (links : List Link) → length (clauses_of links) ≡ length links
length-clauses_of links = length-map links (λ (link : Link). link.clause)

pub linked-again : (heads : List (Option ℕ)) (links : List Link) (lists : List (List ℕ)) → AreLinked heads links lists → AreLinked heads links (lists_of heads links)
linked-again heads links lists l = let P : List (List ℕ) → Type 0 = λ ls. AreLinked heads links ls in subst P (sym (lists-are heads links lists l)) l

-- one list and its head are new, and the others are led to as before
chains-set : (heads : List (Option ℕ)) (links : List Link) (lists : List (List ℕ)) (list : ℕ) (head : Option ℕ) (xs : List ℕ)
    → length lists ≡ length heads → list < length heads → IsChain links head xs
    → ((other : ℕ) → other < length heads → other ≢ list → IsChain links (get_or heads other None) (get_or lists other []))
    → AreChains (set heads list head) links (set lists list xs)
chains-set heads links lists list head xs each within new others = record {
  each = omega (arith, each, length-set heads list head, length-set lists list xs);
  chained = λ other inside.
      ⊎_elim
      (λ same. rw (same, get_or-set_same heads list head None within, get_or-set_same lists list xs [] (omega (arith, each, within))) new)
      (λ ne. rw (get_or-set_other heads list other head None ne, get_or-set_other lists list other xs [] ne)
      (others other (omega (arith, inside, length-set heads list head)) ne))
      (cases_eq other list);
}

-- what is in a list once is in no other
pub elsewhere-none : (w : ℕ) (lists : List (List ℕ)) (list other : ℕ) → times_among w lists ≤ 1 → 0 < times w (get_or lists list [])
    → other ≢ list → times w (get_or lists other []) ≡ 0
elsewhere-none w lists list other once here ne = omega (arith, once, here, times-two w lists other list ne)

pub at-most-once : (count : ℕ) (lists : List (List ℕ)) (w : ℕ) → AreCounted count lists → times_among w lists ≤ 1
at-most-once count lists w c =
    ⊎_elim (λ lt. omega (arith, c.once w lt)) (λ ge. omega (arith, c.known w ge)) (cases_lt w count)

-- a list that has a watcher is one of the lists
pub list-within : (lists : List (List ℕ)) (list : ℕ) (passed : List ℕ) (w : ℕ) (rest : List ℕ) → StandsAt lists list passed w rest → list < length lists
list-within lists list passed w rest at =
    ⊎_elim (λ lt. lt)
    (λ ge. absurd (let gone = ap length (sym (get_or_past lists list [] ge) ∙ at) in omega (arith, gone, length-append passed (w ∷ rest))))
    (cases_lt list (length lists))

-- no watcher
pub linked-new : (n : ℕ) → AreLinked (replicate n None) [] (replicate n [])
linked-new n = record {
  chains = record {
    each = length-replicate {A = List ℕ} n [] ∙ sym (length-replicate {A = Option ℕ} n None);
    chained = λ list within. let inside : list < n = omega (arith, within, length-replicate {A = Option ℕ} n None) in
        rw (get_or-replicate {A = List ℕ} n list [] [] inside) (get_or-replicate {A = Option ℕ} n list None None inside);
  };
  counted = record {
    once = λ w within. absurd (omega (arith, within));
    known = λ w _. times-empty w n;
    total = total-empty n;
  };
}

-- a new watcher is at the front of a list
pub linked-attach : (heads : List (Option ℕ)) (links : List Link) (lists : List (List ℕ)) (list : ℕ) (link : Link)
    → AreLinked heads links lists → list < length heads → link.next ≡ get_or heads list None
    → AreLinked (set heads list (Some (length links))) (links ++ link ∷ []) (set lists list (length links ∷ get_or lists list []))
linked-attach heads links lists list link l within next =
    let inside : list < length lists = omega (arith, within, l.chains.each) in
    let more : length (links ++ link ∷ []) ≡ length links + 1 = omega (arith, length-append links (link ∷ [])) in
    let count : (w : ℕ) → times_among w (set lists list (length links ∷ get_or lists list [])) + times w (get_or lists list [])
    ≡ times_among w lists + times w (length links ∷ get_or lists list []) =
    λ w. times-set w lists list (length links ∷ get_or lists list []) inside in
    record {
      chains = chains-set heads (links ++ link ∷ []) lists list (Some (length links)) (length links ∷ get_or lists list []) l.chains.each within
          (chain-attach links link (get_or lists list []) (rw next (l.chains.chained list within)))
          (λ other here _. chain-push links link (get_or heads other None) (get_or lists other []) (l.chains.chained other here));
      counted = record {
        once = λ w lt.
            ⊎_elim
            (λ same. omega (arith, count w, times-at w [] (get_or lists list []), ap (λ x. times w (x ∷ get_or lists list [])) same, l.counted.known w (omega (arith, same))))
            (λ ne. omega (arith, count w, times-other w (length links) (get_or lists list []) ne, l.counted.once w (omega (arith, lt, more, ne))))
            (cases_eq (length links) w);
        known = λ w le.
            let ne : length links ≢ w = omega (arith, le, more) in
            omega (arith, count w, times-other w (length links) (get_or lists list []) ne, l.counted.known w (omega (arith, le, more)));
        total = omega (arith, more, total-set lists list (length links ∷ get_or lists list []) inside, l.counted.total);
      };
    }

-- a watcher that is in no list goes to the front of one
chains-front : (heads : List (Option ℕ)) (links : List Link) (lists : List (List ℕ)) (to w : ℕ)
    → AreChains heads links lists → to < length heads → w < length links → times_among w lists ≡ 0
    → AreChains (set heads to (Some w)) (relinked links w (get_or heads to None)) (set lists to (w ∷ get_or lists to []))
chains-front heads links lists to w c within inside none =
    let nowhere : (list : ℕ) → times w (get_or lists list []) ≡ 0 = λ list. omega (arith, none, times-le w lists list) in
    chains-set heads (relinked links w (get_or heads to None)) lists to (Some w) (w ∷ get_or lists to []) c.each within
    (chain-front links (get_or heads to None) w (get_or lists to []) inside (nowhere to) (c.chained to within))
    (λ other here _. chain-relinked links w (get_or heads to None) (get_or heads other None) (get_or lists other []) (nowhere other) (c.chained other here))

-- a watcher goes out of its list
chains-unlink : (heads : List (Option ℕ)) (links : List Link) (lists : List (List ℕ)) (list : ℕ) (before : Option ℕ) (passed : List ℕ) (w : ℕ) (rest : List ℕ)
    → AreLinked heads links lists → StandsAt lists list passed w rest → EndsWith passed before
    → AreChains (heads_behind heads list before (next_at links w)) (links_behind links before (next_at links w)) (set lists list (passed ++ rest))
chains-unlink heads links lists list None passed w rest l at ends =
    let within : list < length heads = omega (arith, list-within lists list passed w rest at, l.chains.each) in
    let behind = chain-behind links (get_or heads list None) passed w rest (rw (← at) (l.chains.chained list within)) in
    chains-set heads links lists list (next_at links w) (passed ++ rest) l.chains.each within
    (rw ends behind.1)
    (λ other here _. l.chains.chained other here)
chains-unlink heads links lists list (Some b) passed w rest l at ends =
    let within : list < length heads = omega (arith, list-within lists list passed w rest at, l.chains.each) in
    let front = ends.0 in
    let whole : get_or lists list [] ≡ front ++ b ∷ w ∷ rest = at ∙ ap (λ xs. xs ++ w ∷ rest) ends.1 ∙ append_assoc front (b ∷ []) (w ∷ rest) in
    let shorter : passed ++ rest ≡ front ++ b ∷ rest = ap (λ xs. xs ++ rest) ends.1 ∙ append_assoc front (b ∷ []) rest in
    let most = at-most-once (length links) lists b l.counted in
    let here : times b (get_or lists list []) ≡ 1 + times b front + times b (w ∷ rest) = ap (times b) whole ∙ times-at b front (w ∷ rest) in
    let few = times-le b lists list in
    let links_now = relinked links b (next_at links w) in
    let chains : AreChains (set heads list (get_or heads list None)) links_now (set lists list (passed ++ rest)) =
    chains-set heads links_now lists list (get_or heads list None) (passed ++ rest) l.chains.each within
    (rw shorter (chain-skip links (get_or heads list None) front b w rest (omega (arith, most, here, few)) (omega (arith, most, here, few)) (rw (← whole) (l.chains.chained list within))))
    (λ other inside ne. chain-relinked links b (next_at links w) (get_or heads other None) (get_or lists other [])
    (elsewhere-none b lists list other most (omega (arith, here)) ne) (l.chains.chained other inside)) in
    rw (set-get_or heads list None) at chains

length-heads-behind : (heads : List (Option ℕ)) (list : ℕ) (before next : Option ℕ) → length (heads_behind heads list before next) ≡ length heads
length-heads-behind heads list None next = length-set heads list next
length-heads-behind heads list (Some b) next = refl

pub length-links-behind : (links : List Link) (before next : Option ℕ) → length (links_behind links before next) ≡ length links
length-links-behind links None next = refl
length-links-behind links (Some b) next = length-relinked links b next

-- a watcher goes from its list to the front of another
pub linked-move : (heads : List (Option ℕ)) (links : List Link) (lists : List (List ℕ)) (list : ℕ) (before : Option ℕ) (passed : List ℕ) (w : ℕ) (rest : List ℕ) (to : ℕ)
    → AreLinked heads links lists → StandsAt lists list passed w rest → EndsWith passed before → to < length heads → list ≢ to
    → let heads_then = heads_behind heads list before (next_at links w) in
    let links_then = links_behind links before (next_at links w) in
    AreLinked (set heads_then to (Some w)) (relinked links_then w (get_or heads_then to None)) (set (set lists list (passed ++ rest)) to (w ∷ get_or lists to []))
linked-move heads links lists list before passed w rest to l at ends within ne =
    let heads_then = heads_behind heads list before (next_at links w) in
    let links_then = links_behind links before (next_at links w) in
    let lists_then = set lists list (passed ++ rest) in
    let next = next_at links w in
    let heads_len = length-heads-behind heads list before next in
    let links_len = length-links-behind links before next in
    let list_in : list < length lists = list-within lists list passed w rest at in
    let to_in : to < length lists_then = omega (arith, within, l.chains.each, length-set lists list (passed ++ rest)) in
    let w_in : w < length links =
    (chain-behind links (get_or heads list None) passed w rest (rw (← at) (l.chains.chained list (omega (arith, list_in, l.chains.each))))).0 in
    let same : get_or lists_then to [] ≡ get_or lists to [] = get_or-set_other lists list to (passed ++ rest) [] (λ e. ne (sym e)) in
    let out : (x : ℕ) → times_among x lists_then + times x (passed ++ w ∷ rest) ≡ times_among x lists + times x (passed ++ rest) =
    λ x. ap (λ xs. times_among x lists_then + times x xs) (sym at) ∙ times-set x lists list (passed ++ rest) list_in in
    let back : (x : ℕ) → times_among x (set lists_then to (w ∷ get_or lists to [])) ≡ times_among x lists =
    λ x. omega (
      arith,
      out x,
      times-append x passed (w ∷ rest),
      times-append x passed rest,
      times-set x lists_then to (w ∷ get_or lists to []) to_in,
      ap (times x) same,
    ) in
    let nowhere : times_among w lists_then ≡ 0 =
    omega (arith, out w, times-at w passed rest, times-append w passed rest, l.counted.once w w_in) in
    let chains_then = chains-unlink heads links lists list before passed w rest l at ends in
    let chains_now = chains-front heads_then links_then lists_then to w chains_then (omega (arith, within, heads_len)) (omega (arith, w_in, links_len)) nowhere in
    let count : length (relinked links_then w (get_or heads_then to None)) ≡ length links = length-relinked links_then w (get_or heads_then to None) ∙ links_len in
    record {
      chains = rw same at chains_now;
      counted = record {
        once = λ x lt. back x ∙ l.counted.once x (omega (arith, lt, count));
        known = λ x le. back x ∙ l.counted.known x (omega (arith, le, count));
        total = omega (
          arith,
          count,
          l.counted.total,
          total-set lists list (passed ++ rest) list_in,
          ap length at,
          length-append passed (w ∷ rest),
          length-append passed rest,
          total-set lists_then to (w ∷ get_or lists to []) to_in,
          ap length same,
        );
      };
    }

-- no clause changes where a watcher is moved
clauses-relinked : (links : List Link) (w : ℕ) (next : Option ℕ) → clauses_of (relinked links w next) ≡ clauses_of links
clauses-relinked links w next = map-set_same (λ (link : Link). link.clause) links w _ no_link refl

clauses-behind : (links : List Link) (before next : Option ℕ) → clauses_of (links_behind links before next) ≡ clauses_of links
clauses-behind links None next = refl
clauses-behind links (Some b) next = clauses-relinked links b next

pub clauses-move : (links : List Link) (before next : Option ℕ) (w : ℕ) (head : Option ℕ) → clauses_of (relinked (links_behind links before next) w head) ≡ clauses_of links
clauses-move links before next w head = clauses-relinked (links_behind links before next) w head ∙ clauses-behind links before next
