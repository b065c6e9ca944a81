-- Depths, one line on.
use Rattle.std.proofs.Common.{◌≡◌, ◌≢◌, ◌++◌, ◌∷◌, [], ◌<◌, ◌≤◌, ◌+◌, ◌-◌, ℕ, zero, suc, List, length, take, map, filter, count_by, true, false, refl, sym, ap, ◌∙◌, subst, arith, ◌⊎◌, ⊎_elim, inl, inr, get_or, cond, set, add-zero}
use Rattle.std.specs.List.{range_with_len}
use Rattle.std.proofs.lemmas.Bool.{false≢true, cases_Bool, cases_eq, cases_lt, cases_order}
use Rattle.std.proofs.lemmas.List.{append-nil, get_or_append_left, get_or_push, get_or-set_other, get_or-set_same, get_or-map, get_or_default, length_push, length-set, map-append, map-set, set-get_or, map-id}
use Rattle.std.proofs.lemmas.List.Sums.{count_by_more_yes, count_by_more_no}
use Rattle.std.proofs.lemmas.List.FromFn.{filter_of_map_range_with_len_more}
use Rattle.doc_cond.specs.declared.LineKind.{LineKind}
use Rattle.doc_cond.specs.declared.LineKind.TheVariants.{Plain, Begin, Close}
use Rattle.doc_cond.specs.Nesting.{ArePairs, IsCloserOf, IsFaulty, IsFirstLeftOpen, IsLeftOpen, IsLoose, IsSameDepth, IsTooDeep, NoneFaulty, Repeats, closers_before, closes_at, is_closer, is_opener, kind_at, openers_before, opens_at}
use Rattle.doc_cond.specs.Progress.{IsClosed, IsOpen, Nests, pair_at}

pub opener_no_closer : (kind : LineKind) → is_opener kind ≡ true → is_closer kind ≡ false
opener_no_closer (Begin negated any names) h = refl
opener_no_closer kind h = absurd (false≢true h)

pub closer_no_opener : (kind : LineKind) → is_closer kind ≡ true → is_opener kind ≡ false
closer_no_opener (Close any names) h = refl
closer_no_opener kind h = absurd (false≢true h)

-- no closer stands past the end
pub closes_within : (kinds : List LineKind) (line : ℕ) → closes_at kinds line ≡ true → line < length kinds
closes_within [] line h = absurd (false≢true h)
closes_within (kind ∷ kinds) zero h = omega arith
closes_within (kind ∷ kinds) (suc line) h = omega (arith, closes_within kinds line h)

pub openers_more : (kinds : List LineKind) (line : ℕ) → filter (opens_at kinds) (range_with_len 0 (line + 1)) ≡ filter (opens_at kinds) (range_with_len 0 line) ++ cond (opens_at kinds line) (line ∷ []) []
openers_more kinds line =
    ap (filter (opens_at kinds)) (sym (map-id (range_with_len 0 (line + 1)))) ∙ (filter_of_map_range_with_len_more (opens_at kinds) (λ n. n) 0 line line (omega arith) ∙ ap (λ ns. filter (opens_at kinds) ns ++ cond (opens_at kinds line) (line ∷ []) []) (map-id (range_with_len 0 line)))

module _ (kinds : List LineKind) (line : ℕ) (within : line < length kinds) (pairs : List (ℕ × ℕ)) (waiting : List ℕ) (nests : Nests kinds line pairs waiting) where
  openers_yes : opens_at kinds line ≡ true → count_by is_opener (take (line + 1) kinds) ≡ count_by is_opener (take line kinds) + 1
  openers_yes h = count_by_more_yes is_opener kinds line Plain within h

  openers_none : opens_at kinds line ≡ false → count_by is_opener (take (line + 1) kinds) ≡ count_by is_opener (take line kinds)
  openers_none h = count_by_more_no is_opener kinds line Plain within h

  closers_yes : closes_at kinds line ≡ true → count_by is_closer (take (line + 1) kinds) ≡ count_by is_closer (take line kinds) + 1
  closers_yes h = count_by_more_yes is_closer kinds line Plain within h

  closers_none : closes_at kinds line ≡ false → count_by is_closer (take (line + 1) kinds) ≡ count_by is_closer (take line kinds)
  closers_none h = count_by_more_no is_closer kinds line Plain within h

  -- what stays open past the line
  still_open : (level opener : ℕ) → IsOpen kinds line level opener → closers_before kinds (line + 1) + level < openers_before kinds (line + 1) → IsOpen kinds (line + 1) level opener
  still_open level opener o deeper = record {
    opens = o.opens;
    before = omega (arith, o.before);
    depth = o.depth;
    deeper = λ place behind upto. ⊎_elim
        (λ here. subst (λ (p : ℕ). closers_before kinds p + level < openers_before kinds p) (sym here) deeper)
        (λ not_here. o.deeper place behind (let apart : place ≢ line + 1 = not_here in omega arith))
        (cases_eq place (line + 1));
  }

  still_closed : (pair : ℕ × ℕ) → IsClosed kinds line pair → IsClosed kinds (line + 1) pair
  still_closed pair c = record { closer = c.closer; repeated = c.repeated; before = omega (arith, c.before) }

  -- the lines before the next, and it
  faultless_more : ¬ IsFaulty kinds line → NoneFaulty kinds (line + 1)
  faultless_more fine place below = ⊎_elim
      (λ here f. fine (subst (IsFaulty kinds) here f))
      (λ not_here. nests.faultless place (let apart : place ≢ line = not_here in omega arith))
      (cases_eq place line)

  not_loose : closes_at kinds line ≡ false → ¬ IsLoose kinds line
  not_loose h f = false≢true (sym h ∙ f.closes)

  not_deep : opens_at kinds line ≡ false → ¬ IsTooDeep kinds line
  not_deep h f = false≢true (sym h ∙ f.opens)

  each_more : (more : List (ℕ × ℕ)) → opens_at kinds line ≡ false → length more ≡ length pairs → ((slot : ℕ) → slot < length pairs → (pair_at more slot).0 ≡ (pair_at pairs slot).0) → (opener : ℕ) → opener < line + 1 → opens_at kinds opener ≡ true → (slot : ℕ) × (slot < length more) × ((pair_at more slot).0 ≡ opener)
  each_more more no_opener same_length same opener below opens = ⊎_elim
      (λ here. absurd (false≢true (sym no_opener ∙ (ap (opens_at kinds) (sym here) ∙ opens))))
      (λ not_here.
      let apart : opener ≢ line = not_here in
      let found = nests.each opener (omega arith) opens in
      (found.0, omega (arith, found.1, same_length), same found.0 found.1 ∙ found.2))
      (cases_eq opener line)

  used_more : (more : List (ℕ × ℕ)) → closes_at kinds line ≡ false → length pairs ≤ length more → ((slot : ℕ) → slot < length pairs → pair_at more slot ≡ pair_at pairs slot) → (closer : ℕ) → closer < line + 1 → closes_at kinds closer ≡ true → (slot : ℕ) × (slot < length more) × IsClosed kinds (line + 1) (pair_at more slot) × ((pair_at more slot).1 ≡ closer)
  used_more more no_closer longer same closer below closes = ⊎_elim
      (λ here. absurd (false≢true (sym no_closer ∙ (ap (closes_at kinds) (sym here) ∙ closes))))
      (λ not_here.
      let apart : closer ≢ line = not_here in
      let found = nests.used closer (omega arith) closes in
      let kept = same found.0 found.1 in
      (found.0, omega (arith, found.1, longer), subst (IsClosed kinds (line + 1)) (sym kept) (still_closed (pair_at pairs found.0) found.2), ap (λ pair. pair.1) kept ∙ found.3))
      (cases_eq closer line)

  -- a line that neither opens nor closes
  pub Nests-other : opens_at kinds line ≡ false → closes_at kinds line ≡ false → Nests kinds (line + 1) pairs waiting
  Nests-other no_opener no_closer = record {
    count = omega (arith, nests.count, openers_none no_opener, closers_none no_closer);
    openers = nests.openers ∙ sym (openers_more kinds line ∙ (ap (λ b. filter (opens_at kinds) (range_with_len 0 line) ++ cond b (line ∷ []) []) no_opener ∙ append-nil (filter (opens_at kinds) (range_with_len 0 line))));
    slots = nests.slots;
    levels = λ level below. still_open level _ (nests.levels level below) (omega (arith, nests.count, openers_none no_opener, closers_none no_closer));
    settled = λ slot below. ⊎_elim inl (λ c. inr (still_closed (pair_at pairs slot) c)) (nests.settled slot below);
    each = each_more pairs no_opener refl (λ slot below. refl);
    used = used_more pairs no_closer (omega arith) (λ slot below. refl);
    faultless = faultless_more (⊎_elim (not_loose no_closer) (not_deep no_opener));
  }

  -- a line that opens
  pub Nests-open : opens_at kinds line ≡ true → length waiting < 64 → Nests kinds (line + 1) (pairs ++ (line, 0) ∷ []) (waiting ++ length pairs ∷ [])
  Nests-open opens room = record {
    count = omega (arith, nests.count, openers_yes opens, closers_none no_closer, pushed);
    openers = map-append (λ pair. pair.0) pairs ((line, 0) ∷ []) ∙ (ap (λ front. front ++ line ∷ []) nests.openers ∙ sym (openers_more kinds line ∙ ap (λ b. filter (opens_at kinds) (range_with_len 0 line) ++ cond b (line ∷ []) []) opens));
    slots = λ level below. ⊎_elim
        (λ last. omega (arith, pushed_pairs, ap (λ n. get_or (waiting ++ length pairs ∷ []) n 0) last ∙ new_slot))
        (λ not_last. let earlier = old_level level below not_last in omega (arith, pushed_pairs, old_slot level earlier, nests.slots level earlier))
        (cases_eq level (length waiting));
    levels = λ level below. ⊎_elim
        (λ last. subst (λ (n : ℕ). IsOpen kinds (line + 1) n (pair_at (pairs ++ (line, 0) ∷ []) (get_or (waiting ++ length pairs ∷ []) n 0)).0) (sym last)
        (subst (λ (o : ℕ). IsOpen kinds (line + 1) (length waiting) o) (sym (ap (λ slot. (pair_at (pairs ++ (line, 0) ∷ []) slot).0) new_slot ∙ ap (λ pair. pair.0) new_pair)) innermost))
        (λ not_last.
        let earlier = old_level level below not_last in
        let old = still_open level _ (nests.levels level earlier) (omega (arith, new_depth, earlier)) in
        subst (λ (o : ℕ). IsOpen kinds (line + 1) level o) (sym (ap (λ slot. (pair_at (pairs ++ (line, 0) ∷ []) slot).0) (old_slot level earlier) ∙ ap (λ pair. pair.0) (old_pair (get_or waiting level 0) (nests.slots level earlier)))) old)
        (cases_eq level (length waiting));
    settled = λ slot below. ⊎_elim
        (λ last. inl (length waiting, omega (arith, pushed), new_slot ∙ sym last))
        (λ not_last.
        let apart : slot ≢ length pairs = not_last in
        let earlier : slot < length pairs = omega (arith, below, pushed_pairs) in
        ⊎_elim
        (λ w. inl (w.0, omega (arith, w.1, pushed), old_slot w.0 w.1 ∙ w.2))
        (λ c. inr (subst (IsClosed kinds (line + 1)) (sym (old_pair slot earlier)) (still_closed (pair_at pairs slot) c)))
        (nests.settled slot earlier))
        (cases_eq slot (length pairs));
    each = λ opener below opens_there. ⊎_elim
        (λ here. (length pairs, omega (arith, pushed_pairs), ap (λ pair. pair.0) new_pair ∙ sym here))
        (λ not_here.
        let apart : opener ≢ line = not_here in
        let found = nests.each opener (omega arith) opens_there in
        (found.0, omega (arith, found.1, pushed_pairs), ap (λ pair. pair.0) (old_pair found.0 found.1) ∙ found.2))
        (cases_eq opener line);
    used = used_more (pairs ++ (line, 0) ∷ []) no_closer (omega (arith, pushed_pairs)) old_pair;
    faultless = faultless_more (⊎_elim (not_loose no_closer) (λ deep. omega (arith, deep.deep, room, nests.count)));
  }
    where
      no_closer : closes_at kinds line ≡ false
      no_closer = opener_no_closer (kind_at kinds line) opens

      pushed : length (waiting ++ length pairs ∷ []) ≡ length waiting + 1
      pushed = length_push waiting (length pairs)

      pushed_pairs : length (pairs ++ (line, 0) ∷ []) ≡ length pairs + 1
      pushed_pairs = length_push pairs (line, 0)

      new_depth : openers_before kinds (line + 1) ≡ closers_before kinds (line + 1) + (length waiting + 1)
      new_depth = omega (arith, nests.count, openers_yes opens, closers_none no_closer)

      old_pair : (slot : ℕ) → slot < length pairs → pair_at (pairs ++ (line, 0) ∷ []) slot ≡ pair_at pairs slot
      old_pair slot below = get_or_append_left pairs ((line, 0) ∷ []) (0, 0) slot below

      new_pair : pair_at (pairs ++ (line, 0) ∷ []) (length pairs) ≡ (line, 0)
      new_pair = get_or_push pairs (line, 0) (0, 0) (length pairs) refl

      old_slot : (level : ℕ) → level < length waiting → get_or (waiting ++ length pairs ∷ []) level 0 ≡ get_or waiting level 0
      old_slot level below = get_or_append_left waiting (length pairs ∷ []) 0 level below

      new_slot : get_or (waiting ++ length pairs ∷ []) (length waiting) 0 ≡ length pairs
      new_slot = get_or_push waiting (length pairs) 0 (length waiting) refl

      old_level : (level : ℕ) → level < length (waiting ++ length pairs ∷ []) → ¬ (level ≡ length waiting) → level < length waiting
      old_level level below not_last = let apart : level ≢ length waiting = not_last in omega (arith, pushed)

      innermost : IsOpen kinds (line + 1) (length waiting) line
      innermost = record {
        opens = opens;
        before = omega arith;
        depth = nests.count;
        deeper = λ place behind upto. let here : place ≡ line + 1 = omega arith in subst (λ (p : ℕ). closers_before kinds p + length waiting < openers_before kinds p) (sym here) (omega (arith, new_depth));
      }

  -- an opener that is closed before the line isn't closed by it
  closed_before : (opener : ℕ) (pair : ℕ × ℕ) → IsClosed kinds line pair → pair.0 ≡ opener → ¬ IsCloserOf kinds opener line
  closed_before opener pair closed same is =
      is.first pair.1 (omega (arith, closed.closer.later, same)) closed.before closed.closer.closes (subst (IsSameDepth kinds (pair.1 + 1)) same closed.closer.back)

  -- where nothing waits, a closer closes nothing
  pub closes_nothing : waiting ≡ [] → closes_at kinds line ≡ true → IsLoose kinds line
  closes_nothing empty closes = record {
    closes = closes;
    unmatched = λ opener is r.
        let found = nests.each opener is.later is.opens in
        ⊎_elim
        (λ w. omega (arith, w.1, ap length empty))
        (λ closed. closed_before opener (pair_at pairs found.0) closed found.2 is)
        (nests.settled found.0 found.1);
  }

  -- a line that closes the opener of the last slot
  module _ (rest : List ℕ) (slot : ℕ) (top : waiting ≡ rest ++ slot ∷ []) (closes : closes_at kinds line ≡ true) where
    count_top : length waiting ≡ length rest + 1
    count_top = ap length top ∙ length_push rest slot

    at_top : get_or waiting (length rest) 0 ≡ slot
    at_top = ap (λ slots. get_or slots (length rest) 0) top ∙ get_or_push rest slot 0 (length rest) refl

    below_top : (level : ℕ) → level < length rest → get_or waiting level 0 ≡ get_or rest level 0
    below_top level below = ap (λ slots. get_or slots level 0) top ∙ get_or_append_left rest (slot ∷ []) 0 level below

    no_opener : opens_at kinds line ≡ false
    no_opener = closer_no_opener (kind_at kinds line) closes

    pub slot_within : slot < length pairs
    slot_within = omega (arith, at_top, nests.slots (length rest) (omega (arith, count_top)))

    next_depth : openers_before kinds (line + 1) ≡ closers_before kinds (line + 1) + length rest
    next_depth = omega (arith, nests.count, count_top, openers_none no_opener, closers_yes closes)

    top_open : IsOpen kinds line (length rest) (pair_at pairs slot).0
    top_open = subst (λ (s : ℕ). IsOpen kinds line (length rest) (pair_at pairs s).0) at_top (nests.levels (length rest) (omega (arith, count_top)))

    pub opener_before : (pair_at pairs slot).0 < line
    opener_before = top_open.before

    closes_top : IsCloserOf kinds (pair_at pairs slot).0 line
    closes_top = record {
      opens = top_open.opens;
      closes = closes;
      later = top_open.before;
      back = omega (arith, next_depth, top_open.depth);
      first = λ place behind before closes_there same. let deeper = top_open.deeper (place + 1) (omega arith) (omega arith) in omega (arith, deeper, same, top_open.depth);
    }

    -- no other opener is closed by the line
    only_top : (other : ℕ) → IsCloserOf kinds other line → other ≡ (pair_at pairs slot).0
    only_top other is =
        let found = nests.each other is.later is.opens in
        ⊎_elim
        (λ w.
        let level_open = nests.levels w.0 w.1 in
        let here : (pair_at pairs (get_or waiting w.0 0)).0 ≡ other = ap (λ s. (pair_at pairs s).0) w.2 ∙ found.2 in
        let depth = subst (λ (o : ℕ). openers_before kinds o ≡ closers_before kinds o + w.0) here level_open.depth in
        let level_is : w.0 ≡ length rest = omega (arith, depth, is.back, next_depth) in
        sym found.2 ∙ ap (λ s. (pair_at pairs s).0) (sym w.2 ∙ (ap (λ n. get_or waiting n 0) level_is ∙ at_top)))
        (λ closed. absurd (closed_before other (pair_at pairs found.0) closed found.2 is))
        (nests.settled found.0 found.1)

    pub closes_others : ¬ Repeats (kind_at kinds (pair_at pairs slot).0) (kind_at kinds line) → IsLoose kinds line
    closes_others differs = record {
      closes = closes;
      unmatched = λ other is r. differs (subst (λ (o : ℕ). Repeats (kind_at kinds o) (kind_at kinds line)) (only_top other is) r);
    }

    closed_length : length (set pairs slot ((pair_at pairs slot).0, line)) ≡ length pairs
    closed_length = length-set pairs slot ((pair_at pairs slot).0, line)

    closed_here : pair_at (set pairs slot ((pair_at pairs slot).0, line)) slot ≡ ((pair_at pairs slot).0, line)
    closed_here = get_or-set_same pairs slot ((pair_at pairs slot).0, line) (0, 0) slot_within

    closed_elsewhere : (other : ℕ) → ¬ (other ≡ slot) → pair_at (set pairs slot ((pair_at pairs slot).0, line)) other ≡ pair_at pairs other
    closed_elsewhere other differs = get_or-set_other pairs slot other ((pair_at pairs slot).0, line) (0, 0) differs

    same_opener : (other : ℕ) → (pair_at (set pairs slot ((pair_at pairs slot).0, line)) other).0 ≡ (pair_at pairs other).0
    same_opener other = ⊎_elim
        (λ here. ap (λ s. (pair_at (set pairs slot ((pair_at pairs slot).0, line)) s).0) here ∙ (ap (λ pair. pair.0) closed_here ∙ ap (λ s. (pair_at pairs s).0) (sym here)))
        (λ elsewhere. ap (λ pair. pair.0) (closed_elsewhere other elsewhere))
        (cases_eq other slot)

    same_openers : map (λ pair. pair.0) (set pairs slot ((pair_at pairs slot).0, line)) ≡ map (λ pair. pair.0) pairs
    same_openers =
        let first : ℕ × ℕ → ℕ = λ pair. pair.0 in
        map-set first pairs slot ((pair_at pairs slot).0, line) ∙ (ap (set (map first pairs) slot) (sym (get_or-map first pairs slot (0, 0) 0 slot_within)) ∙ set-get_or (map first pairs) slot 0)

    -- what is closed before the line isn't what the line closes
    closed_apart : (other : ℕ) → IsClosed kinds line (pair_at pairs other) → ¬ (other ≡ slot)
    closed_apart other closed here =
        let closed_top : IsClosed kinds line (pair_at pairs slot) = subst (λ (s : ℕ). IsClosed kinds line (pair_at pairs s)) here closed in
        let later = closed_top.closer.later in
        let before = closed_top.before in
        let deeper = top_open.deeper ((pair_at pairs slot).1 + 1) (omega (arith, later)) (omega (arith, before)) in
        omega (arith, deeper, closed_top.closer.back, top_open.depth)

    pub Nests-close : Repeats (kind_at kinds (pair_at pairs slot).0) (kind_at kinds line) → Nests kinds (line + 1) (set pairs slot ((pair_at pairs slot).0, line)) rest
    Nests-close repeats = record {
      count = omega (arith, nests.count, count_top, openers_none no_opener, closers_yes closes);
      openers = same_openers ∙ (nests.openers ∙ sym (openers_more kinds line ∙ (ap (λ b. filter (opens_at kinds) (range_with_len 0 line) ++ cond b (line ∷ []) []) no_opener ∙ append-nil (filter (opens_at kinds) (range_with_len 0 line)))));
      slots = λ level below. omega (arith, closed_length, below_top level below, nests.slots level (omega (arith, below, count_top)));
      levels = λ level below.
          let old = still_open level _ (nests.levels level (omega (arith, below, count_top))) (omega (arith, next_depth, below)) in
          subst (λ (o : ℕ). IsOpen kinds (line + 1) level o) (ap (λ s. (pair_at pairs s).0) (below_top level below) ∙ sym (same_opener (get_or rest level 0))) old;
      settled = λ other below. ⊎_elim
          (λ here. inr (subst (IsClosed kinds (line + 1)) (sym (ap (pair_at (set pairs slot ((pair_at pairs slot).0, line))) here ∙ closed_here)) (record { closer = closes_top; repeated = repeats; before = omega arith })))
          (λ elsewhere. ⊎_elim
          (λ w.
          let below_rest : w.0 < length rest = ⊎_elim
          (λ last. absurd (elsewhere (sym w.2 ∙ (ap (λ n. get_or waiting n 0) last ∙ at_top))))
          (λ not_last. let apart : w.0 ≢ length rest = not_last in omega (arith, w.1, count_top))
          (cases_eq w.0 (length rest)) in
          inl (w.0, below_rest, sym (below_top w.0 below_rest) ∙ w.2))
          (λ c. inr (subst (IsClosed kinds (line + 1)) (sym (closed_elsewhere other elsewhere)) (still_closed (pair_at pairs other) c)))
          (nests.settled other (omega (arith, below, closed_length))))
          (cases_eq other slot);
      each = each_more (set pairs slot ((pair_at pairs slot).0, line)) no_opener closed_length (λ other below. same_opener other);
      used = λ closer below closes_there. ⊎_elim
          (λ here. (slot, omega (arith, slot_within, closed_length), subst (IsClosed kinds (line + 1)) (sym closed_here) (record { closer = closes_top; repeated = repeats; before = omega arith }), ap (λ pair. pair.1) closed_here ∙ sym here))
          (λ not_here.
          let earlier : closer ≢ line = not_here in
          let found = nests.used closer (omega arith) closes_there in
          let kept = closed_elsewhere found.0 (closed_apart found.0 found.2) in
          (found.0, omega (arith, found.1, closed_length), subst (IsClosed kinds (line + 1)) (sym kept) (still_closed (pair_at pairs found.0) found.2), ap (λ pair. pair.1) kept ∙ found.3))
          (cases_eq closer line);
      faultless = faultless_more (⊎_elim (λ loose. loose.unmatched (pair_at pairs slot).0 closes_top repeats) (not_deep no_opener));
    }

-- pairs don't cross
module _ (kinds : List LineKind) where
  -- the depth at the place is above that at the opener
  abbrev IsDeeper : ℕ → ℕ → Type 0
  IsDeeper begins place = openers_before kinds begins + closers_before kinds place < openers_before kinds place + closers_before kinds begins

  -- one place on, the depth within a pair stays above that of its opener
  deeper_next : (begins end place : ℕ) → IsCloserOf kinds begins end → begins < place → place < end → IsDeeper begins place → IsDeeper begins (place + 1)
  deeper_next begins end place is behind before deeper =
      let within : place < length kinds = omega (arith, closes_within kinds end is.closes) in
      ⊎_elim
      (λ closes.
      let closers = count_by_more_yes is_closer kinds place Plain within closes in
      let openers = count_by_more_no is_opener kinds place Plain within (closer_no_opener (kind_at kinds place) closes) in
      let apart : openers_before kinds (place + 1) + closers_before kinds begins ≢ openers_before kinds begins + closers_before kinds (place + 1) = is.first place behind before closes in
      omega arith)
      (λ no_closer.
      let closers = count_by_more_no is_closer kinds place Plain within no_closer in
      ⊎_elim
      (λ opens. let openers = count_by_more_yes is_opener kinds place Plain within opens in omega arith)
      (λ no_opener. let openers = count_by_more_no is_opener kinds place Plain within no_opener in omega arith)
      (cases_Bool (opens_at kinds place)))
      (cases_Bool (closes_at kinds place))

  deeper_first : (begins end : ℕ) → IsCloserOf kinds begins end → IsDeeper begins (begins + 1)
  deeper_first begins end is =
      let within : begins < length kinds = omega (arith, is.later, closes_within kinds end is.closes) in
      let openers = count_by_more_yes is_opener kinds begins Plain within is.opens in
      let closers = count_by_more_no is_closer kinds begins Plain within (opener_no_closer (kind_at kinds begins) is.opens) in
      omega arith

  deeper_within : (begins end : ℕ) → IsCloserOf kinds begins end → (more : ℕ) → begins + 1 + more ≤ end → IsDeeper begins (begins + 1 + more)
  deeper_within begins end is zero upto = subst (IsDeeper begins) (sym (add-zero (begins + 1))) (deeper_first begins end is)
  deeper_within begins end is (suc more) upto =
      let before : begins + 1 + more < end = omega arith in
      let next = deeper_next begins end (begins + 1 + more) is (omega arith) before (deeper_within begins end is more (omega arith)) in
      let place : (begins + 1 + more) + 1 ≡ begins + 1 + suc more = omega arith in
      subst (IsDeeper begins) place next

  deeper : (begins end place : ℕ) → IsCloserOf kinds begins end → begins < place → place ≤ end → IsDeeper begins place
  deeper begins end place is behind upto =
      let same : begins + 1 + (place - (begins + 1)) ≡ place = omega arith in
      subst (IsDeeper begins) same (deeper_within begins end is (place - (begins + 1)) (omega arith))

  pub apart_or_within : (first end second last : ℕ) → IsCloserOf kinds first end → IsCloserOf kinds second last → first < second → (end < second) ⊎ (last < end)
  apart_or_within first end second last outer inner order = ⊎_elim
      (λ behind. inl behind)
      (λ reaches. ⊎_elim
      (λ ends. inr ends)
      (λ later.
      let below = deeper first end second outer order reaches in
      absurd (⊎_elim
      (λ same. omega (arith, below, outer.back, subst (λ (n : ℕ). IsSameDepth kinds (n + 1) second) same inner.back))
      (λ apart.
      let differs : last ≢ end = apart in
      ⊎_elim
      (λ at_end. false≢true (sym (closer_no_opener (kind_at kinds end) outer.closes) ∙ (ap (opens_at kinds) (sym at_end) ∙ inner.opens)))
      (λ elsewhere.
      let other : second ≢ end = elsewhere in
      let above = deeper second last (end + 1) inner (omega arith) (omega arith) in
      omega (arith, below, above, outer.back))
      (cases_eq second end))
      (cases_eq last end)))
      (cases_lt last end))
      (cases_lt end second)

-- what is left at the end
module _ (kinds : List LineKind) (pairs : List (ℕ × ℕ)) (waiting : List ℕ) (nests : Nests kinds (length kinds) pairs waiting) where
  all_closed : waiting ≡ [] → (slot : ℕ) → slot < length pairs → IsClosed kinds (length kinds) (pair_at pairs slot)
  all_closed empty slot below = ⊎_elim (λ w. absurd (omega (arith, w.1, ap length empty))) (λ c. c) (nests.settled slot below)

  not_too_deep : (opener : ℕ) (pair : ℕ × ℕ) → IsClosed kinds (length kinds) pair → pair.0 ≡ opener → openers_before kinds opener < closers_before kinds opener + 64
  not_too_deep opener pair closed same = ⊎_elim
      (λ below. below)
      (λ deep. absurd (nests.faultless opener (omega (arith, same, closed.closer.later, closed.before)) (inr (record { opens = ap (opens_at kinds) (sym same) ∙ closed.closer.opens; deep = deep }))))
      (cases_lt (openers_before kinds opener) (closers_before kinds opener + 64))

  pub all_pairs : waiting ≡ [] → ArePairs kinds pairs
  all_pairs empty = record {
    openers = nests.openers;
    closers = λ slot d below. subst (λ (pair : ℕ × ℕ). IsCloserOf kinds pair.0 pair.1) (get_or_default pairs slot (0, 0) d below) (all_closed empty slot below).closer;
    repeated = λ slot d below. subst (λ (pair : ℕ × ℕ). Repeats (kind_at kinds pair.0) (kind_at kinds pair.1)) (get_or_default pairs slot (0, 0) d below) (all_closed empty slot below).repeated;
    within = λ slot d below. subst (λ (pair : ℕ × ℕ). (pair.0 < pair.1) × (pair.1 < length kinds)) (get_or_default pairs slot (0, 0) d below) ((all_closed empty slot below).closer.later, (all_closed empty slot below).before);
    used = λ line closes. let found = nests.used line (closes_within kinds line closes) closes in (found.0, found.1, found.3);
    shallow = λ slot d below. subst (λ (pair : ℕ × ℕ). openers_before kinds pair.0 < closers_before kinds pair.0 + 64) (get_or_default pairs slot (0, 0) d below) (not_too_deep (pair_at pairs slot).0 (pair_at pairs slot) (all_closed empty slot below) refl);
    nested = λ slot d below. λ other e within order.
        let outer = subst (λ (pair : ℕ × ℕ). IsCloserOf kinds pair.0 pair.1) (get_or_default pairs slot (0, 0) d below) (all_closed empty slot below).closer in
        let inner = subst (λ (pair : ℕ × ℕ). IsCloserOf kinds pair.0 pair.1) (get_or_default pairs other (0, 0) e within) (all_closed empty other within).closer in
        apart_or_within kinds (get_or pairs slot d).0 (get_or pairs slot d).1 (get_or pairs other e).0 (get_or pairs other e).1 outer inner order;
    faultless = nests.faultless;
  }

  outermost : 0 < length waiting → IsOpen kinds (length kinds) 0 (pair_at pairs (get_or waiting 0 0)).0
  outermost some = nests.levels 0 some

  left_open : (opener : ℕ) → IsOpen kinds (length kinds) 0 opener → IsLeftOpen kinds opener
  left_open opener o = record {
    opens = o.opens;
    unclosed = λ closer is.
        let behind = is.later in
        let deeper = o.deeper (closer + 1) (omega (arith, behind)) (omega (arith, closes_within kinds closer is.closes)) in
        omega (arith, deeper, is.back, o.depth);
  }

  pub first_left : 0 < length waiting → IsFirstLeftOpen kinds (pair_at pairs (get_or waiting 0 0)).0
  first_left some = record {
    faultless = nests.faultless;
    left = left_open (pair_at pairs (get_or waiting 0 0)).0 (outermost some);
    first = λ before earlier left.
        let first = outermost some in
        let found = nests.each before (omega (arith, earlier, first.before)) left.opens in
        ⊎_elim
        (λ w.
        let level = nests.levels w.0 w.1 in
        let same : (pair_at pairs (get_or waiting w.0 0)).0 ≡ before = ap (λ s. (pair_at pairs s).0) w.2 ∙ found.2 in
        let deeper = level.deeper (pair_at pairs (get_or waiting 0 0)).0 (omega (arith, earlier, same)) (omega (arith, first.before)) in
        omega (arith, deeper, first.depth))
        (λ c. left.unclosed (pair_at pairs found.0).1 (subst (λ (o : ℕ). IsCloserOf kinds o (pair_at pairs found.0).1) found.2 c.closer))
        (nests.settled found.0 found.1);
  }

-- an opener has one closer
pub one_closer : (kinds : List LineKind) (opener closer other : ℕ) → IsCloserOf kinds opener closer → IsCloserOf kinds opener other → closer ≡ other
one_closer kinds begins closer other is too = ⊎_elim
    (λ same. same)
    (λ apart. ⊎_elim
    (λ before. absurd (too.first closer is.later before is.closes is.back))
    (λ behind. absurd (is.first other too.later behind too.closes too.back))
    apart)
    (cases_order closer other)
