-- How often a clause stands in the lists of literals where it is watched at two of them.
use Rattle.std.proofs.Common.{◌≡◌, ◌≢◌, ℕ, ◌+◌, ◌<◌, ◌==◌, if◌then◌else◌, cond, Bool, true, false, List, [], ◌∷◌, ◌++◌, length, take, drop, slice_index_or, slice_set, get_or, Some, Result, Ok, Err, OnErr, All, refl, sym, ap, subst, ◌∙◌, ⊎_elim, arith}
use Rattle.std.specs.List.{count_by}
use Rattle.std.proofs.lemmas.Bool.{eq-eqb, ne_eqb, cases_eq}
use Rattle.std.proofs.lemmas.List.{get_or_append_left, get_or_push, get_or-set_same, get_or-set_other, append_assoc, length-append, length-set, take-append-drop, drop_more}
use Rattle.std.proofs.lemmas.List.Elements.{All-from_get_or, All-head, All-tail}
use Rattle.std.proofs.lemmas.List.Sums.{sum_by-cons}
use Rattle.sat_cnf.specs.declared.lit.Lit.{Lit}
use Rattle.sat_watch.specs.Watching.{Watched, list_at, StandsAt, StandsOnce}
use Rattle.sat_core.specs.declared.pair.Pair.{Pair}
use Rattle.sat_core.specs.Watching.{times_in, watches_at}
use Rattle.sat_core.proofs.LiteralLemmas.{same-lit}

pub OnErr-of : {T E P : Type 0} (r : Result T E) → P → OnErr r P
OnErr-of (Ok x) p = tt
OnErr-of (Err e) p = p

-- how often a clause is that of a watcher in a list
abbrev counted : List ℕ → ℕ → List ℕ → ℕ
counted clauses number list = count_by (λ watcher. slice_index_or clauses watcher 0 == number) list

abbrev one_if : Bool → ℕ
one_if b = if b then 1 else 0

counted-cons : (clauses : List ℕ) (number watcher : ℕ) (list : List ℕ)
    → counted clauses number (watcher ∷ list) ≡ one_if (slice_index_or clauses watcher 0 == number) + counted clauses number list
counted-cons clauses number watcher list = sum_by-cons (λ w. cond (slice_index_or clauses w 0 == number) 1 0) watcher list

-- watchers that were there count for what they did
counted-known : (clauses more : List ℕ) (number : ℕ) (list : List ℕ) → All (λ w. w < length clauses) list
    → counted (clauses ++ more) number list ≡ counted clauses number list
counted-known clauses more number [] all = refl
counted-known clauses more number (w ∷ list) all =
    let here : w < length clauses = All-head (λ w. w < length clauses) w list all in
    counted-cons (clauses ++ more) number w list
    ∙ rw (get_or_append_left clauses more 0 w here) (ap (λ n. one_if (slice_index_or clauses w 0 == number) + n)
    (counted-known clauses more number list (All-tail (λ w. w < length clauses) w list all)))
    ∙ sym (counted-cons clauses number w list)

pub all-known : (w : Watched) (n : ℕ) → StandsOnce w → All (λ watcher. watcher < length w.clauses) (list_at w.lists n)
all-known w n once =
    All-from_get_or (λ watcher. watcher < length w.clauses) (list_at w.lists n) 0
    (λ i within. once.known n (get_or (list_at w.lists n) i 0) (take i (list_at w.lists n)) (drop (i + 1) (list_at w.lists n))
    (sym (take-append-drop i (list_at w.lists n)) ∙ ap (λ r. take i (list_at w.lists n) ++ r) (drop_more (list_at w.lists n) i 0 within)))

-- a new watcher in the spare list
module _ (w v : Watched) (spare number watcher : ℕ) (within : spare < length w.lists)
    (is : v ≡ record { lists = slice_set w.lists spare (watcher ∷ list_at w.lists spare); clauses = w.clauses ++ number ∷ [] }) where
  attached-lists : v.lists ≡ slice_set w.lists spare (watcher ∷ list_at w.lists spare)
  attached-lists = ap (λ (x : Watched). x.lists) is

  pub attached-clauses : v.clauses ≡ w.clauses ++ number ∷ []
  attached-clauses = ap (λ (x : Watched). x.clauses) is

  pub attached-length : length v.lists ≡ length w.lists
  attached-length = rw attached-lists (length-set w.lists spare (watcher ∷ list_at w.lists spare))

  pub attached-here : list_at v.lists spare ≡ watcher ∷ list_at w.lists spare
  attached-here = rw attached-lists (get_or-set_same w.lists spare (watcher ∷ list_at w.lists spare) [] within)

  pub attached-other : (n : ℕ) → n ≢ spare → list_at v.lists n ≡ list_at w.lists n
  attached-other n ne = rw attached-lists (get_or-set_other w.lists spare n (watcher ∷ list_at w.lists spare) [] ne)

-- the first watcher of the spare list moves to another
module _ (w v : Watched) (spare watcher to : ℕ) (rest : List ℕ) (here : list_at w.lists spare ≡ watcher ∷ rest) (below : spare < length w.lists)
    (within : to < spare)
    (is : (passed behind : List ℕ) → StandsAt w.lists spare passed watcher behind
    → v ≡ record w { lists = slice_set (slice_set w.lists spare (passed ++ behind)) to (watcher ∷ list_at w.lists to) }) where
  moved-lists : v.lists ≡ slice_set (slice_set w.lists spare rest) to (watcher ∷ list_at w.lists to)
  moved-lists = ap (λ (x : Watched). x.lists) (is [] rest here)

  pub moved-clauses : v.clauses ≡ w.clauses
  moved-clauses = ap (λ (x : Watched). x.clauses) (is [] rest here)

  pub moved-length : length v.lists ≡ length w.lists
  moved-length =
      rw moved-lists (length-set (slice_set w.lists spare rest) to (watcher ∷ list_at w.lists to) ∙ length-set w.lists spare rest)

  pub moved-spare : list_at v.lists spare ≡ rest
  moved-spare =
      let ne : spare ≢ to = omega arith in
      rw moved-lists (get_or-set_other (slice_set w.lists spare rest) to spare (watcher ∷ list_at w.lists to) [] ne ∙ get_or-set_same w.lists spare rest [] below)

  pub moved-here : list_at v.lists to ≡ watcher ∷ list_at w.lists to
  moved-here =
      rw moved-lists (get_or-set_same (slice_set w.lists spare rest) to (watcher ∷ list_at w.lists to) [] (omega (arith, length-set w.lists spare rest)))

  pub moved-other : (n : ℕ) → n ≢ spare → n ≢ to → list_at v.lists n ≡ list_at w.lists n
  moved-other n ne differ =
      rw moved-lists (get_or-set_other (slice_set w.lists spare rest) to n (watcher ∷ list_at w.lists to) [] differ ∙ get_or-set_other w.lists spare n rest [] ne)

-- a list with a watcher of the clause more, or without
counted-more : (clauses : List ℕ) (number other watcher : ℕ) (list : List ℕ) → slice_index_or clauses watcher 0 ≡ number
    → counted clauses other (watcher ∷ list) ≡ counted clauses other list + one_if (other == number)
counted-more clauses number other watcher list is =
    ⊎_elim (λ same. omega (arith, counted-cons clauses other watcher list, ap one_if (eq-eqb (slice_index_or clauses watcher 0) other (is ∙ sym same)), ap one_if (eq-eqb other number same)))
    (λ ne. omega (arith, counted-cons clauses other watcher list, ap one_if (ne_eqb (slice_index_or clauses watcher 0) other (λ e. ne (sym e ∙ is))), ap one_if (ne_eqb other number ne)))
    (cases_eq other number)

abbrev one_more : Bool → ℕ → ℕ
one_more b n = if b then n else 0

more-none : (b : Bool) → one_more b 0 ≡ 0
more-none true = refl
more-none false = refl

-- where the lists of two literals have a watcher more each, of the clause
module _ (w v : Watched) (number first second : ℕ) (pair : Pair) (clauses : List ℕ)
    (known : v.clauses ≡ w.clauses ++ clauses)
    (first_is : slice_index_or v.clauses first 0 ≡ number) (second_is : slice_index_or v.clauses second 0 ≡ number)
    (differ : pair.first.0 ≢ pair.second.0)
    (once : StandsOnce w)
    (at_first : list_at v.lists pair.first.0 ≡ first ∷ list_at w.lists pair.first.0)
    (at_second : list_at v.lists pair.second.0 ≡ second ∷ list_at w.lists pair.second.0) where
  before : (lit : Lit) (other : ℕ) → counted v.clauses other (list_at w.lists lit.0) ≡ watches_at w lit other
  before lit other = rw known (counted-known w.clauses clauses other (list_at w.lists lit.0) (all-known w lit.0 once))

  in_first : (lit : Lit) (other : ℕ) → pair.first.0 ≡ lit.0 → watches_at v lit other ≡ watches_at w lit other + one_more (other == number) (times_in (Some pair) lit)
  in_first lit other here =
      let list : list_at v.lists lit.0 ≡ first ∷ list_at w.lists lit.0 = subst (λ n. list_at v.lists n ≡ first ∷ list_at w.lists n) here at_first in
      let times : times_in (Some pair) lit ≡ 1 = rw (eq-eqb pair.first.0 lit.0 here, ne_eqb pair.second.0 lit.0 (λ e. differ (here ∙ sym e))) refl in
      rw (list, times) (counted-more v.clauses number other first (list_at w.lists lit.0) first_is ∙ ap (λ n. n + one_if (other == number)) (before lit other))

  in_second : (lit : Lit) (other : ℕ) → pair.second.0 ≡ lit.0 → watches_at v lit other ≡ watches_at w lit other + one_more (other == number) (times_in (Some pair) lit)
  in_second lit other here =
      let list : list_at v.lists lit.0 ≡ second ∷ list_at w.lists lit.0 = subst (λ n. list_at v.lists n ≡ second ∷ list_at w.lists n) here at_second in
      let times : times_in (Some pair) lit ≡ 1 = rw (eq-eqb pair.second.0 lit.0 here, ne_eqb pair.first.0 lit.0 (λ e. differ (e ∙ sym here))) refl in
      rw (list, times) (counted-more v.clauses number other second (list_at w.lists lit.0) second_is ∙ ap (λ n. n + one_if (other == number)) (before lit other))

  in_neither : (lit : Lit) (other : ℕ) → pair.first.0 ≢ lit.0 → pair.second.0 ≢ lit.0 → list_at v.lists lit.0 ≡ list_at w.lists lit.0
      → watches_at v lit other ≡ watches_at w lit other + one_more (other == number) (times_in (Some pair) lit)
  in_neither lit other not_first not_second list =
      let times : times_in (Some pair) lit ≡ 0 = rw (ne_eqb pair.first.0 lit.0 not_first, ne_eqb pair.second.0 lit.0 not_second) refl in
      rw (list, times) (before lit other ∙ omega (arith, more-none (other == number)))

  pub watched-more : (spare : ℕ) (others : (n : ℕ) → n ≢ spare → n ≢ pair.first.0 → n ≢ pair.second.0 → list_at v.lists n ≡ list_at w.lists n)
      (lit : Lit) (other : ℕ) → lit.0 < spare → watches_at v lit other ≡ watches_at w lit other + one_more (other == number) (times_in (Some pair) lit)
  watched-more spare others lit other within =
      ⊎_elim (λ here. in_first lit other here)
      (λ not_first.
      ⊎_elim (λ here. in_second lit other here)
      (λ not_second. in_neither lit other not_first not_second (others lit.0 (omega arith) (λ e. not_first (sym e)) (λ e. not_second (sym e))))
      (cases_eq pair.second.0 lit.0))
      (cases_eq pair.first.0 lit.0)

-- where one watcher more is in the spare list alone
module _ (w v : Watched) (spare number watcher : ℕ) (within : length w.lists ≡ spare + 1) (once : StandsOnce w)
    (is : v ≡ record { lists = slice_set w.lists spare (watcher ∷ list_at w.lists spare); clauses = w.clauses ++ number ∷ [] }) where
  pub spare-same : (lit : Lit) (other : ℕ) → lit.0 < spare → watches_at v lit other ≡ watches_at w lit other
  spare-same lit other inside =
      rw (attached-other w v spare number watcher (omega arith) is lit.0 (omega arith), attached-clauses w v spare number watcher (omega arith) is)
      (counted-known w.clauses (number ∷ []) other (list_at w.lists lit.0) (all-known w lit.0 once))

-- two watchers come, and move to the lists of two literals
module _ (w0 w1 w2 w3 w4 : Watched) (spare number first second : ℕ) (pair : Pair)
    (lists : length w0.lists ≡ spare + 1) (first_within : pair.first.0 < spare) (second_within : pair.second.0 < spare) (differ : pair.first ≢ pair.second)
    (once : StandsOnce w0)
    (first_is : first ≡ length w0.clauses)
    (one : w1 ≡ record { lists = slice_set w0.lists spare (first ∷ list_at w0.lists spare); clauses = w0.clauses ++ number ∷ [] })
    (second_is : second ≡ length w1.clauses)
    (two : w2 ≡ record { lists = slice_set w1.lists spare (second ∷ list_at w1.lists spare); clauses = w1.clauses ++ number ∷ [] })
    (three : (passed rest : List ℕ) → StandsAt w2.lists spare passed second rest
    → w3 ≡ record w2 { lists = slice_set (slice_set w2.lists spare (passed ++ rest)) pair.second.0 (second ∷ list_at w2.lists pair.second.0) }) where
  below_0 : spare < length w0.lists
  below_0 = omega arith

  length_1 : length w1.lists ≡ length w0.lists
  length_1 = attached-length w0 w1 spare number first below_0 one

  below_1 : spare < length w1.lists
  below_1 = omega (arith, length_1, below_0)

  length_2 : length w2.lists ≡ length w1.lists
  length_2 = attached-length w1 w2 spare number second below_1 two

  below_2 : spare < length w2.lists
  below_2 = omega (arith, length_2, below_1)

  pub spare_2 : list_at w2.lists spare ≡ second ∷ (first ∷ list_at w0.lists spare)
  spare_2 = attached-here w1 w2 spare number second below_1 two ∙ ap (λ l. second ∷ l) (attached-here w0 w1 spare number first below_0 one)

  pub spare_3 : list_at w3.lists spare ≡ first ∷ list_at w0.lists spare
  spare_3 = moved-spare w2 w3 spare second pair.second.0 (first ∷ list_at w0.lists spare) spare_2 below_2 second_within three

  pub length_3 : length w3.lists ≡ length w0.lists
  length_3 = moved-length w2 w3 spare second pair.second.0 (first ∷ list_at w0.lists spare) spare_2 below_2 second_within three ∙ length_2 ∙ length_1

  below_3 : spare < length w3.lists
  below_3 = omega (arith, length_3, below_0)

  module _ (four : (passed rest : List ℕ) → StandsAt w3.lists spare passed first rest
      → w4 ≡ record w3 { lists = slice_set (slice_set w3.lists spare (passed ++ rest)) pair.first.0 (first ∷ list_at w3.lists pair.first.0) }) where
    pub length_4 : length w4.lists ≡ length w0.lists
    length_4 = moved-length w3 w4 spare first pair.first.0 (list_at w0.lists spare) spare_3 below_3 first_within four ∙ length_3

    others_2 : (n : ℕ) → n ≢ spare → list_at w2.lists n ≡ list_at w0.lists n
    others_2 n ne = attached-other w1 w2 spare number second below_1 two n ne ∙ attached-other w0 w1 spare number first below_0 one n ne

    others_3 : (n : ℕ) → n ≢ spare → n ≢ pair.second.0 → list_at w3.lists n ≡ list_at w0.lists n
    others_3 n ne not_second =
        moved-other w2 w3 spare second pair.second.0 (first ∷ list_at w0.lists spare) spare_2 below_2 second_within three n ne not_second ∙ others_2 n ne

    others_4 : (n : ℕ) → n ≢ spare → n ≢ pair.first.0 → n ≢ pair.second.0 → list_at w4.lists n ≡ list_at w0.lists n
    others_4 n ne not_first not_second =
        moved-other w3 w4 spare first pair.first.0 (list_at w0.lists spare) spare_3 below_3 first_within four n ne not_first ∙ others_3 n ne not_second

    unlike : pair.first.0 ≢ pair.second.0
    unlike e = differ (same-lit pair.first pair.second e)

    at_first : list_at w4.lists pair.first.0 ≡ first ∷ list_at w0.lists pair.first.0
    at_first =
        moved-here w3 w4 spare first pair.first.0 (list_at w0.lists spare) spare_3 below_3 first_within four
        ∙ ap (λ l. first ∷ l) (others_3 pair.first.0 (omega arith) unlike)

    at_second : list_at w4.lists pair.second.0 ≡ second ∷ list_at w0.lists pair.second.0
    at_second =
        moved-other w3 w4 spare first pair.first.0 (list_at w0.lists spare) spare_3 below_3 first_within four pair.second.0 (omega arith) (λ e. unlike (sym e))
        ∙ moved-here w2 w3 spare second pair.second.0 (first ∷ list_at w0.lists spare) spare_2 below_2 second_within three
        ∙ ap (λ l. second ∷ l) (others_2 pair.second.0 (omega arith))

    clauses_2 : w4.clauses ≡ w1.clauses ++ number ∷ []
    clauses_2 =
        moved-clauses w3 w4 spare first pair.first.0 (list_at w0.lists spare) spare_3 below_3 first_within four
        ∙ moved-clauses w2 w3 spare second pair.second.0 (first ∷ list_at w0.lists spare) spare_2 below_2 second_within three
        ∙ attached-clauses w1 w2 spare number second below_1 two

    clauses_1 : w1.clauses ≡ w0.clauses ++ number ∷ []
    clauses_1 = attached-clauses w0 w1 spare number first below_0 one

    known : w4.clauses ≡ w0.clauses ++ (number ∷ number ∷ [])
    known = clauses_2 ∙ rw clauses_1 (append_assoc w0.clauses (number ∷ []) (number ∷ []))

    first_clause : slice_index_or w4.clauses first 0 ≡ number
    first_clause =
        rw (clauses_2, clauses_1) (get_or_append_left (w0.clauses ++ number ∷ []) (number ∷ []) 0 first (omega (arith, first_is, length-append w0.clauses (number ∷ [])))
        ∙ get_or_push w0.clauses number 0 first (sym first_is))

    second_clause : slice_index_or w4.clauses second 0 ≡ number
    second_clause = rw clauses_2 (get_or_push w1.clauses number 0 second (sym second_is))

    pub watched_twice : (lit : Lit) (other : ℕ) → lit.0 < spare
        → watches_at w4 lit other ≡ watches_at w0 lit other + (if other == number then times_in (Some pair) lit else 0)
    watched_twice =
        watched-more w0 w4 number first second pair (number ∷ number ∷ []) known first_clause second_clause unlike once at_first at_second spare others_4
