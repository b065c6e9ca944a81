-- The openers round a line, and how they change from line to line.
use Rattle.std.proofs.Common.{inl, inr, ◌≡◌, ◌∙◌, refl, sym, ap, ℕ, zero, suc, ◌+◌, ◌<◌, ◌≤◌, Bool, true, false, not, ◌&&◌, cond, List, [], ◌∷◌, ◌++◌, length, filter, nat_lt, Contains, get_or, map, ⊎_elim, arith, ◌⊎◌}
use Rattle.std.specs.List.{flat_map, range_with_len, AllPairs}
use Rattle.std.proofs.lemmas.Bool.{cases_Bool, cases_lt, cases_order, and_from, and_left, and_right, le-ltb, lt-ltb, true≢false, false≢true}
use Rattle.std.proofs.lemmas.List.{append-nil, length-map, get_or-map, get_or_default, get_or_past}
use Rattle.std.proofs.lemmas.List.Concat.{flat_map-append}
use Rattle.std.proofs.lemmas.List.FromFn.{get_or-range_with_len, length-range_with_len}
use Rattle.std.proofs.lemmas.List.Kept.{AllPairs-filter}
use Rattle.doc_cond.specs.Nesting.{ArePairs, closes_at, is_opener, kind_at, opens_at, openers_of}
use Rattle.doc_cond.specs.declared.LineKind.{LineKind}
use Rattle.doc_cond.specs.declared.LineKind.TheVariants.{Plain, Comment, Other, Begin, OneLine, Close, Chapter, Api, Validity, Refpage}
use Rattle.doc_tree.specs.Flat.{Condition}
use Rattle.doc_tree.specs.Walk.{condition_in, conditions_round, encloses}

-- ---- what two tests keep

pub filter_none : {X : Type 0} (p : X → Bool) (xs : List X) → ((j : ℕ) (d : X) → j < length xs → p (get_or xs j d) ≡ false) → filter p xs ≡ []
filter_none p [] none = refl
filter_none p (x ∷ xs) none = let here : p x ≡ false = none 0 x (omega arith) in rw here (filter_none p xs (λ j d below. none (suc j) d (omega arith)))

pub filter_alike : {X : Type 0} (p q : X → Bool) (xs : List X) → ((j : ℕ) (d : X) → j < length xs → p (get_or xs j d) ≡ q (get_or xs j d)) → filter p xs ≡ filter q xs
filter_alike p q [] alike = refl
filter_alike p q (x ∷ xs) alike =
    ap (λ b. cond b (x ∷ filter p xs) (filter p xs)) (alike 0 x (omega arith))
    ∙ ap (λ ys. cond (q x) (x ∷ ys) ys) (filter_alike p q xs (λ j d below. alike (suc j) d (omega arith)))

-- where the first test keeps one place more, and behind it neither keeps any
pub filter_one_more : {X : Type 0} (p q : X → Bool) (xs : List X) (k : ℕ) (e : X) → k < length xs → p (get_or xs k e) ≡ true → q (get_or xs k e) ≡ false
    → ((j : ℕ) (d : X) → j < k → p (get_or xs j d) ≡ q (get_or xs j d)) → ((j : ℕ) (d : X) → k < j → j < length xs → (p (get_or xs j d) ≡ false) × (q (get_or xs j d) ≡ false))
    → filter p xs ≡ filter q xs ++ get_or xs k e ∷ []
filter_one_more p q [] k e within is isnt alike none = absurd (omega arith)
filter_one_more p q (x ∷ xs) zero e within is isnt alike none =
    let of_p : filter p xs ≡ [] = filter_none p xs (λ j d below. (none (suc j) d (omega arith) (omega arith)).0) in
    let of_q : filter q xs ≡ [] = filter_none q xs (λ j d below. (none (suc j) d (omega arith) (omega arith)).1) in
    rw (is, isnt, of_p, of_q) refl
filter_one_more p q (x ∷ xs) (suc k) e within is isnt alike none =
    let rest = filter_one_more p q xs k e (omega arith) is isnt (λ j d below. alike (suc j) d (omega arith)) (λ j d past below. none (suc j) d (omega arith) (omega arith)) in
    let here : p x ≡ q x = alike 0 x (omega arith) in
    ap (λ b. cond b (x ∷ filter p xs) (filter p xs)) here
    ∙ elim (cases_Bool (q x)) [ inl keeps ↦ rw keeps (ap (λ ys. x ∷ ys) rest) | inr drops ↦ rw drops rest ]

-- ---- the openers before a line that aren't closed before it

abbrev pub is_open_before : ℕ × ℕ → ℕ → Bool
is_open_before pair line = nat_lt pair.0 line && not (nat_lt pair.1 line)

-- their conditions, outermost first
abbrev pub conditions_before : List LineKind → List (ℕ × ℕ) → ℕ → List Condition
conditions_before kinds pairs line = flat_map (λ pair. condition_in (kind_at kinds pair.0)) (filter (λ pair. is_open_before pair line) pairs)

open-true : (pair : ℕ × ℕ) (line : ℕ) → pair.0 < line → line ≤ pair.1 → is_open_before pair line ≡ true
open-true pair line behind upto =
    let first = lt-ltb pair.0 line behind in
    let second = le-ltb pair.1 line upto in
    rw (first, second) refl

pub open-false : (pair : ℕ × ℕ) (line : ℕ) → (line ≤ pair.0) ⊎ (pair.1 < line) → is_open_before pair line ≡ false
open-false pair line (inl low) = and_left (nat_lt pair.0 line) (not (nat_lt pair.1 line)) (le-ltb pair.0 line low)
open-false pair line (inr high) = and_right (nat_lt pair.0 line) (not (nat_lt pair.1 line)) (ap not (lt-ltb pair.1 line high))

encloses-true : (pair : ℕ × ℕ) (line : ℕ) → pair.0 < line → line < pair.1 → encloses pair line ≡ true
encloses-true pair line behind upto = and_from (nat_lt pair.0 line) (nat_lt line pair.1) (lt-ltb pair.0 line behind) (lt-ltb line pair.1 upto)

encloses-false : (pair : ℕ × ℕ) (line : ℕ) → (line ≤ pair.0) ⊎ (pair.1 ≤ line) → encloses pair line ≡ false
encloses-false pair line (inl low) = and_left (nat_lt pair.0 line) (nat_lt line pair.1) (le-ltb pair.0 line low)
encloses-false pair line (inr high) = and_right (nat_lt pair.0 line) (nat_lt line pair.1) (le-ltb line pair.1 high)

-- a pair that isn't closed by the line encloses it where it is open before it
at_line : (pair : ℕ × ℕ) (line : ℕ) → (pair.1 ≡ line → ⊥) → is_open_before pair line ≡ encloses pair line
at_line pair line other =
    elim (cases_lt pair.0 line) [
      | inr low ↦ open-false pair line (inl low) ∙ sym (encloses-false pair line (inl low))
      | inl behind ↦ elim (cases_order pair.1 line) [
        | inl same ↦ absurd (other same)
        | inr (inl below) ↦ open-false pair line (inr below) ∙ sym (encloses-false pair line (inr (omega arith)))
        | inr (inr above) ↦ open-true pair line behind (omega arith) ∙ sym (encloses-true pair line behind above)
      ]
    ]

-- a pair that isn't opened by the line is open behind it where it encloses it
behind_line : (pair : ℕ × ℕ) (line : ℕ) → (pair.0 ≡ line → ⊥) → is_open_before pair (line + 1) ≡ encloses pair line
behind_line pair line other =
    elim (cases_order pair.0 line) [
      | inl same ↦ absurd (other same)
      | inr (inr above) ↦ open-false pair (line + 1) (inl (omega arith)) ∙ sym (encloses-false pair line (inl (omega arith)))
      | inr (inl below) ↦ elim (cases_lt line pair.1) [
        | inl inside ↦ open-true pair (line + 1) (omega arith) (omega arith) ∙ sym (encloses-true pair line below inside)
        | inr past ↦ open-false pair (line + 1) (inr (omega arith)) ∙ sym (encloses-false pair line (inr past))
      ]
    ]

-- ---- the order of pairs

-- the openers stand in order
pub openers-rise : (kinds : List LineKind) (pairs : List (ℕ × ℕ)) → ArePairs kinds pairs → (slot later : ℕ) (d : ℕ × ℕ) → slot < later → later < length pairs → (get_or pairs slot d).0 < (get_or pairs later d).0
openers-rise kinds pairs are slot later d before within =
    let rising : AllPairs (λ (a b : ℕ). a < b) (range_with_len 0 (length kinds)) = λ i j e earlier inside.
    let inside_kinds : j < length kinds = omega (arith, inside, length-range_with_len 0 (length kinds)) in
    omega (arith, earlier, get_or-range_with_len 0 (length kinds) i e (omega (arith, earlier, inside_kinds)), get_or-range_with_len 0 (length kinds) j e inside_kinds) in
    let ordered = AllPairs-filter (λ (a b : ℕ). a < b) (opens_at kinds) (range_with_len 0 (length kinds)) rising in
    let same = are.openers in
    let count : length (openers_of kinds) ≡ length pairs = ap length (sym same) ∙ length-map pairs (λ pair. pair.0) in
    let found = ordered slot later d.0 before (omega (arith, within, count)) in
    let first : (get_or pairs slot d).0 ≡ get_or (openers_of kinds) slot d.0 = sym (get_or-map (λ (pair : ℕ × ℕ). pair.0) pairs slot d d.0 (omega (arith, before, within))) ∙ ap (λ ns. get_or ns slot d.0) same in
    let second : (get_or pairs later d).0 ≡ get_or (openers_of kinds) later d.0 = sym (get_or-map (λ (pair : ℕ × ℕ). pair.0) pairs later d d.0 within) ∙ ap (λ ns. get_or ns later d.0) same in
    omega (arith, found, first, second)

-- a line that opens or closes is one of the lines
pub within_kinds : (test : LineKind → Bool) (kinds : List LineKind) (line : ℕ) → test Plain ≡ false → test (kind_at kinds line) ≡ true → line < length kinds
within_kinds test kinds line plain is =
    elim (cases_lt line (length kinds)) [
      | inl below ↦ below
      | inr past ↦ absurd (false≢true (sym plain ∙ ap test (sym (get_or_past kinds line Plain past)) ∙ is))
    ]

-- what passes a test is among those that pass
among_passing : {X : Type 0} (test : X → Bool) (xs : List X) (x : X) → test x ≡ true → Contains xs x → Contains (filter test xs) x
among_passing test [] x is among = absurd (let none = among.1 in omega arith)
among_passing test (y ∷ ys) x is (zero, within, here) =
    let passes : test y ≡ true = ap test here ∙ is in
    rw passes (0, omega arith, here)
among_passing test (y ∷ ys) x is (suc k, within, here) =
    let rest = among_passing test ys x is (k, omega arith, here) in
    elim (cases_Bool (test y)) [ inl passes ↦ rw passes (suc rest.0, omega (arith, rest.1), rest.2) | inr fails ↦ rw fails rest ]

zero-plus : (n : ℕ) → 0 + n ≡ n
zero-plus n = omega arith

-- each opener is the first of a pair
pub opener_paired : (kinds : List LineKind) (pairs : List (ℕ × ℕ)) → ArePairs kinds pairs → (line : ℕ) → opens_at kinds line ≡ true → (slot : ℕ) × (slot < length pairs) × ((get_or pairs slot (0, 0)).0 ≡ line)
opener_paired kinds pairs are line is =
    let within = within_kinds is_opener kinds line refl is in
    let listed_all = length-range_with_len 0 (length kinds) in
    let among : Contains (openers_of kinds) line = among_passing (opens_at kinds) (range_with_len 0 (length kinds)) line is (line, omega arith, get_or-range_with_len 0 (length kinds) line line within ∙ zero-plus line) in
    let listed : Contains (map (λ pair. pair.0) pairs) line = rw (sym are.openers) at among in
    let below : listed.0 < length pairs = omega (arith, listed.1, length-map pairs (λ pair. pair.0)) in
    (listed.0, below, sym (get_or-map (λ pair. pair.0) pairs listed.0 (0, 0) line below) ∙ listed.2)

-- ---- from line to line

no_condition : (kind : LineKind) → is_opener kind ≡ false → condition_in kind ≡ []
no_condition (Begin negated any names) isnt = absurd (true≢false isnt)
no_condition Plain isnt = refl
no_condition Comment isnt = refl
no_condition Other isnt = refl
no_condition (OneLine negated any names from to) isnt = refl
no_condition (Close any names) isnt = refl
no_condition (Chapter file) isnt = refl
no_condition (Api name) isnt = refl
no_condition (Validity name) isnt = refl
no_condition (Refpage name) isnt = refl

one_condition : (kind : LineKind) → is_opener kind ≡ true → (condition : Condition) × (condition_in kind ≡ condition ∷ [])
one_condition (Begin negated any names) is = (record { negated = negated; any = any; names = names }, refl)
one_condition Plain is = absurd (false≢true is)
one_condition Comment is = absurd (false≢true is)
one_condition Other is = absurd (false≢true is)
one_condition (OneLine negated any names from to) is = absurd (false≢true is)
one_condition (Close any names) is = absurd (false≢true is)
one_condition (Chapter file) is = absurd (false≢true is)
one_condition (Api name) is = absurd (false≢true is)
one_condition (Validity name) is = absurd (false≢true is)
one_condition (Refpage name) is = absurd (false≢true is)

module _ (kinds : List LineKind) (pairs : List (ℕ × ℕ)) (are : ArePairs kinds pairs) (line : ℕ) where
  abbrev of_pair : ℕ × ℕ → List Condition
  of_pair pair = condition_in (kind_at kinds pair.0)

  -- where the line closes nothing, what is open before it is round it
  pub round-plain : closes_at kinds line ≡ false → conditions_before kinds pairs line ≡ conditions_round kinds pairs line
  round-plain isnt =
      ap (flat_map of_pair) (filter_alike (λ pair. is_open_before pair line) (λ pair. encloses pair line) pairs (λ j d below. at_line (get_or pairs j d) line (λ same.
      true≢false (sym ((are.closers j d below).closes) ∙ ap (closes_at kinds) same ∙ isnt))))

  -- where it closes, there is one condition more, the last
  pub round-closer : closes_at kinds line ≡ true → (condition : Condition) × (conditions_before kinds pairs line ≡ conditions_round kinds pairs line ++ condition ∷ [])
  round-closer is =
      let found = are.used line is in
      let slot = found.0 in
      let own : ℕ × ℕ = get_or pairs slot (0, 0) in
      let ends : own.1 ≡ line = found.2 in
      let inside = are.within slot (0, 0) found.1 in
      let before : own.0 < line = omega (arith, inside.0, ends) in
      let kept = filter_one_more (λ pair. is_open_before pair line) (λ pair. encloses pair line) pairs slot (0, 0) found.1
      (open-true own line before (omega (arith, ends))) (encloses-false own line (inr (omega (arith, ends))))
      (λ j d below.
      let rises = openers-rise kinds pairs are j slot d below found.1 in
      let same : get_or pairs slot d ≡ own = get_or_default pairs slot d (0, 0) found.1 in
      let same1 : (get_or pairs slot d).1 ≡ line = ap (λ (p : ℕ × ℕ). p.1) same ∙ ends in
      let same0 : (get_or pairs slot d).0 ≡ own.0 = ap (λ (p : ℕ × ℕ). p.0) same in
      at_line (get_or pairs j d) line (λ also. ⊎_elim (λ (past : (get_or pairs j d).1 < (get_or pairs slot d).0). omega (arith, past, also, same0, before)) (λ (within : (get_or pairs slot d).1 < (get_or pairs j d).1). omega (arith, within, also, same1)) (are.nested j d (omega (arith, below, found.1)) slot d found.1 rises)))
      (λ j d past below.
      let rises = openers-rise kinds pairs are slot j d past below in
      let same : get_or pairs slot d ≡ own = get_or_default pairs slot d (0, 0) found.1 in
      let same1 : (get_or pairs slot d).1 ≡ line = ap (λ (p : ℕ × ℕ). p.1) same ∙ ends in
      ⊎_elim
      (λ (after : (get_or pairs slot d).1 < (get_or pairs j d).0). (open-false (get_or pairs j d) line (inl (omega (arith, after, same1))), encloses-false (get_or pairs j d) line (inl (omega (arith, after, same1)))))
      (λ (within : (get_or pairs j d).1 < (get_or pairs slot d).1). (open-false (get_or pairs j d) line (inr (omega (arith, within, same1))), encloses-false (get_or pairs j d) line (inr (omega (arith, within, same1)))))
      (are.nested slot d found.1 j d below rises)) in
      let opens : opens_at kinds own.0 ≡ true = (are.closers slot (0, 0) found.1).opens in
      let one = one_condition (kind_at kinds own.0) opens in
      (one.0, ap (flat_map of_pair) kept ∙ flat_map-append of_pair (filter (λ pair. encloses pair line) pairs) (own ∷ []) ∙ ap (λ (cs : List Condition). conditions_round kinds pairs line ++ cs) (append-nil (of_pair own) ∙ one.1))

  -- behind the line its own condition is open too
  pub behind-line : conditions_before kinds pairs (line + 1) ≡ conditions_round kinds pairs line ++ condition_in (kind_at kinds line)
  behind-line =
      elim (cases_Bool (opens_at kinds line)) [
        | inr isnt ↦
            ap (flat_map of_pair) (filter_alike (λ pair. is_open_before pair (line + 1)) (λ pair. encloses pair line) pairs (λ j d below. behind_line (get_or pairs j d) line (λ same.
            true≢false (sym ((are.closers j d below).opens) ∙ ap (opens_at kinds) same ∙ isnt))))
            ∙ sym (append-nil (conditions_round kinds pairs line)) ∙ ap (λ (cs : List Condition). conditions_round kinds pairs line ++ cs) (sym (no_condition (kind_at kinds line) isnt))
        | inl is ↦
            let found = opener_paired kinds pairs are line is in
            let slot = found.0 in
            let own : ℕ × ℕ = get_or pairs slot (0, 0) in
            let begins : own.0 ≡ line = found.2 in
            let inside = are.within slot (0, 0) found.1 in
            let kept = filter_one_more (λ pair. is_open_before pair (line + 1)) (λ pair. encloses pair line) pairs slot (0, 0) found.1
            (open-true own (line + 1) (omega (arith, begins)) (omega (arith, begins, inside.0))) (encloses-false own line (inl (omega (arith, begins))))
            (λ j d below.
            let rises = openers-rise kinds pairs are j slot d below found.1 in
            let same : (get_or pairs slot d).0 ≡ line = ap (λ (p : ℕ × ℕ). p.0) (get_or_default pairs slot d (0, 0) found.1) ∙ begins in
            behind_line (get_or pairs j d) line (λ also. omega (arith, also, rises, same)))
            (λ j d past below.
            let rises = openers-rise kinds pairs are slot j d past below in
            let same : (get_or pairs slot d).0 ≡ line = ap (λ (p : ℕ × ℕ). p.0) (get_or_default pairs slot d (0, 0) found.1) ∙ begins in
            (open-false (get_or pairs j d) (line + 1) (inl (omega (arith, rises, same))), encloses-false (get_or pairs j d) line (inl (omega (arith, rises, same))))) in
            ap (flat_map of_pair) kept ∙ flat_map-append of_pair (filter (λ pair. encloses pair line) pairs) (own ∷ []) ∙ ap (λ (cs : List Condition). conditions_round kinds pairs line ++ cs) (append-nil (of_pair own) ∙ ap (λ n. condition_in (kind_at kinds n)) begins)
      ]
