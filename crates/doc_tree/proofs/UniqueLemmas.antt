-- What lines come to is one reading, so that what is found under the names of files is one.
use Rattle.std.proofs.Common.{inl, inr, ◌≡◌, ℕ, zero, suc, zero-add, ◌+◌, ◌<◌, Bool, true, false, List, [], ◌∷◌, length, map, filter, get_or, Contains, Option, Some, None, refl, sym, ap, ◌∙◌, subst, arith, All}
use Rattle.std.specs.List.{AllZip, range_with_len}
use Rattle.std.proofs.lemmas.Bool.{cases_Bool, cases_lt, cases_order, false≢true}
use Rattle.std.proofs.lemmas.List.Elements.{All-head, All-tail}
use Rattle.std.proofs.lemmas.List.FromFn.{get_or-range_with_len, length-range_with_len}
use Rattle.std.proofs.lemmas.List.{get_or-map, get_or_past, length-map}
use Rattle.vkb_outside.specs.Shelf.{Files}
use Rattle.vkb_text.specs.Lines.{lines_of}
use Rattle.doc_cond.specs.Lines.{IsBadCondition, IsKind, bare}
use Rattle.doc_cond.specs.Nesting.{ArePairs, IsCloserOf, IsFaulty, IsFirstFault as IsFirstNestingFault, IsLeftOpen, is_closer, is_opener, kind_at, openers_of, opens_at}
use Rattle.doc_cond.specs.declared.CondFault.{CondFault}
use Rattle.doc_cond.specs.declared.CondFault.TheVariants as cond
use Rattle.doc_cond.specs.declared.LineKind.{LineKind}
use Rattle.doc_cond.specs.declared.LineKind.TheVariants.{Plain, Comment, Other, Begin, OneLine, Close, Chapter, Api, Validity, Refpage}
use Rattle.doc_tree.specs.Sources.{AreSources, IsBadAt, IsFirstBad, IsNestedWrongly, IsReading, IsSource, Reading, Lines, Misspelled, Misnested, TooNested, Source, Absent, Long, Held, Sources}

-- where the first list and the relation leave one second list, two are the same
zip_unique : {A B : Type 0} (R : A → B → Type 0) → ((x : A) (y z : B) → R x y → R x z → y ≡ z) → (xs : List A) (ys zs : List B) → AllZip R xs ys → AllZip R xs zs → ys ≡ zs
zip_unique R one [] [] [] all also = refl
zip_unique R one [] [] (z ∷ zs) all also = absurd also
zip_unique R one [] (y ∷ ys) zs all also = absurd all
zip_unique R one (x ∷ xs) [] zs all also = absurd all
zip_unique R one (x ∷ xs) (y ∷ ys) [] all also = absurd also
zip_unique R one (x ∷ xs) (y ∷ ys) (z ∷ zs) all also =
    let first = one x y z all.0 also.0 in
    let rest = zip_unique R one xs ys zs all.1 also.1 in
    cc

-- a line of lines that have kinds isn't bad
never_bad : (lines : List (List ℕ)) (kinds : List LineKind) → AllZip IsKind lines kinds → (k : ℕ) → ¬ IsBadAt lines k
never_bad [] kinds all k there = cc
never_bad (line ∷ lines) [] all k there = absurd all
never_bad (line ∷ lines) (kind ∷ kinds) all zero there = let same : line ≡ there.0 = cc in (subst (λ (l : List ℕ). IsBadCondition (bare l)) (sym same) there.2).unspelled kind all.0
never_bad (line ∷ lines) (kind ∷ kinds) all (suc k) there = never_bad lines kinds all.1 k there

-- ---- pairs rule out faults of nesting

-- a line that opens or closes is one of the lines
within_kinds : (test : LineKind → Bool) (kinds : List LineKind) (line : ℕ) → test Plain ≡ false → test (kind_at kinds line) ≡ true → line < length kinds
within_kinds test kinds line plain is =
    elim (cases_lt line (length kinds)) [
      | inl below ↦ below
      | inr past ↦ absurd (false≢true (sym plain ∙ ap test (sym (get_or_past kinds line Plain past)) ∙ is))
    ]

-- what passes a test is among those that pass
among_passing : {X : Type 0} (test : X → Bool) (xs : List X) (x : X) → test x ≡ true → Contains xs x → Contains (filter test xs) x
among_passing test [] x is among = absurd (let none = among.1 in omega arith)
among_passing test (y ∷ ys) x is (zero, within, here) =
    let passes : test y ≡ true = ap test here ∙ is in
    rw passes (0, omega arith, here)
among_passing test (y ∷ ys) x is (suc k, within, here) =
    let rest = among_passing test ys x is (k, omega arith, here) in
    elim (cases_Bool (test y)) [ inl passes ↦ rw passes (suc rest.0, omega (arith, rest.1), rest.2) | inr fails ↦ rw fails rest ]

-- each opener is the first of a pair
opener_paired : (kinds : List LineKind) (pairs : List (ℕ × ℕ)) → ArePairs kinds pairs → (line : ℕ) → opens_at kinds line ≡ true → (slot : ℕ) × (slot < length pairs) × ((get_or pairs slot (0, 0)).0 ≡ line)
opener_paired kinds pairs are line is =
    let within = within_kinds is_opener kinds line refl is in
    let listed_all = length-range_with_len 0 (length kinds) in
    let among : Contains (openers_of kinds) line = among_passing (opens_at kinds) (range_with_len 0 (length kinds)) line is (line, omega arith, get_or-range_with_len 0 (length kinds) line line within ∙ zero-add line) in
    let listed : Contains (map (λ pair. pair.0) pairs) line = subst (λ (ls : List ℕ). Contains ls line) (sym are.openers) among in
    let below : listed.0 < length pairs = omega (arith, listed.1, length-map pairs (λ pair. pair.0)) in
    (listed.0, below, sym (get_or-map (λ pair. pair.0) pairs listed.0 (0, 0) line below) ∙ listed.2)

-- openers and closers in pairs balance
balanced : (kinds : List LineKind) (pairs : List (ℕ × ℕ)) → ArePairs kinds pairs → (line : ℕ) → ¬ IsFirstNestingFault kinds (cond.Unbalanced line)
balanced kinds pairs are line (inl loose) = are.faultless line (within_kinds is_closer kinds line refl loose.0.closes) (inl loose.0)
balanced kinds pairs are line (inr left) =
    let found = opener_paired kinds pairs are line left.left.opens in
    left.left.unclosed (get_or pairs found.0 (0, 0)).1 (subst (λ (opener : ℕ). IsCloserOf kinds opener (get_or pairs found.0 (0, 0)).1) found.2 (are.closers found.0 (0, 0) found.1))

-- and are not too deep
shallow : (kinds : List LineKind) (pairs : List (ℕ × ℕ)) → ArePairs kinds pairs → (line : ℕ) → ¬ IsFirstNestingFault kinds (cond.CondDepth line)
shallow kinds pairs are line deep = are.faultless line (within_kinds is_opener kinds line refl deep.0.opens) (inr deep.0)

-- ---- one list of pairs, and one first fault of nesting

-- pairs of the same openers, each with its one closer, are the same
same_pairs : (kinds : List LineKind) → ((opener closer other : ℕ) → IsCloserOf kinds opener closer → IsCloserOf kinds opener other → closer ≡ other) → (pairs others : List (ℕ × ℕ))
    → map (λ pair. pair.0) pairs ≡ map (λ pair. pair.0) others → All (λ pair. IsCloserOf kinds pair.0 pair.1) pairs → All (λ pair. IsCloserOf kinds pair.0 pair.1) others → pairs ≡ others
same_pairs kinds one [] [] openers all also = refl
same_pairs kinds one [] (other ∷ others) openers all also = cc
same_pairs kinds one (pair ∷ pairs) [] openers all also = cc
same_pairs kinds one ((opener, closer) ∷ pairs) ((start, end) ∷ others) openers all also =
    let IsClosed : ℕ × ℕ → Type 0 = λ pair. IsCloserOf kinds pair.0 pair.1 in
    let first : opener ≡ start = cc in
    let behind : map (λ pair. pair.0) pairs ≡ map (λ pair. pair.0) others = cc in
    let closed = subst (λ (place : ℕ). IsCloserOf kinds place end) (sym first) (All-head IsClosed (start, end) others also) in
    let second : closer ≡ end = one opener closer end (All-head IsClosed (opener, closer) pairs all) closed in
    let rest = same_pairs kinds one pairs others behind (All-tail IsClosed (opener, closer) pairs all) (All-tail IsClosed (start, end) others also) in
    cc

-- no line opens and closes
never_both : (kind : LineKind) → is_opener kind ≡ true → is_closer kind ≡ true → ⊥
never_both (Begin negated any names) opens closes = cc
never_both (Close any names) opens closes = cc
never_both Plain opens closes = cc
never_both Comment opens closes = cc
never_both Other opens closes = cc
never_both (OneLine negated any names from to) opens closes = cc
never_both (Chapter file) opens closes = cc
never_both (Api name) opens closes = cc
never_both (Validity name) opens closes = cc
never_both (Refpage name) opens closes = cc

-- of two places with nothing before them, neither is before the other
same_first : (Passes : ℕ → Type 0) (place other : ℕ) → Passes place → ((before : ℕ) → before < place → ¬ Passes before) → Passes other → ((before : ℕ) → before < other → ¬ Passes before) → place ≡ other
same_first Passes place other here first there also =
    elim (cases_order place other) [
      | inl same ↦ same
      | inr (inl less) ↦ absurd (also place less here)
      | inr (inr more) ↦ absurd (first other more there)
    ]

-- a faulty line is one of the lines
faulty_within : (kinds : List LineKind) (line : ℕ) → IsFaulty kinds line → line < length kinds
faulty_within kinds line (inl loose) = within_kinds is_closer kinds line refl loose.closes
faulty_within kinds line (inr deep) = within_kinds is_opener kinds line refl deep.opens

-- kinds of lines have one first line that is ill nested
same_unbalanced : (kinds : List LineKind) (place other : ℕ) → IsFirstNestingFault kinds (cond.Unbalanced place) → IsFirstNestingFault kinds (cond.Unbalanced other) → place ≡ other
same_unbalanced kinds place other (inl loose) (inl apart) = same_first (IsFaulty kinds) place other (inl loose.0) loose.1 (inl apart.0) apart.1
same_unbalanced kinds place other (inl loose) (inr left) = absurd (left.faultless place (faulty_within kinds place (inl loose.0)) (inl loose.0))
same_unbalanced kinds place other (inr left) (inl loose) = absurd (left.faultless other (faulty_within kinds other (inl loose.0)) (inl loose.0))
same_unbalanced kinds place other (inr left) (inr late) = same_first (IsLeftOpen kinds) place other left.left left.first late.left late.first

-- or one that is too deep
same_deep : (kinds : List LineKind) (place other : ℕ) → IsFirstNestingFault kinds (cond.CondDepth place) → IsFirstNestingFault kinds (cond.CondDepth other) → place ≡ other
same_deep kinds place other deep also = same_first (IsFaulty kinds) place other (inr deep.0) deep.1 (inr also.0) also.1

-- and not both
never_deep : (kinds : List LineKind) (place other : ℕ) → IsFirstNestingFault kinds (cond.Unbalanced place) → IsFirstNestingFault kinds (cond.CondDepth other) → ⊥
never_deep kinds place other (inl loose) deep =
    let same = same_first (IsFaulty kinds) place other (inl loose.0) loose.1 (inr deep.0) deep.1 in
    never_both (kind_at kinds other) deep.0.opens (subst (λ (line : ℕ). is_closer (kind_at kinds line) ≡ true) same loose.0.closes)
never_deep kinds place other (inr left) deep = left.faultless other (faulty_within kinds other (inr deep.0)) (inr deep.0)

-- ---- one reading

-- lines have one first that is bad
same_bad : (lines : List (List ℕ)) (number other : ℕ) → IsFirstBad lines number → IsFirstBad lines other → number ≡ other
same_bad lines number other is also =
    let place = same_first (IsBadAt lines) is.place also.place is.here is.first also.here also.first in
    is.numbered ∙ ap (λ n. n + 1) place ∙ sym also.numbered

module _ (one_kind : (line : List ℕ) (kind other : LineKind) → IsKind line kind → IsKind line other → kind ≡ other)
    (one_closer : (kinds : List LineKind) (opener closer other : ℕ) → IsCloserOf kinds opener closer → IsCloserOf kinds opener other → closer ≡ other) (lines : List (List ℕ)) where
  -- lines have one list of kinds
  as_kinds : (P : List LineKind → Type 0) (kinds others : List LineKind) → AllZip IsKind lines kinds → AllZip IsKind lines others → P kinds → P others
  as_kinds P kinds others all also here = subst P (zip_unique IsKind one_kind lines kinds others all also) here

  -- lines that are ill nested have no pairs
  nested_apart : (fault : ℕ → CondFault) → ((kinds : List LineKind) (pairs : List (ℕ × ℕ)) → ArePairs kinds pairs → (place : ℕ) → ¬ IsFirstNestingFault kinds (fault place))
      → (number : ℕ) (kinds : List LineKind) (pairs : List (ℕ × ℕ)) → AllZip IsKind lines kinds → ArePairs kinds pairs → IsNestedWrongly lines fault number → ⊥
  nested_apart fault none number kinds pairs are paired wrong =
      none kinds pairs paired wrong.place (as_kinds (λ ks. IsFirstNestingFault ks (fault wrong.place)) wrong.kinds kinds wrong.kinds_are are wrong.is)

  -- two faults of nesting of one sort stand at one line
  nested_same : (fault : ℕ → CondFault) → ((kinds : List LineKind) (place other : ℕ) → IsFirstNestingFault kinds (fault place) → IsFirstNestingFault kinds (fault other) → place ≡ other)
      → (number other : ℕ) → IsNestedWrongly lines fault number → IsNestedWrongly lines fault other → number ≡ other
  nested_same fault same number other wrong also =
      let there = as_kinds (λ kinds. IsFirstNestingFault kinds (fault also.place)) also.kinds wrong.kinds also.kinds_are wrong.kinds_are also.is in
      wrong.numbered ∙ ap (λ n. n + 1) (same wrong.kinds wrong.place also.place wrong.is there) ∙ sym also.numbered

  -- and there are none of both sorts
  nested_either : (number other : ℕ) → IsNestedWrongly lines cond.Unbalanced number → IsNestedWrongly lines cond.CondDepth other → ⊥
  nested_either number other wrong deep =
      never_deep wrong.kinds wrong.place deep.place wrong.is (as_kinds (λ kinds. IsFirstNestingFault kinds (cond.CondDepth deep.place)) deep.kinds wrong.kinds deep.kinds_are wrong.kinds_are deep.is)

  -- lines of kinds have one list of pairs
  same_lines : (kinds others : List LineKind) (pairs rest : List (ℕ × ℕ)) → AllZip IsKind lines kinds → AllZip IsKind lines others → ArePairs kinds pairs → ArePairs others rest → Lines kinds pairs ≡ Lines others rest
  same_lines kinds others pairs rest are also paired nested =
      let kinds_are : kinds ≡ others = zip_unique IsKind one_kind lines kinds others are also in
      let there : ArePairs kinds rest = subst (λ (ks : List LineKind). ArePairs ks rest) (sym kinds_are) nested in
      let pairs_are : pairs ≡ rest = same_pairs kinds (one_closer kinds) pairs rest (paired.openers ∙ sym there.openers) paired.closers there.closers in
      cc

  same_reading : (reading other : Reading) → IsReading lines reading → IsReading lines other → reading ≡ other
  same_reading (Lines kinds pairs) (Lines others rest) is also = same_lines kinds others pairs rest is.0 also.0 is.1 also.1
  same_reading (Lines kinds pairs) (Misspelled number) is also = absurd (never_bad lines kinds is.0 also.place also.here)
  same_reading (Lines kinds pairs) (Misnested number) is also = absurd (nested_apart cond.Unbalanced balanced number kinds pairs is.0 is.1 also)
  same_reading (Lines kinds pairs) (TooNested number) is also = absurd (nested_apart cond.CondDepth shallow number kinds pairs is.0 is.1 also)
  same_reading (Misspelled number) (Lines kinds pairs) is also = absurd (never_bad lines kinds also.0 is.place is.here)
  same_reading (Misspelled number) (Misspelled other) is also = ap Misspelled (same_bad lines number other is also)
  same_reading (Misspelled number) (Misnested other) is also = absurd (never_bad lines also.kinds also.kinds_are is.place is.here)
  same_reading (Misspelled number) (TooNested other) is also = absurd (never_bad lines also.kinds also.kinds_are is.place is.here)
  same_reading (Misnested number) (Lines kinds pairs) is also = absurd (nested_apart cond.Unbalanced balanced number kinds pairs also.0 also.1 is)
  same_reading (Misnested number) (Misspelled other) is also = absurd (never_bad lines is.kinds is.kinds_are also.place also.here)
  same_reading (Misnested number) (Misnested other) is also = ap Misnested (nested_same cond.Unbalanced same_unbalanced number other is also)
  same_reading (Misnested number) (TooNested other) is also = absurd (nested_either number other is also)
  same_reading (TooNested number) (Lines kinds pairs) is also = absurd (nested_apart cond.CondDepth shallow number kinds pairs also.0 also.1 is)
  same_reading (TooNested number) (Misspelled other) is also = absurd (never_bad lines is.kinds is.kinds_are also.place also.here)
  same_reading (TooNested number) (Misnested other) is also = absurd (nested_either other number also is)
  same_reading (TooNested number) (TooNested other) is also = ap TooNested (nested_same cond.CondDepth same_deep number other is also)

-- ---- one source

module _ (one_kind : (line : List ℕ) (kind other : LineKind) → IsKind line kind → IsKind line other → kind ≡ other)
    (one_closer : (kinds : List LineKind) (opener closer other : ℕ) → IsCloserOf kinds opener closer → IsCloserOf kinds opener other → closer ≡ other) where
  same_source : (found : Option (List ℕ)) (source other : Source) → IsSource found source → IsSource found other → source ≡ other
  same_source None source other is also = is ∙ sym also
  same_source (Some bytes) Absent other is also = absurd is
  same_source (Some bytes) Long Absent is also = absurd also
  same_source (Some bytes) Long Long is also = refl
  same_source (Some bytes) Long (Held held reading) is also = let short = also.1 in absurd (omega arith)
  same_source (Some bytes) (Held held reading) Absent is also = absurd also
  same_source (Some bytes) (Held held reading) Long is also = let short = is.1 in absurd (omega arith)
  same_source (Some bytes) (Held held reading) (Held kept told) is also =
      let bytes_are : held ≡ kept = is.0 ∙ sym also.0 in
      let readings_are : reading ≡ told = same_reading one_kind one_closer (lines_of bytes) reading told is.2 also.2 in
      cc

  pub same_sources : (files : Files) (sources others : Sources) → AreSources files sources → AreSources files others → sources ≡ others
  same_sources files sources others are also =
      let each : (name : List ℕ) → sources name ≡ others name = λ name. same_source (files name) (sources name) (others name) (are name) (also name) in
      λ i. λ name. each name i
