-- Lines come to one thing.
use Rattle.std.proofs.Common.{inl, inr, ◌≡◌, ℕ, zero, suc, ◌+◌, ◌<◌, true, List, [], ◌∷◌, ◌++◌, length, map, get_or, Some, refl, sym, ap, ◌∙◌, subst, arith}
use Rattle.std.specs.List.{AllZip}
use Rattle.std.proofs.lemmas.Bool.{cases_order, true≢false}
use Rattle.std.proofs.lemmas.List.{append-nil, get_or_append_left, get_or_at, get_or-map, length-append, length-map, same_lists}
use Rattle.std.proofs.lemmas.Option.{get_or_from_slice_get, slice_get-get_or, slice_get_within}
use Rattle.doc_cond.specs.Lines.{IsBadCondition, IsKind, bare}
use Rattle.doc_cond.specs.Nesting.{ArePairs, IsCloserOf, IsFirstFault, is_closer, is_opener, kind_at}
use Rattle.doc_cond.specs.declared.CondFault.TheVariants as cond
use Rattle.doc_cond.specs.declared.LineKind.{LineKind}
use Rattle.doc_cond.specs.declared.LineKind.TheVariants.{Plain, Comment, Other, Begin, OneLine, Close, Chapter, Api, Validity, Refpage}
use Rattle.doc_tree.specs.Sources.{IsBadAt, IsFirstBad, IsReading, Lines, Misnested, Misspelled, Reading, TooNested}
use Rattle.doc_tree.proofs.PairsLemmas.{opener_paired, within_kinds}

-- ---- kinds and bad lines

same_length : {A B : Type 0} (R : A → B → Type 0) (xs : List A) (ys : List B) → AllZip R xs ys → length xs ≡ length ys
same_length R [] [] all = refl
same_length R [] (y ∷ ys) all = absurd all
same_length R (x ∷ xs) [] all = absurd all
same_length R (x ∷ xs) (y ∷ ys) all = ap (λ n. suc n) (same_length R xs ys all.1)

zip_at : {A B : Type 0} (R : A → B → Type 0) (xs : List A) (ys : List B) (k : ℕ) (d : A) (e : B) → AllZip R xs ys → k < length xs → R (get_or xs k d) (get_or ys k e)
zip_at R [] ys k d e all below = absurd (omega arith)
zip_at R (x ∷ xs) [] k d e all below = absurd all
zip_at R (x ∷ xs) (y ∷ ys) zero d e all below = all.0
zip_at R (x ∷ xs) (y ∷ ys) (suc k) d e all below = zip_at R xs ys k d e all.1 (omega arith)

-- a line that has a kind is no bad one
kind_not_bad : (line : List ℕ) (kind : LineKind) → IsKind line kind → IsBadCondition (bare line) → ⊥
kind_not_bad line kind is bad = bad.unspelled kind is

-- no line is bad before those that have kinds end
none_bad : (done rest : List (List ℕ)) (kinds : List LineKind) → AllZip IsKind done kinds → (k : ℕ) → k < length done → ¬ IsBadAt (done ++ rest) k
none_bad done rest kinds all k below bad =
    let read : get_or done k bad.0 ≡ bad.0 = sym (get_or_append_left done rest bad.0 k below) ∙ get_or_from_slice_get (done ++ rest) k bad.0 bad.0 bad.1 in
    kind_not_bad bad.0 (get_or kinds k Plain) (subst (λ (line : List ℕ). IsKind line (get_or kinds k Plain)) read (zip_at IsKind done kinds k bad.0 Plain all below)) bad.2

-- the first line that is bad, behind those that have kinds
pub first_bad : (done rest : List (List ℕ)) (line : List ℕ) (kinds : List LineKind) (number : ℕ) → AllZip IsKind done kinds → number ≡ length done + 1 → IsBadCondition (bare line) → IsFirstBad (done ++ line ∷ rest) number
first_bad done rest line kinds number all numbered bad =
    let within : length done < length (done ++ line ∷ rest) = simp length-append (omega arith) in
    record {
      place = length done;
      numbered = numbered;
      here = (line, slice_get-get_or (done ++ line ∷ rest) (length done) line within ∙ ap Some (get_or_at done line rest line (length done) refl), bad);
      first = λ before below. none_bad done (line ∷ rest) kinds all before below;
    }

-- where each line has a kind, none is bad
bad_nowhere : (lines : List (List ℕ)) (kinds : List LineKind) → AllZip IsKind lines kinds → (k : ℕ) → ¬ IsBadAt lines k
bad_nowhere lines kinds all k bad =
    let at_end = append-nil lines in
    none_bad lines [] kinds all k (slice_get_within lines k bad.0 bad.1) (subst (λ (ls : List (List ℕ)). IsBadAt ls k) (sym at_end) bad)

-- there is one first bad line
first_bad_one : (lines : List (List ℕ)) (number other : ℕ) → IsFirstBad lines number → IsFirstBad lines other → number ≡ other
first_bad_one lines number other a b =
    let same : a.place ≡ b.place = elim (cases_order a.place b.place) [
      | inl same ↦ same
      | inr (inl low) ↦ absurd (b.first a.place low a.here)
      | inr (inr high) ↦ absurd (a.first b.place high b.here)
    ] in
    a.numbered ∙ ap (λ n. n + 1) same ∙ sym b.numbered

-- ---- openers and closers

-- openers and closers in pairs balance
balanced : (kinds : List LineKind) (pairs : List (ℕ × ℕ)) → ArePairs kinds pairs → (line : ℕ) → ¬ IsFirstFault kinds (cond.Unbalanced line)
balanced kinds pairs are line (inl loose) = are.faultless line (within_kinds is_closer kinds line refl loose.0.closes) (inl loose.0)
balanced kinds pairs are line (inr left) =
    let found = opener_paired kinds pairs are line left.left.opens in
    left.left.unclosed (get_or pairs found.0 (0, 0)).1 (subst (λ (opener : ℕ). IsCloserOf kinds opener (get_or pairs found.0 (0, 0)).1) found.2 (are.closers found.0 (0, 0) found.1))

-- and are not too deep
shallow : (kinds : List LineKind) (pairs : List (ℕ × ℕ)) → ArePairs kinds pairs → (line : ℕ) → ¬ IsFirstFault kinds (cond.CondDepth line)
shallow kinds pairs are line deep = are.faultless line (within_kinds is_opener kinds line refl deep.0.opens) (inr deep.0)

-- an opener has one closer
one_closer : (kinds : List LineKind) (opener closer other : ℕ) → IsCloserOf kinds opener closer → IsCloserOf kinds opener other → closer ≡ other
one_closer kinds opener closer other a b =
    elim (cases_order closer other) [
      | inl same ↦ same
      | inr (inl low) ↦ absurd (b.first closer a.later low a.closes a.back)
      | inr (inr high) ↦ absurd (a.first other b.later high b.closes b.back)
    ]

same_pair : (p q : ℕ × ℕ) → p.0 ≡ q.0 → p.1 ≡ q.1 → p ≡ q
same_pair p q first second = ap (λ (n : ℕ). (n, p.1)) first ∙ ap (λ (n : ℕ). (q.0, n)) second

-- lines of these kinds have one list of pairs
one_pairs : (kinds : List LineKind) (pairs others : List (ℕ × ℕ)) → ArePairs kinds pairs → ArePairs kinds others → pairs ≡ others
one_pairs kinds pairs others a b =
    let heads : map (λ pair. pair.0) pairs ≡ map (λ pair. pair.0) others = a.openers ∙ sym b.openers in
    let count : length pairs ≡ length others = sym (length-map pairs (λ pair. pair.0)) ∙ ap length heads ∙ length-map others (λ pair. pair.0) in
    same_lists pairs others count (λ k d below.
    let also : k < length others = omega arith in
    let first : (get_or pairs k d).0 ≡ (get_or others k d).0 =
    sym (get_or-map (λ (pair : ℕ × ℕ). pair.0) pairs k d d.0 below) ∙ ap (λ ns. get_or ns k d.0) heads ∙ get_or-map (λ (pair : ℕ × ℕ). pair.0) others k d d.0 also in
    let second : (get_or pairs k d).1 ≡ (get_or others k d).1 =
    one_closer kinds (get_or others k d).0 (get_or pairs k d).1 (get_or others k d).1 (subst (λ (opener : ℕ). IsCloserOf kinds opener (get_or pairs k d).1) first (a.closers k d below)) (b.closers k d also) in
    same_pair (get_or pairs k d) (get_or others k d) first second)

-- no line opens and closes
not_both : (kind : LineKind) → is_closer kind ≡ true → is_opener kind ≡ true → ⊥
not_both (Close any names) closes opens = true≢false (sym opens)
not_both (Begin negated any names) closes opens = true≢false (sym closes)
not_both Plain closes opens = true≢false (sym closes)
not_both Comment closes opens = true≢false (sym closes)
not_both Other closes opens = true≢false (sym closes)
not_both (OneLine negated any names from to) closes opens = true≢false (sym closes)
not_both (Chapter file) closes opens = true≢false (sym closes)
not_both (Api name) closes opens = true≢false (sym closes)
not_both (Validity name) closes opens = true≢false (sym closes)
not_both (Refpage name) closes opens = true≢false (sym closes)

unbalanced_one : (kinds : List LineKind) (line other : ℕ) → IsFirstFault kinds (cond.Unbalanced line) → IsFirstFault kinds (cond.Unbalanced other) → line ≡ other
unbalanced_one kinds line other (inl a) (inl b) =
    elim (cases_order line other) [
      | inl same ↦ same
      | inr (inl low) ↦ absurd (b.1 line low (inl a.0))
      | inr (inr high) ↦ absurd (a.1 other high (inl b.0))
    ]
unbalanced_one kinds line other (inl a) (inr b) = absurd (b.faultless line (within_kinds is_closer kinds line refl a.0.closes) (inl a.0))
unbalanced_one kinds line other (inr a) (inl b) = absurd (a.faultless other (within_kinds is_closer kinds other refl b.0.closes) (inl b.0))
unbalanced_one kinds line other (inr a) (inr b) =
    elim (cases_order line other) [
      | inl same ↦ same
      | inr (inl low) ↦ absurd (b.first line low a.left)
      | inr (inr high) ↦ absurd (a.first other high b.left)
    ]

too_deep_one : (kinds : List LineKind) (line other : ℕ) → IsFirstFault kinds (cond.CondDepth line) → IsFirstFault kinds (cond.CondDepth other) → line ≡ other
too_deep_one kinds line other a b =
    elim (cases_order line other) [
      | inl same ↦ same
      | inr (inl low) ↦ absurd (b.1 line low (inr a.0))
      | inr (inr high) ↦ absurd (a.1 other high (inr b.0))
    ]

one_or_other : (kinds : List LineKind) (line other : ℕ) → IsFirstFault kinds (cond.Unbalanced line) → IsFirstFault kinds (cond.CondDepth other) → ⊥
one_or_other kinds line other (inl a) b =
    elim (cases_order line other) [
      | inl same ↦ not_both (kind_at kinds line) a.0.closes (ap (λ n. is_opener (kind_at kinds n)) same ∙ b.0.opens)
      | inr (inl low) ↦ b.1 line low (inl a.0)
      | inr (inr high) ↦ a.1 other high (inr b.0)
    ]
one_or_other kinds line other (inr a) b = a.faultless other (within_kinds is_opener kinds other refl b.0.opens) (inr b.0)

-- ---- what lines come to

-- lines with a bad one come to that
pub reading-misspelled : (lines : List (List ℕ)) (number : ℕ) (reading : Reading) → IsFirstBad lines number → IsReading lines reading → reading ≡ Misspelled number
reading-misspelled lines number (Lines kinds pairs) bad is = absurd (bad_nowhere lines kinds is.0 bad.place bad.here)
reading-misspelled lines number (Misspelled other) bad is = ap Misspelled (first_bad_one lines other number is bad)
reading-misspelled lines number (Misnested other) bad is = absurd (bad_nowhere lines is.kinds is.kinds_are bad.place bad.here)
reading-misspelled lines number (TooNested other) bad is = absurd (bad_nowhere lines is.kinds is.kinds_are bad.place bad.here)

module _ (lines : List (List ℕ)) (kinds : List LineKind) (kinds_are : AllZip IsKind lines kinds) (only : (others : List LineKind) → AllZip IsKind lines others → kinds ≡ others) where
  -- lines that nest come to their kinds and pairs
  pub reading-lines : (pairs : List (ℕ × ℕ)) (reading : Reading) → ArePairs kinds pairs → IsReading lines reading → reading ≡ Lines kinds pairs
  reading-lines pairs (Lines others more) are is =
      let same : kinds ≡ others = only others is.0 in
      let alike : pairs ≡ more = one_pairs kinds pairs more are (subst (λ (ks : List LineKind). ArePairs ks more) (sym same) is.1) in
      cc
  reading-lines pairs (Misspelled number) are is = absurd (bad_nowhere lines kinds kinds_are is.place is.here)
  reading-lines pairs (Misnested number) are is =
      absurd (balanced kinds pairs are is.place (subst (λ (ks : List LineKind). IsFirstFault ks (cond.Unbalanced is.place)) (sym (only is.kinds is.kinds_are)) is.is))
  reading-lines pairs (TooNested number) are is =
      absurd (shallow kinds pairs are is.place (subst (λ (ks : List LineKind). IsFirstFault ks (cond.CondDepth is.place)) (sym (only is.kinds is.kinds_are)) is.is))

  -- lines that don't close come to the first fault
  pub reading-misnested : (place number : ℕ) (reading : Reading) → number ≡ place + 1 → IsFirstFault kinds (cond.Unbalanced place) → IsReading lines reading → reading ≡ Misnested number
  reading-misnested place number (Lines others more) numbered fault is =
      absurd (balanced kinds more (subst (λ (ks : List LineKind). ArePairs ks more) (sym (only others is.0)) is.1) place fault)
  reading-misnested place number (Misspelled other) numbered fault is = absurd (bad_nowhere lines kinds kinds_are is.place is.here)
  reading-misnested place number (Misnested other) numbered fault is =
      let here = subst (λ (ks : List LineKind). IsFirstFault ks (cond.Unbalanced is.place)) (sym (only is.kinds is.kinds_are)) is.is in
      ap Misnested (is.numbered ∙ ap (λ n. n + 1) (unbalanced_one kinds is.place place here fault) ∙ sym numbered)
  reading-misnested place number (TooNested other) numbered fault is =
      absurd (one_or_other kinds place is.place fault (subst (λ (ks : List LineKind). IsFirstFault ks (cond.CondDepth is.place)) (sym (only is.kinds is.kinds_are)) is.is))

  -- and so do lines that are too deep
  pub reading-too_nested : (place number : ℕ) (reading : Reading) → number ≡ place + 1 → IsFirstFault kinds (cond.CondDepth place) → IsReading lines reading → reading ≡ TooNested number
  reading-too_nested place number (Lines others more) numbered fault is =
      absurd (shallow kinds more (subst (λ (ks : List LineKind). ArePairs ks more) (sym (only others is.0)) is.1) place fault)
  reading-too_nested place number (Misspelled other) numbered fault is = absurd (bad_nowhere lines kinds kinds_are is.place is.here)
  reading-too_nested place number (Misnested other) numbered fault is =
      absurd (one_or_other kinds is.place place (subst (λ (ks : List LineKind). IsFirstFault ks (cond.Unbalanced is.place)) (sym (only is.kinds is.kinds_are)) is.is) fault)
  reading-too_nested place number (TooNested other) numbered fault is =
      let here = subst (λ (ks : List LineKind). IsFirstFault ks (cond.CondDepth is.place)) (sym (only is.kinds is.kinds_are)) is.is in
      ap TooNested (is.numbered ∙ ap (λ n. n + 1) (too_deep_one kinds is.place place here fault) ∙ sym numbered)
