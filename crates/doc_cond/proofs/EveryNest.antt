-- Every list of kinds nests up to a line, or has a fault before it.
use Rattle.std.proofs.Common.{◌≡◌, ◌≢◌, ◌++◌, ◌∷◌, [], ◌<◌, ◌≤◌, ◌+◌, ℕ, zero, suc, List, length, true, refl, ap, subst, arith, ◌⊎◌, ⊎_elim, inl, inr, set}
use Rattle.std.proofs.lemmas.Bool.{cases_Bool, cases_lt}
use Rattle.doc_cond.specs.declared.CondFault.{CondFault}
use Rattle.doc_cond.specs.declared.CondFault.TheVariants.{Unbalanced, CondDepth, Memory}
use Rattle.doc_cond.specs.declared.LineKind.{LineKind}
use Rattle.doc_cond.specs.declared.LineKind.TheVariants.{Begin, Close}
use Rattle.doc_cond.specs.Nesting.{ArePairs, IsFirstFault, Repeats, closes_at, kind_at, opens_at}
use Rattle.doc_cond.specs.Progress.{Nests, pair_at}
use Rattle.doc_cond.proofs.Choices.{bools_or_not, same_or_not, texts_or_not}
use Rattle.doc_cond.proofs.Counting.{Nests-close, Nests-open, Nests-other, all_pairs, closes_nothing, closes_others, first_left}

repeats_or_not : (opener closer : LineKind) → Repeats opener closer ⊎ (Repeats opener closer → ⊥)
repeats_or_not (Begin negated any names) (Close closed []) = inl tt
repeats_or_not (Begin negated any names) (Close closed (name ∷ more)) = ⊎_elim
    (λ same. ⊎_elim (λ rest. inl (same, rest)) (λ apart. inr (λ r. apart r.1)) (same_or_not texts_or_not (name ∷ more) names))
    (λ apart. inr (λ r. apart r.0))
    (bools_or_not closed any)
repeats_or_not opener closer = inr (λ r. r)

-- the last of a list, if there is one
last_or_none : (xs : List ℕ) → ((front : List ℕ) × (last : ℕ) × (xs ≡ front ++ last ∷ [])) ⊎ (xs ≡ [])
last_or_none [] = inr refl
last_or_none (x ∷ xs) = ⊎_elim
    (λ more. inl (x ∷ more.0, more.1, ap (λ (rest : List ℕ). x ∷ rest) more.2))
    (λ none. inl ([], x, ap (λ (rest : List ℕ). x ∷ rest) none))
    (last_or_none xs)

-- a fault that isn't want of memory
pub record HasFault (kinds : List LineKind) : Type 0 where
  pub fault : CondFault
  pub is_first : IsFirstFault kinds fault
  pub told : fault ≢ Memory

record NestsUpTo (kinds : List LineKind) (line : ℕ) : Type 0 where
  pub pairs : List (ℕ × ℕ)
  pub waiting : List ℕ
  pub nests : Nests kinds line pairs waiting

nests_at_first : (kinds : List LineKind) → Nests kinds 0 [] []
nests_at_first kinds = record {
  count = refl;
  openers = refl;
  slots = λ level below. absurd (omega arith);
  levels = λ level below. absurd (omega arith);
  settled = λ slot below. absurd (omega arith);
  each = λ opener below. absurd (omega arith);
  used = λ closer below. absurd (omega arith);
  faultless = λ line below. absurd (omega arith);
}

pass_opener : (kinds : List LineKind) (line : ℕ) → line < length kinds → (pairs : List (ℕ × ℕ)) (waiting : List ℕ) → Nests kinds line pairs waiting → opens_at kinds line ≡ true → NestsUpTo kinds (line + 1) ⊎ HasFault kinds
pass_opener kinds line within pairs waiting nests opens = ⊎_elim
    (λ room. inl (record { pairs = pairs ++ (line, 0) ∷ []; waiting = waiting ++ length pairs ∷ []; nests = Nests-open kinds line within pairs waiting nests opens room }))
    (λ full. inr (record { fault = CondDepth line; is_first = (record { opens = opens; deep = omega (arith, nests.count) }, nests.faultless); told = λ e. cc }))
    (cases_lt (length waiting) 64)

close_last : (kinds : List LineKind) (line : ℕ) → line < length kinds → (pairs : List (ℕ × ℕ)) (waiting : List ℕ) → Nests kinds line pairs waiting → closes_at kinds line ≡ true
    → (rest : List ℕ) (slot : ℕ) → waiting ≡ rest ++ slot ∷ [] → NestsUpTo kinds (line + 1) ⊎ HasFault kinds
close_last kinds line within pairs waiting nests closes rest slot top = ⊎_elim
    (λ repeats. inl (record { pairs = set pairs slot ((pair_at pairs slot).0, line); waiting = rest; nests = Nests-close kinds line within pairs waiting nests rest slot top closes repeats }))
    (λ differs. inr (record { fault = Unbalanced line; is_first = inl (closes_others kinds line within pairs waiting nests rest slot top closes differs, nests.faultless); told = λ e. cc }))
    (repeats_or_not (kind_at kinds (pair_at pairs slot).0) (kind_at kinds line))

pass_closer : (kinds : List LineKind) (line : ℕ) → line < length kinds → (pairs : List (ℕ × ℕ)) (waiting : List ℕ) → Nests kinds line pairs waiting → closes_at kinds line ≡ true → NestsUpTo kinds (line + 1) ⊎ HasFault kinds
pass_closer kinds line within pairs waiting nests closes = ⊎_elim
    (λ last. close_last kinds line within pairs waiting nests closes last.0 last.1 last.2)
    (λ none. inr (record { fault = Unbalanced line; is_first = inl (closes_nothing kinds line within pairs waiting nests none closes, nests.faultless); told = λ e. cc }))
    (last_or_none waiting)

pass : (kinds : List LineKind) (line : ℕ) → line < length kinds → NestsUpTo kinds line → NestsUpTo kinds (line + 1) ⊎ HasFault kinds
pass kinds line within so = ⊎_elim
    (λ opens. pass_opener kinds line within so.pairs so.waiting so.nests opens)
    (λ no_opener. ⊎_elim
    (λ closes. pass_closer kinds line within so.pairs so.waiting so.nests closes)
    (λ no_closer. inl (record { pairs = so.pairs; waiting = so.waiting; nests = Nests-other kinds line within so.pairs so.waiting so.nests no_opener no_closer }))
    (cases_Bool (closes_at kinds line)))
    (cases_Bool (opens_at kinds line))

pass_all : (kinds : List LineKind) (line : ℕ) → line ≤ length kinds → NestsUpTo kinds line ⊎ HasFault kinds
pass_all kinds zero within = inl (record { pairs = []; waiting = []; nests = nests_at_first kinds })
pass_all kinds (suc line) within = ⊎_elim
    (λ so. let next : line + 1 ≡ suc line = omega arith in subst (λ (n : ℕ). NestsUpTo kinds n ⊎ HasFault kinds) next (pass kinds line (omega arith) so))
    (λ fault. inr fault)
    (pass_all kinds line (omega arith))

at_end : (kinds : List LineKind) (pairs : List (ℕ × ℕ)) (waiting : List ℕ) → Nests kinds (length kinds) pairs waiting → ((pairs : List (ℕ × ℕ)) × ArePairs kinds pairs) ⊎ HasFault kinds
at_end kinds pairs [] nests = inl (pairs, all_pairs kinds pairs [] nests refl)
at_end kinds pairs (slot ∷ waiting) nests = inr (record { fault = Unbalanced (pair_at pairs slot).0; is_first = inr (first_left kinds pairs (slot ∷ waiting) nests (omega arith)); told = λ e. cc })

-- every list of kinds has its pairs or a first fault
pub pairs_or_fault : (kinds : List LineKind) → ((pairs : List (ℕ × ℕ)) × ArePairs kinds pairs) ⊎ ((fault : CondFault) × IsFirstFault kinds fault × (fault ≢ Memory))
pairs_or_fault kinds = ⊎_elim
    (λ so. ⊎_elim (λ are. inl are) (λ f. inr (f.fault, f.is_first, f.told)) (at_end kinds so.pairs so.waiting so.nests))
    (λ f. inr (f.fault, f.is_first, f.told))
    (pass_all kinds (length kinds) (omega arith))
