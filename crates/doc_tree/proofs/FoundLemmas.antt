-- Each file is found as one source, and as one alone.
use Rattle.std.proofs.Common.{inl, inr, ◌≡◌, ◌≢◌, ◌⊎◌, ℕ, zero, suc, ◌+◌, ◌<◌, List, [], ◌∷◌, length, Option, Some, None, refl, sym, subst, arith}
use Rattle.std.specs.List.{AllZip}
use Rattle.std.proofs.lemmas.Bool.{cases_lt}
use Rattle.vkb_outside.specs.Shelf.{Files}
use Rattle.vkb_text.specs.Lines.{lines_of}
use Rattle.doc_cond.specs.Lines.{IsBadCondition, IsKind, bare}
use Rattle.doc_cond.specs.Nesting.{ArePairs, IsFirstFault}
use Rattle.doc_cond.specs.declared.CondFault.{CondFault}
use Rattle.doc_cond.specs.declared.CondFault.TheVariants as cond
use Rattle.doc_cond.specs.declared.LineKind.{LineKind}
use Rattle.doc_tree.specs.Sources.{AreSources, IsBadAt, IsFirstBad, IsReading, IsSource, Reading, Lines, Misspelled, Misnested, TooNested, Source, Absent, Long, Held, Sources, most_bytes}

-- each line has a kind or is bad
abbrev pub LinesAreRead : Type 0
LinesAreRead = (line : List ℕ) → ((kind : LineKind) × IsKind line kind) ⊎ IsBadCondition (bare line)

-- each list of kinds has its pairs or a fault
abbrev pub ListsArePaired : Type 0
ListsArePaired = (kinds : List LineKind) → ((pairs : List (ℕ × ℕ)) × ArePairs kinds pairs) ⊎ ((fault : CondFault) × IsFirstFault kinds fault × (fault ≢ cond.Memory))

-- a line that has a kind isn't bad
kind_not_bad : (line : List ℕ) (kind : LineKind) → IsKind line kind → IsBadCondition (bare line) → ⊥
kind_not_bad line kind is bad = bad.unspelled kind is

-- the first bad line of more lines, behind one that has a kind
behind : (line : List ℕ) (lines : List (List ℕ)) (kind : LineKind) → IsKind line kind → (number : ℕ) → IsFirstBad lines number → IsFirstBad (line ∷ lines) (number + 1)
behind line lines kind is number bad = record {
  place = suc bad.place;
  numbered = let n = bad.numbered in omega arith;
  here = bad.here;
  first = λ before earlier. not_earlier before earlier;
}
  where
    not_earlier : (before : ℕ) → before < suc bad.place → ¬ IsBadAt (line ∷ lines) before
    not_earlier zero earlier there = let same : line ≡ there.0 = cc in kind_not_bad line kind is (subst (λ (l : List ℕ). IsBadCondition (bare l)) (sym same) there.2)
    not_earlier (suc before) earlier there = bad.first before (omega arith) there

-- lines each have a kind, or one of them is the first that is bad
read_all : LinesAreRead → (lines : List (List ℕ)) → ((kinds : List LineKind) × AllZip IsKind lines kinds) ⊎ ((number : ℕ) × IsFirstBad lines number)
read_all read [] = inl ([], tt)
read_all read (line ∷ lines) =
    elim (read line) [
      | inr bad ↦ inr (1, record { place = 0; numbered = refl; here = (line, refl, bad); first = λ before earlier. absurd (omega arith) })
      | inl found ↦ elim (read_all read lines) [
        | inl rest ↦ inl (found.0 ∷ rest.0, (found.1, rest.1))
        | inr bad ↦ inr (bad.0 + 1, behind line lines found.0 found.1 bad.0 bad.1)
      ]
    ]

-- what lines of these kinds come to
paired : ListsArePaired → (lines : List (List ℕ)) (kinds : List LineKind) → AllZip IsKind lines kinds → (reading : Reading) × IsReading lines reading
paired pair lines kinds are =
    elim (pair kinds) [
      | inl found ↦ (Lines kinds found.0, (are, found.1))
      | inr fault ↦ faulty fault.0 fault.1 fault.2
    ]
  where
    faulty : (fault : CondFault) → IsFirstFault kinds fault → fault ≢ cond.Memory → (reading : Reading) × IsReading lines reading
    faulty (cond.Unbalanced place) first apart = (Misnested (place + 1), record { kinds = kinds; kinds_are = are; place = place; numbered = refl; is = first })
    faulty (cond.CondDepth place) first apart = (TooNested (place + 1), record { kinds = kinds; kinds_are = are; place = place; numbered = refl; is = first })
    faulty cond.BadCondition first apart = absurd first
    faulty cond.Memory first apart = absurd (apart refl)

reading_of : LinesAreRead → ListsArePaired → (lines : List (List ℕ)) → (reading : Reading) × IsReading lines reading
reading_of read pair lines =
    elim (read_all read lines) [
      | inl found ↦ paired pair lines found.0 found.1
      | inr bad ↦ (Misspelled bad.0, bad.1)
    ]

source_of : LinesAreRead → ListsArePaired → (found : Option (List ℕ)) → (source : Source) × IsSource found source
source_of read pair None = (Absent, refl)
source_of read pair (Some bytes) =
    elim (cases_lt most_bytes (length bytes)) [
      | inl long ↦ (Long, long)
      | inr short ↦ let reading = reading_of read pair (lines_of bytes) in (Held bytes reading.0, (refl, short, reading.1))
    ]

pub have_sources : LinesAreRead → ListsArePaired → (files : Files) → (sources : Sources) × AreSources files sources
have_sources read pair files = (λ name. (source_of read pair (files name)).0, λ name. (source_of read pair (files name)).1)
