-- The lines of a text that is made of lines.
use Rattle.std.proofs.Common.{◌≡◌, ◌⊎◌, ℕ, ◌<◌, false, eqb, List, [], ◌∷◌, ◌++◌, Option, length, drop, get_or, refl, sym, ap, ◌∙◌, inl, inr, codes, append_assoc, append-nil, arith}
use Rattle.std.proofs.lemmas.Bool.{cases_Bool}
use Rattle.std.proofs.lemmas.Bool.Decides.{Decides-eqb}
use Rattle.std.specs.List.{list_any, onto_first}
use Rattle.vu_tags.specs.Lines.{bullet, is_line_feed, lines_of}
use Rattle.vu_tags.proofs.FrontLemmas.{feed_stops, fronts_cut, fronts_none, fronts_of, any_parts}

-- a line with its line feed
pub record IsFed (line : List ℕ) : Type 0 where
  pub text : List ℕ
  pub no_feed : list_any is_line_feed text ≡ false
  pub line_is : line ≡ text ++ 10 ∷ []

-- the last line, where it has none
pub record IsUnfed (line : List ℕ) : Type 0 where
  pub no_feed : list_any is_line_feed line ≡ false
  pub some : 0 < length line

-- the line ends before the rest
abbrev pub IsEnded : {X : Type 0} → List ℕ → List X → Type 0
IsEnded {X} line rest = IsFed line ⊎ (IsUnfed line × (rest ≡ []))

abbrev pub AreLines : List (List ℕ) → Type 0
AreLines [] = Unit {0}
AreLines (line ∷ after) = IsEnded line after × AreLines after

ended_more : (b : ℕ) (line : List ℕ) (after : List (List ℕ)) → eqb b 10 ≡ false → IsEnded line after → IsEnded (b ∷ line) after
ended_more b line after plain (inl fed) = inl (record { text = b ∷ fed.text; no_feed = rw plain fed.no_feed; line_is = ap (λ (bytes : List ℕ). b ∷ bytes) fed.line_is })
ended_more b line after plain (inr last) = inr (record { no_feed = rw plain last.0.no_feed; some = omega arith }, last.1)

first_more : (b : ℕ) (lines : List (List ℕ)) → eqb b 10 ≡ false → AreLines lines → AreLines (onto_first b lines)
first_more b [] plain so = (inr (record { no_feed = rw plain refl; some = omega arith }, refl), tt)
first_more b (line ∷ after) plain so = (ended_more b line after plain so.0, so.1)

pub are_lines : (text : List ℕ) → AreLines (lines_of text)
are_lines [] = tt
are_lines (b ∷ text) =
    elim (cases_Bool (eqb b 10)) [
      | inl fed ↦
          let same : b ≡ 10 = (Decides-eqb b 10).0 fed in
          rw fed (inl (record { text = []; no_feed = refl; line_is = ap (λ (c : ℕ). c ∷ []) same }), are_lines text)
      | inr plain ↦ rw plain (first_more b (lines_of text) plain (are_lines text))
    ]

lines_fed : (text rest : List ℕ) → list_any is_line_feed text ≡ false → lines_of (text ++ 10 ∷ rest) ≡ (text ++ 10 ∷ []) ∷ lines_of rest
lines_fed [] rest none = refl
lines_fed (b ∷ text) rest none = let parts = any_parts is_line_feed b text none in rw parts.0 (ap (onto_first b) (lines_fed text rest parts.1))

lines_unfed : (text : List ℕ) → list_any is_line_feed text ≡ false → 0 < length text → lines_of text ≡ text ∷ []
lines_unfed [] none some = absurd (omega arith)
lines_unfed (b ∷ []) none some = rw (any_parts is_line_feed b [] none).0 refl
lines_unfed (b ∷ c ∷ text) none some = let parts = any_parts is_line_feed b (c ∷ text) none in rw parts.0 (ap (onto_first b) (lines_unfed (c ∷ text) parts.1 (omega arith)))

pub ended_lines : (line rest : List ℕ) → IsEnded line rest → lines_of (line ++ rest) ≡ line ∷ lines_of rest
ended_lines line rest (inl fed) =
    ap (λ (l : List ℕ). lines_of (l ++ rest)) fed.line_is
    ∙ ap lines_of (append_assoc fed.text (10 ∷ []) rest)
    ∙ lines_fed fed.text rest fed.no_feed
    ∙ ap (λ (l : List ℕ). l ∷ lines_of rest) (sym fed.line_is)
ended_lines line rest (inr last) =
    ap (λ (bytes : List ℕ). lines_of (line ++ bytes)) last.1 ∙ ap lines_of (append-nil line) ∙ lines_unfed line last.0.no_feed last.0.some
    ∙ ap (λ (bytes : List ℕ). line ∷ lines_of bytes) (sym last.1)

pub ended_fronts : (line rest : List ℕ) → IsEnded line rest → fronts_of (line ++ rest) ≡ fronts_of line ++ fronts_of rest
ended_fronts line rest (inl fed) =
    let alone : fronts_of line ≡ fronts_of fed.text =
    ap fronts_of fed.line_is ∙ fronts_cut 10 fed.text [] feed_stops ∙ ap (λ (o : List (Option (List ℕ))). fronts_of fed.text ++ o) fronts_none ∙ append-nil (fronts_of fed.text) in
    ap (λ (l : List ℕ). fronts_of (l ++ rest)) fed.line_is
    ∙ ap fronts_of (append_assoc fed.text (10 ∷ []) rest)
    ∙ fronts_cut 10 fed.text rest feed_stops
    ∙ ap (λ (fronts : List (Option (List ℕ))). fronts ++ fronts_of rest) (sym alone)
ended_fronts line rest (inr last) =
    ap (λ (bytes : List ℕ). fronts_of (line ++ bytes)) last.1
    ∙ ap fronts_of (append-nil line)
    ∙ sym (append-nil (fronts_of line))
    ∙ ap (λ (o : List (Option (List ℕ))). fronts_of line ++ o) (sym fronts_none)
    ∙ ap (λ (bytes : List ℕ). fronts_of line ++ fronts_of bytes) (sym last.1)

-- a line that ends where the rest of the lines does
pub ended_before : {X Y : Type 0} (line : List ℕ) (after : List X) (rest : List Y) → (after ≡ [] → rest ≡ []) → IsEnded line after → IsEnded line rest
ended_before line after rest none (inl fed) = inl fed
ended_before line after rest none (inr last) = inr (last.0, none last.1)

-- what stands behind a bullet, behind spaces in its place
module _ {X : Type 0} (behind : List ℕ) (rest : List X) where
  fed_behind : (text : List ℕ) → list_any is_line_feed text ≡ false → bullet ++ behind ≡ text ++ 10 ∷ [] → IsFed (codes "    " ++ behind)
  fed_behind [] none is = let short = ap length is in absurd (omega (arith, short))
  fed_behind (a ∷ []) none is = let short = ap length is in absurd (omega (arith, short))
  fed_behind (a ∷ b ∷ []) none is = let short = ap length is in absurd (omega (arith, short))
  fed_behind (a ∷ b ∷ c ∷ []) none is = absurd (omega (arith, ap (λ (bytes : List ℕ). get_or bytes 3 0) is))
  fed_behind (a ∷ b ∷ c ∷ d ∷ text) none is =
      let first = (any_parts is_line_feed a (b ∷ c ∷ d ∷ text) none).1 in
      let second = (any_parts is_line_feed b (c ∷ d ∷ text) first).1 in
      let third = (any_parts is_line_feed c (d ∷ text) second).1 in
      let left = (any_parts is_line_feed d text third).1 in
      record { text = codes "    " ++ text; no_feed = left; line_is = ap (λ (bytes : List ℕ). codes "    " ++ drop 4 bytes) is }

  pub ended_behind : IsEnded (bullet ++ behind) rest → IsEnded (codes "    " ++ behind) rest
  ended_behind (inl fed) = inl (fed_behind fed.text fed.no_feed fed.line_is)
  ended_behind (inr last) = inr (record { no_feed = last.0.no_feed; some = omega arith }, last.1)
