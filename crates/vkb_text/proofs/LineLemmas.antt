-- Lines, cut off one at a time from the front of a text.
use Rattle.std.proofs.Math.Numerals.{add-one}
use Rattle.std.proofs.Common.{inl, inr, ◌≡◌, ℕ, zero, suc, ◌+◌, ◌<◌, ◌≤◌, Bool, true, false, ◌||◌, eqb, List, [], ◌∷◌, ◌++◌, length, take, drop, get_or, cond, All, refl, sym, ap, ◌∙◌, append_assoc, true≢false, arith}
use Rattle.std.proofs.lemmas.Bool.{cases_Bool}
use Rattle.std.proofs.lemmas.Bool.Decides.{Decides-eqb}
use Rattle.std.proofs.lemmas.List.Elements.{All-nil, All-cons, All-head, All-tail}
use Rattle.std.specs.List.{flat_map, list_any}
use Rattle.vkb_text.specs.Lines.{lines_of, is_line_feed, ends_a_line}
use Rattle.std.specs.List.{onto_first}

-- a line that ends at the first line feed
pub lines_of-fed : (text : List ℕ) (end : ℕ) → end < length text → eqb (get_or text end 0) 10 ≡ true → ((k : ℕ) → k < end → eqb (get_or text k 0) 10 ≡ false)
    → lines_of text ≡ take end text ∷ lines_of (drop (end + 1) text)
lines_of-fed [] end within here before = absurd (omega arith)
lines_of-fed (b ∷ bs) zero within here before = rw here refl
lines_of-fed (b ∷ bs) (suc end) within here before =
    let first : eqb b 10 ≡ false = before 0 (omega arith) in
    let rest = lines_of-fed bs end (omega arith) here (λ k below. before (suc k) (omega arith)) in
    rw (first, add-one) (ap (onto_first b) (rest ∙ ap (λ n. take end bs ∷ lines_of (drop n bs)) (add-one end)))

-- a text with no line feed is one line
pub lines_of-unfed : (text : List ℕ) → 0 < length text → ((k : ℕ) → k < length text → eqb (get_or text k 0) 10 ≡ false) → lines_of text ≡ text ∷ []
lines_of-unfed [] some none = absurd (omega arith)
lines_of-unfed (b ∷ []) some none = rw (none 0 (omega arith)) refl
lines_of-unfed (b ∷ c ∷ bs) some none =
    let first : eqb b 10 ≡ false = none 0 (omega arith) in
    rw first (ap (onto_first b) (lines_of-unfed (c ∷ bs) (omega arith) (λ k below. none (suc k) (omega arith))))

pub is_false : (b : Bool) → (b ≡ true → ⊥) → b ≡ false
is_false true h = absurd (h refl)
is_false false h = refl

length-onto_first : (byte : ℕ) (lines : List (List ℕ)) → length (onto_first byte lines) ≤ length lines + 1
length-onto_first byte [] = omega arith
length-onto_first byte (line ∷ lines) = omega arith

-- a line takes a byte at least
pub lines_few : (text : List ℕ) → length (lines_of text) ≤ length text
lines_few [] = omega arith
lines_few (b ∷ bs) =
    let rest = lines_few bs in
    elim (cases_Bool (eqb b 10)) [ inl fed ↦ rw fed (omega arith) | inr plain ↦ rw plain (let more = length-onto_first b (lines_of bs) in omega arith) ]

-- no line has a line feed
abbrev unfed : List ℕ → Type 0
unfed line = list_any is_line_feed line ≡ false

unfed-onto_first : (byte : ℕ) (lines : List (List ℕ)) → eqb byte 10 ≡ false → All unfed lines → All unfed (onto_first byte lines)
unfed-onto_first byte [] plain all = All-cons unfed (byte ∷ []) [] (rw plain refl) (All-nil unfed)
unfed-onto_first byte (line ∷ lines) plain all = All-cons unfed (byte ∷ line) lines (rw plain (All-head unfed line lines all)) (All-tail unfed line lines all)

pub lines_unfed : (text : List ℕ) → All (λ line. list_any is_line_feed line ≡ false) (lines_of text)
lines_unfed [] = All-nil unfed
lines_unfed (b ∷ bs) =
    elim (cases_Bool (eqb b 10)) [
      | inl fed ↦ rw fed (All-cons unfed [] (lines_of bs) refl (lines_unfed bs))
      | inr plain ↦ rw plain (unfed-onto_first b (lines_of bs) plain (lines_unfed bs))
    ]

-- the lines, each with its line feed
abbrev fed : List (List ℕ) → List ℕ
fed lines = flat_map (λ line. line ++ 10 ∷ []) lines

fed-onto_first : (byte : ℕ) (first : List ℕ) (lines : List (List ℕ)) → fed (onto_first byte (first ∷ lines)) ≡ byte ∷ fed (first ∷ lines)
fed-onto_first byte first lines = refl

some_lines : (b : ℕ) (bs : List ℕ) → (first : List ℕ) × (lines : List (List ℕ)) × (lines_of (b ∷ bs) ≡ first ∷ lines)
some_lines b bs =
    elim (cases_Bool (eqb b 10)) [
      | inl fed ↦ ([], lines_of bs, rw fed refl)
      | inr plain ↦ elim (lines_of bs) as (λ ls. (first : List ℕ) × (lines : List (List ℕ)) × (cond (eqb b 10) ([] ∷ ls) (onto_first b ls) ≡ first ∷ lines)) [
        | [] ↦ (b ∷ [], [], rw plain refl)
        | line ∷ lines ↦ (b ∷ line, lines, rw plain refl)
      ]
    ]

-- a byte goes in front of either text
cond-cons : (ends : Bool) (byte : ℕ) (text : List ℕ) → byte ∷ cond ends text (text ++ 10 ∷ []) ≡ cond ends (byte ∷ text) (byte ∷ text ++ 10 ∷ [])
cond-cons true byte text = refl
cond-cons false byte text = refl

pub lines_joined : (text : List ℕ) → flat_map (λ line. line ++ 10 ∷ []) (lines_of text) ≡ cond (ends_a_line text) text (text ++ 10 ∷ [])
lines_joined [] = refl
lines_joined (b ∷ []) =
    elim (cases_Bool (eqb b 10)) [
      | inl is ↦ let same : b ≡ 10 = (Decides-eqb b 10).0 is in rw (is, same) refl
      | inr plain ↦ rw plain refl
    ]
lines_joined (b ∷ c ∷ bs) =
    let rest = lines_joined (c ∷ bs) in
    let some = some_lines c bs in
    elim (cases_Bool (eqb b 10)) [
      | inl is ↦
          let same : b ≡ 10 = (Decides-eqb b 10).0 is in
          rw is (ap (λ (t : List ℕ). 10 ∷ t) rest ∙ cond-cons (ends_a_line (c ∷ bs)) 10 (c ∷ bs) ∙ ap (λ (n : ℕ). cond (ends_a_line (c ∷ bs)) (n ∷ c ∷ bs) (n ∷ c ∷ bs ++ 10 ∷ [])) (sym same))
      | inr plain ↦
          rw plain (ap (λ (ls : List (List ℕ)). fed (onto_first b ls)) some.2 ∙ fed-onto_first b some.0 some.1 ∙ ap (λ (ls : List (List ℕ)). b ∷ fed ls) (sym some.2) ∙ ap (λ (t : List ℕ). b ∷ t) rest ∙ cond-cons (ends_a_line (c ∷ bs)) b (c ∷ bs))
    ]

or_false : (a b : Bool) → (a || b) ≡ false → (a ≡ false) × (b ≡ false)
or_false true b h = absurd (true≢false h)
or_false false b h = (refl, h)

-- a line with its line feed, at the front of a text
lines_of-front : (line rest : List ℕ) → unfed line → lines_of (line ++ 10 ∷ rest) ≡ line ∷ lines_of rest
lines_of-front [] rest plain = refl
lines_of-front (b ∷ bs) rest plain =
    let parts = or_false (eqb b 10) (list_any is_line_feed bs) plain in
    let first : eqb b 10 ≡ false = parts.0 in
    rw first (ap (onto_first b) (lines_of-front bs rest parts.1))

lines_of-fed_lines : (lines : List (List ℕ)) → All unfed lines → lines_of (fed lines) ≡ lines
lines_of-fed_lines [] plain = refl
lines_of-fed_lines (line ∷ lines) plain =
    ap lines_of (append_assoc line (10 ∷ []) (fed lines))
    ∙ lines_of-front line (fed lines) (All-head unfed line lines plain)
    ∙ ap (λ (ls : List (List ℕ)). line ∷ ls) (lines_of-fed_lines lines (All-tail unfed line lines plain))

-- no other lines join to the text
pub lines_only : (text : List ℕ) (lines : List (List ℕ)) → All unfed lines → fed lines ≡ cond (ends_a_line text) text (text ++ 10 ∷ []) → lines ≡ lines_of text
lines_only text lines plain joined =
    sym (lines_of-fed_lines lines plain) ∙ ap lines_of (joined ∙ sym (lines_joined text)) ∙ lines_of-fed_lines (lines_of text) (lines_unfed text)
