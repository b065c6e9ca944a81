-- A place gives a mark exactly where the rule says that one begins there.
use Rattle.std.proofs.Common.{◌≡◌, ◌≢◌, ◌⊎◌, ℕ, ◌+◌, ◌<◌, Bool, true, false, ◌||◌, cond, eqb, List, Option, Some, None, length, get_or, drop, refl, sym, ap, ◌∙◌, inl, inr, arith, add-zero, codes}
use Rattle.std.specs.Prelude.{Contains, option_map, unwrap_or}
use Rattle.std.specs.List.{prefix_len}
use Rattle.std.proofs.lemmas.Bool.{cases_Bool, cond-true, cond-false, eqb-false, ne_eqb, or_parts, or_from, or_cases, or_left, or_right, false_from_ne_true, cases_order}
use Rattle.std.proofs.lemmas.Bool.Decides.{Decides-eqb}
use Rattle.std.proofs.lemmas.List.{drop-drop}
use Rattle.std.proofs.lemmas.Slice.Eq.{starts_is}
use Rattle.vkb_bytes.specs.Bytes.{begins, is_word_byte}
use Rattle.doc_marks.specs.declared.Mark.{Mark}
use Rattle.doc_marks.specs.Ids.{id_len}
use Rattle.doc_marks.specs.Marks.{comes_after, is_backslash, macro_names, macro_len, closed_id_len, mark_with, mark_at}
use Rattle.doc_marks.specs.Spelling.{StandsAt, IsId, IsWord, IsBracketed, IsMacro, IsMarkOf}
use Rattle.doc_marks.proofs.PlaceLemmas.{MacroAt, mark_at-chosen, has_name, begins_is, find_some, find_known, macro_from_name, picked, reads_text}
use Rattle.doc_marks.proofs.SearchLemmas.{letter_bounds}
use Rattle.doc_marks.proofs.SpellingLemmas.{id_is, id_counted, word_is, word_counted, part_from_len, len_from_part}

pub stands_from_begins : (line text : List ℕ) (place : ℕ) → begins (drop place line) text ≡ true → StandsAt line place text
stands_from_begins line text place e = (drop (length text) (drop place line), begins_is (drop place line) text e)

pub begins_from_stands : (line text : List ℕ) (place : ℕ) → StandsAt line place text → begins (drop place line) text ≡ true
begins_from_stands line text place h = (starts_is Decides-eqb (drop place line) text _ refl).1 h.0 h.1

mark_with_some : (anchor : Bool) (place from len : ℕ) (m : Mark) → mark_with anchor place from len ≡ Some m → (0 < len) × (record { anchor = anchor; at = place; from = from; to = from + len } ≡ m)
unfolding mark_with
mark_with_some anchor place from len m e =
    elim (picked (eqb len 0) None _ (Some m) e) [
      | inl h ↦ let wrong = h.1 in cc
      | inr h ↦ (omega (arith, eqb-false len 0 h.0), let same = h.1 in cc)
    ]

closed_id_parts : (close bytes : List ℕ) → 0 < closed_id_len close bytes → (closed_id_len close bytes ≡ id_len bytes) × ((begins (drop (id_len bytes) bytes) close ≡ true) ⊎ (begins (drop (id_len bytes) bytes) (codes ",") ≡ true))
unfolding closed_id_len
closed_id_parts close bytes more =
    let test : Bool = begins (drop (id_len bytes) bytes) close || begins (drop (id_len bytes) bytes) (codes ",") in
    elim (cases_Bool test) [
      | inl passes ↦ (cond-true test _ _ passes, or_cases (begins (drop (id_len bytes) bytes) close) _ passes)
      | inr fails ↦ absurd (omega (arith, cond-false test (id_len bytes) 0 fails))
    ]

-- the mark of two brackets
abbrev bracket_mark_of : Bool → ℕ → ℕ → Mark
bracket_mark_of anchor place len = record { anchor = anchor; at = place; from = place + 2; to = (place + 2) + len }

bracketed_is : (anchor : Bool) (open_text close_text line : List ℕ) (place len : ℕ) → begins (drop place line) open_text ≡ true → length open_text ≡ 2 → len ≡ closed_id_len close_text (drop 2 (drop place line)) → 0 < len → IsBracketed open_text close_text line (bracket_mark_of anchor place len)
bracketed_is anchor open_text close_text line place len begun two e more =
    let from : ℕ = place + 2 in
    let bytes : List ℕ = drop from line in
    let closes : len ≡ closed_id_len close_text bytes = rw drop-drop at e in
    let parts = closed_id_parts close_text bytes (omega arith) in
    let len_is : len ≡ id_len bytes = closes ∙ parts.0 in
    let id = id_is bytes (omega arith) in
    let after : drop (id_len bytes) bytes ≡ drop (from + len) line = drop-drop (id_len bytes) from line ∙ ap (λ n. drop (from + n) line) (sym len_is) in
    record {
      opened = stands_from_begins line open_text place begun;
      id_follows = omega arith;
      id_is = part_from_len IsId line from len more (omega arith) (rw len_is id.1) (λ n fits h. omega (arith, id_counted bytes n fits h));
      closed = elim parts.1 [
        | inl h ↦ inl (stands_from_begins line close_text (from + len) (rw after at h))
        | inr h ↦ inr (stands_from_begins line (codes ",") (from + len) (rw after at h))
      ];
    }

same_parts : (anchor anchor' : Bool) (place from to from' to' : ℕ) → anchor ≡ anchor' → from ≡ from' → to ≡ to' → ◌≡◌ {A = Mark} (record { anchor = anchor; at = place; from = from; to = to }) (record { anchor = anchor'; at = place; from = from'; to = to' })
same_parts anchor anchor' place from to from' to' d e f = cc

same_mark : (anchor : Bool) (from to : ℕ) (m : Mark) → m.anchor ≡ anchor → m.from ≡ from → m.to ≡ to → record { anchor = anchor; at = m.at; from = from; to = to } ≡ m
same_mark anchor from to m e f g = same_parts anchor m.anchor m.at from to m.from m.to (sym e) (sym f) (sym g)

mark_with_from : (anchor : Bool) (place from len : ℕ) → 0 < len → mark_with anchor place from len ≡ Some (record { anchor = anchor; at = place; from = from; to = from + len })
unfolding mark_with
mark_with_from anchor place from len more = cond-false (eqb len 0) None _ (ne_eqb len 0 (λ zero_is. omega arith))

closed_from_begins : (close bytes : List ℕ) → (begins (drop (id_len bytes) bytes) close ≡ true) ⊎ (begins (drop (id_len bytes) bytes) (codes ",") ≡ true) → closed_id_len close bytes ≡ id_len bytes
unfolding closed_id_len
closed_from_begins close bytes (inl h) = cond-true _ (id_len bytes) 0 (or_left _ _ h)
closed_from_begins close bytes (inr h) = cond-true _ (id_len bytes) 0 (or_right (begins (drop (id_len bytes) bytes) close) _ h)

bracketed_gives : (anchor : Bool) (open_text close_text line : List ℕ) (m : Mark) → m.anchor ≡ anchor → length open_text ≡ 2 → IsBracketed open_text close_text line m → mark_with anchor m.at (m.at + 2) (closed_id_len close_text (drop 2 (drop m.at line))) ≡ Some m
bracketed_gives anchor open_text close_text line m anchor_is two h =
    let from : ℕ = m.at + 2 in
    let bytes : List ℕ = drop from line in
    let from_is : m.from ≡ from = omega (arith, h.id_follows) in
    let to_is : m.to ≡ from + id_len bytes =
    len_from_part IsId line from m.to (id_len bytes) (id_is bytes) (id_counted bytes) (rw from_is at h.id_is) in
    let more : 0 < id_len bytes = omega (arith, h.id_is.has_bytes) in
    let after : drop (id_len bytes) bytes ≡ drop m.to line = drop-drop (id_len bytes) from line ∙ ap (λ n. drop n line) (sym to_is) in
    let closes : closed_id_len close_text bytes ≡ id_len bytes = closed_from_begins close_text bytes (elim h.closed [
      | inl t ↦ inl (rw after (begins_from_stands line close_text m.to t))
      | inr t ↦ inr (rw after (begins_from_stands line (codes ",") m.to t))
    ]) in
    rw (drop-drop 2 m.at line, closes, mark_with_from anchor m.at from (id_len bytes) more)
    (ap Some (same_mark anchor from (from + id_len bytes) m anchor_is from_is to_is))

-- a macro's name at a place is the one whose length is found
two_names : (line : List ℕ) (place : ℕ) (g h : MacroAt line place) → g.letters < h.letters → ⊥
two_names line place g h less =
    elim (letter_bounds (get_or line (place + g.letters) 0) (h.are_letters g.letters less)) [
      | inl bounds ↦ omega (arith, g.colon)
      | inr bounds ↦ omega (arith, g.colon)
    ]

macro_len-name : (line name : List ℕ) (place : ℕ) → Contains macro_names name → begins (drop place line) name ≡ true → comes_after is_word_byte line place ≡ false → (macro_len (drop place line) ≡ length name) × (h : MacroAt line place) × (h.letters + 1 ≡ length name)
unfolding macro_len
macro_len-name line name place known begun first =
    let here : List ℕ = drop place line in
    let found = find_known (begins here) macro_names name known begun in
    let other = find_some (begins here) macro_names found.0 found.1 in
    let g = macro_from_name line found.0 place other.0 other.1 first in
    let h = macro_from_name line name place known begun first in
    let same : length found.0 ≡ length name =
    elim (cases_order g.0.letters h.0.letters) [
      | inl e ↦ omega (arith, g.1, h.1)
      | inr apart ↦ elim apart [
        | inl less ↦ absurd (two_names line place g.0 h.0 less)
        | inr more ↦ absurd (two_names line place h.0 g.0 more)
      ]
    ]
    in
    (ap (λ (o : Option (List ℕ)). unwrap_or (option_map length o) 0) found.1 ∙ same, h.0, h.1)

macro_is : (line : List ℕ) (place len : ℕ) → comes_after is_word_byte line place ≡ false → eqb (macro_len (drop place line)) 0 ≡ false → len ≡ prefix_len is_word_byte (drop (macro_len (drop place line)) (drop place line)) → 0 < len → IsMacro line (record { anchor = false; at = place; from = place + macro_len (drop place line); to = (place + macro_len (drop place line)) + len })
macro_is line place len first named e more =
    let name_len : ℕ = macro_len (drop place line) in
    let found = has_name (drop place line) named in
    let from : ℕ = place + name_len in
    let bytes : List ℕ = drop from line in
    let len_is : len ≡ prefix_len is_word_byte bytes = rw drop-drop at e in
    let id = word_is bytes (omega arith) in
    record {
      name = found.name;
      is_known = found.known;
      named = stands_from_begins line found.name place found.begun;
      begins_word = first;
      id_follows = omega (arith, found.len_is);
      id_is = part_from_len IsWord line from len more (omega arith) (rw len_is id.1) (λ n fits h. omega (arith, word_counted bytes n fits h));
    }

macro_gives : (line : List ℕ) (m : Mark) (h : IsMacro line m) → m.anchor ≡ false → macro_len (drop m.at line) ≡ length h.name → mark_with false m.at (m.at + macro_len (drop m.at line)) (prefix_len is_word_byte (drop (macro_len (drop m.at line)) (drop m.at line))) ≡ Some m
macro_gives line m h anchor_is named =
    let name_len : ℕ = macro_len (drop m.at line) in
    let from : ℕ = m.at + name_len in
    let bytes : List ℕ = drop from line in
    let len : ℕ = prefix_len is_word_byte bytes in
    let from_is : m.from ≡ from = omega (arith, h.id_follows) in
    let to_is : m.to ≡ from + len =
    len_from_part IsWord line from m.to len (word_is bytes) (word_counted bytes) (rw from_is at h.id_is) in
    let more : 0 < len = omega (arith, h.id_is.has_bytes) in
    rw (drop-drop name_len m.at line, mark_with_from false m.at from len more)
    (ap Some (same_mark false from (from + len) m anchor_is from_is to_is))

-- what a place gives begins there
pub gives_mark : (line : List ℕ) (place : ℕ) (m : Mark) → mark_at line place ≡ Some m → IsMarkOf line m × (m.at ≡ place)
gives_mark line place m e =
    let chosen = mark_at-chosen line place m e in
    elim chosen.1 [
      | inl anchor ↦
          let len : ℕ = closed_id_len (codes "]]") (drop 2 (drop place line)) in
          let parts = mark_with_some true place (place + 2) len m anchor.1 in
          rw (← parts.1) (
            record {
              unescaped = chosen.0;
              kind = inl (refl, bracketed_is true (codes "[[") (codes "]]") line place len anchor.0 refl refl parts.0);
            },
            refl,
          )
      | inr other ↦ elim other [
        | inl link ↦
            let len : ℕ = closed_id_len (codes ">>") (drop 2 (drop place line)) in
            let parts = mark_with_some false place (place + 2) len m link.1 in
            rw (← parts.1) (
              record {
                unescaped = chosen.0;
                kind = inr (inl (refl, bracketed_is false (codes "<<") (codes ">>") line place len link.0 refl refl parts.0));
              },
              refl,
            )
        | inr named ↦
            let name_len : ℕ = macro_len (drop place line) in
            let len : ℕ = prefix_len is_word_byte (drop name_len (drop place line)) in
            let parts = mark_with_some false place (place + name_len) len m named.1 in
            let tests = or_parts (comes_after is_word_byte line place) (eqb name_len 0) named.0 in
            rw (← parts.1) (
              record {
                unescaped = chosen.0;
                kind = inr (inr (refl, macro_is line place len tests.0 tests.1 refl parts.0));
              },
              refl,
            )
      ]
    ]

-- the choices of a place, by what stands there
first_choice : (b₁ b₂ b₃ b₄ : Bool) (r₂ r₃ r₄ r : Option Mark) → b₁ ≡ false → b₂ ≡ true → r₂ ≡ r → cond b₁ None (cond b₂ r₂ (cond b₃ r₃ (cond b₄ None r₄))) ≡ r
first_choice b₁ b₂ b₃ b₄ r₂ r₃ r₄ r e₁ e₂ is = rw (e₁, e₂) is

second_choice : (b₁ b₂ b₃ b₄ : Bool) (r₂ r₃ r₄ r : Option Mark) → b₁ ≡ false → b₂ ≡ false → b₃ ≡ true → r₃ ≡ r → cond b₁ None (cond b₂ r₂ (cond b₃ r₃ (cond b₄ None r₄))) ≡ r
second_choice b₁ b₂ b₃ b₄ r₂ r₃ r₄ r e₁ e₂ e₃ is = rw (e₁, e₂, e₃) is

third_choice : (b₁ b₂ b₃ b₄ : Bool) (r₂ r₃ r₄ r : Option Mark) → b₁ ≡ false → b₂ ≡ false → b₃ ≡ false → b₄ ≡ false → r₄ ≡ r → cond b₁ None (cond b₂ r₂ (cond b₃ r₃ (cond b₄ None r₄))) ≡ r
third_choice b₁ b₂ b₃ b₄ r₂ r₃ r₄ r e₁ e₂ e₃ e₄ is = rw (e₁, e₂, e₃, e₄) is

-- a text with another first byte does not stand at the place
begins_no_other : (line text : List ℕ) (place : ℕ) → 0 < length text → get_or line place 0 ≢ get_or text 0 0 → begins (drop place line) text ≡ false
begins_no_other line text place more apart =
    false_from_ne_true _ (λ begun. apart (rw add-zero at (reads_text line text place begun 0 more)))

-- where a mark begins the place gives it
pub mark_is_given : (line : List ℕ) (m : Mark) → IsMarkOf line m → mark_at line m.at ≡ Some m
unfolding mark_at
mark_is_given line m h =
    let here : List ℕ = drop m.at line in
    let escaped : Bool = comes_after is_backslash line m.at in
    let anchors : Bool = begins here (codes "[[") in
    let links : Bool = begins here (codes "<<") in
    let names : Bool = comes_after is_word_byte line m.at || eqb (macro_len here) 0 in
    let anchor_mark : Option Mark = mark_with true m.at (m.at + 2) (closed_id_len (codes "]]") (drop 2 here)) in
    let link_mark : Option Mark = mark_with false m.at (m.at + 2) (closed_id_len (codes ">>") (drop 2 here)) in
    let macro_mark : Option Mark = mark_with false m.at (m.at + macro_len here) (prefix_len is_word_byte (drop (macro_len here) here)) in
    elim h.kind [
      | inl anchor ↦
          first_choice escaped anchors links names anchor_mark link_mark macro_mark (Some m) h.unescaped (begins_from_stands line (codes "[[") m.at anchor.1.opened)
          (bracketed_gives true (codes "[[") (codes "]]") line m anchor.0 refl anchor.1)
      | inr other ↦ elim other [
        | inl link ↦
            let begun = begins_from_stands line (codes "<<") m.at link.1.opened in
            let first : get_or line m.at 0 ≡ 60 = rw add-zero at (reads_text line (codes "<<") m.at begun 0 (omega arith)) in
            second_choice escaped anchors links names anchor_mark link_mark macro_mark (Some m) h.unescaped
            (begins_no_other line (codes "[[") m.at (omega arith) (λ same. omega arith)) begun
            (bracketed_gives false (codes "<<") (codes ">>") line m link.0 refl link.1)
        | inr named ↦
            let parts = macro_len-name line named.1.name m.at named.1.is_known (begins_from_stands line named.1.name m.at named.1.named) named.1.begins_word in
            let letter = rw add-zero at (parts.1.are_letters 0 (omega (arith, parts.1.few))) in
            let bounds = letter_bounds (get_or line m.at 0) letter in
            third_choice escaped anchors links names anchor_mark link_mark macro_mark (Some m) h.unescaped
            (begins_no_other line (codes "[[") m.at (omega arith) (λ same. omega (arith, bounds)))
            (begins_no_other line (codes "<<") m.at (omega arith) (λ same. omega (arith, bounds)))
            (or_from _ _ named.1.begins_word (ne_eqb (macro_len here) 0 (λ zero_is. omega (arith, parts.0, parts.2))))
            (macro_gives line m named.1 named.0 parts.0)
      ]
    ]
