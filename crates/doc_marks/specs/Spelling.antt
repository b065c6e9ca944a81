-- What a mark is in the words of the rule, whatever computes it: how its id is spelled, and what stands round it.
use Rattle.std.specs.Prelude.{◌≡◌, ℕ, ◌+◌, ◌<◌, ◌≤◌, ◌⊎◌, Bool, true, false, List, [], ◌∷◌, ◌++◌, length, drop, slice_range, codes, All, Contains, map}
use Rattle.std.specs.List.{concat}
use Rattle.std.specs.List.Sorted.{IsStrictlyIncreasing}
use Rattle.vkb_bytes.specs.Bytes.{is_word_byte}
use Rattle.doc_marks.specs.declared.Mark.{Mark}
use Rattle.doc_marks.specs.Ids.{refpage, is_id_start, is_id_byte}
use Rattle.doc_marks.specs.Marks.{comes_after, is_backslash, macro_names}

-- the text is one piece: a byte that passes, or the attribute
abbrev pub IsPiece : (ℕ → Bool) → List ℕ → Type 0
IsPiece passes text = ((b : ℕ) × (text ≡ b ∷ []) × (passes b ≡ true)) ⊎ (text ≡ refpage)

-- the text is an id: a first piece and then later ones, joined
pub record IsId (text : List ℕ) : Type 0 where
  pub first : List ℕ
  pub later : List (List ℕ)
  pub first_is : IsPiece is_id_start first
  pub later_are : All (IsPiece is_id_byte) later
  pub joined : text ≡ first ++ concat later

-- the text is a word: one or more letters, digits and `_`
pub record IsWord (text : List ℕ) : Type 0 where
  pub has_bytes : 0 < length text
  pub bytes_are : All (λ b. is_word_byte b ≡ true) text

-- the text stands in the line from the place on
abbrev pub StandsAt : List ℕ → ℕ → List ℕ → Type 0
StandsAt line place text = (rest : List ℕ) × (drop place line ≡ text ++ rest)

-- the part of the line is spelled so, and no longer part from its first byte on is
pub record IsLongest (IsSpelled : List ℕ → Type 0) (line : List ℕ) (from to : ℕ) : Type 0 where
  pub has_bytes : from < to
  pub within : to ≤ length line
  pub spelled : IsSpelled (slice_range line from to)
  pub longest : (end : ℕ) → from ≤ end → end ≤ length line → IsSpelled (slice_range line from end) → end ≤ to

-- the opening text, the longest id, and then the closing text or a comma
pub record IsBracketed (open_text close_text line : List ℕ) (mark : Mark) : Type 0 where
  pub opened : StandsAt line mark.at open_text
  pub id_follows : mark.from ≡ mark.at + length open_text
  pub id_is : IsLongest IsId line mark.from mark.to
  pub closed : StandsAt line mark.to close_text ⊎ StandsAt line mark.to (codes ",")

-- the name of a link macro, not directly after a letter, digit or `_`, and then the longest word
pub record IsMacro (line : List ℕ) (mark : Mark) : Type 0 where
  pub name : List ℕ
  pub is_known : Contains macro_names name
  pub named : StandsAt line mark.at name
  pub begins_word : comes_after is_word_byte line mark.at ≡ false
  pub id_follows : mark.from ≡ mark.at + length name
  pub id_is : IsLongest IsWord line mark.from mark.to

-- the mark begins in the line at its place: no `\` stands directly before it, and it is an anchor, a link or a macro's link
pub record IsMarkOf (line : List ℕ) (mark : Mark) : Type 0 where
  pub unescaped : comes_after is_backslash line mark.at ≡ false
  pub kind :
      (mark.anchor ≡ true) × IsBracketed (codes "[[") (codes "]]") line mark
      ⊎ (mark.anchor ≡ false) × IsBracketed (codes "<<") (codes ">>") line mark
      ⊎ (mark.anchor ≡ false) × IsMacro line mark

-- the list has the line's marks, all of them and nothing else, in order of place
pub record ListsMarks (line : List ℕ) (marks : List Mark) : Type 0 where
  pub sound : All (IsMarkOf line) marks
  pub complete : (mark : Mark) → IsMarkOf line mark → Contains marks mark
  pub in_order : IsStrictlyIncreasing (map (λ m. m.at) marks)
