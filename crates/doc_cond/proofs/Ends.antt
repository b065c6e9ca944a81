-- What stands at the end of a line and doesn't count there.
use Rattle.std.proofs.Common.{◌≡◌, ◌++◌, ◌∷◌, [], ◌+◌, ◌-◌, ◌<◌, ◌==◌, ℕ, Bool, List, length, take, true, false, not, refl, sym, ap, ◌∙◌, arith, cond, append_assoc}
use Rattle.std.specs.Prelude.{codes}
use Rattle.std.specs.List.{list_all, prefix_len, suffix_len}
use Rattle.std.proofs.lemmas.Bool.{false≢true, and_parts, or_from}
use Rattle.std.proofs.lemmas.List.{append-nil, length_push, reverse-append, take-append-le}
use Rattle.std.proofs.lemmas.List.Sums.{suffix_len-le-length}
use Rattle.std.proofs.Math.Seq.{take-length}
use Rattle.vkb_bytes.specs.Bytes.{is_word_byte}
use Rattle.doc_cond.specs.Lines.{Includes, IsBegin, IsClose, IsOneLine, IsRefpage, bare, is_end_blank, joined, opening}
use Rattle.doc_cond.proofs.Pieces.{not_true, passing_differs}

-- one byte more at the end
suffix_push : (line : List ℕ) (b : ℕ) → suffix_len is_end_blank (line ++ b ∷ []) ≡ cond (is_end_blank b) (1 + suffix_len is_end_blank line) 0
suffix_push line b = ap (prefix_len is_end_blank) (reverse-append line (b ∷ []))

bare_push : (line : List ℕ) (b : ℕ) → is_end_blank b ≡ true → bare (line ++ b ∷ []) ≡ bare line
bare_push line b h =
    let longer = length_push line b in
    let suffix : suffix_len is_end_blank (line ++ b ∷ []) ≡ 1 + suffix_len is_end_blank line = suffix_push line b ∙ ap (λ t. cond t (1 + suffix_len is_end_blank line) 0) h in
    let within = suffix_len-le-length is_end_blank line in
    let same : length (line ++ b ∷ []) - suffix_len is_end_blank (line ++ b ∷ []) ≡ length line - suffix_len is_end_blank line = omega arith in
    ap (λ n. take n (line ++ b ∷ [])) same ∙ take-append-le (length line - suffix_len is_end_blank line) line (b ∷ []) (omega arith)

pub bare_ends : (line ends : List ℕ) → list_all is_end_blank ends ≡ true → bare (line ++ ends) ≡ bare line
bare_ends line [] h = ap bare (append-nil line)
bare_ends line (b ∷ ends) h =
    let parts = and_parts (is_end_blank b) (list_all is_end_blank ends) h in
    ap bare (sym (append_assoc line (b ∷ []) ends)) ∙ (bare_ends (line ++ b ∷ []) ends parts.1 ∙ bare_push line b parts.0)

-- where the last byte counts, all do
pub bare_last : (line : List ℕ) (b : ℕ) → is_end_blank b ≡ false → bare (line ++ b ∷ []) ≡ line ++ b ∷ []
bare_last line b h =
    let none : suffix_len is_end_blank (line ++ b ∷ []) ≡ 0 = suffix_push line b ∙ ap (λ t. cond t (1 + suffix_len is_end_blank line) 0) h in
    let whole : length (line ++ b ∷ []) - suffix_len is_end_blank (line ++ b ∷ []) ≡ length (line ++ b ∷ []) = omega arith in
    ap (λ n. take n (line ++ b ∷ [])) whole ∙ take-length (line ++ b ∷ [])

word_counts : (b : ℕ) → is_word_byte b ≡ true → is_end_blank b ≡ false
word_counts b h = or_from _ _ (or_from _ _ (not_true (b == 32) (passing_differs is_word_byte 32 b refl h)) (not_true (b == 9) (passing_differs is_word_byte 9 b refl h))) (not_true (b == 13) (passing_differs is_word_byte 13 b refl h))

bare_word : (line name : List ℕ) → 0 < length name → list_all is_word_byte name ≡ true → bare (line ++ name) ≡ line ++ name
bare_word line [] some h = absurd (omega arith)
bare_word line (b ∷ []) some h = bare_last line b (word_counts b (and_parts (is_word_byte b) true h).0)
bare_word line (b ∷ c ∷ name) some h =
    let together = append_assoc line (b ∷ []) (c ∷ name) in
    ap bare (sym together) ∙ (bare_word (line ++ b ∷ []) (c ∷ name) (omega arith) (and_parts (is_word_byte b) (list_all is_word_byte (c ∷ name)) h).1 ∙ together)

-- the forms that end in a bracket
bare_bracket : (front line : List ℕ) → line ≡ front ++ 93 ∷ [] → bare line ≡ line
bare_bracket front line e = ap bare e ∙ (bare_last front 93 refl ∙ sym e)

pub bare_begin : (negated any : Bool) (names : List (List ℕ)) (line : List ℕ) → IsBegin negated any names line → bare line ≡ line
bare_begin negated any names line h =
    bare_bracket (opening negated ++ (joined any names ++ codes "[")) line
    (h.spelled ∙ (ap (λ more. opening negated ++ more) (sym (append_assoc (joined any names) (codes "[") (codes "]"))) ∙ sym (append_assoc (opening negated) (joined any names ++ codes "[") (codes "]"))))

pub bare_one_line : (negated any : Bool) (names : List (List ℕ)) (from to : ℕ) (line : List ℕ) → IsOneLine negated any names from to line → bare line ≡ line
bare_one_line negated any names from to line h =
    bare_bracket (opening negated ++ (joined any names ++ (codes "[" ++ h.text))) line
    (h.spelled ∙ (ap (λ more. opening negated ++ more) (sym (append_assoc (joined any names) (codes "[" ++ h.text) (codes "]"))) ∙ sym (append_assoc (opening negated) (joined any names ++ (codes "[" ++ h.text)) (codes "]"))))

pub bare_close : (any : Bool) (names : List (List ℕ)) (line : List ℕ) → IsClose any names line → bare line ≡ line
bare_close any names line h =
    bare_bracket (codes "endif::" ++ (joined any names ++ codes "[")) line
    (h.spelled ∙ ap (λ more. codes "endif::" ++ more) (sym (append_assoc (joined any names) (codes "[") (codes "]"))))

pub bare_include : (IsForm : List ℕ → Type 0) (line : List ℕ) → Includes IsForm line → bare line ≡ line
bare_include IsForm line h =
    bare_bracket (codes "include::" ++ (h.target ++ (codes "[" ++ h.attributes))) line
    (h.spelled ∙ ap (λ more. codes "include::" ++ more) (sym (append_assoc h.target (codes "[" ++ h.attributes) (codes "]"))))

pub bare_refpage : (name line : List ℕ) → IsRefpage name line → bare line ≡ line
bare_refpage name line h =
    let parts = and_parts (not (length name == 0)) (list_all is_word_byte name) h.name_is in
    let together : line ≡ (codes ":refpage:" ++ h.gap) ++ name = h.spelled in
    ap bare together ∙ (bare_word (codes ":refpage:" ++ h.gap) name (is_some name parts.0) parts.1 ∙ sym together)
  where
    is_some : (name : List ℕ) → not (length name == 0) ≡ true → 0 < length name
    is_some [] h = absurd (false≢true h)
    is_some (b ∷ name) h = omega arith
