-- The longest id by the lengths of its pieces is the longest text that is an id, and the longest word likewise.
use Rattle.std.proofs.Common.{◌≡◌, ℕ, zero, suc, ◌+◌, ◌-◌, ◌<◌, ◌≤◌, Bool, true, false, eqb, List, [], ◌∷◌, ◌++◌, length, take, drop, refl, sym, ap, ◌∙◌, inl, inr, arith, append_assoc, length-append, length-drop, get_or-take}
use Rattle.std.specs.Prelude.{All}
use Rattle.std.specs.List.{concat, prefix_len}
use Rattle.std.proofs.Math.Seq.{take-add, drop-append_seam}
use Rattle.std.proofs.lemmas.Bool.{cond-true, cond-false, cases_Bool, eqb-false, ne_eqb, cases_lt, both_ways}
use Rattle.std.proofs.lemmas.List.{take-append-drop, length-take-le}
use Rattle.std.proofs.lemmas.List.Elements.{All-nil, All-cons, All-head, All-tail}
use Rattle.std.proofs.lemmas.List.Prefix.{front_fits}
use Rattle.std.proofs.lemmas.List.Sums.{prefix_len_passes, prefix_len_stops, prefix_len-le-length}
use Rattle.vkb_bytes.specs.Bytes.{begins, is_word_byte}
use Rattle.doc_marks.specs.Ids.{refpage, first_passes, is_id_start, is_id_byte, piece_len, pieces_len, id_len}
use Rattle.doc_marks.specs.Spelling.{IsPiece, IsId, IsWord, IsLongest}
use Rattle.doc_marks.proofs.PlaceLemmas.{begins_is, picked}
use Rattle.doc_marks.proofs.IdLemmas.{pieces_len_step}

-- a piece that is found stands at the head of the bytes, and is one
record IsFound (passes : ℕ → Bool) (bytes : List ℕ) (len : ℕ) : Type 0 where
  fits : len ≤ length bytes
  piece : IsPiece passes (take len bytes)

first_is_piece : (passes : ℕ → Bool) (bytes : List ℕ) → first_passes passes bytes ≡ true → IsFound passes bytes 1
first_is_piece passes [] e = cc
first_is_piece passes (b ∷ rest) e = record { fits = omega arith; piece = inl (b, refl, e) }

piece_is_found : (passes : ℕ → Bool) (bytes : List ℕ) (len : ℕ) → piece_len passes bytes ≡ len → 0 < len → IsFound passes bytes len
unfolding piece_len
piece_is_found passes bytes len e more =
    elim (picked (first_passes passes bytes) 1 _ len e) [
      | inl h ↦ rw (← h.1) (first_is_piece passes bytes h.0)
      | inr h ↦ elim (picked (begins bytes refpage) (length refpage) 0 len h.1) [
        | inl t ↦
            let split = begins_is bytes refpage t.0 in
            rw (← t.1) (record { fits = front_fits bytes refpage _ split; piece = inr (rw split refl) })
        | inr t ↦ absurd (omega arith)
      ]
    ]

-- a piece at the head of the bytes is found
piece_len-piece : (passes : ℕ → Bool) (text rest : List ℕ) → passes 123 ≡ false → IsPiece passes text → piece_len passes (text ++ rest) ≡ length text
unfolding piece_len
piece_len-piece passes text rest no_brace (inl h) = rw (h.1) (cond-true (passes h.0) _ _ h.2)
piece_len-piece passes text rest no_brace (inr h) = rw h (cond-false (passes 123) _ _ no_brace)

piece_has_bytes : (passes : ℕ → Bool) (text : List ℕ) → IsPiece passes text → 0 < length text
piece_has_bytes passes text (inl h) = rw h.1 (omega arith)
piece_has_bytes passes text (inr h) = rw h (omega arith)

-- the pieces that the lengths count
record ArePieces (bytes : List ℕ) (len : ℕ) : Type 0 where
  fits : len ≤ length bytes
  pieces : List (List ℕ)
  each : All (IsPiece is_id_byte) pieces
  joined : take len bytes ≡ concat pieces

pieces_are : (n : ℕ) (bytes : List ℕ) → ArePieces bytes (pieces_len n bytes)
unfolding pieces_len
pieces_are zero bytes = record { fits = omega arith; pieces = []; each = All-nil _; joined = refl }
pieces_are (suc n) bytes =
    let p : ℕ = piece_len is_id_byte bytes in
    elim (cases_Bool (eqb p 0)) [
      | inl none ↦ rw (cond-true (eqb p 0) 0 (p + pieces_len n (drop p bytes)) none) (record { fits = omega arith; pieces = []; each = All-nil _; joined = refl })
      | inr some ↦
          let found = piece_is_found is_id_byte bytes p refl (omega (arith, eqb-false p 0 some)) in
          let later = pieces_are n (drop p bytes) in
          rw (cond-false (eqb p 0) 0 (p + pieces_len n (drop p bytes)) some) (record {
            fits = omega (arith, later.fits, found.fits, length-drop p bytes);
            pieces = take p bytes ∷ later.pieces;
            each = All-cons (IsPiece is_id_byte) (take p bytes) later.pieces found.piece later.each;
            joined = take-add p (pieces_len n (drop p bytes)) bytes ∙ ap (λ xs. take p bytes ++ xs) later.joined;
          })
    ]

-- pieces at the head of the bytes are counted
pieces_counted : (pieces : List (List ℕ)) (rest bytes : List ℕ) (n : ℕ) → All (IsPiece is_id_byte) pieces → bytes ≡ concat pieces ++ rest → length bytes ≤ n → length (concat pieces) ≤ pieces_len n bytes
pieces_counted [] rest bytes n each e enough = omega arith
pieces_counted (p ∷ ps) rest bytes n each e enough =
    let piece : IsPiece is_id_byte p = All-head (IsPiece is_id_byte) p ps each in
    let split : bytes ≡ p ++ (concat ps ++ rest) = e ∙ append_assoc p (concat ps) rest in
    let len : piece_len is_id_byte bytes ≡ length p = rw split (piece_len-piece is_id_byte p (concat ps ++ rest) refl piece) in
    let has_bytes : 0 < length p = piece_has_bytes is_id_byte p piece in
    let after : drop (length p) bytes ≡ concat ps ++ rest = rw split (drop-append_seam p (concat ps ++ rest)) in
    let step : pieces_len n bytes ≡ length p + pieces_len n (drop (length p) bytes) =
    rw len at (pieces_len_step n bytes enough) ∙ cond-false (eqb (length p) 0) _ _ (ne_eqb (length p) 0 (λ zero_is. omega arith)) in
    let later = pieces_counted ps rest (drop (length p) bytes) n (All-tail (IsPiece is_id_byte) p ps each) after (omega (arith, length-drop (length p) bytes)) in
    omega (arith, length-append p (concat ps))

-- the longest id is an id, and no longer text is one
pub id_is : (bytes : List ℕ) → 0 < id_len bytes → (id_len bytes ≤ length bytes) × IsId (take (id_len bytes) bytes)
unfolding id_len
id_is bytes more =
    let p : ℕ = piece_len is_id_start bytes in
    let k : ℕ = pieces_len (length bytes) (drop p bytes) in
    elim (cases_Bool (eqb p 0)) [
      | inl none ↦ absurd (omega (arith, cond-true (eqb p 0) 0 (p + k) none))
      | inr some ↦
          let found = piece_is_found is_id_start bytes p refl (omega (arith, eqb-false p 0 some)) in
          let later = pieces_are (length bytes) (drop p bytes) in
          rw (cond-false (eqb p 0) 0 (p + k) some) (
            omega (arith, later.fits, found.fits, length-drop p bytes),
            record {
              first = take p bytes;
              later = later.pieces;
              first_is = found.piece;
              later_are = later.each;
              joined = take-add p k bytes ∙ ap (λ xs. take p bytes ++ xs) later.joined;
            },
          )
    ]

pub id_counted : (bytes : List ℕ) (n : ℕ) → n ≤ length bytes → IsId (take n bytes) → n ≤ id_len bytes
unfolding id_len
id_counted bytes n fits h =
    let split : bytes ≡ h.first ++ (concat h.later ++ drop n bytes) =
    sym (take-append-drop n bytes) ∙ ap (λ xs. xs ++ drop n bytes) h.joined ∙ append_assoc h.first (concat h.later) (drop n bytes) in
    let len : piece_len is_id_start bytes ≡ length h.first =
    ap (piece_len is_id_start) split ∙ piece_len-piece is_id_start h.first (concat h.later ++ drop n bytes) refl h.first_is in
    let has_bytes : 0 < length h.first = piece_has_bytes is_id_start h.first h.first_is in
    let after : drop (length h.first) bytes ≡ concat h.later ++ drop n bytes =
    ap (drop (length h.first)) split ∙ drop-append_seam h.first (concat h.later ++ drop n bytes) in
    let later = pieces_counted h.later (drop n bytes) (drop (length h.first) bytes) (length bytes) h.later_are after (omega (arith, length-drop (length h.first) bytes)) in
    let size : n ≡ length h.first + length (concat h.later) =
    omega (arith, length-take-le n bytes fits, ap length h.joined, length-append h.first (concat h.later)) in
    rw (len, cond-false (eqb (length h.first) 0) 0 (length h.first + pieces_len (length bytes) (drop (length h.first) bytes)) (ne_eqb (length h.first) 0 (λ zero_is. omega arith)))
    (omega arith)

-- the longest word is a word, and no longer text is one
pub word_is : (bytes : List ℕ) → 0 < prefix_len is_word_byte bytes → (prefix_len is_word_byte bytes ≤ length bytes) × IsWord (take (prefix_len is_word_byte bytes) bytes)
word_is bytes more =
    let n : ℕ = prefix_len is_word_byte bytes in
    let fits : n ≤ length bytes = prefix_len-le-length is_word_byte bytes in (
      fits,
      record {
        has_bytes = omega (arith, length-take-le n bytes fits);
        bytes_are = λ k d less.
            let inside : k < n = omega (arith, length-take-le n bytes fits) in
            rw (get_or-take n bytes k d inside) (prefix_len_passes is_word_byte bytes k d inside);
      },
    )

pub word_counted : (bytes : List ℕ) (n : ℕ) → n ≤ length bytes → IsWord (take n bytes) → n ≤ prefix_len is_word_byte bytes
word_counted bytes n fits h =
    let m : ℕ = prefix_len is_word_byte bytes in
    elim (cases_lt m n) [
      | inl less ↦
          let stops = prefix_len_stops is_word_byte bytes 0 (omega arith) in
          let passes = rw (get_or-take n bytes m 0 less) at (h.bytes_are m 0 (omega (arith, length-take-le n bytes fits))) in
          absurd (both_ways _ stops passes)
      | inr more ↦ more
    ]

-- a length that is the longest so spelled, as a part of the line
pub part_from_len : (IsSpelled : List ℕ → Type 0) (line : List ℕ) (from len : ℕ) → 0 < len → len ≤ length (drop from line) → IsSpelled (take len (drop from line)) → ((n : ℕ) → n ≤ length (drop from line) → IsSpelled (take n (drop from line)) → n ≤ len) → IsLongest IsSpelled line from (from + len)
part_from_len IsSpelled line from len more fits spelled counted =
    let size : (from + len) - from ≡ len = omega arith in
    record {
      has_bytes = omega arith;
      within = omega (arith, length-drop from line);
      spelled = rw size spelled;
      longest = λ end low high h. omega (arith, counted (end - from) (omega (arith, length-drop from line)) h);
    }

pub len_from_part : (IsSpelled : List ℕ → Type 0) (line : List ℕ) (from to len : ℕ) → (0 < len → (len ≤ length (drop from line)) × IsSpelled (take len (drop from line))) → ((n : ℕ) → n ≤ length (drop from line) → IsSpelled (take n (drop from line)) → n ≤ len) → IsLongest IsSpelled line from to → to ≡ from + len
len_from_part IsSpelled line from to len is counted h =
    let low : to - from ≤ len = counted (to - from) (omega (arith, length-drop from line, h.within)) h.spelled in
    let part = is (omega (arith, h.has_bytes)) in
    let size : (from + len) - from ≡ len = omega arith in
    let high : from + len ≤ to =
    h.longest (from + len) (omega arith) (omega (arith, part.0, length-drop from line, h.within, h.has_bytes)) (rw size part.1) in
    omega (arith, h.has_bytes)
