-- How the length of an id goes on from piece to piece.
use Rattle.std.proofs.Common.{◌≡◌, ℕ, zero, suc, ◌+◌, ◌<◌, ◌≤◌, Bool, true, false, cond, eqb, List, [], ◌∷◌, length, drop, refl, sym, ap, arith, length-drop}
use Rattle.std.proofs.lemmas.Bool.{eqb-false, ne_eqb, cond-false}
use Rattle.std.proofs.lemmas.List.{drop-drop}
use Rattle.doc_marks.specs.Ids.{is_id_byte, is_id_start, piece_len, pieces_len, id_len}

-- two choices by one test that agree where it fails
same_choice : (b : Bool) (x y z : ℕ) → (b ≡ false → y ≡ z) → cond b x y ≡ cond b x z
same_choice true x y z h = refl
same_choice false x y z h = h refl

no_piece : (bytes : List ℕ) → length bytes ≤ 0 → piece_len is_id_byte bytes ≡ 0
unfolding piece_len
no_piece [] h = refl
no_piece (b ∷ rest) h = omega arith

-- as many pieces as there are bytes are enough
pieces_len_more : (n : ℕ) (bytes : List ℕ) → length bytes ≤ n → pieces_len (suc n) bytes ≡ pieces_len n bytes
unfolding pieces_len
pieces_len_more zero bytes h = rw (no_piece bytes h)
pieces_len_more (suc n) bytes h =
    let p : ℕ = piece_len is_id_byte bytes in
    same_choice (eqb p 0) 0 _ _
    (λ e. ap (λ k. p + k) (pieces_len_more n (drop p bytes) (omega (arith, length-drop p bytes, eqb-false p 0 e))))

pub pieces_len_step : (n : ℕ) (bytes : List ℕ) → length bytes ≤ n → pieces_len n bytes ≡ cond (eqb (piece_len is_id_byte bytes) 0) 0 (piece_len is_id_byte bytes + pieces_len n (drop (piece_len is_id_byte bytes) bytes))
unfolding pieces_len
pieces_len_step n bytes h = sym (pieces_len_more n bytes h)

-- what the id has from the piece on that was found after `len` bytes of it
abbrev pub id_rest : List ℕ → ℕ → ℕ → ℕ
id_rest bytes len piece = cond (eqb piece 0) 0 (piece + pieces_len (length bytes) (drop (len + piece) bytes))

pub id_rest_start : (bytes : List ℕ) (piece : ℕ) → piece ≡ piece_len is_id_start bytes → 0 + id_rest bytes 0 piece ≡ id_len bytes
unfolding id_len
id_rest_start bytes piece e = rw e (grind arith)

pub id_rest_step : (bytes : List ℕ) (len piece next : ℕ) → 0 < piece → next ≡ piece_len is_id_byte (drop (len + piece) bytes) → (len + piece) + id_rest bytes (len + piece) next ≡ len + id_rest bytes len piece
id_rest_step bytes len piece next more e =
    let rest : List ℕ = drop (len + piece) bytes in
    let n : ℕ = length bytes in
    let here : id_rest bytes len piece ≡ piece + pieces_len n rest = cond-false _ _ _ (ne_eqb piece 0 (λ zero_is. omega arith)) in
    let step : pieces_len n rest ≡ cond (eqb (piece_len is_id_byte rest) 0) 0 (piece_len is_id_byte rest + pieces_len n (drop (piece_len is_id_byte rest) rest)) =
    pieces_len_step n rest (omega (arith, length-drop (len + piece) bytes)) in
    let same : id_rest bytes (len + piece) next ≡ pieces_len n rest =
    rw (e, ← drop-drop (piece_len is_id_byte rest) (len + piece) bytes) (sym step) in
    omega arith
