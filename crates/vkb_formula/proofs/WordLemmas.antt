-- The names of an expression stand at its places.
use Rattle.std.proofs.Common.{◌≡◌, ℕ, ◌+◌, ◌-◌, List, [], ◌∷◌, ◌++◌, length, map, slice_range, refl, sym, ap, ◌∙◌, arith, append_assoc, length-append}
use Rattle.std.proofs.Math.Seq.{drop-append_seam, take-append_seam}
use Rattle.std.proofs.lemmas.List.{length_push, map-append, append-nil}
use Rattle.vkb_formula.specs.Expressions.{Atom, Expression, Name, Group, Single, Both, Either, atom_text, expression_text, atom_words, words_in, atom_names, names_of, atom_places, places_of, Spells}

name-there : (pre name post : List ℕ) → slice_range (pre ++ (name ++ post)) (length pre) (length pre + length name) ≡ name
name-there pre name post =
    let size : (length pre + length name) - length pre ≡ length name = omega arith in
    rw (drop-append_seam pre (name ++ post), size) (take-append_seam name post)

joined : (first second : List ℕ) (byte : ℕ) (pre post : List ℕ) → pre ++ ((first ++ byte ∷ second) ++ post) ≡ (pre ++ (first ++ byte ∷ [])) ++ (second ++ post)
joined first second byte pre post = simp append_assoc refl

counted : (first : List ℕ) (byte : ℕ) (pre : List ℕ) → length (pre ++ (first ++ byte ∷ [])) ≡ length pre + length first + 1
counted first byte pre = omega (arith, length-append pre (first ++ byte ∷ []), length_push first byte)

mutual
  atom-there : (a : Atom) (text pre post : List ℕ) (at : ℕ) → text ≡ pre ++ (atom_text a ++ post) → at ≡ length pre → map (λ (place : ℕ × ℕ). slice_range text place.0 place.1) (atom_places at a) ≡ atom_names a
  atom-there (Name name) text pre post at e f =
      rw (e, f) (ap (λ n. n ∷ []) (name-there pre name post))
  atom-there (Group inner) text pre post at e f =
      expression-there inner text (pre ++ 40 ∷ []) (41 ∷ post) (at + 1) (e ∙ simp append_assoc refl) (omega (arith, length_push pre 40))

  expression-there : (e : Expression) (text pre post : List ℕ) (at : ℕ) → text ≡ pre ++ (expression_text e ++ post) → at ≡ length pre → map (λ (place : ℕ × ℕ). slice_range text place.0 place.1) (places_of at e) ≡ names_of e
  expression-there (Single atom) text pre post at e f = atom-there atom text pre post at e f
  expression-there (Both left atom) text pre post at e f =
      map-append (λ (place : ℕ × ℕ). slice_range text place.0 place.1) (places_of at left) (atom_places (at + length (expression_text left) + 1) atom)
      ∙ ap (λ ns. ns ++ map (λ (place : ℕ × ℕ). slice_range text place.0 place.1) (atom_places (at + length (expression_text left) + 1) atom))
      (expression-there left text pre (43 ∷ (atom_text atom ++ post)) at (e ∙ ap (λ t. pre ++ t) (append_assoc (expression_text left) (43 ∷ atom_text atom) post)) f)
      ∙ ap (λ ns. names_of left ++ ns)
      (atom-there atom text (pre ++ (expression_text left ++ 43 ∷ [])) post (at + length (expression_text left) + 1) (e ∙ joined (expression_text left) (atom_text atom) 43 pre post) (omega (arith, counted (expression_text left) 43 pre)))
  expression-there (Either left atom) text pre post at e f =
      map-append (λ (place : ℕ × ℕ). slice_range text place.0 place.1) (places_of at left) (atom_places (at + length (expression_text left) + 1) atom)
      ∙ ap (λ ns. ns ++ map (λ (place : ℕ × ℕ). slice_range text place.0 place.1) (atom_places (at + length (expression_text left) + 1) atom))
      (expression-there left text pre (44 ∷ (atom_text atom ++ post)) at (e ∙ ap (λ t. pre ++ t) (append_assoc (expression_text left) (44 ∷ atom_text atom) post)) f)
      ∙ ap (λ ns. names_of left ++ ns)
      (atom-there atom text (pre ++ (expression_text left ++ 44 ∷ [])) post (at + length (expression_text left) + 1) (e ∙ joined (expression_text left) (atom_text atom) 44 pre post) (omega (arith, counted (expression_text left) 44 pre)))

mutual
  atom-count : (a : Atom) (at : ℕ) → length (atom_places at a) ≡ atom_words a
  atom-count (Name name) at = refl
  atom-count (Group inner) at = expression-count inner (at + 1)

  expression-count : (e : Expression) (at : ℕ) → length (places_of at e) ≡ words_in e
  expression-count (Single atom) at = atom-count atom at
  expression-count (Both left atom) at =
      omega (arith, length-append (places_of at left) (atom_places (at + length (expression_text left) + 1) atom), expression-count left at, atom-count atom (at + length (expression_text left) + 1))
  expression-count (Either left atom) at =
      omega (arith, length-append (places_of at left) (atom_places (at + length (expression_text left) + 1) atom), expression-count left at, atom-count atom (at + length (expression_text left) + 1))

pub spelled-names : (e : Expression) (text : List ℕ) (places : List (ℕ × ℕ)) → Spells e text → places ≡ places_of 0 e → map (λ (place : ℕ × ℕ). slice_range text place.0 place.1) places ≡ names_of e
spelled-names e text places s is =
    ap (map (λ (place : ℕ × ℕ). slice_range text place.0 place.1)) is
    ∙ expression-there e text [] [] 0 (s.is ∙ sym (append-nil (expression_text e))) refl

pub spelled-count : (e : Expression) (text : List ℕ) (places : List (ℕ × ℕ)) → Spells e text → places ≡ places_of 0 e → length places ≡ words_in e
spelled-count e text places s is = ap length is ∙ expression-count e 0
