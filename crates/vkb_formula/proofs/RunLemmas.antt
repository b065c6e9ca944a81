-- What is spelled is read: no byte of an expression stops the reader.
use Rattle.std.proofs.Common.{◌≡◌, ℕ, ◌+◌, ◌-◌, ◌<◌, ◌≤◌, true, false, cond, ltb, eqb, ◌&&◌, List, [], ◌∷◌, ◌++◌, Option, Some, None, refl, sym, ap, ◌∙◌, ⊎_elim, arith}
use Rattle.std.specs.Option.{option_and_then}
use Rattle.std.specs.List.{list_all}
use Rattle.std.proofs.lemmas.List.{append_assoc, append-nil}
use Rattle.std.proofs.lemmas.Bool.{and_parts, and_from, cond-true, lt-ltb, false≢true}
use Rattle.vkb_bytes.specs.Bytes.{is_word_byte}
use Rattle.vkb_formula.specs.Expressions.{Atom, Expression, Name, Group, Single, Both, Either, IsWord, IsName, IsAtom, IsExpression, atom_text, expression_text, atom_nesting, nesting_of, atom_words, words_in, Spells}
use Rattle.vkb_formula.specs.Marks.{after_atom, step, run, start, ends_atom, is_whole}
use Rattle.vkb_formula.specs.declared.mark.Mark.{Mark}
use Rattle.vkb_formula.specs.declared.mark.Phase.{Phase}
use Rattle.vkb_formula.specs.declared.mark.Phase.TheVariants as phase

abbrev pub mark : Phase → ℕ → ℕ → Mark
mark p d w = record { phase = p; depth = d; words = w }

run-through : (xs ys : List ℕ) → ((n : Mark) → run n (xs ++ ys) ≡ option_and_then (λ m. run m ys) (run n xs)) → (o : Option Mark) → option_and_then (λ n. run n (xs ++ ys)) o ≡ option_and_then (λ m. run m ys) (option_and_then (λ n. run n xs) o)
run-through xs ys h None = refl
run-through xs ys h (Some n) = h n

pub run-append : (xs ys : List ℕ) (m : Mark) → run m (xs ++ ys) ≡ option_and_then (λ n. run n ys) (run m xs)
run-append [] ys m = refl
run-append (x ∷ xs) ys m = run-through xs ys (run-append xs ys) (step m x)

-- more bytes of a word
word-more : (u : List ℕ) → list_all is_word_byte u ≡ true → (d w : ℕ) (rest : List ℕ) → run (mark phase.Word d w) (u ++ rest) ≡ run (mark phase.Word d w) rest
word-more [] h d w rest = refl
word-more (c ∷ u) h d w rest =
    let parts = and_parts (is_word_byte c) (list_all is_word_byte u) h in
    ap (option_and_then (λ n. run n (u ++ rest))) (cond-true (is_word_byte c) (Some (mark phase.Word d w)) (cond (eqb c 58) (Some (mark phase.Colon d w)) (after_atom d w c)) parts.0)
    ∙ word-more u parts.1 d w rest

member-more : (u : List ℕ) → list_all is_word_byte u ≡ true → (d w : ℕ) (rest : List ℕ) → run (mark phase.Member d w) (u ++ rest) ≡ run (mark phase.Member d w) rest
member-more [] h d w rest = refl
member-more (c ∷ u) h d w rest =
    let parts = and_parts (is_word_byte c) (list_all is_word_byte u) h in
    ap (option_and_then (λ n. run n (u ++ rest))) (cond-true (is_word_byte c) (Some (mark phase.Member d w)) (after_atom d w c) parts.0)
    ∙ member-more u parts.1 d w rest

word-run : (u : List ℕ) → IsWord u → (d w : ℕ) → w < 4096 → (rest : List ℕ) → run (mark phase.Start d w) (u ++ rest) ≡ run (mark phase.Word d (w + 1)) rest
word-run [] h d w few rest = absurd (let none : 0 < 0 = h.0 in omega arith)
word-run (c ∷ u) h d w few rest =
    let parts = and_parts (is_word_byte c) (list_all is_word_byte u) h.1 in
    ap (option_and_then (λ n. run n (u ++ rest)))
    (cond-true (is_word_byte c && ltb w 4096) (Some (mark phase.Word d (w + 1))) (cond (eqb c 40 && ltb d 64) (Some (mark phase.Start (d + 1) w)) None)
    (and_from (is_word_byte c) (ltb w 4096) parts.0 (lt-ltb w 4096 few)))
    ∙ word-more u parts.1 d (w + 1) rest

second-run : (u : List ℕ) → IsWord u → (d w : ℕ) (rest : List ℕ) → run (mark phase.Colons d w) (u ++ rest) ≡ run (mark phase.Member d w) rest
second-run [] h d w rest = absurd (let none : 0 < 0 = h.0 in omega arith)
second-run (c ∷ u) h d w rest =
    let parts = and_parts (is_word_byte c) (list_all is_word_byte u) h.1 in
    ap (option_and_then (λ n. run n (u ++ rest))) (cond-true (is_word_byte c) (Some (mark phase.Member d w)) None parts.0)
    ∙ member-more u parts.1 d w rest

member-run : (a b : List ℕ) → IsWord a → IsWord b → (d w : ℕ) → w < 4096 → (rest : List ℕ) → run (mark phase.Start d w) ((a ++ 58 ∷ 58 ∷ b) ++ rest) ≡ run (mark phase.Member d (w + 1)) rest
member-run a b ha hb d w few rest =
    ap (run (mark phase.Start d w)) (append_assoc a (58 ∷ 58 ∷ b) rest)
    ∙ word-run a ha d w few (58 ∷ 58 ∷ (b ++ rest))
    ∙ second-run b hb d (w + 1) rest

-- reading a text as an atom or an expression: after it an atom has ended
pub record Runs (text : List ℕ) (d w n : ℕ) : Type 0 where
  pub last : Phase
  pub ends : ends_atom last ≡ true
  pub runs : (rest : List ℕ) → run (mark phase.Start d w) (text ++ rest) ≡ run (mark last d (w + n)) rest

ends-step : (p : Phase) (c d w : ℕ) → ends_atom p ≡ true → is_word_byte c ≡ false → eqb c 58 ≡ false → step (mark p d w) c ≡ after_atom d w c
ends-step phase.Start c d w h plain colon = absurd (false≢true h)
ends-step phase.Word c d w h plain colon =
    ap (λ b. cond b (Some (mark phase.Word d w)) (cond (eqb c 58) (Some (mark phase.Colon d w)) (after_atom d w c))) plain
    ∙ ap (λ b. cond b (Some (mark phase.Colon d w)) (after_atom d w c)) colon
ends-step phase.Colon c d w h plain colon = absurd (false≢true h)
ends-step phase.Colons c d w h plain colon = absurd (false≢true h)
ends-step phase.Member c d w h plain colon = ap (λ b. cond b (Some (mark phase.Member d w)) (after_atom d w c)) plain
ends-step phase.Closed c d w h plain colon = refl

both-run : (p : Phase) (d w : ℕ) (rest : List ℕ) → ends_atom p ≡ true → w < 4096 → run (mark p d w) (43 ∷ rest) ≡ run (mark phase.Start d w) rest
both-run p d w rest h few =
    ap (option_and_then (λ n. run n rest)) (ends-step p 43 d w h refl refl ∙ cond-true (ltb w 4096) (Some (mark phase.Start d w)) None (lt-ltb w 4096 few))

either-run : (p : Phase) (d w : ℕ) (rest : List ℕ) → ends_atom p ≡ true → w < 4096 → run (mark p d w) (44 ∷ rest) ≡ run (mark phase.Start d w) rest
either-run p d w rest h few =
    ap (option_and_then (λ n. run n rest)) (ends-step p 44 d w h refl refl ∙ cond-true (ltb w 4096) (Some (mark phase.Start d w)) None (lt-ltb w 4096 few))

close-run : (p : Phase) (d w : ℕ) (rest : List ℕ) → ends_atom p ≡ true → run (mark p (d + 1) w) (41 ∷ rest) ≡ run (mark phase.Closed d w) rest
close-run p d w rest h =
    let back : (d + 1) - 1 ≡ d = omega arith in
    ap (option_and_then (λ n. run n rest))
    (ends-step p 41 (d + 1) w h refl refl ∙ cond-true (ltb 0 (d + 1)) (Some (mark phase.Closed ((d + 1) - 1) w)) None (lt-ltb 0 (d + 1) (omega arith)))
    ∙ ap (λ k. run (mark phase.Closed k w) rest) back

open-run : (d w : ℕ) (rest : List ℕ) → d < 64 → run (mark phase.Start d w) (40 ∷ rest) ≡ run (mark phase.Start (d + 1) w) rest
open-run d w rest few =
    ap (option_and_then (λ n. run n rest)) (cond-true (ltb d 64) (Some (mark phase.Start (d + 1) w)) None (lt-ltb d 64 few))

-- each atom and each expression has a name
mutual
  pub atom-some : (a : Atom) → 1 ≤ atom_words a
  atom-some (Name name) = omega arith
  atom-some (Group inner) = expression-some inner

  pub expression-some : (e : Expression) → 1 ≤ words_in e
  expression-some (Single atom) = atom-some atom
  expression-some (Both left atom) = omega (arith, atom-some atom)
  expression-some (Either left atom) = omega (arith, atom-some atom)

name-runs : (name : List ℕ) → IsName name → (d w : ℕ) → w < 4096 → Runs name d w 1
name-runs name h d w few =
    ⊎_elim
    (λ word. record { last = phase.Word; ends = refl; runs = λ rest. word-run name word d w few rest })
    (λ member. record {
      last = phase.Member;
      ends = refl;
      runs = λ rest. ap (λ text. run (mark phase.Start d w) (text ++ rest)) member.4 ∙ member-run member.0 member.1 member.2 member.3 d w few rest;
    })
    h

group-runs : (text : List ℕ) (d w n : ℕ) → d < 64 → Runs text (d + 1) w n → Runs (40 ∷ text ++ 41 ∷ []) d w n
group-runs text d w n few inner = record {
  last = phase.Closed;
  ends = refl;
  runs = λ rest.
      open-run d w ((text ++ 41 ∷ []) ++ rest) few
      ∙ ap (run (mark phase.Start (d + 1) w)) (append_assoc text (41 ∷ []) rest)
      ∙ inner.runs (41 ∷ rest)
      ∙ close-run inner.last d (w + n) rest inner.ends;
}

joined-runs : (c : ℕ) → ((p : Phase) (d w : ℕ) (rest : List ℕ) → ends_atom p ≡ true → w < 4096 → run (mark p d w) (c ∷ rest) ≡ run (mark phase.Start d w) rest) → (left atom : List ℕ) (d w m n : ℕ) → w + m < 4096 → Runs left d w m → Runs atom d (w + m) n → Runs (left ++ c ∷ atom) d w (m + n)
joined-runs c joint left atom d w m n few l a = record {
  last = a.last;
  ends = a.ends;
  runs = λ rest.
      ap (run (mark phase.Start d w)) (append_assoc left (c ∷ atom) rest)
      ∙ l.runs (c ∷ (atom ++ rest))
      ∙ joint l.last d (w + m) (atom ++ rest) l.ends few
      ∙ a.runs rest
      ∙ ap (λ k. run (mark a.last d k) rest) (let e : (w + m) + n ≡ w + (m + n) = omega arith in e);
}

mutual
  pub atom-runs : (a : Atom) → IsAtom a → (d w : ℕ) → atom_nesting a + d ≤ 64 → w + atom_words a ≤ 4096 → Runs (atom_text a) d w (atom_words a)
  atom-runs (Name name) h d w deep few = name-runs name h d w (omega arith)
  atom-runs (Group inner) h d w deep few = group-runs (expression_text inner) d w (words_in inner) (omega arith) (expression-runs inner h (d + 1) w (omega arith) few)

  pub expression-runs : (e : Expression) → IsExpression e → (d w : ℕ) → nesting_of e + d ≤ 64 → w + words_in e ≤ 4096 → Runs (expression_text e) d w (words_in e)
  expression-runs (Single atom) h d w deep few = atom-runs atom h d w deep few
  expression-runs (Both left atom) h d w deep few =
      joined-runs 43 both-run (expression_text left) (atom_text atom) d w (words_in left) (atom_words atom) (omega (arith, atom-some atom))
      (expression-runs left h.0 d w (omega arith) (omega arith)) (atom-runs atom h.1 d (w + words_in left) (omega arith) (omega arith))
  expression-runs (Either left atom) h d w deep few =
      joined-runs 44 either-run (expression_text left) (atom_text atom) d w (words_in left) (atom_words atom) (omega (arith, atom-some atom))
      (expression-runs left h.0 d w (omega arith) (omega arith)) (atom-runs atom h.1 d (w + words_in left) (omega arith) (omega arith))

-- what is spelled is read to its end
pub spelled-whole : (e : Expression) (text : List ℕ) → Spells e text → (m : Mark) × (run start text ≡ Some m) × (is_whole m ≡ true)
spelled-whole e text s =
    let all = expression-runs e s.named 0 0 (let le : nesting_of e + 0 ≤ 64 = omega (arith, s.nests) in le) (let le : 0 + words_in e ≤ 4096 = omega (arith, s.few) in le) in (
      mark all.last 0 (0 + words_in e),
      ap (run start) (s.is ∙ sym (append-nil (expression_text e))) ∙ all.runs [],
      and_from (ends_atom all.last) true all.ends refl,
    )

some-first : (ys : List ℕ) (m : Mark) (o : Option Mark) → option_and_then (λ n. run n ys) o ≡ Some m → (k : Mark) × (o ≡ Some k)
some-first ys m None e = absurd (cc)
some-first ys m (Some k) e = (k, refl)

-- what a text that is read begins with is read
pub run-front : (xs ys : List ℕ) (m : Mark) → run start (xs ++ ys) ≡ Some m → (k : Mark) × (run start xs ≡ Some k)
run-front xs ys m e = some-first ys m (run start xs) (sym (run-append xs ys start) ∙ e)
