-- Whether a text has a byte, ends in one, is another text, or is names: one or the other.
use Rattle.std.proofs.Common.{◌≡◌, ◌++◌, ◌∷◌, [], ℕ, Bool, List, length, true, false, not, ◌==◌, refl, sym, ap, ◌∙◌, arith, ◌⊎◌, ⊎_elim, inl, inr, length-append}
use Rattle.std.specs.List.{AllByRecursion, list_all}
use Rattle.std.proofs.lemmas.Bool.{and_from, cases_Bool, cases_eq, false≢true, ne_eqb}
use Rattle.std.specs.Prelude.{codes}
use Rattle.doc_cond.specs.Lines.{AreNames, IsPart, IsPath, is_name_byte, is_path_byte, is_run, joined, lacks}
use Rattle.doc_cond.proofs.Naming.{joined_pieces, names_from_pieces, no_names, separator}
use Rattle.doc_cond.proofs.PathPieces.{path_from_pieces, pieces_from_path}
use Rattle.doc_cond.proofs.Pieces.{pieces}

-- where a text is cut at the first place of a byte
pub record IsCut (byte : ℕ) (text front back : List ℕ) : Type 0 where
  pub spelled : text ≡ front ++ byte ∷ back
  pub first : lacks front byte ≡ true

pub cut_or_lacks : (byte : ℕ) (text : List ℕ) → ((front : List ℕ) × (back : List ℕ) × IsCut byte text front back) ⊎ (lacks text byte ≡ true)
cut_or_lacks byte [] = inr refl
cut_or_lacks byte (b ∷ bs) = ⊎_elim
    (λ same. inl ([], bs, record { spelled = ap (λ (n : ℕ). n ∷ bs) same; first = refl }))
    (λ apart. ⊎_elim
    (λ cut. inl (
      b ∷ cut.0,
      cut.1,
      record {
        spelled = ap (λ (rest : List ℕ). b ∷ rest) cut.2.spelled;
        first = and_from (not (b == byte)) (lacks cut.0 byte) (ap not (ne_eqb b byte apart)) cut.2.first;
      },
    ))
    (λ none. inr (and_from (not (b == byte)) (lacks bs byte) (ap not (ne_eqb b byte apart)) none))
    (cut_or_lacks byte bs))
    (cases_eq b byte)

not_alone : (b c : ℕ) (front : List ℕ) → ¬ (b ≡ c) → ¬ (b ∷ [] ≡ front ++ c ∷ [])
not_alone b c [] apart e = apart (cc)
not_alone b c (x ∷ front) apart e = absurd (omega (arith, ap length e, length-append front (c ∷ [])))

not_longer : (b d c : ℕ) (rest front : List ℕ) → ((front : List ℕ) → ¬ (d ∷ rest ≡ front ++ c ∷ [])) → ¬ (b ∷ d ∷ rest ≡ front ++ c ∷ [])
not_longer b d c rest [] none e = absurd (omega (arith, ap length e))
not_longer b d c rest (x ∷ front) none e = none front (cc)

pub ends_or_not : (byte : ℕ) (text : List ℕ) → ((front : List ℕ) × (text ≡ front ++ byte ∷ [])) ⊎ ((front : List ℕ) → ¬ (text ≡ front ++ byte ∷ []))
ends_or_not byte [] = inr (λ front e. omega (arith, ap length e, length-append front (byte ∷ [])))
ends_or_not byte (b ∷ []) = ⊎_elim (λ same. inl ([], ap (λ (n : ℕ). n ∷ []) same)) (λ apart. inr (λ front. not_alone b byte front apart)) (cases_eq b byte)
ends_or_not byte (b ∷ d ∷ rest) = ⊎_elim
    (λ ends. inl (b ∷ ends.0, ap (λ (more : List ℕ). b ∷ more) ends.1))
    (λ none. inr (λ front. not_longer b d byte rest front none))
    (ends_or_not byte (d ∷ rest))

pub same_or_not : {A : Type 0} → ((a b : A) → (a ≡ b) ⊎ (a ≡ b → ⊥)) → (xs ys : List A) → (xs ≡ ys) ⊎ (xs ≡ ys → ⊥)
same_or_not each [] [] = inl refl
same_or_not each [] (y ∷ ys) = inr (λ e. cc)
same_or_not each (x ∷ xs) [] = inr (λ e. cc)
same_or_not each (x ∷ xs) (y ∷ ys) = ⊎_elim
    (λ head. ⊎_elim (λ tail. inl (cc)) (λ apart. inr (λ e. apart (cc))) (same_or_not each xs ys))
    (λ apart. inr (λ e. apart (cc)))
    (each x y)

pub texts_or_not : (xs ys : List ℕ) → (xs ≡ ys) ⊎ (xs ≡ ys → ⊥)
texts_or_not xs ys = same_or_not cases_eq xs ys

pub bools_or_not : (a b : Bool) → (a ≡ b) ⊎ (a ≡ b → ⊥)
bools_or_not true true = inl refl
bools_or_not true false = inr (λ e. cc)
bools_or_not false true = inr (λ e. cc)
bools_or_not false false = inl refl

-- names that a text is, or none
pub record HasNames (text : List ℕ) : Type 0 where
  pub any : Bool
  pub names : List (List ℕ)
  pub names_are : AreNames any names
  pub spelled : text ≡ joined any names

pub names_or_none : (text : List ℕ) → HasNames text ⊎ ((any : Bool) (names : List (List ℕ)) → AreNames any names → ¬ (text ≡ joined any names))
names_or_none text =
    let any : Bool = lacks text 43 in
    ⊎_elim
    (λ are. inl (record { any = any; names = pieces (separator any) text; names_are = names_from_pieces any text refl are; spelled = joined_pieces any text }))
    (λ fails. inr (no_names any text refl fails))
    (cases_Bool (list_all (is_run is_name_byte) (pieces (separator any) text)))

part_or_not : (part : List ℕ) → IsPart part ⊎ (IsPart part → ⊥)
part_or_not part = ⊎_elim
    (λ run. ⊎_elim
    (λ here. inr (λ s. s.not_here here))
    (λ not_here. ⊎_elim
    (λ above. inr (λ s. s.not_above above))
    (λ not_above. inl (record { run = run; not_here = not_here; not_above = not_above }))
    (texts_or_not part (codes "..")))
    (texts_or_not part (codes ".")))
    (λ fails. inr (λ s. false≢true (sym fails ∙ s.run)))
    (cases_Bool (is_run is_path_byte part))

parts_or_not : (parts : List (List ℕ)) → AllByRecursion IsPart parts ⊎ (AllByRecursion IsPart parts → ⊥)
parts_or_not [] = inl tt
parts_or_not (part ∷ parts) = ⊎_elim
    (λ is. ⊎_elim (λ are. inl (is, are)) (λ not_all. inr (λ s. not_all s.1)) (parts_or_not parts))
    (λ not_part. inr (λ s. not_part s.0))
    (part_or_not part)

pub path_or_not : (text : List ℕ) → IsPath text ⊎ (IsPath text → ⊥)
path_or_not text = ⊎_elim (λ are. inl (path_from_pieces text are)) (λ not_all. inr (λ s. not_all (pieces_from_path text s))) (parts_or_not (pieces 47 text))
