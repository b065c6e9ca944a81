-- A directive is cut at its bracket.
use Rattle.std.proofs.Common.{◌≡◌, ◌++◌, ◌∷◌, [], ℕ, Bool, List, length, true, false, refl, sym, ap, ◌∙◌, ◌⊎◌, ⊎_elim}
use Rattle.std.specs.Prelude.{codes}
use Rattle.std.proofs.lemmas.Bool.{false≢true}
use Rattle.std.proofs.lemmas.List.{append_cancel_left, nil_from_length}
use Rattle.doc_cond.specs.declared.LineKind.{LineKind}
use Rattle.doc_cond.specs.Lines.{AreNames, IsBegin, IsOneLine, IsClose, Spells, joined, lacks, opening}
use Rattle.doc_cond.proofs.Families.{unspelled_opener, unspelled_closer}
use Rattle.doc_cond.proofs.Pieces.{cut_once, lacks_not}
use Rattle.doc_cond.proofs.Naming.{joined_lack}

pub names_lack : (any : Bool) (names : List (List ℕ)) → AreNames any names → lacks (joined any names) 91 ≡ true
names_lack any names h = joined_lack 91 any names refl refl refl h.each

-- what stands before the bracket of an opener is its names
begin_cut : (negated any : Bool) (names : List (List ℕ)) (rest text tail : List ℕ) → rest ≡ text ++ 91 ∷ tail → lacks text 91 ≡ true → IsBegin negated any names (opening negated ++ rest) → (text ≡ joined any names) × (tail ≡ 93 ∷ [])
begin_cut negated any names rest text tail e h s =
    cut_once 91 text (joined any names) tail (93 ∷ []) h (names_lack any names s.names_are) (sym e ∙ append_cancel_left (opening negated) rest (joined any names ++ codes "[]") s.spelled)

one_line_cut : (negated any : Bool) (names : List (List ℕ)) (from to : ℕ) (rest text tail : List ℕ) → rest ≡ text ++ 91 ∷ tail → lacks text 91 ≡ true → (s : IsOneLine negated any names from to (opening negated ++ rest)) → (text ≡ joined any names) × (tail ≡ s.text ++ 93 ∷ [])
one_line_cut negated any names from to rest text tail e h s =
    cut_once 91 text (joined any names) tail (s.text ++ 93 ∷ []) h (names_lack any names s.names_are) (sym e ∙ append_cancel_left (opening negated) rest (joined any names ++ (codes "[" ++ (s.text ++ codes "]"))) s.spelled)

pub close_lack : (any : Bool) (names : List (List ℕ)) → AreNames any names ⊎ ((any ≡ true) × (length names ≡ 0)) → lacks (joined any names) 91 ≡ true
close_lack any names h = ⊎_elim (names_lack any names) (λ none. ap (λ more. lacks (joined any more) 91) (nil_from_length names none.1) ∙ no_names_lack any) h
  where
    no_names_lack : (any : Bool) → lacks (joined any []) 91 ≡ true
    no_names_lack true = refl
    no_names_lack false = refl

close_cut : (any : Bool) (names : List (List ℕ)) (rest text tail : List ℕ) → rest ≡ text ++ 91 ∷ tail → lacks text 91 ≡ true → IsClose any names (codes "endif::" ++ rest) → (text ≡ joined any names) × (tail ≡ 93 ∷ [])
close_cut any names rest text tail e h s =
    cut_once 91 text (joined any names) tail (93 ∷ []) h (close_lack any names s.names_are) (sym e ∙ append_cancel_left (codes "endif::") rest (joined any names ++ codes "[]") s.spelled)

-- no bracket
pub no_bracket_opener : (negated : Bool) (rest : List ℕ) → lacks rest 91 ≡ true → (kind : LineKind) → ¬ Spells kind (opening negated ++ rest)
no_bracket_opener negated rest h = unspelled_opener negated rest
    (λ any names s. false≢true (sym (lacks_not 91 (joined any names) (93 ∷ [])) ∙ (sym (ap (λ bytes. lacks bytes 91) (append_cancel_left (opening negated) rest (joined any names ++ codes "[]") s.spelled)) ∙ h)))
    (λ any names from to s. false≢true (sym (lacks_not 91 (joined any names) (s.text ++ 93 ∷ [])) ∙ (sym (ap (λ bytes. lacks bytes 91) (append_cancel_left (opening negated) rest (joined any names ++ (codes "[" ++ (s.text ++ codes "]"))) s.spelled)) ∙ h)))

pub no_bracket_closer : (rest : List ℕ) → lacks rest 91 ≡ true → (kind : LineKind) → ¬ Spells kind (codes "endif::" ++ rest)
no_bracket_closer rest h = unspelled_closer rest
    (λ any names s. false≢true (sym (lacks_not 91 (joined any names) (93 ∷ [])) ∙ (sym (ap (λ bytes. lacks bytes 91) (append_cancel_left (codes "endif::") rest (joined any names ++ codes "[]") s.spelled)) ∙ h)))

-- no names before the bracket
pub no_names_opener : (negated : Bool) (rest text tail : List ℕ) → rest ≡ text ++ 91 ∷ tail → lacks text 91 ≡ true → ((any : Bool) (names : List (List ℕ)) → AreNames any names → ¬ (text ≡ joined any names)) → (kind : LineKind) → ¬ Spells kind (opening negated ++ rest)
no_names_opener negated rest text tail e h none = unspelled_opener negated rest
    (λ any names s. none any names s.names_are (begin_cut negated any names rest text tail e h s).0)
    (λ any names from to s. none any names s.names_are (one_line_cut negated any names from to rest text tail e h s).0)

pub no_names_closer : (rest text tail : List ℕ) → rest ≡ text ++ 91 ∷ tail → lacks text 91 ≡ true → ¬ (length text ≡ 0) → ((any : Bool) (names : List (List ℕ)) → AreNames any names → ¬ (text ≡ joined any names)) → (kind : LineKind) → ¬ Spells kind (codes "endif::" ++ rest)
no_names_closer rest text tail e h some none = unspelled_closer rest
    (λ any names s. let cut = close_cut any names rest text tail e h s in
    ⊎_elim (λ are. none any names are cut.0) (λ empty. some (ap length (cut.0 ∙ ap (joined any) (nil_from_length names empty.1)) ∙ joined_none any)) s.names_are)
  where
    joined_none : (any : Bool) → length (joined any []) ≡ 0
    joined_none true = refl
    joined_none false = refl

-- no closing bracket at the end
pub open_opener : (negated : Bool) (rest text tail : List ℕ) → rest ≡ text ++ 91 ∷ tail → lacks text 91 ≡ true → ((front : List ℕ) → ¬ (tail ≡ front ++ 93 ∷ [])) → (kind : LineKind) → ¬ Spells kind (opening negated ++ rest)
open_opener negated rest text tail e h open_end = unspelled_opener negated rest
    (λ any names s. open_end [] (begin_cut negated any names rest text tail e h s).1)
    (λ any names from to s. open_end s.text (one_line_cut negated any names from to rest text tail e h s).1)

pub open_closer : (rest text tail : List ℕ) → rest ≡ text ++ 91 ∷ tail → lacks text 91 ≡ true → ¬ (tail ≡ 93 ∷ []) → (kind : LineKind) → ¬ Spells kind (codes "endif::" ++ rest)
open_closer rest text tail e h not_empty = unspelled_closer rest
    (λ any names s. not_empty (close_cut any names rest text tail e h s).1)
