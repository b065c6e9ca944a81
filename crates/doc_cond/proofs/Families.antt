-- What a line begins with tells which kinds it can be of.
use Rattle.std.proofs.Common.{◌≡◌, ◌++◌, ◌∷◌, ℕ, Bool, List, drop, true, false, not, ◌||◌, ◌&&◌, ◌==◌, refl, sym, ap, ◌∙◌, cond, ⊎_elim, subst, eq-eqb}
use Rattle.std.specs.Prelude.{codes}
use Rattle.std.proofs.lemmas.Bool.{false≢true, or_cases, or_parts, and_parts}
use Rattle.doc_cond.specs.declared.LineKind.{LineKind}
use Rattle.doc_cond.specs.declared.LineKind.TheVariants.{Plain, Comment, Other, Begin, OneLine, Close, Chapter, Api, Validity, Refpage}
use Rattle.vkb_bytes.specs.Bytes.{begins}
use Rattle.doc_cond.specs.Lines.{IsBegin, IsOneLine, IsClose, Spells, begins_comment, begins_conditional, joined, opening}
use Rattle.doc_cond.proofs.Fronts.{begins_front}

abbrev pub family : LineKind → ℕ
family (Begin negated any names) = 1
family (OneLine negated any names from to) = 1
family (Close any names) = 3
family (Chapter file) = 5
family (Api name) = 5
family (Validity name) = 5
family Other = 5
family Comment = 7
family (Refpage name) = 6
family Plain = 6

abbrev pub family_by : Bool → Bool → Bool → Bool → Bool → Bool → ℕ
family_by a b c d e f = cond a 1 (cond b 1 (cond c 3 (cond d 4 (cond e 5 (cond f 7 6)))))

abbrev pub family_of : List ℕ → ℕ
family_of line = family_by (begins line (codes "ifdef::")) (begins line (codes "ifndef::")) (begins line (codes "endif::")) (begins line (codes "ifeval::")) (begins line (codes "include::")) (begins_comment line)

none_of : (a b c d e f : Bool) → a ≡ false → b ≡ false → c ≡ false → d ≡ false → e ≡ false → f ≡ false → family_by a b c d e f ≡ 6
none_of a b c d e f p q r s t u = rw (p, q, r, s, t, u)

two_slashes : (line : List ℕ) → begins_comment line ≡ true → line ≡ 47 ∷ 47 ∷ drop 2 line
two_slashes line h = ⊎_elim
    (λ two. begins_front line (codes "//") (and_parts (begins line (codes "//")) (not (begins line (codes "///"))) two).0)
    (λ four. let e = begins_front line (codes "////") four in e ∙ ap (λ more. 47 ∷ 47 ∷ more) (sym (ap (drop 2) e)))
    (or_cases (begins line (codes "//") && not (begins line (codes "///"))) (begins line (codes "////")) h)

pub family_is : (kind : LineKind) (line : List ℕ) → Spells kind line → family_of line ≡ family kind
family_is (Begin false any names) line h = ap family_of h.spelled
family_is (Begin true any names) line h = ap family_of h.spelled
family_is (OneLine false any names from to) line h = ap family_of h.spelled
family_is (OneLine true any names from to) line h = ap family_of h.spelled
family_is (Close any names) line h = ap family_of h.spelled
family_is (Chapter file) line h = ap family_of h.spelled
family_is (Api name) line h = ap family_of h.spelled
family_is (Validity name) line h = ap family_of h.spelled
family_is Other line h = ap family_of (begins_front line (codes "include::") h.includes)
family_is (Refpage name) line h = ap family_of h.spelled
family_is Comment line h =
    let e = two_slashes line h in
    ap family_of e ∙ ap (λ (b : Bool). cond b 7 6) (sym (ap begins_comment e) ∙ h)
family_is Plain line h =
    let c = or_parts ((begins line (codes "ifdef::") || begins line (codes "ifndef::")) || begins line (codes "endif::")) (begins line (codes "ifeval::")) h.no_conditional in
    let b = or_parts (begins line (codes "ifdef::") || begins line (codes "ifndef::")) (begins line (codes "endif::")) c.0 in
    let a = or_parts (begins line (codes "ifdef::")) (begins line (codes "ifndef::")) b.0 in
    none_of _ _ _ _ _ _ a.0 a.1 b.1 c.1 h.no_include h.no_comment

pub apart : {A : Type 0} (m n : ℕ) → (m == n) ≡ false → m ≡ n → A
apart m n no_way same = absurd (false≢true (sym no_way ∙ eq-eqb m n same))

-- `ifdef::` is not `ifndef::`
pub negates : {A : Type 0} (xs ys : List ℕ) → opening false ++ xs ≡ opening true ++ ys → A
negates xs ys e = absurd (false≢true (sym (ap (λ text. begins text (codes "ifdef::")) e)))

-- a line behind `ifdef::` or `ifndef::` is of no kind where it is neither an opener nor a one-line form
pub unspelled_opener : (negated : Bool) (rest : List ℕ) →
    ((any : Bool) (names : List (List ℕ)) → ¬ IsBegin negated any names (opening negated ++ rest)) →
    ((any : Bool) (names : List (List ℕ)) (from to : ℕ) → ¬ IsOneLine negated any names from to (opening negated ++ rest)) →
    (kind : LineKind) → ¬ Spells kind (opening negated ++ rest)
unspelled_opener false rest b o (Begin false any names) h = b any names h
unspelled_opener false rest b o (OneLine false any names from to) h = o any names from to h
unspelled_opener false rest b o (Begin true any names) h = negates rest (joined any names ++ codes "[]") h.spelled
unspelled_opener false rest b o (OneLine true any names from to) h = negates rest (joined any names ++ (codes "[" ++ (h.text ++ codes "]"))) h.spelled
unspelled_opener false rest b o kind h = apart 1 (family kind) refl (family_is kind (opening false ++ rest) h)
unspelled_opener true rest b o (Begin true any names) h = b any names h
unspelled_opener true rest b o (OneLine true any names from to) h = o any names from to h
unspelled_opener true rest b o (Begin false any names) h = negates (joined any names ++ codes "[]") rest (sym h.spelled)
unspelled_opener true rest b o (OneLine false any names from to) h = negates (joined any names ++ (codes "[" ++ (h.text ++ codes "]"))) rest (sym h.spelled)
unspelled_opener true rest b o kind h = apart 1 (family kind) refl (family_is kind (opening true ++ rest) h)

pub unspelled_closer : (rest : List ℕ) →
    ((any : Bool) (names : List (List ℕ)) → ¬ IsClose any names (codes "endif::" ++ rest)) →
    (kind : LineKind) → ¬ Spells kind (codes "endif::" ++ rest)
unspelled_closer rest n (Close any names) h = n any names h
unspelled_closer rest n kind h = apart 3 (family kind) refl (family_is kind (codes "endif::" ++ rest) h)

-- what begins with `ifeval::` is of no kind
unspelled_test : (rest : List ℕ) (kind : LineKind) → ¬ Spells kind (codes "ifeval::" ++ rest)
unspelled_test rest Comment h = apart 4 7 refl (family_is Comment (codes "ifeval::" ++ rest) h)
unspelled_test rest kind h = apart 4 (family kind) refl (family_is kind (codes "ifeval::" ++ rest) h)

pub unspelled_eval : (line : List ℕ) → begins line (codes "ifeval::") ≡ true → (kind : LineKind) → ¬ Spells kind line
unspelled_eval line h kind s = unspelled_test (drop 8 line) kind (subst (Spells kind) (begins_front line (codes "ifeval::") h) s)

pub opening_begins : (negated : Bool) (rest : List ℕ) → begins_conditional (opening negated ++ rest) ≡ true
opening_begins false rest = refl
opening_begins true rest = refl
