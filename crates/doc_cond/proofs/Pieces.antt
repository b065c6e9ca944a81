-- The pieces of a text around a byte, and their joins.
use Rattle.std.proofs.Common.{◌≡◌, ◌++◌, ◌∷◌, [], ◌<◌, ℕ, Bool, List, length, true, false, not, ◌&&◌, ◌==◌, refl, sym, ap, ◌∙◌, arith}
use Rattle.std.specs.List.{list_all, slice_split, join_with_byte, All}
use Rattle.std.proofs.lemmas.Bool.{and_parts, and_from, false≢true, eq-eqb, ne_eqb, and_left, and_right}
use Rattle.std.proofs.lemmas.List.Splits.{slice_split_at, slice_split_none}
use Rattle.std.proofs.lemmas.List.Sums.{AllPass-from_list_all}
use Rattle.std.proofs.lemmas.List.Elements.{All-weaker}
use Rattle.doc_cond.specs.Lines.{lacks, is_run}

abbrev pub pieces : ℕ → List ℕ → List (List ℕ)
pieces c text = slice_split (λ b. b == c) text

pub not_true : (x : Bool) → not x ≡ true → x ≡ false
not_true true h = absurd (false≢true h)
not_true false h = refl

none_is : (c : ℕ) (text : List ℕ) → lacks text c ≡ true → All (λ b. (b == c) ≡ false) text
none_is c text h = All-weaker (λ b. not (b == c) ≡ true) (λ b. (b == c) ≡ false) (λ b. not_true (b == c)) text (AllPass-from_list_all (λ b. not (b == c)) text h)

pub pieces_cut : (c : ℕ) (front back : List ℕ) → lacks front c ≡ true → pieces c (front ++ c ∷ back) ≡ front ∷ pieces c back
pieces_cut c front back h = slice_split_at (λ b. b == c) front c back (none_is c front h) (eq-eqb c c refl)

pub pieces_whole : (c : ℕ) (text : List ℕ) → lacks text c ≡ true → pieces c text ≡ text ∷ []
pieces_whole c text h = slice_split_none (λ b. b == c) text (none_is c text h)

pub list_all-append : {X : Type 0} (test : X → Bool) (xs ys : List X) → list_all test (xs ++ ys) ≡ (list_all test xs && list_all test ys)
list_all-append test [] ys = refl
list_all-append test (x ∷ xs) ys = elim (test x) as (λ v. (v && list_all test (xs ++ ys)) ≡ ((v && list_all test xs) && list_all test ys)) [ true ↦ list_all-append test xs ys | false ↦ refl ]

-- a list with an element that fails
pub fails_at : {X : Type 0} (test : X → Bool) (front : List X) (x : X) (back all : List X) → front ++ (x ∷ back) ≡ all → test x ≡ false → list_all test all ≡ false
fails_at test front x back all e h = sym (ap (list_all test) e) ∙ (list_all-append test front (x ∷ back) ∙ and_right (list_all test front) (list_all test (x ∷ back)) (and_left (test x) (list_all test back) h))

pub passes_push : {X : Type 0} (test : X → Bool) (xs : List X) (x : X) → list_all test xs ≡ true → test x ≡ true → list_all test (xs ++ x ∷ []) ≡ true
passes_push test xs x h k = list_all-append test xs (x ∷ []) ∙ and_from (list_all test xs) (list_all test (x ∷ [])) h (and_from (test x) true k refl)

-- what is cut from what is joined
pub pieces-join : (c : ℕ) (names : List (List ℕ)) → 0 < length names → list_all (λ bytes. lacks bytes c) names ≡ true → pieces c (join_with_byte c names) ≡ names
pieces-join c [] some h = absurd (omega arith)
pieces-join c (x ∷ []) some h = pieces_whole c x (and_parts (lacks x c) true h).0
pieces-join c (x ∷ y ∷ names) some h =
    let parts = and_parts (lacks x c) (list_all (λ bytes. lacks bytes c) (y ∷ names)) h in
    pieces_cut c x (join_with_byte c (y ∷ names)) parts.0 ∙ ap (λ more. x ∷ more) (pieces-join c (y ∷ names) (omega arith) parts.1)

-- a byte that is in no name and is no separator is not in the names joined
pub lacks-join : (c d : ℕ) (names : List (List ℕ)) → (d == c) ≡ false → list_all (λ bytes. lacks bytes c) names ≡ true → lacks (join_with_byte d names) c ≡ true
lacks-join c d [] e h = refl
lacks-join c d (x ∷ []) e h = (and_parts (lacks x c) true h).0
lacks-join c d (x ∷ y ∷ names) e h =
    let parts = and_parts (lacks x c) (list_all (λ bytes. lacks bytes c) (y ∷ names)) h in
    list_all-append (λ b. not (b == c)) x (d ∷ join_with_byte d (y ∷ names)) ∙ and_from (lacks x c) (lacks (d ∷ join_with_byte d (y ∷ names)) c) parts.0 (and_from (not (d == c)) (lacks (join_with_byte d (y ∷ names)) c) (ap not e) (lacks-join c d (y ∷ names) e parts.1))

-- the separator is in two names or more, joined
pub has_separator : (c : ℕ) (names : List (List ℕ)) → 1 < length names → lacks (join_with_byte c names) c ≡ false
has_separator c [] h = absurd (omega arith)
has_separator c (x ∷ []) h = absurd (omega arith)
has_separator c (x ∷ y ∷ names) h = fails_at (λ b. not (b == c)) x c (join_with_byte c (y ∷ names)) _ refl (ap not (eq-eqb c c refl))

-- a run lacks a byte that fails its test
pub passing_differs : (test : ℕ → Bool) (c b : ℕ) → test c ≡ false → test b ≡ true → not (b == c) ≡ true
passing_differs test c b fails passes = ap not (ne_eqb b c (λ same. false≢true (sym fails ∙ (ap test (sym same) ∙ passes))))

pub all_lack : (test : ℕ → Bool) (c : ℕ) (bytes : List ℕ) → test c ≡ false → list_all test bytes ≡ true → lacks bytes c ≡ true
all_lack test c [] fails h = refl
all_lack test c (b ∷ bytes) fails h =
    let parts = and_parts (test b) (list_all test bytes) h in
    and_from (not (b == c)) (lacks bytes c) (passing_differs test c b fails parts.0) (all_lack test c bytes fails parts.1)

pub run_lacks : (test : ℕ → Bool) (c : ℕ) (bytes : List ℕ) → test c ≡ false → is_run test bytes ≡ true → lacks bytes c ≡ true
run_lacks test c bytes fails h = all_lack test c bytes fails (and_parts (not (length bytes == 0)) (list_all test bytes) h).1

pub runs_lack : (test : ℕ → Bool) (c : ℕ) (names : List (List ℕ)) → test c ≡ false → list_all (is_run test) names ≡ true → list_all (λ bytes. lacks bytes c) names ≡ true
runs_lack test c [] fails h = refl
runs_lack test c (x ∷ names) fails h =
    let parts = and_parts (is_run test x) (list_all (is_run test) names) h in
    and_from (lacks x c) (list_all (λ bytes. lacks bytes c) names) (run_lacks test c x fails parts.0) (runs_lack test c names fails parts.1)

-- the first place of a byte is one place
pub cut_once : (c : ℕ) (xs ys back more : List ℕ) → lacks xs c ≡ true → lacks ys c ≡ true → xs ++ c ∷ back ≡ ys ++ c ∷ more → (xs ≡ ys) × (back ≡ more)
cut_once c [] [] back more h k e = (refl, (cc))
cut_once c [] (y ∷ ys) back more h k e =
    let parts = and_parts (not (y == c)) (lacks ys c) k in
    let same : y ≡ c = cc in
    absurd (false≢true (ap not (sym (eq-eqb y c same)) ∙ parts.0))
cut_once c (x ∷ xs) [] back more h k e =
    let parts = and_parts (not (x == c)) (lacks xs c) h in
    let same : x ≡ c = cc in
    absurd (false≢true (ap not (sym (eq-eqb x c same)) ∙ parts.0))
cut_once c (x ∷ xs) (y ∷ ys) back more h k e =
    let heads : x ≡ y = cc in
    let tails : xs ++ c ∷ back ≡ ys ++ c ∷ more = cc in
    let rest = cut_once c xs ys back more (and_parts (not (x == c)) (lacks xs c) h).1 (and_parts (not (y == c)) (lacks ys c) k).1 tails in
    let front : xs ≡ ys = rest.0 in
    ((cc), rest.1)

-- a byte is in what has it between two parts
pub lacks_not : (c : ℕ) (front back : List ℕ) → lacks (front ++ c ∷ back) c ≡ false
lacks_not c front back = fails_at (λ b. not (b == c)) front c back _ refl (ap not (eq-eqb c c refl))
