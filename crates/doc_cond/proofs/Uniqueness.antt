-- A line has one kind.
use Rattle.std.proofs.Common.{◌≡◌, ◌++◌, ◌∷◌, [], ◌<◌, ◌+◌, ℕ, Bool, List, length, true, false, refl, sym, ap, ◌∙◌, subst, arith, ⊎_elim, Result, Ok, Err, MatchResult}
use Rattle.std.specs.Prelude.{codes}
use Rattle.std.specs.List.{join_with_byte, list_all}
use Rattle.std.proofs.lemmas.Bool.{false≢true, and_parts}
use Rattle.std.proofs.lemmas.List.{append_cancel_left, append_cancel_right, nil_from_length, length-append}
use Rattle.doc_cond.specs.declared.CondFault.{CondFault}
use Rattle.doc_cond.specs.declared.CondFault.TheVariants.{BadCondition, Unbalanced, CondDepth, Memory}
use Rattle.doc_cond.specs.declared.LineKind.{LineKind}
use Rattle.doc_cond.specs.declared.LineKind.TheVariants.{Plain, Comment, Other, Begin, OneLine, Close, Chapter, Api, Validity, Refpage}
use Rattle.doc_cond.specs.Lines.{AreNames, Includes, IsApi, IsBegin, IsChapter, IsClose, IsSpellingFault, IsOneLine, IsValidity, Spells, is_name_byte, is_run, joined, opening}
use Rattle.doc_cond.proofs.Cuts.{names_lack, close_lack}
use Rattle.doc_cond.proofs.Families.{apart, family, family_is, negates}
use Rattle.doc_cond.proofs.Naming.{names_once}
use Rattle.doc_cond.proofs.Pieces.{cut_once}
use Rattle.doc_cond.proofs.Targets.{target_once, page_once, file_once, refpage_once}

same_family : (a b : LineKind) (line : List ℕ) → Spells a line → Spells b line → family a ≡ family b
same_family a b line h k = sym (family_is a line h) ∙ family_is b line k

-- two lists of names before one bracket
heads_once : (any other : Bool) (names more : List (List ℕ)) (tail end : List ℕ) → AreNames any names → AreNames other more → joined any names ++ 91 ∷ tail ≡ joined other more ++ 91 ∷ end → (any ≡ other) × (names ≡ more) × (tail ≡ end)
heads_once any other names more tail end h k e =
    let cut = cut_once 91 (joined any names) (joined other more) tail end (names_lack any names h) (names_lack other more k) e in
    let same = names_once any other names more h k cut.0 in
    (same.0, same.1, cut.1)

begin_begin : (negated any other : Bool) (names more : List (List ℕ)) (line : List ℕ) → IsBegin negated any names line → IsBegin negated other more line → Begin negated any names ≡ Begin negated other more
begin_begin negated any other names more line h k =
    let same = heads_once any other names more (93 ∷ []) (93 ∷ []) h.names_are k.names_are (append_cancel_left (opening negated) (joined any names ++ codes "[]") (joined other more ++ codes "[]") (sym h.spelled ∙ k.spelled)) in
    ap (λ a. Begin negated a names) same.0 ∙ ap (Begin negated other) same.1

begin_one_line : {A : Type 0} (negated any other : Bool) (names more : List (List ℕ)) (from to : ℕ) (line : List ℕ) → IsBegin negated any names line → IsOneLine negated other more from to line → A
begin_one_line negated any other names more from to line h k =
    let same = heads_once any other names more (93 ∷ []) (k.text ++ 93 ∷ []) h.names_are k.names_are (append_cancel_left (opening negated) (joined any names ++ codes "[]") (joined other more ++ (codes "[" ++ (k.text ++ codes "]"))) (sym h.spelled ∙ k.spelled)) in
    absurd (omega (arith, k.some, ap length same.2, length-append k.text (93 ∷ [])))

one_line_one_line : (negated any other : Bool) (names more : List (List ℕ)) (from to start end : ℕ) (line : List ℕ) → IsOneLine negated any names from to line → IsOneLine negated other more start end line → OneLine negated any names from to ≡ OneLine negated other more start end
one_line_one_line negated any other names more from to start end line h k =
    let same = heads_once any other names more (h.text ++ 93 ∷ []) (k.text ++ 93 ∷ []) h.names_are k.names_are (append_cancel_left (opening negated) (joined any names ++ (codes "[" ++ (h.text ++ codes "]"))) (joined other more ++ (codes "[" ++ (k.text ++ codes "]"))) (sym h.spelled ∙ k.spelled)) in
    let text : h.text ≡ k.text = append_cancel_right h.text k.text (93 ∷ []) same.2 in
    let starts : from ≡ start = h.starts ∙ (ap (λ a. length (opening negated ++ (joined a names ++ codes "["))) same.0 ∙ (ap (λ ns. length (opening negated ++ (joined other ns ++ codes "["))) same.1 ∙ sym k.starts)) in
    let ends : to ≡ end = h.ends ∙ (ap (λ n. n + length h.text) starts ∙ (ap (λ t. start + length t) text ∙ sym k.ends)) in
    ap (λ a. OneLine negated a names from to) same.0 ∙ (ap (λ ns. OneLine negated other ns from to) same.1 ∙ (ap (λ n. OneLine negated other more n to) starts ∙ ap (OneLine negated other more start) ends))

joined_nothing : (any : Bool) (names : List (List ℕ)) → length names ≡ 0 → joined any names ≡ []
joined_nothing true names h = ap (joined true) (nil_from_length names h)
joined_nothing false names h = ap (joined false) (nil_from_length names h)

name_is_some : (name : List ℕ) → is_run is_name_byte name ≡ true → 0 < length name
name_is_some [] h = absurd (false≢true h)
name_is_some (b ∷ name) h = omega arith

-- names aren't joined to nothing
join_is_some : (c : ℕ) (names : List (List ℕ)) → 0 < length names → list_all (is_run is_name_byte) names ≡ true → 0 < length (join_with_byte c names)
join_is_some c [] some h = absurd (omega arith)
join_is_some c (x ∷ []) some h = name_is_some x (and_parts (is_run is_name_byte x) true h).0
join_is_some c (x ∷ y ∷ names) some h = omega (arith, length-append x (c ∷ join_with_byte c (y ∷ names)))

joined_is_some : (any : Bool) (names : List (List ℕ)) → AreNames any names → 0 < length (joined any names)
joined_is_some true names h = join_is_some 44 names h.some h.each
joined_is_some false names h = join_is_some 43 names h.some h.each

joined_some : {A : Type 0} (any other : Bool) (names more : List (List ℕ)) → AreNames any names → length more ≡ 0 → joined any names ≡ joined other more → A
joined_some any other names more h k e = absurd (omega (arith, joined_is_some any names h, ap length (e ∙ joined_nothing other more k)))

close_close : (any other : Bool) (names more : List (List ℕ)) (line : List ℕ) → IsClose any names line → IsClose other more line → Close any names ≡ Close other more
close_close any other names more line h k =
    let e = append_cancel_left (codes "endif::") (joined any names ++ codes "[]") (joined other more ++ codes "[]") (sym h.spelled ∙ k.spelled) in
    let text = (cut_once 91 (joined any names) (joined other more) (93 ∷ []) (93 ∷ []) (close_lack any names h.names_are) (close_lack other more k.names_are) e).0 in
    ⊎_elim
    (λ are. ⊎_elim
    (λ others. let same = names_once any other names more are others text in ap (λ a. Close a names) same.0 ∙ ap (Close other) same.1)
    (λ none. joined_some any other names more are none.1 text)
    k.names_are)
    (λ nothing. ⊎_elim
    (λ others. joined_some other any more names others nothing.1 (sym text))
    (λ none. ap (λ a. Close a names) (nothing.0 ∙ sym none.0) ∙ ap (Close other) (nil_from_length names nothing.1 ∙ sym (nil_from_length more none.1)))
    k.names_are)
    h.names_are

-- the forms of an include's target
chapter_chapter : (file other target : List ℕ) → IsChapter file target → IsChapter other target → file ≡ other
chapter_chapter file other target h k =
    ⊎_elim
    (λ a. ⊎_elim (λ b. file_once (codes "{chapters}/") (codes "chapters/") file other target a b) (λ b. apart 99 97 refl (second target (codes "hapters}/" ++ a.path) (codes "ppendices}/" ++ b.path) 99 97 a.target_is b.target_is)) k)
    (λ a. ⊎_elim (λ b. apart 97 99 refl (second target (codes "ppendices}/" ++ a.path) (codes "hapters}/" ++ b.path) 97 99 a.target_is b.target_is)) (λ b. file_once (codes "{appendices}/") (codes "appendices/") file other target a b) k)
    h
  where
    second : (target xs ys : List ℕ) (x y : ℕ) → target ≡ 123 ∷ x ∷ xs → target ≡ 123 ∷ y ∷ ys → x ≡ y
    second target xs ys x y e f = let same : 123 ∷ x ∷ xs ≡ 123 ∷ y ∷ ys = sym e ∙ f in cc

same_target : {A : Type 0} (first second : A → List ℕ → Type 0) (a b : A) (line : List ℕ) → ((target : List ℕ) → first a target → second b target → a ≡ b) → Includes (first a) line → Includes (second b) line → a ≡ b
same_target first second a b line forms h k =
    forms k.target (subst (first a) (target_once (first a) (second b) line h k) h.is_form) k.is_form

-- the fronts of targets differ
chapter_no_page : {A : Type 0} (file name target : List ℕ) (rest : List ℕ) → IsChapter file target → target ≡ codes "{generated}/" ++ rest → A
chapter_no_page file name target rest h e =
    ⊎_elim
    (λ a. apart 99 103 refl (second (codes "hapters}/" ++ a.path) (codes "enerated}/" ++ rest) 99 103 (sym a.target_is ∙ e)))
    (λ a. apart 97 103 refl (second (codes "ppendices}/" ++ a.path) (codes "enerated}/" ++ rest) 97 103 (sym a.target_is ∙ e)))
    h
  where
    second : (xs ys : List ℕ) (x y : ℕ) → 123 ∷ x ∷ xs ≡ 123 ∷ y ∷ ys → x ≡ y
    second xs ys x y same = cc

api_no_validity : {A : Type 0} (name other target : List ℕ) → IsApi name target → IsValidity other target → A
api_no_validity name other target h k =
    apart 97 118 refl (first (codes "pi/" ++ (h.kind ++ (codes "/" ++ (name ++ codes ".adoc")))) (codes "alidity/" ++ (k.kind ++ (codes "/" ++ (other ++ codes ".adoc")))) 97 118
    (append_cancel_left (codes "{generated}/") (codes "api/" ++ (h.kind ++ (codes "/" ++ (name ++ codes ".adoc")))) (codes "validity/" ++ (k.kind ++ (codes "/" ++ (other ++ codes ".adoc")))) (sym h.target_is ∙ k.target_is)))
  where
    first : (xs ys : List ℕ) (x y : ℕ) → x ∷ xs ≡ y ∷ ys → x ≡ y
    first xs ys x y same = cc

chapter_no_api : {A : Type 0} (file name line : List ℕ) → Includes (IsChapter file) line → Includes (IsApi name) line → A
chapter_no_api file name line h k = chapter_no_page file name k.target (codes "api/" ++ (k.is_form.kind ++ (codes "/" ++ (name ++ codes ".adoc")))) (subst (IsChapter file) (target_once (IsChapter file) (IsApi name) line h k) h.is_form) k.is_form.target_is

chapter_no_validity : {A : Type 0} (file name line : List ℕ) → Includes (IsChapter file) line → Includes (IsValidity name) line → A
chapter_no_validity file name line h k = chapter_no_page file name k.target (codes "validity/" ++ (k.is_form.kind ++ (codes "/" ++ (name ++ codes ".adoc")))) (subst (IsChapter file) (target_once (IsChapter file) (IsValidity name) line h k) h.is_form) k.is_form.target_is

one_validity : {A : Type 0} (name other line : List ℕ) → Includes (IsApi name) line → Includes (IsValidity other) line → A
one_validity name other line h k = api_no_validity name other k.target (subst (IsApi name) (target_once (IsApi name) (IsValidity other) line h k) h.is_form) k.is_form

-- a line with two kinds has one
pub one_kind : (a b : LineKind) (line : List ℕ) → Spells a line → Spells b line → a ≡ b
one_kind (Begin false any names) (Begin false other more) line h k = begin_begin false any other names more line h k
one_kind (Begin false any names) (Begin true other more) line h k = negates (joined any names ++ codes "[]") (joined other more ++ codes "[]") (sym h.spelled ∙ k.spelled)
one_kind (Begin false any names) (OneLine false other more from to) line h k = begin_one_line false any other names more from to line h k
one_kind (Begin false any names) (OneLine true other more from to) line h k = negates (joined any names ++ codes "[]") (joined other more ++ (codes "[" ++ (k.text ++ codes "]"))) (sym h.spelled ∙ k.spelled)
one_kind (Begin false any names) b line h k = apart 1 (family b) refl (same_family (Begin false any names) b line h k)
one_kind (Begin true any names) (Begin false other more) line h k = negates (joined other more ++ codes "[]") (joined any names ++ codes "[]") (sym k.spelled ∙ h.spelled)
one_kind (Begin true any names) (Begin true other more) line h k = begin_begin true any other names more line h k
one_kind (Begin true any names) (OneLine false other more from to) line h k = negates (joined other more ++ (codes "[" ++ (k.text ++ codes "]"))) (joined any names ++ codes "[]") (sym k.spelled ∙ h.spelled)
one_kind (Begin true any names) (OneLine true other more from to) line h k = begin_one_line true any other names more from to line h k
one_kind (Begin true any names) b line h k = apart 1 (family b) refl (same_family (Begin true any names) b line h k)
one_kind (OneLine false any names from to) (Begin false other more) line h k = begin_one_line false other any more names from to line k h
one_kind (OneLine false any names from to) (Begin true other more) line h k = negates (joined any names ++ (codes "[" ++ (h.text ++ codes "]"))) (joined other more ++ codes "[]") (sym h.spelled ∙ k.spelled)
one_kind (OneLine false any names from to) (OneLine false other more start end) line h k = one_line_one_line false any other names more from to start end line h k
one_kind (OneLine false any names from to) (OneLine true other more start end) line h k = negates (joined any names ++ (codes "[" ++ (h.text ++ codes "]"))) (joined other more ++ (codes "[" ++ (k.text ++ codes "]"))) (sym h.spelled ∙ k.spelled)
one_kind (OneLine false any names from to) b line h k = apart 1 (family b) refl (same_family (OneLine false any names from to) b line h k)
one_kind (OneLine true any names from to) (Begin false other more) line h k = negates (joined other more ++ codes "[]") (joined any names ++ (codes "[" ++ (h.text ++ codes "]"))) (sym k.spelled ∙ h.spelled)
one_kind (OneLine true any names from to) (Begin true other more) line h k = begin_one_line true other any more names from to line k h
one_kind (OneLine true any names from to) (OneLine false other more start end) line h k = negates (joined other more ++ (codes "[" ++ (k.text ++ codes "]"))) (joined any names ++ (codes "[" ++ (h.text ++ codes "]"))) (sym k.spelled ∙ h.spelled)
one_kind (OneLine true any names from to) (OneLine true other more start end) line h k = one_line_one_line true any other names more from to start end line h k
one_kind (OneLine true any names from to) b line h k = apart 1 (family b) refl (same_family (OneLine true any names from to) b line h k)
one_kind (Close any names) (Close other more) line h k = close_close any other names more line h k
one_kind (Close any names) b line h k = apart 3 (family b) refl (same_family (Close any names) b line h k)
one_kind (Chapter file) (Chapter other) line h k = ap Chapter (same_target IsChapter IsChapter file other line (λ target. chapter_chapter file other target) h k)
one_kind (Chapter file) (Api name) line h k = chapter_no_api file name line h k
one_kind (Chapter file) (Validity name) line h k = chapter_no_validity file name line h k
one_kind (Chapter file) Other line h k = absurd (k.no_chapter file h)
one_kind (Api name) (Api other) line h k = ap Api (same_target IsApi IsApi name other line (λ target. page_once (codes "{generated}/api/") name other target) h k)
one_kind (Api name) (Chapter file) line h k = chapter_no_api file name line k h
one_kind (Api name) (Validity other) line h k = one_validity name other line h k
one_kind (Api name) Other line h k = absurd (k.no_api name h)
one_kind (Validity name) (Validity other) line h k = ap Validity (same_target IsValidity IsValidity name other line (λ target. page_once (codes "{generated}/validity/") name other target) h k)
one_kind (Validity name) (Chapter file) line h k = chapter_no_validity file name line k h
one_kind (Validity name) (Api other) line h k = one_validity other name line k h
one_kind (Validity name) Other line h k = absurd (k.no_validity name h)
one_kind Other Other line h k = refl
one_kind Other (Chapter file) line h k = absurd (h.no_chapter file k)
one_kind Other (Api name) line h k = absurd (h.no_api name k)
one_kind Other (Validity name) line h k = absurd (h.no_validity name k)
one_kind (Chapter file) b line h k = apart 5 (family b) refl (same_family (Chapter file) b line h k)
one_kind (Api name) b line h k = apart 5 (family b) refl (same_family (Api name) b line h k)
one_kind (Validity name) b line h k = apart 5 (family b) refl (same_family (Validity name) b line h k)
one_kind Other b line h k = apart 5 (family b) refl (same_family Other b line h k)
one_kind Comment Comment line h k = refl
one_kind Comment b line h k = apart 7 (family b) refl (same_family Comment b line h k)
one_kind (Refpage name) (Refpage other) line h k = ap Refpage (refpage_once name other line h k)
one_kind (Refpage name) Plain line h k = absurd (k.no_refpage name h)
one_kind (Refpage name) b line h k = apart 6 (family b) refl (same_family (Refpage name) b line h k)
one_kind Plain Plain line h k = refl
one_kind Plain (Refpage name) line h k = absurd (h.no_refpage name k)
one_kind Plain b line h k = apart 6 (family b) refl (same_family Plain b line h k)

fault_is : (kind : LineKind) (line : List ℕ) (fault : CondFault) → Spells kind line → IsSpellingFault line fault → fault ≡ Memory
fault_is kind line BadCondition h bad = absurd (bad.unspelled kind h)
fault_is kind line (Unbalanced place) h bad = absurd bad
fault_is kind line (CondDepth place) h bad = absurd bad
fault_is kind line Memory h bad = refl

-- what is read where a kind is spelled is that kind
pub read_as : (kind : LineKind) (line : List ℕ) (read : Result LineKind CondFault) → Spells kind line → MatchResult read (λ found. Spells found line) (IsSpellingFault line) → MatchResult read (λ found. found ≡ kind) (λ fault. fault ≡ Memory)
read_as kind line (Ok found) h is = one_kind found kind line is h
read_as kind line (Err fault) h is = fault_is kind line fault h is
