-- What stands behind `include::` and `:refpage:`, cut into its parts.
use Rattle.std.proofs.Common.{◌≡◌, ◌++◌, ◌∷◌, [], ◌<◌, ◌≤◌, ◌+◌, ℕ, Bool, List, length, drop, take, true, false, not, ◌==◌, refl, sym, ap, ◌∙◌, arith, cond, subst}
use Rattle.std.specs.Prelude.{codes}
use Rattle.std.specs.List.{list_all, prefix_len}
use Rattle.std.proofs.lemmas.Bool.{false≢true, and_parts, and_from, or_from, not_from_false, ne_eqb}
use Rattle.std.proofs.lemmas.List.Sums.{list_all-from_AllPass, prefix_len_passes}
use Rattle.std.proofs.lemmas.List.{append_cancel_left, drop_at, take-append-drop, length-take, get_or-take}
use Rattle.vkb_bytes.specs.Bytes.{begins, is_letter, is_word_byte}
use Rattle.doc_cond.specs.Lines.{Includes, IsApi, IsChapter, IsFile, IsOther, IsPage, IsValidity, IsRefpage, is_blank, is_run, lacks}
use Rattle.doc_cond.proofs.Fronts.{begins_on}
use Rattle.doc_cond.proofs.Pieces.{cut_once, lacks_not, run_lacks, not_true, passing_differs}

-- the one target of what stands behind `include::`
include_cut : (IsForm : List ℕ → Type 0) (rest target tail : List ℕ) → rest ≡ target ++ 91 ∷ tail → lacks target 91 ≡ true → (s : Includes IsForm (codes "include::" ++ rest)) → (target ≡ s.target) × (tail ≡ s.attributes ++ 93 ∷ [])
include_cut IsForm rest target tail e h s =
    cut_once 91 target s.target tail (s.attributes ++ 93 ∷ []) h s.to_bracket (sym e ∙ append_cancel_left (codes "include::") rest (s.target ++ (codes "[" ++ (s.attributes ++ codes "]"))) s.spelled)

pub target_once : (IsForm : List ℕ → Type 0) (IsOther : List ℕ → Type 0) (line : List ℕ) → (s : Includes IsForm line) (o : Includes IsOther line) → s.target ≡ o.target
target_once IsForm IsOther line s o =
    (cut_once 91 s.target o.target (s.attributes ++ 93 ∷ []) (o.attributes ++ 93 ∷ []) s.to_bracket o.to_bracket
    (append_cancel_left (codes "include::") (s.target ++ 91 ∷ (s.attributes ++ 93 ∷ [])) (o.target ++ 91 ∷ (o.attributes ++ 93 ∷ [])) (sym s.spelled ∙ o.spelled))).0

-- no bracket, or none that ends the line
pub no_bracket : (target rest : List ℕ) → lacks rest 91 ≡ true → ¬ Includes (λ found. found ≡ target) (codes "include::" ++ rest)
no_bracket target rest h s =
    false≢true (sym (lacks_not 91 s.target (s.attributes ++ 93 ∷ [])) ∙ (sym (ap (λ bytes. lacks bytes 91) (append_cancel_left (codes "include::") rest (s.target ++ (codes "[" ++ (s.attributes ++ codes "]"))) s.spelled)) ∙ h))

pub no_end : (target rest front tail : List ℕ) → rest ≡ front ++ 91 ∷ tail → lacks front 91 ≡ true → lacks tail 93 ≡ true → ¬ Includes (λ found. found ≡ target) (codes "include::" ++ rest)
no_end target rest front tail e h k s =
    false≢true (sym (lacks_not 93 s.attributes []) ∙ (sym (ap (λ bytes. lacks bytes 93) (include_cut (λ found. found ≡ target) rest front tail e h s).1) ∙ k))

pub early_end : (target rest front tail any end : List ℕ) → rest ≡ front ++ 91 ∷ tail → lacks front 91 ≡ true → tail ≡ any ++ 93 ∷ end → lacks any 93 ≡ true → ¬ (length end ≡ 0) → ¬ Includes (λ found. found ≡ target) (codes "include::" ++ rest)
early_end target rest front tail any end e h f k some s =
    some (ap length (cut_once 93 any s.attributes end [] k s.attributes_are (sym f ∙ (include_cut (λ found. found ≡ target) rest front tail e h s).1)).1)

-- a page's target is cut at its first `/` behind the front and at the first `.` behind that
page_cut : (front name target page : List ℕ) → target ≡ front ++ page → (s : IsPage front name target) → page ≡ s.kind ++ 47 ∷ (name ++ codes ".adoc")
page_cut front name target page e s = append_cancel_left front page (s.kind ++ (codes "/" ++ (name ++ codes ".adoc"))) (sym e ∙ s.target_is)

pub no_front : (front name target : List ℕ) → begins target front ≡ false → ¬ IsPage front name target
no_front front name target h s = false≢true (sym h ∙ begins_on target front (s.kind ++ (codes "/" ++ (name ++ codes ".adoc"))) s.target_is)

pub no_kind : (front name target page : List ℕ) → target ≡ front ++ page → lacks page 47 ≡ true → ¬ IsPage front name target
no_kind front name target page e h s = false≢true (sym (lacks_not 47 s.kind (name ++ codes ".adoc")) ∙ (sym (ap (λ bytes. lacks bytes 47) (page_cut front name target page e s)) ∙ h))

kind_cut : (front name target page kind file : List ℕ) → target ≡ front ++ page → page ≡ kind ++ 47 ∷ file → lacks kind 47 ≡ true → (s : IsPage front name target) → (kind ≡ s.kind) × (file ≡ name ++ codes ".adoc")
kind_cut front name target page kind file e f h s =
    cut_once 47 kind s.kind file (name ++ codes ".adoc") h (run_lacks is_letter 47 s.kind refl s.kind_is) (sym f ∙ page_cut front name target page e s)

pub no_ending : (front name target page kind file : List ℕ) → target ≡ front ++ page → page ≡ kind ++ 47 ∷ file → lacks kind 47 ≡ true → lacks file 46 ≡ true → ¬ IsPage front name target
no_ending front name target page kind file e f h k s =
    false≢true (sym (lacks_not 46 name (codes "adoc")) ∙ (sym (ap (λ bytes. lacks bytes 46) (kind_cut front name target page kind file e f h s).1) ∙ k))

pub page_parts : (front name target page kind file word ending : List ℕ) → target ≡ front ++ page → page ≡ kind ++ 47 ∷ file → lacks kind 47 ≡ true → file ≡ word ++ 46 ∷ ending → lacks word 46 ≡ true → (s : IsPage front name target) → (kind ≡ s.kind) × (word ≡ name) × (ending ≡ codes "adoc")
page_parts front name target page kind file word ending e f h g k s =
    let first = kind_cut front name target page kind file e f h s in
    let second = cut_once 46 word name ending (codes "adoc") k (run_lacks is_word_byte 46 name refl s.name_is) (sym g ∙ first.1) in
    (first.0, second.0, second.1)

-- one page has one name
pub page_once : (front name other target : List ℕ) → IsPage front name target → IsPage front other target → name ≡ other
page_once front name other target s o =
    (page_parts front other target (s.kind ++ 47 ∷ (name ++ codes ".adoc")) s.kind (name ++ codes ".adoc") name (codes "adoc") s.target_is refl (run_lacks is_letter 47 s.kind refl s.kind_is) refl (run_lacks is_word_byte 46 name refl s.name_is) o).1

-- one file
pub file_once : (front folder file other target : List ℕ) → IsFile front folder file target → IsFile front folder other target → file ≡ other
file_once front folder file other target s o =
    s.file_is ∙ (ap (λ path. folder ++ path) (append_cancel_left front s.path o.path (sym s.target_is ∙ o.target_is)) ∙ sym o.file_is)

-- the gap behind `:refpage:` is as long as it can be
gap_all : (gap name : List ℕ) → list_all is_blank gap ≡ true → prefix_len is_blank name ≡ 0 → prefix_len is_blank (gap ++ name) ≡ length gap
gap_all [] name h k = k
gap_all (b ∷ gap) name h k =
    let parts = and_parts (is_blank b) (list_all is_blank gap) h in
    ap (λ (t : Bool). cond t (1 + prefix_len is_blank (gap ++ name)) 0) parts.0 ∙ omega (arith, gap_all gap name parts.1 k)

word_starts : (name : List ℕ) → is_run is_word_byte name ≡ true → prefix_len is_blank name ≡ 0
word_starts [] h = absurd (false≢true h)
word_starts (b ∷ name) h =
    let passes = (and_parts (not (length (b ∷ name) == 0)) (list_all is_word_byte (b ∷ name)) h).1 in
    let word = (and_parts (is_word_byte b) (list_all is_word_byte name) passes).0 in
    let apart = or_from (b == 32) (b == 9) (not_true (b == 32) (passing_differs is_word_byte 32 b refl word)) (not_true (b == 9) (passing_differs is_word_byte 9 b refl word)) in
    ap (λ (t : Bool). cond t (1 + prefix_len is_blank name) 0) apart

pub gap_is : (gap name : List ℕ) → is_run is_blank gap ≡ true → is_run is_word_byte name ≡ true → prefix_len is_blank (gap ++ name) ≡ length gap
gap_is gap name h k = gap_all gap name (and_parts (not (length gap == 0)) (list_all is_blank gap) h).1 (word_starts name k)

behind_gap : (gap name : List ℕ) → is_run is_blank gap ≡ true → is_run is_word_byte name ≡ true → drop (prefix_len is_blank (gap ++ name)) (gap ++ name) ≡ name
behind_gap gap name h k = ap (λ n. drop n (gap ++ name)) (gap_is gap name h k) ∙ drop_at gap name (length gap) refl

pub run_some : (gap : List ℕ) → is_run is_blank gap ≡ true → 0 < length gap
run_some [] h = absurd (false≢true h)
run_some (b ∷ gap) h = omega arith

blanks_pass : (rest : List ℕ) (n : ℕ) → n ≡ prefix_len is_blank rest → list_all is_blank (take n rest) ≡ true
blanks_pass rest n e = list_all-from_AllPass is_blank (take n rest) (λ k d within.
    let below : k < n = omega (arith, within, length-take n rest) in
    ap is_blank (get_or-take n rest k d below) ∙ prefix_len_passes is_blank rest k d (omega arith))

pub refpage_made : (rest : List ℕ) (n : ℕ) → n ≡ prefix_len is_blank rest → n ≤ length rest → 0 < n → is_run is_word_byte (drop n rest) ≡ true → IsRefpage (drop n rest) (codes ":refpage:" ++ rest)
refpage_made rest n e within some h = record {
  gap = take n rest;
  gap_is = and_from (not (length (take n rest) == 0)) (list_all is_blank (take n rest)) (not_from_false (length (take n rest) == 0) (ne_eqb (length (take n rest)) 0 (λ none. omega (arith, none, length-take n rest)))) (blanks_pass rest n e);
  name_is = h;
  spelled = ap (λ more. codes ":refpage:" ++ more) (sym (take-append-drop n rest));
}

pub refpage_parts : (rest name : List ℕ) → (s : IsRefpage name (codes ":refpage:" ++ rest)) → (prefix_len is_blank rest ≡ length s.gap) × (drop (prefix_len is_blank rest) rest ≡ name)
refpage_parts rest name s =
    let e : rest ≡ s.gap ++ name = append_cancel_left (codes ":refpage:") rest (s.gap ++ name) s.spelled in
    let len : prefix_len is_blank rest ≡ length s.gap = ap (prefix_len is_blank) e ∙ gap_is s.gap name s.gap_is s.name_is in
    (len, ap (λ n. drop n rest) len ∙ (ap (drop (length s.gap)) e ∙ drop_at s.gap name (length s.gap) refl))

pub refpage_once : (name other line : List ℕ) → IsRefpage name line → IsRefpage other line → name ≡ other
refpage_once name other line s o =
    let e : s.gap ++ name ≡ o.gap ++ other = append_cancel_left (codes ":refpage:") (s.gap ++ name) (o.gap ++ other) (sym s.spelled ∙ o.spelled) in
    sym (behind_gap s.gap name s.gap_is s.name_is) ∙ (ap (λ rest. drop (prefix_len is_blank rest) rest) e ∙ behind_gap o.gap other o.gap_is o.name_is)

-- an include is of another form where its target is of none
pub other_include : (rest target : List ℕ) → Includes (λ found. found ≡ target) (codes "include::" ++ rest) → ((file : List ℕ) → ¬ IsChapter file target) → ((name : List ℕ) → ¬ IsApi name target) → ((name : List ℕ) → ¬ IsValidity name target) → IsOther (codes "include::" ++ rest)
other_include rest target t c a v = record {
  includes = begins_on (codes "include::" ++ rest) (codes "include::") rest refl;
  no_chapter = λ file s. c file (subst (IsChapter file) (target_once (IsChapter file) (λ found. found ≡ target) (codes "include::" ++ rest) s t ∙ t.is_form) s.is_form);
  no_api = λ name s. a name (subst (IsApi name) (target_once (IsApi name) (λ found. found ≡ target) (codes "include::" ++ rest) s t ∙ t.is_form) s.is_form);
  no_validity = λ name s. v name (subst (IsValidity name) (target_once (IsValidity name) (λ found. found ≡ target) (codes "include::" ++ rest) s t ∙ t.is_form) s.is_form);
}

with_target : (IsForm : List ℕ → Type 0) (line : List ℕ) → (s : Includes IsForm line) → Includes (λ found. found ≡ s.target) line
with_target IsForm line s = record { target = s.target; attributes = s.attributes; to_bracket = s.to_bracket; attributes_are = s.attributes_are; spelled = s.spelled; is_form = refl }

pub no_target : (rest : List ℕ) → ((target : List ℕ) → ¬ Includes (λ found. found ≡ target) (codes "include::" ++ rest)) → IsOther (codes "include::" ++ rest)
no_target rest none = record {
  includes = begins_on (codes "include::" ++ rest) (codes "include::") rest refl;
  no_chapter = λ file s. none s.target (with_target (IsChapter file) (codes "include::" ++ rest) s);
  no_api = λ name s. none s.target (with_target (IsApi name) (codes "include::" ++ rest) s);
  no_validity = λ name s. none s.target (with_target (IsValidity name) (codes "include::" ++ rest) s);
}
