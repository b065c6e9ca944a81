-- Every line has a kind or begins as a conditional and has none.
use Rattle.std.proofs.Common.{◌≡◌, ◌++◌, ◌∷◌, [], ◌+◌, ℕ, Bool, List, length, drop, true, false, refl, sym, ap, ◌∙◌, subst, arith, ◌⊎◌, ⊎_elim, inl, inr}
use Rattle.std.specs.Prelude.{codes}
use Rattle.std.specs.List.{prefix_len}
use Rattle.std.proofs.lemmas.Bool.{cases_Bool, cases_lt, false≢true, or_from, or_right}
use Rattle.std.proofs.lemmas.List.{append_cancel_left}
use Rattle.std.proofs.lemmas.List.Sums.{prefix_len-le-length}
use Rattle.vkb_bytes.specs.Bytes.{begins, is_letter, is_word_byte}
use Rattle.doc_cond.specs.declared.LineKind.{LineKind}
use Rattle.doc_cond.specs.declared.LineKind.TheVariants.{Plain, Comment, Other, Begin, OneLine, Close, Chapter, Api, Validity, Refpage}
use Rattle.doc_cond.specs.Lines.{Includes, IsApi, IsBadCondition, IsChapter, IsFile, IsPage, IsPath, IsRefpage, IsValidity, Spells, begins_comment, is_blank, is_run, joined, opening}
use Rattle.doc_cond.proofs.Choices.{HasNames, IsCut, cut_or_lacks, ends_or_not, names_or_none, path_or_not, texts_or_not}
use Rattle.doc_cond.proofs.Cuts.{no_bracket_closer, no_bracket_opener, no_names_closer, no_names_opener, open_closer, open_opener}
use Rattle.doc_cond.proofs.Families.{opening_begins, unspelled_eval}
use Rattle.doc_cond.proofs.Fronts.{begins_front, begins_on}
use Rattle.doc_cond.proofs.Targets.{early_end, no_bracket, no_end, no_ending, no_front, no_kind, no_target, other_include, page_parts, refpage_made, refpage_parts, run_some}

-- a line's kind, or that it begins as a conditional and has none
pub record HasKind (line : List ℕ) : Type 0 where
  pub kind : LineKind
  pub spelled : Spells kind line

-- what stands behind `ifdef::` or `ifndef::`, with a bracket at its end
opener_made : (negated : Bool) (rest text tail inner : List ℕ) → IsCut 91 rest text tail → tail ≡ inner ++ 93 ∷ [] → HasNames text → HasKind (opening negated ++ rest)
opener_made negated rest text tail [] cut ends names = record {
  kind = Begin negated names.any names.names;
  spelled = record {
    names_are = names.names_are;
    spelled = ap (λ (more : List ℕ). opening negated ++ more) (cut.spelled ∙ (ap (λ (t : List ℕ). t ++ 91 ∷ tail) names.spelled ∙ ap (λ (t : List ℕ). joined names.any names.names ++ 91 ∷ t) ends));
  };
}
opener_made negated rest text tail (b ∷ inner) cut ends names =
    let from : ℕ = length (opening negated ++ (joined names.any names.names ++ codes "[")) in
    record {
      kind = OneLine negated names.any names.names from (from + length (b ∷ inner));
      spelled = record {
        names_are = names.names_are;
        text = b ∷ inner;
        some = omega arith;
        spelled = ap (λ (more : List ℕ). opening negated ++ more) (cut.spelled ∙ (ap (λ (t : List ℕ). t ++ 91 ∷ tail) names.spelled ∙ ap (λ (t : List ℕ). joined names.any names.names ++ 91 ∷ t) ends));
        starts = refl;
        ends = refl;
      };
    }

opener_cut : (negated : Bool) (rest text tail : List ℕ) → IsCut 91 rest text tail → HasKind (opening negated ++ rest) ⊎ IsBadCondition (opening negated ++ rest)
opener_cut negated rest text tail cut = ⊎_elim
    (λ closed. ⊎_elim
    (λ names. inl (opener_made negated rest text tail closed.0 cut closed.1 names))
    (λ none. inr (record { begun = opening_begins negated rest; unspelled = no_names_opener negated rest text tail cut.spelled cut.first none }))
    (names_or_none text))
    (λ left_open. inr (record { begun = opening_begins negated rest; unspelled = open_opener negated rest text tail cut.spelled cut.first left_open }))
    (ends_or_not 93 tail)

opener : (negated : Bool) (rest : List ℕ) → HasKind (opening negated ++ rest) ⊎ IsBadCondition (opening negated ++ rest)
opener negated rest = ⊎_elim
    (λ cut. opener_cut negated rest cut.0 cut.1 cut.2)
    (λ none. inr (record { begun = opening_begins negated rest; unspelled = no_bracket_opener negated rest none }))
    (cut_or_lacks 91 rest)

closer_closed : (rest text tail : List ℕ) → IsCut 91 rest text tail → tail ≡ 93 ∷ [] → HasKind (codes "endif::" ++ rest) ⊎ IsBadCondition (codes "endif::" ++ rest)
closer_closed rest [] tail cut ends = inl (record {
  kind = Close true [];
  spelled = record { names_are = inr (refl, refl); spelled = ap (λ (more : List ℕ). codes "endif::" ++ more) (cut.spelled ∙ ap (λ (t : List ℕ). 91 ∷ t) ends) };
})
closer_closed rest (b ∷ text) tail cut ends = ⊎_elim
    (λ names. inl (record {
      kind = Close names.any names.names;
      spelled = record {
        names_are = inl names.names_are;
        spelled = ap (λ (more : List ℕ). codes "endif::" ++ more) (cut.spelled ∙ (ap (λ (t : List ℕ). t ++ 91 ∷ tail) names.spelled ∙ ap (λ (t : List ℕ). joined names.any names.names ++ 91 ∷ t) ends));
      };
    }))
    (λ none. inr (record { begun = refl; unspelled = no_names_closer rest (b ∷ text) tail cut.spelled cut.first (λ empty. omega (arith, empty)) none }))
    (names_or_none (b ∷ text))

closer : (rest : List ℕ) → HasKind (codes "endif::" ++ rest) ⊎ IsBadCondition (codes "endif::" ++ rest)
closer rest = ⊎_elim
    (λ cut. ⊎_elim
    (λ ends. closer_closed rest cut.0 cut.1 cut.2 ends)
    (λ apart. inr (record { begun = refl; unspelled = open_closer rest cut.0 cut.1 cut.2.spelled cut.2.first apart }))
    (texts_or_not cut.1 (93 ∷ [])))
    (λ none. inr (record { begun = refl; unspelled = no_bracket_closer rest none }))
    (cut_or_lacks 91 rest)

-- the target of an include
abbrev HasTarget : List ℕ → List ℕ → Type 0
HasTarget line target = Includes (λ found. found ≡ target) line

target_cut : (rest target tail attributes end : List ℕ) → IsCut 91 rest target tail → IsCut 93 tail attributes end → ((target : List ℕ) × HasTarget (codes "include::" ++ rest) target) ⊎ ((target : List ℕ) → ¬ HasTarget (codes "include::" ++ rest) target)
target_cut rest target tail attributes [] cut ends = inl (
  target,
  record {
    target = target;
    attributes = attributes;
    to_bracket = cut.first;
    attributes_are = ends.first;
    spelled = ap (λ (more : List ℕ). codes "include::" ++ more) (cut.spelled ∙ ap (λ (t : List ℕ). target ++ 91 ∷ t) ends.spelled);
    is_form = refl;
  },
)
target_cut rest target tail attributes (b ∷ end) cut ends = inr (λ other. early_end other rest target tail attributes (b ∷ end) cut.spelled cut.first ends.spelled ends.first (λ empty. omega (arith, empty)))

target_or_none : (rest : List ℕ) → ((target : List ℕ) × HasTarget (codes "include::" ++ rest) target) ⊎ ((target : List ℕ) → ¬ HasTarget (codes "include::" ++ rest) target)
target_or_none rest = ⊎_elim
    (λ cut. ⊎_elim
    (λ ends. target_cut rest cut.0 cut.1 ends.0 ends.1 cut.2 ends.2)
    (λ none. inr (λ target. no_end target rest cut.0 cut.1 cut.2.spelled cut.2.first none))
    (cut_or_lacks 93 cut.1))
    (λ none. inr (λ target. no_bracket target rest none))
    (cut_or_lacks 91 rest)

file_or_none : (front folder target : List ℕ) → ((file : List ℕ) × IsFile front folder file target) ⊎ ((file : List ℕ) → ¬ IsFile front folder file target)
file_or_none front folder target = ⊎_elim
    (λ begun.
    let path : List ℕ = drop (length front) target in
    let cut : target ≡ front ++ path = begins_front target front begun in
    ⊎_elim
    (λ is. inl (folder ++ path, record { path = path; path_is = is; target_is = cut; file_is = refl }))
    (λ not_path. inr (λ file s. not_path (subst IsPath (append_cancel_left front s.path path (sym s.target_is ∙ cut)) s.path_is)))
    (path_or_not path))
    (λ not_begun. inr (λ file s. false≢true (sym not_begun ∙ begins_on target front s.path s.target_is)))
    (cases_Bool (begins target front))

module _ (front target page kind file word ending : List ℕ) (behind : target ≡ front ++ page) (first : IsCut 47 page kind file) (second : IsCut 46 file word ending) where
  parts : (name : List ℕ) → (s : IsPage front name target) → (kind ≡ s.kind) × (word ≡ name) × (ending ≡ codes "adoc")
  parts name s = page_parts front name target page kind file word ending behind first.spelled first.first second.spelled second.first s

  pub page_cut_or_none : ((name : List ℕ) × IsPage front name target) ⊎ ((name : List ℕ) → ¬ IsPage front name target)
  page_cut_or_none = ⊎_elim
      (λ letters. ⊎_elim
      (λ is_word. ⊎_elim
      (λ ends. inl (
        word,
        record {
          kind = kind;
          kind_is = letters;
          name_is = is_word;
          target_is = behind ∙ ap (λ (p : List ℕ). front ++ p) (first.spelled ∙ ap (λ (f : List ℕ). kind ++ 47 ∷ f) (second.spelled ∙ ap (λ (e : List ℕ). word ++ 46 ∷ e) ends));
        },
      ))
      (λ apart. inr (λ name s. apart (parts name s).2))
      (texts_or_not ending (codes "adoc")))
      (λ no_word. inr (λ name s. false≢true (sym no_word ∙ (ap (is_run is_word_byte) (parts name s).1 ∙ s.name_is))))
      (cases_Bool (is_run is_word_byte word)))
      (λ no_letters. inr (λ name s. false≢true (sym no_letters ∙ (ap (is_run is_letter) (parts name s).0 ∙ s.kind_is))))
      (cases_Bool (is_run is_letter kind))

page_or_none : (front target : List ℕ) → ((name : List ℕ) × IsPage front name target) ⊎ ((name : List ℕ) → ¬ IsPage front name target)
page_or_none front target = ⊎_elim
    (λ begun.
    let page : List ℕ = drop (length front) target in
    let behind : target ≡ front ++ page = begins_front target front begun in
    ⊎_elim
    (λ first. ⊎_elim
    (λ second. page_cut_or_none front target page first.0 first.1 second.0 second.1 behind first.2 second.2)
    (λ none. inr (λ name. no_ending front name target page first.0 first.1 behind first.2.spelled first.2.first none))
    (cut_or_lacks 46 first.1))
    (λ none. inr (λ name. no_kind front name target page behind none))
    (cut_or_lacks 47 page))
    (λ not_begun. inr (λ name. no_front front name target not_begun))
    (cases_Bool (begins target front))

of_form : (IsForm : List ℕ → Type 0) (line target : List ℕ) → HasTarget line target → IsForm target → Includes IsForm line
of_form IsForm line target t is = record { target = t.target; attributes = t.attributes; to_bracket = t.to_bracket; attributes_are = t.attributes_are; spelled = t.spelled; is_form = subst IsForm (sym t.is_form) is }

include_of : (rest target : List ℕ) → HasTarget (codes "include::" ++ rest) target → HasKind (codes "include::" ++ rest)
include_of rest target t =
    let line : List ℕ = codes "include::" ++ rest in
    ⊎_elim
    (λ is. record { kind = Chapter is.0; spelled = of_form (IsChapter is.0) line target t (inl is.1) })
    (λ no_chapter. ⊎_elim
    (λ is. record { kind = Chapter is.0; spelled = of_form (IsChapter is.0) line target t (inr is.1) })
    (λ no_appendix. ⊎_elim
    (λ is. record { kind = Api is.0; spelled = of_form (IsApi is.0) line target t is.1 })
    (λ no_api. ⊎_elim
    (λ is. record { kind = Validity is.0; spelled = of_form (IsValidity is.0) line target t is.1 })
    (λ no_validity. record { kind = Other; spelled = other_include rest target t (λ file. ⊎_elim (no_chapter file) (no_appendix file)) no_api no_validity })
    (page_or_none (codes "{generated}/validity/") target))
    (page_or_none (codes "{generated}/api/") target))
    (file_or_none (codes "{appendices}/") (codes "appendices/") target))
    (file_or_none (codes "{chapters}/") (codes "chapters/") target)

include : (rest : List ℕ) → HasKind (codes "include::" ++ rest)
include rest = ⊎_elim
    (λ found. include_of rest found.0 found.1)
    (λ none. record { kind = Other; spelled = no_target rest none })
    (target_or_none rest)

refpage_behind : (rest : List ℕ) → ((name : List ℕ) × IsRefpage name (codes ":refpage:" ++ rest)) ⊎ ((name : List ℕ) → ¬ IsRefpage name (codes ":refpage:" ++ rest))
refpage_behind rest =
    let gap : ℕ = prefix_len is_blank rest in
    ⊎_elim
    (λ some. ⊎_elim
    (λ is_word. inl (drop gap rest, refpage_made rest gap refl (prefix_len-le-length is_blank rest) some is_word))
    (λ no_word. inr (λ name s. false≢true (sym no_word ∙ (ap (is_run is_word_byte) (refpage_parts rest name s).1 ∙ s.name_is))))
    (cases_Bool (is_run is_word_byte (drop gap rest))))
    (λ none. inr (λ name s. omega (arith, none, run_some s.gap s.gap_is, (refpage_parts rest name s).0)))
    (cases_lt 0 gap)

refpage_or_none : (line : List ℕ) → ((name : List ℕ) × IsRefpage name line) ⊎ ((name : List ℕ) → ¬ IsRefpage name line)
refpage_or_none line = ⊎_elim
    (λ begun. subst (λ (l : List ℕ). ((name : List ℕ) × IsRefpage name l) ⊎ ((name : List ℕ) → ¬ IsRefpage name l)) (sym (begins_front line (codes ":refpage:") begun)) (refpage_behind (drop 9 line)))
    (λ not_begun. inr (λ name s. false≢true (sym not_begun ∙ begins_on line (codes ":refpage:") (s.gap ++ name) s.spelled)))
    (cases_Bool (begins line (codes ":refpage:")))

-- a line that begins as no conditional
module _ (line : List ℕ) (no_ifdef : begins line (codes "ifdef::") ≡ false) (no_ifndef : begins line (codes "ifndef::") ≡ false) (no_endif : begins line (codes "endif::") ≡ false) (no_ifeval : begins line (codes "ifeval::") ≡ false) where
  pub kind_else : HasKind line
  kind_else = ⊎_elim
      (λ begun. subst HasKind (sym (begins_front line (codes "include::") begun)) (include (drop 9 line)))
      (λ no_include. ⊎_elim
      (λ comment. record { kind = Comment; spelled = comment })
      (λ no_comment. ⊎_elim
      (λ found. record { kind = Refpage found.0; spelled = found.1 })
      (λ no_refpage. record {
        kind = Plain;
        spelled = record {
          no_conditional = or_from _ _ (or_from _ _ (or_from _ _ no_ifdef no_ifndef) no_endif) no_ifeval;
          no_include = no_include;
          no_refpage = no_refpage;
          no_comment = no_comment;
        };
      })
      (refpage_or_none line))
      (cases_Bool (begins_comment line)))
      (cases_Bool (begins line (codes "include::")))

abbrev IsEither : List ℕ → Type 0
IsEither line = HasKind line ⊎ IsBadCondition line

spelled_or_bad : (line : List ℕ) → HasKind line ⊎ IsBadCondition line
spelled_or_bad line = ⊎_elim
    (λ begun. subst IsEither (sym (begins_front line (codes "ifdef::") begun)) (opener false (drop 7 line)))
    (λ no_ifdef. ⊎_elim
    (λ begun. subst IsEither (sym (begins_front line (codes "ifndef::") begun)) (opener true (drop 8 line)))
    (λ no_ifndef. ⊎_elim
    (λ begun. subst IsEither (sym (begins_front line (codes "endif::") begun)) (closer (drop 7 line)))
    (λ no_endif. ⊎_elim
    (λ begun. inr (record { begun = or_right _ _ begun; unspelled = unspelled_eval line begun }))
    (λ no_ifeval. inl (kind_else line no_ifdef no_ifndef no_endif no_ifeval))
    (cases_Bool (begins line (codes "ifeval::"))))
    (cases_Bool (begins line (codes "endif::"))))
    (cases_Bool (begins line (codes "ifndef::"))))
    (cases_Bool (begins line (codes "ifdef::")))

pub kind_or_bad : (line : List ℕ) → ((kind : LineKind) × Spells kind line) ⊎ IsBadCondition line
kind_or_bad line = ⊎_elim (λ has. inl (has.kind, has.spelled)) (λ bad. inr bad) (spelled_or_bad line)
