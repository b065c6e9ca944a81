-- Each document has a verdict.
use Rattle.std.proofs.Common.{◌≡◌, ◌≢◌, ℕ, zero, suc, ◌⊎◌, Bool, true, false, List, [], ◌∷◌, ◌++◌, length, refl, ap, arith, inl, inr, All, Contains}
use Rattle.std.proofs.lemmas.Bool.{cases_eq}
use Rattle.std.proofs.lemmas.List.Elements.{All-cons, All-nil}
use Rattle.doc_tree.specs.Flat.{FlatLine}
use Rattle.doc_build.specs.declared.Place.{Place}
use Rattle.doc_build.specs.Breaks.{Breaks, IsSound}
use Rattle.reg_registry.specs.Laws.{AreWithin}
use Rattle.reg_registry.specs.Rows.{Rows}
use Rattle.reg_closure.specs.Existence.{ClosuresAreThere}
use Rattle.reg_permit.specs.Laws.{PermittedOrNot}
use Rattle.reg_permit.specs.Permitted.{IsPermitted}
use Rattle.doc_build.specs.Choices.{Choice, Setting}
use Rattle.doc_build.specs.Pieces.{Link, all_links, count_of, link_id, links_of, pieces_of}
use Rattle.doc_build.specs.Settings.{AreClosures, registry_setting}
use Rattle.lift_check.specs.Verdict.{IsJudged, IsVerdict}
use Rattle.lift_check.specs.declared.Verdict.{Verdict}
use Rattle.lift_check.specs.declared.Verdict.TheVariants.{No, Yes}
use Rattle.vkb_tool.proofs.EveryRequest.{same_or_not}

-- a place by its numbers
abbrev place_of : ℕ → ℕ → ℕ → Place
place_of line statement at = record { line = line; statement = statement; at = at }

place_of_same : (line other statement count at byte : ℕ) → line ≡ other → statement ≡ count → at ≡ byte → place_of line statement at ≡ place_of other count byte
place_of_same line other statement count at byte lines statements bytes = cc

-- a link by its parts
abbrev link_of : Place → List ℕ → Link
link_of place id = record { place = place; id = id }

link_of_same : (place other : Place) (id name : List ℕ) → place ≡ other → id ≡ name → link_of place id ≡ link_of other name
link_of_same place other id name places ids = cc

-- places are the same or not
same_place_or_not : (place other : Place) → (place ≡ other) ⊎ (place ≢ other)
same_place_or_not place other =
    elim (cases_eq place.line other.line) [
      | inr differs ↦ inr (λ same. differs (ap (λ (p : Place). p.line) same))
      | inl line ↦ elim (cases_eq place.statement other.statement) [
        | inr differs ↦ inr (λ same. differs (ap (λ (p : Place). p.statement) same))
        | inl statement ↦ elim (cases_eq place.at other.at) [
          | inr differs ↦ inr (λ same. differs (ap (λ (p : Place). p.at) same))
          | inl at ↦ inl (place_of_same place.line other.line place.statement other.statement place.at other.at line statement at)
        ]
      ]
    ]

-- links are the same or not
same_link_or_not : (link other : Link) → (link ≡ other) ⊎ (link ≢ other)
same_link_or_not link other =
    elim (same_place_or_not link.place other.place) [
      | inr differs ↦ inr (λ same. differs (ap (λ (l : Link). l.place) same))
      | inl place ↦ elim (same_or_not link.id other.id) [
        | inr differs ↦ inr (λ same. differs (ap (λ (l : Link). l.id) same))
        | inl id ↦ inl (link_of_same link.place other.place link.id other.id place id)
      ]
    ]

-- a link that is among others, behind one that differs, is among the rest
among_rest : (first : Link) (links : List Link) (link : Link) → first ≢ link → Contains (first ∷ links) link → Contains links link
among_rest first links link differs (zero, below, same) = absurd (differs same)
among_rest first links link differs (suc k, below, same) = (k, omega arith, same)

-- a link is among some or not
among_or_not : (links : List Link) (link : Link) → Contains links link ⊎ (¬ Contains links link)
among_or_not [] link = inr (λ among. let below = among.1 in omega arith)
among_or_not (first ∷ links) link =
    elim (same_link_or_not first link) [
      | inl same ↦ inl (0, omega arith, same)
      | inr differs ↦ elim (among_or_not links link) [
        | inl (k, below, same) ↦ inl (suc k, omega arith, same)
        | inr none ↦ inr (λ among. none (among_rest first links link differs among))
      ]
    ]

-- some choice of so many options has a property, or none has
some_choice : (options : ℕ) (P : Choice → Type 0) → ((choice : Choice) → P choice ⊎ (¬ P choice))
    → ((choice : Choice) × (length choice ≡ options) × P choice) ⊎ ((choice : Choice) → length choice ≡ options → ¬ P choice)
some_choice zero P decide =
    elim (decide []) [
      | inl has ↦ inl ([], refl, has)
      | inr lacks ↦ inr (λ choice fits. lacks_all choice fits lacks)
    ]
  where
    lacks_all : (choice : Choice) → length choice ≡ 0 → ¬ P [] → ¬ P choice
    lacks_all [] fits lacks = lacks
    lacks_all (first ∷ rest) fits lacks = absurd (let e = fits in omega arith)
some_choice (suc options) P decide =
    elim (some_choice options (λ rest. P (true ∷ rest)) (λ rest. decide (true ∷ rest))) [
      | inl (rest, fits, has) ↦ inl (true ∷ rest, ap suc fits, has)
      | inr with ↦ elim (some_choice options (λ rest. P (false ∷ rest)) (λ rest. decide (false ∷ rest))) [
        | inl (rest, fits, has) ↦ inl (false ∷ rest, ap suc fits, has)
        | inr without ↦ inr (λ choice fits. lacks_both choice fits with without)
      ]
    ]
  where
    lacks_both : (choice : Choice) → length choice ≡ suc options → ((rest : Choice) → length rest ≡ options → ¬ P (true ∷ rest))
        → ((rest : Choice) → length rest ≡ options → ¬ P (false ∷ rest)) → ¬ P choice
    lacks_both [] fits with without = absurd (let e = fits in omega arith)
    lacks_both (true ∷ rest) fits with without = with rest (let e = fits in omega arith)
    lacks_both (false ∷ rest) fits with without = without rest (let e = fits in omega arith)

-- the first of a list that lacks a property, with what tells so, or each has it
record IsFirstBad (A : Type 0) (Good Bad : A → Type 0) (all : List A) : Type 0 where
  pub before : List A
  pub first : A
  pub after : List A
  pub here : all ≡ before ++ first ∷ after
  pub good : All Good before
  pub bad : Bad first

first_or_none : (A : Type 0) (Good Bad : A → Type 0) → ((x : A) → Bad x ⊎ Good x) → (all : List A) → IsFirstBad A Good Bad all ⊎ All Good all
first_or_none A Good Bad decide [] = inr (All-nil Good)
first_or_none A Good Bad decide (x ∷ all) =
    elim (decide x) [
      | inl bad ↦ inl (record { before = []; first = x; after = all; here = refl; good = All-nil Good; bad = bad })
      | inr good ↦ elim (first_or_none A Good Bad decide all) [
        | inl is ↦ inl (record { before = x ∷ is.before; first = is.first; after = is.after; here = ap (λ (xs : List A). x ∷ xs) is.here; good = All-cons Good x is.before good is.good; bad = is.bad })
        | inr rest ↦ inr (All-cons Good x all good rest)
      ]
    ]

module _ (setting : Setting) (lines : List FlatLine) where
  -- a choice breaks a link or not
  breaks_or_not : (link : Link) (choice : Choice) → Breaks setting lines choice link ⊎ (¬ Breaks setting lines choice link)
  breaks_or_not link choice =
      elim (among_or_not (links_of (pieces_of setting lines choice)) link) [
        | inr none ↦ inr (λ breaks. none breaks.stands)
        | inl stands ↦ elim (cases_eq (count_of setting lines choice (link_id setting lines choice link)) 1) [
          | inl one ↦ inr (λ breaks. breaks.count one)
          | inr other ↦ inl (record { stands = stands; count = other })
        ]
      ]

module _ (permitted_or_not : PermittedOrNot) (always : List (List ℕ)) (r : Rows) (closure : Choice → List Bool) (lines : List FlatLine) (within : AreWithin r.rows) where
  -- what is judged over
  abbrev over : Setting
  over = registry_setting always r closure

  -- a choice that the registry permits, where it has a value for each option, breaks a link
  abbrev BreaksAt : Link → Choice → Type 0
  BreaksAt link choice = IsPermitted r choice × Breaks over lines choice link

  breaks_there_or_not : (link : Link) (choice : Choice) → BreaksAt link choice ⊎ (¬ BreaksAt link choice)
  breaks_there_or_not link choice =
      elim (permitted_or_not r choice within) [
        | inr refused ↦ inr (λ breaks. refused breaks.0)
        | inl permitted ↦ elim (breaks_or_not over lines link choice) [
          | inl breaks ↦ inl (permitted, breaks)
          | inr holds ↦ inr (λ breaks. holds breaks.1)
        ]
      ]

  -- a permitted choice that breaks a link
  abbrev IsBroken : Link → Type 0
  IsBroken link = (choice : Choice) × (length choice ≡ length r.options) × BreaksAt link choice

  broken_or_sound : (link : Link) → IsBroken link ⊎ IsSound over lines link
  broken_or_sound link =
      elim (some_choice (length r.options) (BreaksAt link) (breaks_there_or_not link)) [
        | inl broken ↦ inl broken
        | inr none ↦ inr (λ choice permits breaks. none choice permits.0 (permits.1, breaks))
      ]

  -- whichever closures the choices have, there is a verdict
  verdict_over : (verdict : Verdict) × IsVerdict over lines verdict
  verdict_over =
      let all = all_links over lines in
      elim (first_or_none Link (IsSound over lines) IsBroken broken_or_sound all) [
        | inr sound ↦ (Yes (length all), (refl, sound))
        | inl is ↦
            let link = is.first in
            let choice = is.bad.0 in
            let id = link_id over lines choice link in (
              No link.place id choice (count_of over lines choice id),
              record { before = is.before; link = link; after = is.after; here = is.here; first = is.good; permitted = (is.bad.1, is.bad.2.0); broken = is.bad.2.1; place_is = refl; id_is = refl; counted = refl },
            )
      ]

-- each choice of a registry's options has its closure
closures_of : ClosuresAreThere → (r : Rows) → length r.rows ≡ length r.names → AreWithin r.rows → (closure : Choice → List Bool) × AreClosures r closure
closures_of there r counted within = (λ choice. (there r choice counted within).0, λ choice fits. (there r choice counted within).1)

-- each document has a verdict over a registry
pub every_verdict : PermittedOrNot → ClosuresAreThere → (always : List (List ℕ)) (r : Rows) (lines : List FlatLine) → length r.rows ≡ length r.names → AreWithin r.rows → (verdict : Verdict) × IsJudged always r lines verdict
every_verdict permitted_or_not there always r lines counted within =
    let closures = closures_of there r counted within in
    let told = verdict_over permitted_or_not always r closures.0 lines within in
    (told.0, (closures.0, closures.1, told.1))
