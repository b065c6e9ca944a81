-- There is an answer for any registry, and one.
use Rattle.std.proofs.Common.{◌≡◌, ◌⊎◌, ℕ, ◌<◌, List, [], ◌∷◌, ◌++◌, length, map, get_or, slice_get, Option, Some, None, All, Contains, append_assoc, append-nil, refl, sym, ap, subst, ◌∙◌, inl, inr, ⊎_elim, arith}
use Rattle.std.specs.Prelude.{Ok, Err, MatchOption, Result}
use Rattle.std.proofs.lemmas.List.Elements.{All-cons, All-head, All-nil, All-tail}
use Rattle.std.proofs.lemmas.Option.{slice_get-get_or}
use Rattle.vkb_formula.specs.Expressions.{Expression, IsNoExpression, Spells}
use Rattle.reg_registry.specs.Laws.{AreWithin, HasACircleOrNot}
use Rattle.reg_registry.specs.Naming.{IsCircle, IsNamingCycle, IsOnCircle}
use Rattle.reg_registry.specs.Rows.{Rows}
use Rattle.reg_forms.specs.declared.forms.DependsText.{DependsText}
use Rattle.reg_forms.specs.declared.forms.Fault.{Fault}
use Rattle.reg_forms.specs.declared.forms.Forms.{Forms}
use Rattle.reg_forms.specs.declared.forms.OptionForm.{OptionForm}
use Rattle.reg_tables.specs.Bits.{Readings}
use Rattle.reg_tables.specs.Tables.{features_in}
use Rattle.reg_tables.specs.Words.{AreReadings, IsReadAs}
use Rattle.reg_rows.specs.Answer.{IsAccepted, IsAnswer}
use Rattle.reg_rows.specs.Faults.{IsFirst, faults_of}
use Rattle.reg_rows.specs.Laws.{EachIsAnswered, IsTold, RowsAreWithin}
use Rattle.reg_rows.specs.Rows.{declared_in, names_in, row_of, rows_of}
use Rattle.reg_rows.specs.declared.fault.RowFault.TheVariants.{Bad, NamingCycle, NoFeature}
use Rattle.reg_rows.specs.declared.fault.RowFault.{RowFault}
use Rattle.reg_rows.proofs.AcceptedLemmas.{named-within}
use Rattle.reg_rows.proofs.BuildLemmas.{found-within}
use Rattle.reg_rows.proofs.OrderLemmas.{one-more}

-- some faults have a first, or there are none
first-behind : (seen rest : List Fault) (found : Option Fault) → MatchOption found (seen ≡ []) (IsFirst seen) → (first : Option Fault) × MatchOption first (seen ++ rest ≡ []) (IsFirst (seen ++ rest))
first-behind seen [] found first = (found, subst (λ (faults : List Fault). MatchOption found (faults ≡ []) (IsFirst faults)) (sym (append-nil seen)) first)
first-behind seen (fault ∷ rest) found first =
    subst (λ (faults : List Fault). (first : Option Fault) × MatchOption first (faults ≡ []) (IsFirst faults)) (append_assoc seen (fault ∷ []) rest)
    (first-behind (seen ++ fault ∷ []) rest (Some _) (one-more found seen fault first))

first-or-none : (faults : List Fault) → (faults ≡ []) ⊎ ((fault : Fault) × IsFirst faults fault)
first-or-none faults = cases-of (first-behind [] faults None refl).0 (first-behind [] faults None refl).1
  where
    cases-of : (first : Option Fault) → MatchOption first (faults ≡ []) (IsFirst faults) → (faults ≡ []) ⊎ ((fault : Fault) × IsFirst faults fault)
    cases-of None none = inl none
    cases-of (Some fault) first = inr (fault, first)

-- names at places that are there
names-read : (table : List (List ℕ)) (places : List ℕ) → All (λ p. p < length table) places → map Some (map (λ p. get_or table p []) places) ≡ map (slice_get table) places
names-read table [] within = refl
names-read table (p ∷ places) within =
    let here : Some (get_or table p []) ≡ slice_get table p = sym (slice_get-get_or table p [] (All-head (λ p. p < length table) p places within)) in
    ap (λ o. o ∷ map Some (map (λ p. get_or table p []) places)) here ∙ ap (λ os. slice_get table p ∷ os) (names-read table places (All-tail (λ p. p < length table) p places within))

module _ (each-text : (text : List ℕ) → ((e : Expression) × Spells e text) ⊎ IsNoExpression text) where
  read-text : (text : List ℕ) → (reading : Option Expression) × IsReadAs text reading
  read-text text = ⊎_elim (λ s. (Some s.0, s.1)) (λ n. (None, n)) (each-text text)

  readings-of : (texts : List DependsText) → (readings : Readings) × (map (λ reading. reading.0) readings ≡ texts) × All (λ reading. IsReadAs reading.0.text reading.1) readings
  readings-of [] = ([], refl, All-nil (λ reading. IsReadAs reading.0.text reading.1))
  readings-of (text ∷ texts) =
      let rest = readings-of texts in
      let read = read-text text.text in
      ((text, read.0) ∷ rest.0, ap (λ (ts : List DependsText). text ∷ ts) rest.1, All-cons (λ reading. IsReadAs reading.0.text reading.1) (text, read.0) rest.0 read.1 rest.2)

  module _ (circles : HasACircleOrNot) (f : Forms) where
    module _ (readings : Readings) (are : AreReadings f readings) (none : faults_of f readings ≡ []) where
      accepted-told : IsAccepted f readings → (answer : Result Rows RowFault) × IsTold answer × IsAnswer f answer
      accepted-told accepted =
          ⊎_elim
          (λ (c : (first : ℕ) × (others : List ℕ) × IsCircle (map (row_of f) (declared_in f)) first others).
          let within : All (λ p. p < length (names_in f)) (c.0 ∷ c.1) = found-within f (c.0 ∷ c.1) (c.0, c.1, refl, c.2) in
          let cycle : IsNamingCycle (rows_of f readings) (map (λ p. get_or (names_in f) p []) (c.0 ∷ c.1)) =
          record { first = c.0; others = c.1; is_circle = c.2; named = names-read (names_in f) (c.0 ∷ c.1) within } in
          (Err (NamingCycle (map (λ p. get_or (names_in f) p []) (c.0 ∷ c.1))), tt, (readings, accepted, cycle)))
          (λ no-circle. (Ok (rows_of f readings), tt, (readings, accepted, refl, no-circle)))
          (circles (map (row_of f) (declared_in f)) (named-within f))

      offered-told : (features : List OptionForm) → features_in f ≡ features → (answer : Result Rows RowFault) × IsTold answer × IsAnswer f answer
      offered-told [] e = (Err NoFeature, tt, (readings, are, none, e))
      offered-told (o ∷ more) e = accepted-told (record { read = are; sound = none; offered = λ empty. absurd (cc (e, empty)) })

    read-told : (readings : Readings) → AreReadings f readings → (answer : Result Rows RowFault) × IsTold answer × IsAnswer f answer
    read-told readings are =
        ⊎_elim (λ none. offered-told readings are none (features_in f) refl)
        (λ (first : (fault : Fault) × IsFirst (faults_of f readings) fault). (Err (Bad first.0.code first.0.at first.0.word), tt, (readings, are, first.1)))
        (first-or-none (faults_of f readings))

    pub answered : (answer : Result Rows RowFault) × IsTold answer × IsAnswer f answer
    answered = let r = readings-of f.texts in read-told r.0 (record { texts = r.1; each = r.2 })

pub each-answered : ((text : List ℕ) → ((e : Expression) × Spells e text) ⊎ IsNoExpression text) → HasACircleOrNot → EachIsAnswered
each-answered each-text circles f = answered each-text circles f

pub rows-within : RowsAreWithin
rows-within f r answer = subst (λ (r : Rows). AreWithin r.rows) (sym answer.2) (named-within f)
