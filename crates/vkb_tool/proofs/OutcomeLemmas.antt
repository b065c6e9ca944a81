-- What a check of a document comes to, and a build.
use Rattle.std.proofs.Common.{inl, inr, ◌≡◌, ℕ, List, [], Option, Some, None, refl, sym, ap, ◌∙◌, subst}
use Rattle.std.proofs.lemmas.Option.{none-some, same_Some}
use Rattle.vkb_outside.specs.Shelf.{Files}
use Rattle.doc_tree.specs.Fault.{Fault as DocumentFault}
use Rattle.doc_tree.specs.Flat.{FlatLine}
use Rattle.doc_tree.specs.Sources.{AreSources, Sources}
use Rattle.doc_tree.specs.Walk.{IsDocument, IsFaultOf, first_fault, taken, walk}
use Rattle.vkb_tool.specs.declared.status.Status.TheVariants.{Refused}
use Rattle.vkb_tool.specs.declared.document.Task.{Task}
use Rattle.vkb_tool.specs.declared.document.Task.TheVariants as asks
use Rattle.vkb_tool.specs.declared.words.Request.TheVariants.{Build, Check}
use Rattle.reg_reader.specs.Laws.{OneAnswer}
use Rattle.reg_registry.specs.Rows.{Rows}
use Rattle.reg_rows.specs.Laws.{AnswersAreOne}
use Rattle.vkb_tool.specs.declared.registry.RegistryFault.{RegistryFault}
use Rattle.vkb_tool.specs.Asked.{TellsFor, TellsOver, request_of}
use Rattle.vkb_tool.specs.Check.{IsOver, IsOwn}
use Rattle.vkb_tool.specs.Fault.{Fault, BadTag, InDocument, InRegistry, NoNumber, NotPermitted, UnknownOption}
use Rattle.vkb_tool.specs.Outcome.{Effect, HasNoFault, IsBuildFault, IsCheckFault, IsFaultAt, IsFirstFault, IsOffered, IsRegistryOf, IsSubject, Outcome, built, checked, most_text, refused, writes_alone}
use Rattle.vkb_tool.specs.Registry.{IsRegistry, IsRegistryFault}
use Rattle.vkb_tool.specs.Report.{document_fault_line, fault_line}
use Rattle.vkb_tool.proofs.ChoiceLemmas.{choice_sound}
use Rattle.vkb_tool.proofs.RegistryLemmas.{never_faulty_registry, one_registry}
use Rattle.vkb_tool.specs.Words.{Spells}

-- each file has a source
abbrev pub HaveSources : Type 0
HaveSources = (files : Files) → (sources : Sources) × AreSources files sources

-- the walk over these files has no fault, and these are its lines, whatever sources are true of the files
abbrev pub IsWalked : Files → List ℕ → List FlatLine → Type 0
IsWalked files root lines = (sources : Sources) → AreSources files sources → (first_fault sources most_text [] (walk sources root) ≡ None) × (lines ≡ taken (walk sources root))

-- a document that was walked
walked_document : HaveSources → (files : Files) (root : List ℕ) (lines : List FlatLine) → IsWalked files root lines → IsDocument files most_text root lines
walked_document have files root lines walked =
    let found = have files in
    let said = walked found.0 found.1 in
    record { sources = found.0; are = found.1; faultless = said.0; lines_are = said.1 }

-- a walked document is the only one
same_lines : (files : Files) (root : List ℕ) (lines others : List FlatLine) → IsWalked files root lines → IsDocument files most_text root others → others ≡ lines
same_lines files root lines others walked is = is.lines_are ∙ sym (walked is.sources is.are).1

-- which fault of a request on a document it is: that of the registry, of the walk, or one that is told over the registry
pub data Kinds (files : Files) (registry : Option (List ℕ)) (root api : List ℕ) (always : List (List ℕ)) (IsInner : Rows → List FlatLine → Fault → Type 0) (fault : Fault) : Type 0 where
  in_registry : (file : List ℕ) (wrong : RegistryFault) → fault ≡ InRegistry file api wrong → registry ≡ Some file → IsRegistryFault (files file) api wrong → Kinds files registry root api always IsInner fault
  in_walk : (walked : DocumentFault) → fault ≡ InDocument walked → IsOffered files registry api → IsFaultOf files most_text root walked → Kinds files registry root api always IsInner fault
  inside : (r : Rows) (flat : List FlatLine) → IsSubject files registry root api always r flat → IsInner r flat fault → Kinds files registry root api always IsInner fault

-- nothing is wrong with a document over its registry, where only a verdict is asked for
abbrev pub NoneInside : Rows → List FlatLine → Fault → Type 0
NoneInside r lines fault = ⊥

pub kind_of_check : (files : Files) (registry : Option (List ℕ)) (root api : List ℕ) (always : List (List ℕ)) (fault : Fault) → IsCheckFault files registry root api always fault → Kinds files registry root api always NoneInside fault
kind_of_check files registry root api always (InRegistry file asked wrong) is = in_registry file wrong (ap (λ (a : List ℕ). InRegistry file a wrong) is.1) is.0 is.2
kind_of_check files registry root api always (InDocument walked) is = in_walk walked refl is.0 is.1
kind_of_check files registry root api always (UnknownOption word) is = absurd is
kind_of_check files registry root api always (NotPermitted option) is = absurd is
kind_of_check files registry root api always (BadTag file number) is = absurd is
kind_of_check files registry root api always (NoNumber needed left) is = absurd is

-- a fault of the choice that words name is told whatever the lines are
abbrev pub AtChoice : List (List ℕ) → Rows → List FlatLine → Fault → Type 0
AtChoice names r lines fault = IsFaultAt r names fault

pub kind_of_build : (files : Files) (registry : Option (List ℕ)) (root api : List ℕ) (names always : List (List ℕ)) (fault : Fault) → IsBuildFault files registry root api names always fault
    → Kinds files registry root api always (AtChoice names) fault
kind_of_build files registry root api names always (InRegistry file asked wrong) is = in_registry file wrong (ap (λ (a : List ℕ). InRegistry file a wrong) is.1) is.0 is.2
kind_of_build files registry root api names always (InDocument walked) is = in_walk walked refl is.0 is.1
kind_of_build files registry root api names always (UnknownOption word) is = inside is.0 is.1 is.2 is.3
kind_of_build files registry root api names always (NotPermitted option) is = inside is.0 is.1 is.2 is.3
kind_of_build files registry root api names always (BadTag file number) is = absurd is
kind_of_build files registry root api names always (NoNumber needed left) is = absurd is

module _ (one_answer : OneAnswer) (one_rows : AnswersAreOne) where
  -- a document has one registry
  pub same_registry_of : (files : Files) (registry : Option (List ℕ)) (api : List ℕ) (always : List (List ℕ)) (lines : List FlatLine) (r other : Rows)
      → IsRegistryOf files registry api always lines r → IsRegistryOf files registry api always lines other → r ≡ other
  same_registry_of files None api always lines r other is also = is ∙ sym also
  same_registry_of files (Some name) api always lines r other is also = one_registry one_answer one_rows (files name) api r other is also

  -- the file of a registry without a fault has none
  pub sound_registry : (files : Files) (registry : Option (List ℕ)) (api file : List ℕ) (fault : RegistryFault) → IsOffered files registry api → registry ≡ Some file → ¬ IsRegistryFault (files file) api fault
  sound_registry files None api file fault offered named is = none-some file named
  sound_registry files (Some name) api file fault offered named is =
      let same : file ≡ name = sym (same_Some name file named) in
      never_faulty_registry one_answer one_rows (files name) api offered.0 fault offered.1 (subst (λ (f : List ℕ). IsRegistryFault (files f) api fault) same is)

  -- a fault that is told over the registry of other lines is one over that of the lines that were walked
  moved : (IsInner : Rows → List FlatLine → Fault → Type 0) (files : Files) (registry : Option (List ℕ)) (root api : List ℕ) (always : List (List ℕ)) (r other : Rows) (lines others : List FlatLine) (fault : Fault)
      → IsWalked files root lines → IsRegistryOf files registry api always lines r → IsSubject files registry root api always other others → IsInner other others fault → IsInner r lines fault
  moved IsInner files registry root api always r other lines others fault walked over is stands =
      let same : others ≡ lines = same_lines files root lines others walked is.document in
      let also : IsRegistryOf files registry api always lines other = subst (λ (ls : List FlatLine). IsRegistryOf files registry api always ls other) same is.over in
      let rows : other ≡ r = same_registry_of files registry api always lines other r also over in
      subst (λ (rs : Rows). IsInner rs lines fault) rows (subst (λ (ls : List FlatLine). IsInner other ls fault) same stands)

  -- where a document is walked over a registry and there is no fault to be told of it, none stands in what is asked
  faultless : (IsInner : Rows → List FlatLine → Fault → Type 0) (files : Files) (registry : Option (List ℕ)) (root api : List ℕ) (always : List (List ℕ)) (r : Rows) (lines : List FlatLine)
      → IsWalked files root lines → IsRegistryOf files registry api always lines r → IsOffered files registry api → ((fault : Fault) → ¬ IsInner r lines fault)
      → (fault : Fault) → ¬ Kinds files registry root api always IsInner fault
  faultless IsInner files registry root api always r lines walked over offered none fault (in_registry file wrong is named bad) = sound_registry files registry api file wrong offered named bad
  faultless IsInner files registry root api always r lines walked over offered none fault (in_walk broken is also first) = none-some broken (sym (walked first.sources first.are).0 ∙ first.first)
  faultless IsInner files registry root api always r lines walked over offered none fault (inside other others is stands) =
      none fault (moved IsInner files registry root api always r other lines others fault walked over is stands)

  pub check_faultless : (files : Files) (registry : Option (List ℕ)) (root api : List ℕ) (always : List (List ℕ)) (r : Rows) (lines : List FlatLine) → IsWalked files root lines
      → IsRegistryOf files registry api always lines r → IsOffered files registry api → HasNoFault (Check registry root api always) files
  check_faultless files registry root api always r lines walked over offered fault is =
      faultless NoneInside files registry root api always r lines walked over offered (λ none inside. inside) fault (kind_of_check files registry root api always fault is)

  pub build_faultless : (files : Files) (registry : Option (List ℕ)) (root api : List ℕ) (names always : List (List ℕ)) (r : Rows) (lines : List FlatLine) → IsWalked files root lines
      → IsRegistryOf files registry api always lines r → IsOffered files registry api → ((fault : Fault) → ¬ IsFaultAt r names fault) → HasNoFault (Build registry root api names always) files
  build_faultless files registry root api names always r lines walked over offered none fault is =
      faultless (AtChoice names) files registry root api always r lines walked over offered none fault (kind_of_build files registry root api names always fault is)

-- a fault of the choice at which a text is built is one in what is asked
pub choice_fault_there : (files : Files) (registry : Option (List ℕ)) (root api : List ℕ) (names always : List (List ℕ)) (r : Rows) (lines : List FlatLine) (fault : Fault) → IsSubject files registry root api always r lines
    → IsFaultAt r names fault → IsBuildFault files registry root api names always fault
choice_fault_there files registry root api names always r lines (InRegistry file asked fault) is stands = absurd stands
choice_fault_there files registry root api names always r lines (InDocument fault) is stands = absurd stands
choice_fault_there files registry root api names always r lines (UnknownOption word) is stands = (r, lines, is, stands)
choice_fault_there files registry root api names always r lines (NotPermitted option) is stands = (r, lines, is, stands)
choice_fault_there files registry root api names always r lines (BadTag file number) is stands = absurd stands
choice_fault_there files registry root api names always r lines (NoNumber needed left) is stands = absurd stands

-- a fault of the walk is one of what is asked
pub walk_fault : (task : Task) (files : Files) (registry : Option (List ℕ)) (root api : List ℕ) (always : List (List ℕ)) (fault : DocumentFault) → IsOffered files registry api → IsFaultOf files most_text root fault
    → IsFirstFault (request_of task registry root api always) files (InDocument fault)
walk_fault asks.Check files registry root api always fault offered is = (offered, is)
walk_fault (asks.Build names) files registry root api always fault offered is = (offered, is)

-- and so is one of the file of its registry
pub registry_fault : (task : Task) (files : Files) (name root api : List ℕ) (always : List (List ℕ)) (fault : RegistryFault) → IsRegistryFault (files name) api fault
    → IsFirstFault (request_of task (Some name) root api always) files (InRegistry name api fault)
registry_fault asks.Check files name root api always fault is = (refl, refl, is)
registry_fault (asks.Build names) files name root api always fault is = (refl, refl, is)

-- the registry that was read is offered
pub offered_own : (files : Files) (registry : Option (List ℕ)) (api : List ℕ) (own : Option Rows) → IsOwn files registry api own → IsOffered files registry api
offered_own files None api own is = tt
offered_own files (Some name) api own is = (is.0, is.2)

-- and is that of a document
over_own : (files : Files) (registry : Option (List ℕ)) (api : List ℕ) (always : List (List ℕ)) (lines : List FlatLine) (own : Option Rows) (r : Rows) → IsOwn files registry api own → IsOver own always lines r
    → IsRegistryOf files registry api always lines r
over_own files None api always lines own r is over = subst (λ (o : Option Rows). IsOver o always lines r) is over
over_own files (Some name) api always lines own r is over =
    let same : r ≡ is.0 = subst (λ (o : Option Rows). IsOver o always lines r) is.1 over in
    subst (λ (rs : Rows). IsRegistry (files name) api rs) (sym same) is.2

module _ (one_answer : OneAnswer) (one_rows : AnswersAreOne) (words : List (List ℕ)) (files : Files) (registry : Option (List ℕ)) (root api : List ℕ) (always : List (List ℕ)) (r : Rows) (lines : List FlatLine)
    (effect : Effect) (walked : IsWalked files root lines) (offered : IsOffered files registry api) (subject : IsSubject files registry root api always r lines) where
  -- what is told of a document over its registry is what the words and the files come to
  pub told_for : (task : Task) → Spells words (request_of task registry root api always) → TellsFor task always r lines effect → Outcome words files effect
  told_for asks.Check spelled tells =
      subst (λ (e : Effect). Outcome words files e) (sym tells.told)
      (checked registry root api always r lines tells.verdict spelled
      (check_faultless one_answer one_rows files registry root api always r lines walked subject.over offered) subject tells.is)
  told_for (asks.Build names) spelled tells =
      elim tells [
        | inl wrong ↦
            subst (λ (e : Effect). Outcome words files e) (sym wrong.told)
            (refused (Build registry root api names always) wrong.fault spelled (choice_fault_there files registry root api names always r lines wrong.fault subject wrong.first))
        | inr (chosen, choice, text) ↦
            subst (λ (e : Effect). Outcome words files e) (sym text.told)
            (built registry root api names always r lines chosen text.set spelled
            (build_faultless one_answer one_rows files registry root api names always r lines walked subject.over offered (choice_sound r names chosen choice))
            (record { subject = subject; choice = choice; closure = text.closure }))
      ]

-- what is told of a document that was walked is what the words and the files come to
pub told_outcome : (task : Task) → OneAnswer → AnswersAreOne → HaveSources → (words : List (List ℕ)) (files : Files) (registry : Option (List ℕ)) (root api : List ℕ) (always : List (List ℕ)) (own : Option Rows) (lines : List FlatLine) (effect : Effect)
    → Spells words (request_of task registry root api always) → IsOwn files registry api own → IsWalked files root lines → TellsOver task always own lines effect → Outcome words files effect
told_outcome task one_answer one_rows have words files registry root api always own lines effect spelled is walked (r, over, tells) =
    let of = over_own files registry api always lines own r is over in
    let subject : IsSubject files registry root api always r lines = record { document = walked_document have files root lines walked; over = of } in
    told_for one_answer one_rows words files registry root api always r lines effect walked (offered_own files registry api own is) subject task spelled tells

-- a fault of the walk, told, is what the words and the files come to
pub refused_outcome : (task : Task) → HaveSources → (words : List (List ℕ)) (files : Files) (registry : Option (List ℕ)) (root api : List ℕ) (always : List (List ℕ)) (own : Option Rows) (fault : DocumentFault) (effect : Effect)
    → Spells words (request_of task registry root api always) → IsOwn files registry api own → ((sources : Sources) → AreSources files sources → first_fault sources most_text [] (walk sources root) ≡ Some fault)
    → effect ≡ writes_alone Refused (document_fault_line fault) → Outcome words files effect
refused_outcome task have words files registry root api always own fault effect spelled own_is first told =
    let found = have files in
    let is : IsFaultOf files most_text root fault = record { sources = found.0; are = found.1; first = first found.0 found.1 } in
    subst (λ (e : Effect). Outcome words files e) (sym told)
    (refused (request_of task registry root api always) (InDocument fault) spelled (walk_fault task files registry root api always fault (offered_own files registry api own own_is) is))

-- a fault of a registry, told, is what the words and the files come to
pub refused_registry : (task : Task) (words : List (List ℕ)) (files : Files) (name root api : List ℕ) (always : List (List ℕ)) (fault : RegistryFault) (effect : Effect)
    → Spells words (request_of task (Some name) root api always) → IsRegistryFault (files name) api fault → effect ≡ writes_alone Refused (fault_line (InRegistry name api fault)) → Outcome words files effect
refused_registry task words files name root api always fault effect spelled is told =
    subst (λ (e : Effect). Outcome words files e) (sym told)
    (refused (request_of task (Some name) root api always) (InRegistry name api fault) spelled (registry_fault task files name root api always fault is))
