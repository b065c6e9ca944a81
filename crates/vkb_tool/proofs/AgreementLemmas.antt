-- What is asked of the files has one first fault, and two outcomes of the same words and files are alike.
use Rattle.std.proofs.Common.{inl, inr, ◌≡◌, ◌≢◌, ◌⊎◌, ℕ, Bool, List, [], Option, Some, None, refl, sym, ap, ◌∙◌, subst}
use Rattle.std.proofs.lemmas.Option.{none-some, same_Some}
use Rattle.vkb_outside.specs.Shelf.{Files}
use Rattle.doc_tree.specs.Fault.{Fault as DocumentFault}
use Rattle.doc_tree.specs.Flat.{FlatLine}
use Rattle.doc_tree.specs.Sources.{AreSources, Sources}
use Rattle.doc_tree.specs.Walk.{IsDocument, IsFaultOf, first_fault, taken, walk}
use Rattle.doc_build.specs.declared.Place.{Place}
use Rattle.reg_reader.specs.Laws.{OneAnswer}
use Rattle.reg_registry.specs.Rows.{Rows}
use Rattle.reg_rows.specs.Laws.{AnswersAreOne}
use Rattle.vkb_formula.specs.declared.name_table.NameId.{NameId}
use Rattle.reg_closure.specs.Laws.{ClosuresAreOne, OrdersAreOne}
use Rattle.hdr_writer.specs.Headers.{header}
use Rattle.reg_closure.specs.Closure.{IsClosure}
use Rattle.reg_permit.specs.Choices.{chosen_by}
use Rattle.doc_build.specs.Built.{choice_text}
use Rattle.doc_build.specs.Choices.{Choice}
use Rattle.lift_check.specs.Verdict.{IsJudged}
use Rattle.lift_check.specs.declared.Verdict.{Verdict}
use Rattle.lift_check.specs.declared.Verdict.TheVariants.{No, Yes}
use Rattle.vu_tags.specs.Tagged.{Names}
use Rattle.vkb_tool.specs.declared.status.Status.TheVariants.{Broken, Done, Refused, Usage}
use Rattle.vkb_tool.specs.declared.words.Request.{Request}
use Rattle.vkb_tool.specs.declared.words.Request.TheVariants.{Build, Check, Header, Tag}
use Rattle.vkb_tool.specs.declared.registry.RegistryFault.{RegistryFault}
use Rattle.vkb_tool.specs.Fault.{Fault, InDocument, InRegistry}
use Rattle.vkb_tool.specs.Outcome.{Effect, HasNoFault, IsBuilt, IsDeclared, IsFirstFault, IsOffered, IsRegistryOf, IsSubject, NameOneCircle, NameOnePlace, Outcome, TellsPlace, built as texted, checked, declared as headed, determined, misplaced, most_text, puts_tags, refused, settled, status_of, tagged, writes_alone}
use Rattle.vkb_tool.specs.Registry.{IsRegistryFault}
use Rattle.vkb_tool.specs.Report.{fault_line, report_of, usage_line}
use Rattle.vkb_tool.specs.Tags.{texts_of}
use Rattle.vkb_tool.specs.Words.{Spells}
use Rattle.vkb_tool.proofs.ChoiceLemmas.{same_fault_at}
use Rattle.vkb_tool.proofs.HeaderLemmas.{one_header, same_header_fault}
use Rattle.vkb_tool.proofs.OutcomeLemmas.{AtChoice, Kinds, NoneInside, in_registry, in_walk, inside, kind_of_build, kind_of_check, same_registry_of, sound_registry}
use Rattle.vkb_tool.proofs.RegistryLemmas.{alike_determined, one_registry_fault}
use Rattle.vkb_tool.proofs.TagsLemmas.{OnePages, same_tags_fault}
use Rattle.vkb_tool.proofs.WordsLemmas.{one_position, same_request}

-- one thing is found under each name of files
abbrev pub OneWalk : Type 0
OneWalk = (files : Files) (sources others : Sources) → AreSources files sources → AreSources files others → sources ≡ others

-- ---- one first fault

module _ (one_walk : OneWalk) (one_answer : OneAnswer) (one_rows : AnswersAreOne) where
  -- a walk has one list of lines
  pub same_document : (files : Files) (root : List ℕ) (lines others : List FlatLine) → IsDocument files most_text root lines → IsDocument files most_text root others → lines ≡ others
  same_document files root lines others is also =
      is.lines_are ∙ ap (λ (s : Sources). taken (walk s root)) (one_walk files is.sources also.sources is.are also.are) ∙ sym also.lines_are

  -- or a fault
  never_faulty : (files : Files) (root : List ℕ) (lines : List FlatLine) (fault : DocumentFault) → IsDocument files most_text root lines → ¬ IsFaultOf files most_text root fault
  never_faulty files root lines fault is also =
      none-some fault (sym is.faultless ∙ ap (λ (s : Sources). first_fault s most_text [] (walk s root)) (one_walk files is.sources also.sources is.are also.are) ∙ also.first)

  same_walk_fault : (files : Files) (root : List ℕ) (fault other : DocumentFault) → IsFaultOf files most_text root fault → IsFaultOf files most_text root other → fault ≡ other
  same_walk_fault files root fault other is also =
      same_Some fault other (sym is.first ∙ ap (λ (s : Sources). first_fault s most_text [] (walk s root)) (one_walk files is.sources also.sources is.are also.are) ∙ also.first)

  -- a request on a document has one list of lines, and one registry
  pub same_subject : (files : Files) (registry : Option (List ℕ)) (root api : List ℕ) (always : List (List ℕ)) (r other : Rows) (lines others : List FlatLine)
      → IsSubject files registry root api always r lines → IsSubject files registry root api always other others → (lines ≡ others) × (r ≡ other)
  same_subject files registry root api always r other lines others is also =
      let same : lines ≡ others = same_document files root lines others is.document also.document in
      let there : IsRegistryOf files registry api always lines other = subst (λ (ls : List FlatLine). IsRegistryOf files registry api always ls other) (sym same) also.over in
      (same, same_registry_of one_answer one_rows files registry api always lines r other is.over there)

  -- and the registry is offered
  offered_over : (files : Files) (registry : Option (List ℕ)) (api : List ℕ) (always : List (List ℕ)) (lines : List FlatLine) (r : Rows) → IsRegistryOf files registry api always lines r → IsOffered files registry api
  offered_over files None api always lines r is = tt
  offered_over files (Some name) api always lines r is = (r, is)

  -- a request on a document has one fault, where one at most is told over its registry
  same_kinds : (IsInner : Rows → List FlatLine → Fault → Type 0) → ((r : Rows) (lines : List FlatLine) (fault other : Fault) → IsInner r lines fault → IsInner r lines other → fault ≡ other)
      → (files : Files) (registry : Option (List ℕ)) (root api : List ℕ) (always : List (List ℕ)) (fault other : Fault) → Kinds files registry root api always IsInner fault → Kinds files registry root api always IsInner other
      → determined fault ≡ determined other
  same_kinds IsInner same_inner files registry root api always fault other (in_registry file wrong is named bad) (in_registry name evil also called worse) =
      let same : name ≡ file = same_Some name file (sym called ∙ named) in
      let there : IsRegistryFault (files file) api evil = subst (λ (f : List ℕ). IsRegistryFault (files f) api evil) same worse in
      ap determined is
      ∙ ap (λ (w : RegistryFault). InRegistry file api w) (one_registry_fault one_answer one_rows (files file) api wrong evil bad there)
      ∙ ap (λ (f : List ℕ). InRegistry f api (settled evil)) (sym same)
      ∙ ap determined (sym also)
  same_kinds IsInner same_inner files registry root api always fault other (in_registry file wrong is named bad) (in_walk walked also offered broken) =
      absurd (sound_registry one_answer one_rows files registry api file wrong offered named bad)
  same_kinds IsInner same_inner files registry root api always fault other (in_registry file wrong is named bad) (inside r flat subject stands) =
      absurd (sound_registry one_answer one_rows files registry api file wrong (offered_over files registry api always flat r subject.over) named bad)
  same_kinds IsInner same_inner files registry root api always fault other (in_walk walked is offered broken) (in_registry file wrong also named bad) =
      absurd (sound_registry one_answer one_rows files registry api file wrong offered named bad)
  same_kinds IsInner same_inner files registry root api always fault other (in_walk walked is offered broken) (in_walk rewalked also reoffered rebroken) =
      ap determined (is ∙ ap InDocument (same_walk_fault files root walked rewalked broken rebroken) ∙ sym also)
  same_kinds IsInner same_inner files registry root api always fault other (in_walk walked is offered broken) (inside r flat subject stands) = absurd (never_faulty files root flat walked subject.document broken)
  same_kinds IsInner same_inner files registry root api always fault other (inside r flat subject stands) (in_registry file wrong also named bad) =
      absurd (sound_registry one_answer one_rows files registry api file wrong (offered_over files registry api always flat r subject.over) named bad)
  same_kinds IsInner same_inner files registry root api always fault other (inside r flat subject stands) (in_walk walked also offered broken) = absurd (never_faulty files root flat walked subject.document broken)
  same_kinds IsInner same_inner files registry root api always fault other (inside r flat subject stands) (inside rows others resubject there) =
      let same = same_subject files registry root api always r rows flat others subject resubject in
      let moved : IsInner r flat other = subst (λ (rs : Rows). IsInner rs flat other) (sym same.1) (subst (λ (ls : List FlatLine). IsInner rows ls other) (sym same.0) there) in
      ap determined (same_inner r flat fault other stands moved)

  pub same_fault : (request : Request) (files : Files) (fault other : Fault) → IsFirstFault request files fault → IsFirstFault request files other → determined fault ≡ determined other
  same_fault (Check registry root api always) files fault other is also =
      same_kinds NoneInside (λ r lines fault other is also. absurd is) files registry root api always fault other (kind_of_check files registry root api always fault is) (kind_of_check files registry root api always other also)
  same_fault (Build registry root api names always) files fault other is also =
      same_kinds (AtChoice names) (λ r lines fault other. same_fault_at r names fault other) files registry root api always fault other
      (kind_of_build files registry root api names always fault is) (kind_of_build files registry root api names always other also)
  same_fault (Header registry api names) files fault other is also = same_header_fault one_answer one_rows files registry api names fault other is also
  same_fault (Tag first names) files fault other is also = ap determined (same_tags_fault files first names fault other is also)

-- ---- one outcome

-- two runs end alike: but for the choice that a `no` names, with its id and its count there, and for which of several circles is told, they leave the
-- same
record AreAlike (words : List (List ℕ)) (files : Files) (effect other : Effect) : Type 0 where
  pub status_is : effect.status ≡ other.status
  pub same : effect.status ≢ Broken → (effect ≡ other) ⊎ NameOneCircle words files effect other
  pub place : effect.status ≡ Broken → NameOnePlace words files effect.output other.output

-- two runs by verdicts on one document end alike
record AreAlikeOn (always : List (List ℕ)) (r : Rows) (lines : List FlatLine) (effect other : Effect) : Type 0 where
  pub status_is : effect.status ≡ other.status
  pub same : effect.status ≢ Broken → effect ≡ other
  pub place : effect.status ≡ Broken → (place : Place) × TellsPlace always r lines place effect.output × TellsPlace always r lines place other.output

same_alike : (words : List (List ℕ)) (files : Files) (effect other : Effect) → effect.status ≢ Broken → effect ≡ other → AreAlike words files effect other
same_alike words files effect other judged same = record { status_is = ap (λ (e : Effect). e.status) same; same = λ _. inl same; place = λ broken. absurd (judged broken) }

-- what a run leaves that tells a fault
abbrev refusal_of : Fault → Effect
refusal_of fault = writes_alone Refused (fault_line fault)

-- two runs that tell of one request's first fault
faults_alike : (words : List (List ℕ)) (files : Files) (request : Request) (fault other : Fault) → Spells words request → IsFirstFault request files fault → IsFirstFault request files other
    → determined fault ≡ determined other → AreAlike words files (refusal_of fault) (refusal_of other)
faults_alike words files request fault other spelled is also same = record {
  status_is = refl;
  same = λ _. elim (alike_determined fault other same) [
    | inl alike ↦ inl (ap refusal_of alike)
    | inr circles ↦ inr (record {
      file = circles.file;
      api = circles.api;
      names = circles.names;
      others = circles.others;
      first = circles.first;
      one = record { request = request; spelled = spelled; first = subst (λ (f : Fault). IsFirstFault request files f) circles.is is; told = ap refusal_of circles.is };
      also = record { request = request; spelled = spelled; first = subst (λ (f : Fault). IsFirstFault request files f) circles.also also; told = ap refusal_of circles.also };
    })
  ];
  place = λ broken. absurd (cc);
}

-- what a run leaves that tells a verdict
abbrev answer_of : List FlatLine → List (List ℕ) → Verdict → Effect
answer_of lines options verdict = writes_alone (status_of verdict) (report_of lines options verdict)

module _ (one_walk : OneWalk) (one_answer : OneAnswer) (one_rows : AnswersAreOne) (one_pages : OnePages) (one_closures : ClosuresAreOne) (one_orders : OrdersAreOne)
    (same_count : (always : List (List ℕ)) (r : Rows) (lines : List FlatLine) (links more : ℕ) → IsJudged always r lines (Yes links) → IsJudged always r lines (Yes more) → links ≡ more)
    (never_both : (always : List (List ℕ)) (r : Rows) (lines : List FlatLine) (links : ℕ) (place : Place) (id : List ℕ) (choice : Choice) (count : ℕ)
    → IsJudged always r lines (Yes links) → ¬ (IsJudged always r lines (No place id choice count)))
    (same_place : (always : List (List ℕ)) (r : Rows) (lines : List FlatLine) (place other : Place) (id name : List ℕ) (choice chosen : Choice) (count counted : ℕ)
    → IsJudged always r lines (No place id choice count) → IsJudged always r lines (No other name chosen counted) → place ≡ other)
    (words : List (List ℕ)) (files : Files) where
  -- two verdicts on a document are told alike
  verdicts_alike : (always : List (List ℕ)) (r : Rows) (lines : List FlatLine) (verdict other : Verdict) → IsJudged always r lines verdict → IsJudged always r lines other
      → AreAlikeOn always r lines (answer_of lines r.options verdict) (answer_of lines r.options other)
  verdicts_alike always r lines (Yes links) (Yes more) is also = record {
    status_is = refl;
    same = λ _. ap (λ (n : ℕ). answer_of lines r.options (Yes n)) (same_count always r lines links more is also);
    place = λ broken. absurd (cc);
  }
  verdicts_alike always r lines (Yes links) (No place id choice count) is also = absurd (never_both always r lines links place id choice count is also)
  verdicts_alike always r lines (No place id choice count) (Yes links) is also = absurd (never_both always r lines links place id choice count also is)
  verdicts_alike always r lines (No place id choice count) (No other name chosen counted) is also =
      let at : place ≡ other = same_place always r lines place other id name choice chosen count counted is also in
      record {
        status_is = refl;
        same = λ judged. absurd (judged refl);
        place = λ _. (
          place,
          record { id = id; choice = choice; count = count; judged = is; output_is = refl },
          record {
            id = name;
            choice = chosen;
            count = counted;
            judged = subst (λ (p : Place). IsJudged always r lines (No p name chosen counted)) (sym at) also;
            output_is = ap (λ (p : Place). report_of lines r.options (No p name chosen counted)) (sym at);
          },
        );
      }

  -- a request in which a fault stands is not the one in which none does
  never_refused : (request other : Request) (fault : Fault) → Spells words request → Spells words other → IsFirstFault request files fault → HasNoFault other files → ⊥
  never_refused request other fault spelled also is none = none fault (subst (λ (r : Request). IsFirstFault r files fault) (same_request words request other spelled also) is)

  -- two checks of one request
  checks_same : (registry : Option (List ℕ)) (root api : List ℕ) (always : List (List ℕ)) (r rows : Rows) (lines others : List FlatLine) (verdict told : Verdict)
      → Spells words (Check registry root api always) → IsSubject files registry root api always r lines → IsSubject files registry root api always rows others
      → IsJudged always r lines verdict → IsJudged always rows others told
      → AreAlike words files (answer_of lines r.options verdict) (answer_of others rows.options told)
  checks_same registry root api always r rows lines others verdict told spelled is also judged said =
      let same = same_subject one_walk one_answer one_rows files registry root api always r rows lines others is also in
      let there : IsJudged always r lines told = rw (same.0, same.1) said in
      let alike = verdicts_alike always r lines verdict told judged there in
      let whole : AreAlike words files (answer_of lines r.options verdict) (answer_of lines r.options told) = record {
        status_is = alike.status_is;
        same = λ judged. inl (alike.same judged);
        place = λ broken.
            let named = alike.place broken in
            record { registry = registry; root = root; api = api; always = always; spelled = spelled; r = r; lines = lines; checked = is; place = named.0; one = named.1; also = named.2 };
      } in
      subst (λ (rs : Rows). AreAlike words files (answer_of lines r.options verdict) (answer_of others rs.options told)) same.1
      (subst (λ (ls : List FlatLine). AreAlike words files (answer_of lines r.options verdict) (answer_of ls r.options told)) same.0 whole)

  -- two checks of the same words
  checks_alike : (registry file : Option (List ℕ)) (root name api word : List ℕ) (always names : List (List ℕ)) (r rows : Rows) (lines others : List FlatLine) (verdict told : Verdict)
      → Spells words (Check registry root api always) → Check file name word names ≡ Check registry root api always → IsSubject files registry root api always r lines → IsSubject files file name word names rows others
      → IsJudged always r lines verdict → IsJudged names rows others told
      → AreAlike words files (answer_of lines r.options verdict) (answer_of others rows.options told)
  checks_alike registry file root name api word always names r rows lines others verdict told spelled same is also judged said =
      let registries : file ≡ registry = cc in
      let roots : name ≡ root = cc in
      let apis : word ≡ api = cc in
      let sets : names ≡ always = cc in
      let one : IsSubject files registry name word names rows others = subst (λ (f : Option (List ℕ)). IsSubject files f name word names rows others) registries also in
      let two : IsSubject files registry root word names rows others = subst (λ (f : List ℕ). IsSubject files registry f word names rows others) roots one in
      let three : IsSubject files registry root api names rows others = subst (λ (f : List ℕ). IsSubject files registry root f names rows others) apis two in
      let there : IsSubject files registry root api always rows others = subst (λ (f : List (List ℕ)). IsSubject files registry root api f rows others) sets three in
      checks_same registry root api always r rows lines others verdict told spelled is there judged (subst (λ (f : List (List ℕ)). IsJudged f rows others told) sets said)

  -- words that ask for a check don't ask for tags
  never_both_asked : (registry : Option (List ℕ)) (root api : List ℕ) (always : List (List ℕ)) (first : ℕ) (names : List (List ℕ)) → Spells words (Check registry root api always) → Spells words (Tag first names) → ⊥
  never_both_asked registry root api always first names spelled also =
      let same = same_request words (Check registry root api always) (Tag first names) spelled also in cc

  -- two runs that tag for one request
  same_tags : (first number : ℕ) (names others : List (List ℕ)) (pages leaves : Names) → Tag first names ≡ Tag number others → pages ≡ leaves
      → puts_tags pages first names (texts_of files names) ≡ puts_tags leaves number others (texts_of files others)
  same_tags first number names others pages leaves request same =
      let numbers : first ≡ number = cc in
      let files_are : names ≡ others = cc in
      rw (numbers, files_are) (ap (λ (p : Names). puts_tags p number others (texts_of files others)) same)

  -- words that ask for a header don't ask for a check, or for tags
  no_check_asked : (registry : Option (List ℕ)) (root api file word : List ℕ) (always names : List (List ℕ)) → Spells words (Check registry root api always) → Spells words (Header file word names) → ⊥
  no_check_asked registry root api file word always names spelled also =
      let same = same_request words (Check registry root api always) (Header file word names) spelled also in cc

  no_tags_asked : (file word : List ℕ) (names : List (List ℕ)) (first : ℕ) (others : List (List ℕ)) → Spells words (Header file word names) → Spells words (Tag first others) → ⊥
  no_tags_asked file word names first others spelled also =
      let same = same_request words (Header file word names) (Tag first others) spelled also in cc

  -- two headers for one request
  headers_same : (registry file api word : List ℕ) (names others : List (List ℕ)) (r rows : Rows) (chosen picked : List Bool) (order listed : List NameId) → Header file word others ≡ Header registry api names
      → IsDeclared files registry api names r chosen order → IsDeclared files file word others rows picked listed → header r chosen order ≡ header rows picked listed
  headers_same registry file api word names others r rows chosen picked order listed same is also =
      let files_are : file ≡ registry = cc in
      let apis : word ≡ api = cc in
      let sets : others ≡ names = cc in
      let one : IsDeclared files registry word others rows picked listed = subst (λ (f : List ℕ). IsDeclared files f word others rows picked listed) files_are also in
      let two : IsDeclared files registry api others rows picked listed = subst (λ (f : List ℕ). IsDeclared files registry f others rows picked listed) apis one in
      let there : IsDeclared files registry api names rows picked listed = subst (λ (f : List (List ℕ)). IsDeclared files registry api f rows picked listed) sets two in
      one_header one_answer one_rows one_closures one_orders files registry api names r rows chosen picked order listed is there

  -- words that ask for a text ask for nothing else
  no_check_built : (registry file : Option (List ℕ)) (root name api word : List ℕ) (names always others : List (List ℕ)) → Spells words (Build registry root api names always) → Spells words (Check file name word others) → ⊥
  no_check_built registry file root name api word names always others spelled also =
      let same = same_request words (Build registry root api names always) (Check file name word others) spelled also in cc

  no_header_built : (registry : Option (List ℕ)) (root api file word : List ℕ) (names always others : List (List ℕ)) → Spells words (Build registry root api names always) → Spells words (Header file word others) → ⊥
  no_header_built registry root api file word names always others spelled also =
      let same = same_request words (Build registry root api names always) (Header file word others) spelled also in cc

  no_tags_built : (registry : Option (List ℕ)) (root api : List ℕ) (names always : List (List ℕ)) (first : ℕ) (others : List (List ℕ)) → Spells words (Build registry root api names always) → Spells words (Tag first others) → ⊥
  no_tags_built registry root api names always first others spelled also =
      let same = same_request words (Build registry root api names always) (Tag first others) spelled also in cc

  -- two texts for one request
  texts_same : (registry file : Option (List ℕ)) (root name api word : List ℕ) (names set_names always set_always : List (List ℕ)) (r rows : Rows) (lines others : List FlatLine) (chosen picked set filled : List Bool)
      → Build file name word set_names set_always ≡ Build registry root api names always → IsBuilt files registry root api names always r lines chosen set → IsBuilt files file name word set_names set_always rows others picked filled
      → choice_text always r chosen set lines ≡ choice_text set_always rows picked filled others
  texts_same registry file root name api word names set_names always set_always r rows lines others chosen picked set filled same is also =
      let registries : file ≡ registry = cc in
      let roots : name ≡ root = cc in
      let apis : word ≡ api = cc in
      let words_are : set_names ≡ names = cc in
      let sets : set_always ≡ always = cc in
      let one : IsBuilt files registry name word set_names set_always rows others picked filled = subst (λ (f : Option (List ℕ)). IsBuilt files f name word set_names set_always rows others picked filled) registries also in
      let two : IsBuilt files registry root word set_names set_always rows others picked filled = subst (λ (f : List ℕ). IsBuilt files registry f word set_names set_always rows others picked filled) roots one in
      let three : IsBuilt files registry root api set_names set_always rows others picked filled = subst (λ (f : List ℕ). IsBuilt files registry root f set_names set_always rows others picked filled) apis two in
      let four : IsBuilt files registry root api names set_always rows others picked filled = subst (λ (f : List (List ℕ)). IsBuilt files registry root api f set_always rows others picked filled) words_are three in
      let there : IsBuilt files registry root api names always rows others picked filled = subst (λ (f : List (List ℕ)). IsBuilt files registry root api names f rows others picked filled) sets four in
      let subjects = same_subject one_walk one_answer one_rows files registry root api always r rows lines others is.subject there.subject in
      let choices : picked ≡ chosen = there.choice.named ∙ ap (λ (rs : Rows). chosen_by rs.options names) (sym subjects.1) ∙ sym is.choice.named in
      let closure : IsClosure r chosen filled = subst (λ (c : List Bool). IsClosure r c filled) choices (subst (λ (rs : Rows). IsClosure rs picked filled) (sym subjects.1) there.closure) in
      let closures : set ≡ filled = one_closures r chosen set filled is.closure closure in
      ap (λ (f : List (List ℕ)). choice_text f r chosen set lines) (sym sets)
      ∙ ap (λ (rs : Rows). choice_text set_always rs chosen set lines) subjects.1
      ∙ ap (λ (c : List Bool). choice_text set_always rows c set lines) (sym choices)
      ∙ ap (λ (c : List Bool). choice_text set_always rows picked c lines) closures
      ∙ ap (choice_text set_always rows picked filled) subjects.0

  -- two outcomes are alike
  outcomes_alike : (effect other : Effect) → Outcome words files effect → Outcome words files other → AreAlike words files effect other
  outcomes_alike _ _ (misplaced position is) (misplaced place also) =
      same_alike words files (writes_alone Usage (usage_line position)) (writes_alone Usage (usage_line place)) (λ e. cc)
      (ap (λ (n : ℕ). writes_alone Usage (usage_line n)) (one_position words position place is also))
  outcomes_alike _ _ (misplaced position is) (refused request fault spelled flawed) = absurd (is.none request spelled)
  outcomes_alike _ _ (misplaced position is) (checked registry root api always r lines verdict spelled sound made judged) = absurd (is.none (Check registry root api always) spelled)
  outcomes_alike _ _ (refused request fault spelled flawed) (misplaced position is) = absurd (is.none request spelled)
  outcomes_alike _ _ (refused request fault spelled flawed) (refused other told also wrong) =
      let there = subst (λ (r : Request). IsFirstFault r files told) (same_request words other request also spelled) wrong in
      faults_alike words files request fault told spelled flawed there (same_fault one_walk one_answer one_rows request files fault told flawed there)
  outcomes_alike _ _ (refused request fault spelled flawed) (checked registry root api always r lines verdict also sound made judged) =
      absurd (never_refused request (Check registry root api always) fault spelled also flawed sound)
  outcomes_alike _ _ (checked registry root api always r lines verdict spelled sound made judged) (misplaced position is) = absurd (is.none (Check registry root api always) spelled)
  outcomes_alike _ _ (checked registry root api always r lines verdict spelled sound made judged) (refused request fault also flawed) =
      absurd (never_refused request (Check registry root api always) fault also spelled flawed sound)
  outcomes_alike _ _ (checked registry root api always r lines verdict spelled sound made judged) (checked file name word names rows others told also right built said) =
      checks_alike registry file root name api word always names r rows lines others verdict told spelled
      (same_request words (Check file name word names) (Check registry root api always) also spelled) made built judged said
  outcomes_alike _ _ (misplaced position is) (tagged first names pages spelled sound tells) = absurd (is.none (Tag first names) spelled)
  outcomes_alike _ _ (refused request fault spelled flawed) (tagged first names pages also sound tells) =
      absurd (never_refused request (Tag first names) fault spelled also flawed sound)
  outcomes_alike _ _ (checked registry root api always r lines verdict spelled sound made judged) (tagged first names pages also right tells) =
      absurd (never_both_asked registry root api always first names spelled also)
  outcomes_alike _ _ (tagged first names pages spelled sound tells) (misplaced position is) = absurd (is.none (Tag first names) spelled)
  outcomes_alike _ _ (tagged first names pages spelled sound tells) (refused request fault also flawed) =
      absurd (never_refused request (Tag first names) fault also spelled flawed sound)
  outcomes_alike _ _ (tagged first names pages spelled sound tells) (checked registry root api always r lines verdict also right made judged) =
      absurd (never_both_asked registry root api always first names also spelled)
  outcomes_alike _ _ (tagged first names pages spelled sound tells) (tagged number others leaves also right said) =
      same_alike words files (puts_tags pages first names (texts_of files names)) (puts_tags leaves number others (texts_of files others)) (λ e. cc)
      (same_tags first number names others pages leaves (same_request words (Tag first names) (Tag number others) spelled also) (one_pages pages leaves tells said))
  outcomes_alike _ _ (misplaced position is) (headed registry api names r chosen order spelled sound tells) = absurd (is.none (Header registry api names) spelled)
  outcomes_alike _ _ (refused request fault spelled flawed) (headed registry api names r chosen order also sound tells) =
      absurd (never_refused request (Header registry api names) fault spelled also flawed sound)
  outcomes_alike _ _ (checked registry root api always r lines verdict spelled sound made judged) (headed file word names rows chosen order also right tells) =
      absurd (no_check_asked registry root api file word always names spelled also)
  outcomes_alike _ _ (tagged first others pages spelled sound said) (headed file word names rows chosen order also right tells) =
      absurd (no_tags_asked file word names first others also spelled)
  outcomes_alike _ _ (headed registry api names r chosen order spelled sound tells) (misplaced position is) = absurd (is.none (Header registry api names) spelled)
  outcomes_alike _ _ (headed registry api names r chosen order spelled sound tells) (refused request fault also flawed) =
      absurd (never_refused request (Header registry api names) fault also spelled flawed sound)
  outcomes_alike _ _ (headed file word names rows chosen order spelled sound tells) (checked registry root api always r lines verdict also right made judged) =
      absurd (no_check_asked registry root api file word always names also spelled)
  outcomes_alike _ _ (headed file word names rows chosen order spelled sound tells) (tagged first others pages also right said) =
      absurd (no_tags_asked file word names first others spelled also)
  outcomes_alike _ _ (headed registry api names r chosen order spelled sound tells) (headed file word others rows picked listed also right said) =
      same_alike words files (writes_alone Done (header r chosen order)) (writes_alone Done (header rows picked listed)) (λ e. cc)
      (ap (writes_alone Done) (headers_same registry file api word names others r rows chosen picked order listed (same_request words (Header file word others) (Header registry api names) also spelled) tells said))
  outcomes_alike _ _ (misplaced position is) (texted registry root api names always r lines chosen set spelled sound tells) = absurd (is.none (Build registry root api names always) spelled)
  outcomes_alike _ _ (refused request fault spelled flawed) (texted registry root api names always r lines chosen set also sound tells) =
      absurd (never_refused request (Build registry root api names always) fault spelled also flawed sound)
  outcomes_alike _ _ (checked registry root api always r lines verdict spelled sound made judged) (texted file name word names others rows flat chosen set also right tells) =
      absurd (no_check_built file registry name root word api names others always also spelled)
  outcomes_alike _ _ (tagged first others pages spelled sound said) (texted registry root api names always r lines chosen set also right tells) =
      absurd (no_tags_built registry root api names always first others also spelled)
  outcomes_alike _ _ (headed file word others r chosen order spelled sound tells) (texted registry root api names always rows lines picked set also right said) =
      absurd (no_header_built registry root api file word names always others also spelled)
  outcomes_alike _ _ (texted registry root api names always r lines chosen set spelled sound tells) (misplaced position is) = absurd (is.none (Build registry root api names always) spelled)
  outcomes_alike _ _ (texted registry root api names always r lines chosen set spelled sound tells) (refused request fault also flawed) =
      absurd (never_refused request (Build registry root api names always) fault also spelled flawed sound)
  outcomes_alike _ _ (texted file name word names others rows flat chosen set spelled sound tells) (checked registry root api always r lines verdict also right made judged) =
      absurd (no_check_built file registry name root word api names others always spelled also)
  outcomes_alike _ _ (texted registry root api names always r lines chosen set spelled sound tells) (tagged first others pages also right said) =
      absurd (no_tags_built registry root api names always first others spelled also)
  outcomes_alike _ _ (texted registry root api names always rows lines picked set spelled sound said) (headed file word others r chosen order also right tells) =
      absurd (no_header_built registry root api file word names always others spelled also)
  outcomes_alike _ _ (texted registry root api names always r lines chosen set spelled sound tells) (texted file name word set_names set_always rows others picked filled also right said) =
      same_alike words files (writes_alone Done (choice_text always r chosen set lines)) (writes_alone Done (choice_text set_always rows picked filled others)) (λ e. cc)
      (ap (writes_alone Done) (texts_same registry file root name api word names set_names always set_always r rows lines others chosen picked set filled
      (same_request words (Build file name word set_names set_always) (Build registry root api names always) also spelled) tells said))

  pub same_status : (effect other : Effect) → Outcome words files effect → Outcome words files other → effect.status ≡ other.status
  same_status effect other is also = (outcomes_alike effect other is also).status_is

  pub same_effect : (effect other : Effect) → Outcome words files effect → Outcome words files other → effect.status ≢ Broken → (effect ≡ other) ⊎ NameOneCircle words files effect other
  same_effect effect other is also = (outcomes_alike effect other is also).same

  pub same_place_named : (effect other : Effect) → Outcome words files effect → Outcome words files other → effect.status ≡ Broken
      → NameOnePlace words files effect.output other.output
  same_place_named effect other is also = (outcomes_alike effect other is also).place
