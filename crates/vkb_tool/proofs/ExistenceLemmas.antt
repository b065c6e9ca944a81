-- Words and files come to something, whatever they are.
use Rattle.std.proofs.Common.{inl, inr, ◌≡◌, ℕ, ◌<◌, List, [], length, Option, Some, None, refl, ap, subst, All}
use Rattle.std.proofs.lemmas.List.Elements.{All-nil}
use Rattle.vkb_outside.specs.Shelf.{Files}
use Rattle.doc_tree.specs.Fault.{Fault as DocumentFault}
use Rattle.doc_tree.specs.Flat.{FlatLine}
use Rattle.doc_tree.specs.Sources.{AreSources, Sources}
use Rattle.doc_tree.specs.Walk.{IsDocument, IsFaultOf, first_fault, taken, walk}
use Rattle.vkb_formula.specs.declared.name_table.NameId.{NameId}
use Rattle.reg_reader.specs.Laws.{OneAnswer}
use Rattle.reg_registry.specs.Laws.{AreWithin}
use Rattle.reg_registry.specs.Rows.{Rows, bare_rows}
use Rattle.reg_registry.specs.declared.registry.Row.{Row}
use Rattle.reg_forms.specs.Forms.{forms_of}
use Rattle.reg_rows.specs.Laws.{AnswersAreOne, EachIsAnswered, RowsAreWithin}
use Rattle.reg_closure.specs.Existence.{ClosuresAreThere, OrdersAreThere}
use Rattle.reg_permit.specs.Existence.{PermittedOrFirst}
use Rattle.reg_permit.specs.Laws.{PermittedOrNot}
use Rattle.doc_build.specs.Built.{choice_text}
use Rattle.doc_build.specs.Choices.{free_names}
use Rattle.vkb_tool.specs.declared.status.Status.TheVariants.{Done, Refused, Usage}
use Rattle.vkb_tool.specs.declared.document.Task.{Task}
use Rattle.vkb_tool.specs.declared.document.Task.TheVariants as asks
use Rattle.vkb_tool.specs.declared.words.Request.{Request}
use Rattle.vkb_tool.specs.declared.words.Request.TheVariants.{Build, Check, Header, Tag}
use Rattle.vkb_tool.specs.Asked.{TellsFor, request_of}
use Rattle.vkb_tool.specs.Declaring.{TellsText}
use Rattle.vkb_tool.specs.Fault.{InDocument, InRegistry}
use Rattle.vkb_tool.specs.Outcome.{Effect, IsOffered, IsRegistryOf, Outcome, misplaced, most_text, refused, status_of, writes_alone}
use Rattle.vkb_tool.specs.Report.{fault_line, report_of, usage_line}
use Rattle.vkb_tool.specs.Tags.{read_fault}
use Rattle.vkb_tool.specs.Words.{Spells}
use Rattle.vkb_tool.specs.Registry.{IsRegistry}
use Rattle.vkb_tool.proofs.AgreementLemmas.{OneWalk}
use Rattle.vkb_tool.proofs.ChoiceLemmas.{choice_comes}
use Rattle.vkb_tool.proofs.EveryRequest.{every_request}
use Rattle.vkb_tool.proofs.EveryVerdict.{every_verdict}
use Rattle.vkb_tool.proofs.TagsLemmas.{HavePages, tags_come_to}
use Rattle.vkb_tool.proofs.HeaderLemmas.{header_told, options_come, rows_counted}
use Rattle.vkb_tool.proofs.OutcomeLemmas.{HaveSources, IsWalked, registry_fault, told_for, walk_fault}
use Rattle.vkb_tool.proofs.RegistryLemmas.{every_registry}

-- each name of a registry has a row, and what the rows name is there
record IsWhole (r : Rows) : Type 0 where
  pub counted : length r.rows ≡ length r.names
  pub within : AreWithin r.rows

-- the registry of each list of lines
abbrev HasRegistries : Files → Option (List ℕ) → List ℕ → List (List ℕ) → Type 0
HasRegistries files registry api always = (lines : List FlatLine) → (r : Rows) × IsRegistryOf files registry api always lines r × IsWhole r

module _ (have : HaveSources) (one_walk : OneWalk) (pages : HavePages) (one_answer : OneAnswer) (one_rows : AnswersAreOne) (each_answered : EachIsAnswered) (rows_within : RowsAreWithin) (permitted_or_not : PermittedOrNot) (closures : ClosuresAreThere) (orders : OrdersAreThere) (permitted_or_first : PermittedOrFirst)
    (words : List (List ℕ)) (files : Files) where
  -- a request on a document comes to something over its registry
  task_comes : (task : Task) (always : List (List ℕ)) (r : Rows) (lines : List FlatLine) → IsWhole r → (effect : Effect) × TellsFor task always r lines effect
  task_comes asks.Check always r lines whole =
      let judged = every_verdict permitted_or_not closures always r lines whole.counted whole.within in
      (writes_alone (status_of judged.0) (report_of lines r.options judged.0), record { verdict = judged.0; is = judged.1; told = refl })
  task_comes (asks.Build names) always r lines whole =
      choice_comes permitted_or_first r names whole.within (TellsText always r lines) (λ chosen.
      let closure = closures r chosen whole.counted whole.within in
      (writes_alone Done (choice_text always r chosen closure.0 lines), record { set = closure.0; closure = closure.1; told = refl }))

  -- a walk comes to something
  walk_comes : (task : Task) (registry : Option (List ℕ)) (root api : List ℕ) (always : List (List ℕ)) (sources : Sources) (first : Option DocumentFault) → Spells words (request_of task registry root api always)
      → IsOffered files registry api → HasRegistries files registry api always → AreSources files sources → first_fault sources most_text [] (walk sources root) ≡ first → (effect : Effect) × Outcome words files effect
  walk_comes task registry root api always sources (Some fault) spelled offered registries are first =
      let is : IsFaultOf files most_text root fault = record { sources = sources; are = are; first = first } in (
        writes_alone Refused (fault_line (InDocument fault)),
        refused (request_of task registry root api always) (InDocument fault) spelled (walk_fault task files registry root api always fault offered is),
      )
  walk_comes task registry root api always sources None spelled offered registries are first =
      let lines = taken (walk sources root) in
      let is : IsDocument files most_text root lines = record { sources = sources; are = are; faultless = first; lines_are = refl } in
      let walked : IsWalked files root lines = λ others also.
      let same = one_walk files sources others are also in
      (subst (λ (s : Sources). first_fault s most_text [] (walk s root) ≡ None) same first, ap (λ (s : Sources). taken (walk s root)) same) in
      let over = registries lines in
      let told = task_comes task always over.0 lines over.2 in
      (told.0, told_for one_answer one_rows words files registry root api always over.0 lines told.0 walked offered (record { document = is; over = over.1 }) task spelled told.1)

  document_comes : (task : Task) (registry : Option (List ℕ)) (root api : List ℕ) (always : List (List ℕ)) → Spells words (request_of task registry root api always) → IsOffered files registry api
      → HasRegistries files registry api always → (effect : Effect) × Outcome words files effect
  document_comes task registry root api always spelled offered registries =
      let found = have files in
      walk_comes task registry root api always found.0 (first_fault found.0 most_text [] (walk found.0 root)) spelled offered registries found.1 refl

  -- what the rows of a registry name is there
  registry_within : (found : Option (List ℕ)) (api : List ℕ) (r : Rows) → IsRegistry found api r → AreWithin r.rows
  registry_within found api r is = rows_within (forms_of api is.root) r is.answered

  -- a request on a document comes to something
  asked_comes : (task : Task) (registry : Option (List ℕ)) (root api : List ℕ) (always : List (List ℕ)) → Spells words (request_of task registry root api always) → (effect : Effect) × Outcome words files effect
  asked_comes task None root api always spelled =
      document_comes task None root api always spelled tt (λ lines. (
        bare_rows (free_names always lines),
        refl,
        record { counted = refl; within = All-nil (λ (row : Row). All (λ (id : NameId). id.0 < 0) row.named) },
      ))
  asked_comes task (Some name) root api always spelled =
      elim (every_registry one_answer each_answered (files name) api) [
        | inl (r, is) ↦ document_comes task (Some name) root api always spelled (r, is) (λ lines. (r, is, record { counted = rows_counted (files name) api r is; within = registry_within (files name) api r is }))
        | inr (fault, is) ↦ (
          writes_alone Refused (fault_line (InRegistry name api fault)),
          refused (request_of task (Some name) root api always) (InRegistry name api fault) spelled (registry_fault task files name root api always fault is),
        )
      ]

  request_comes : (request : Request) → Spells words request → (effect : Effect) × Outcome words files effect
  request_comes (Check registry root api always) spelled = asked_comes asks.Check registry root api always spelled
  request_comes (Build registry root api names always) spelled = asked_comes (asks.Build names) registry root api always spelled
  request_comes (Header registry api names) spelled =
      elim (every_registry one_answer each_answered (files registry) api) [
        | inl (r, is) ↦
            let told = options_come closures orders permitted_or_first r names (rows_counted (files registry) api r is) (registry_within (files registry) api r is) in
            (told.0, header_told one_answer one_rows files registry api names words r told.0 spelled is told.1)
        | inr (fault, is) ↦ (writes_alone Refused (fault_line (InRegistry registry api fault)), refused (Header registry api names) (InRegistry registry api fault) spelled (refl, refl, is))
      ]
  request_comes (Tag first names) spelled = tags_come_to pages words files first names (read_fault files most_text names) spelled refl

  -- the words and the files come to something
  pub comes_to : (effect : Effect) × Outcome words files effect
  comes_to =
      elim (every_request words) [
        | inl (request, spelled) ↦ request_comes request spelled
        | inr (position, is) ↦ (writes_alone Usage (usage_line position), misplaced position is)
      ]
