use Rattle.std.proofs.Common.{◌≡◌, ◌≢◌, ◌+◌, ℕ, List, [], length, Option, Some, None, IfSome, IfOk, IfErr, Result, Ok, Err, refl, sym, ap, ◌∙◌, subst}
use Rattle.std.proofs.lemmas.Option.{IfSome_then, none-some}
use Rattle.vkb_outside.specs.Shelf.{Files}
use Rattle.vkb_text.specs.Buffer.{Buffer}
use Rattle.doc_tree.specs.Answer.{Answers, CountsLoad, IsReadBy, told_of}
use Rattle.doc_tree.specs.Fault.{Fault as DocumentFault}
use Rattle.doc_tree.specs.Loaded.{flat_of}
use Rattle.doc_tree.specs.Sources.{AreSources, Sources}
use Rattle.doc_tree.specs.Walk.{first_fault, walk}
use Rattle.doc_tree.specs.declared.fault.DocFault.{DocFault}
use Rattle.doc_tree.specs.declared.fault.DocFault.TheVariants as code
use Rattle.doc_tree.specs.declared.Document.{Document}
use Rattle.vkb_tool.specs.declared.answer.Answer.{Answer}
use Rattle.vkb_tool.specs.declared.answer.Trouble.{Trouble}
use Rattle.vkb_tool.specs.declared.answer.Trouble.TheVariants.{ReadFailed, NoMemory}
use Rattle.vkb_tool.specs.declared.status.Status.TheVariants.{Refused}
use Rattle.vkb_tool.specs.declared.document.Task.{Task}
use Rattle.vkb_tool.specs.Answer.{CountsReading, effect_of}
use Rattle.vkb_tool.specs.Asked.{request_of}
use Rattle.reg_registry.specs.Rows.{Rows}
use Rattle.vkb_tool.specs.Check.{Carries, IsOwn, IsTroubleOf}
use Rattle.vkb_tool.specs.Outcome.{most_text, writes_alone}
use Rattle.vkb_tool.specs.Report.{document_fault_line}
use Rattle.vkb_tool.proofs.OutcomeLemmas.{HaveSources, IsWalked, refused_outcome, told_outcome}
use Rattle.vkb_tool.proofs.document.answer_with.Goals as goal

-- what was loaded into a new text, which has all its room
abbrev Loads : Files → List ℕ → List ℕ → ℕ → ℕ → Result Document DocFault → Type 0
Loads files root text used most result =
    (sources : Sources) → AreSources files sources → (room : ℕ) → used + room ≡ most → Answers sources room (walk sources root) text result

-- what was read of a shelf that tells its files was read of these
read_told : (held : Option Files) (P : Files → Type 0) → IsReadBy held P → IfSome held P
read_told None P by = tt
read_told (Some holds) P by = subst P by.told_are by.holds

-- a document that was loaded into a new text was walked
walked : (files : Files) (root text : List ℕ) (used most : ℕ) (d : Document) → used + most_text ≡ most → Loads files root text used most (Ok d) → IsWalked files root (flat_of text d)
walked files root text used most d whole load = λ sources are.
    let answer = load sources are most_text whole in
    (answer.0, answer.1)

-- a new text has room for all
new_room : (text : Buffer) → text ≡ record { bytes = []; most = most_text } → length text.bytes + most_text ≡ text.most
new_room text same = ap (λ (t : Buffer). length t.bytes + most_text) same ∙ sym (ap (λ (t : Buffer). t.most) same)

pub returns-in-Ok-clause-outcome : goal.returns-in-Ok-clause-outcome
returns-in-Ok-clause-outcome g c =
    let d = c.in-Ok.document in
    let text = c.load.new.text.bytes in
    let empty = c.new-text.result in
    IfSome_then (g.S.Shelf.holds c.args.shelf.now) (read_told (g.S.Shelf.holds c.args.shelf.now) _ c.in-Ok.ensures.document) (λ files load registry api own words spelled.
    told_outcome c.args.task.now c.one_answer.ensures c.answers_are_one.ensures c.files_have_sources.ensures words files registry c.args.root.now api c.args.always.now c.args.own.now (flat_of text d) (effect_of c.in_ok-tell_over-in-Ok.field-0) spelled own
    (walked files c.args.root.now text (length empty.bytes) empty.most d (new_room empty c.new-text.ensures) load) c.in_ok-tell_over-in-Ok.ensures.told)

-- what a refusal comes to
refusal : (task : Task) → HaveSources → (held : Option Files) (own : Option Rows) (root : List ℕ) (always : List (List ℕ)) (text : List ℕ) (used most : ℕ) (fault : DocFault) (result : Result Answer Trouble) → used + most_text ≡ most
    → IfSome held (λ files. Loads files root text used most (Err fault))
    → IfOk result (λ answer. (named : DocumentFault) × (told_of fault ≡ Some named) × (effect_of answer ≡ writes_alone Refused (document_fault_line named)))
    → IfOk result (λ answer. IfSome held (λ files. (registry : Option (List ℕ)) (api : List ℕ) → IsOwn files registry api own → Carries (request_of task registry root api always) files (effect_of answer)))
refusal task have held own root always text used most fault (Err trouble) whole load told = tt
refusal task have held own root always text used most fault (Ok answer) whole load told =
    IfSome_then held load (λ files loads registry api is words spelled.
    refused_outcome task have words files registry root api always own told.0 (effect_of answer) spelled is
    (λ sources are.
    subst (λ (named : Option DocumentFault). IfSome named (λ f. first_fault sources most_text [] (walk sources root) ≡ Some f)) told.1 (loads sources are most_text whole)) told.2)

pub returns-clause-outcome : goal.returns-clause-outcome
returns-clause-outcome g c =
    let empty = c.new-text.result in
    refusal c.args.task.now c.files_have_sources.ensures (g.S.Shelf.holds c.args.shelf.now) c.args.own.now c.args.root.now c.args.always.now c.load.new.text.bytes (length empty.bytes) empty.most c.in-Err.fault c.refuse.result
    (new_room empty c.new-text.ensures) (read_told (g.S.Shelf.holds c.args.shelf.now) _ c.in-Err.ensures.document) c.refuse.ensures.told

-- the count of failed reads stays but for a failed read
steady : (before now : ℕ) (fault : DocFault) → CountsLoad {X = Document} before now (Err fault) → fault ≢ code.ReadFault → now ≡ before
steady before now code.ReadFault counts apart = absurd (apart refl)
steady before now (code.Missing name) counts apart = counts
steady before now (code.TooLarge name) counts apart = counts
steady before now (code.IncludeDepth name line) counts apart = counts
steady before now (code.DocTooLong name line) counts apart = counts
steady before now (code.NameLimit name line) counts apart = counts
steady before now (code.BadCondition name line) counts apart = counts
steady before now (code.Unbalanced name line) counts apart = counts
steady before now (code.CondDepth name line) counts apart = counts
steady before now code.Memory counts apart = counts

-- and so it does in the answer
counted : (before now : ℕ) (fault : DocFault) (result : Result Answer Trouble) → CountsLoad {X = Document} before now (Err fault)
    → IfOk result (λ answer. (named : DocumentFault) × (told_of fault ≡ Some named) × (effect_of answer ≡ writes_alone Refused (document_fault_line named)))
    → IfErr result (IsTroubleOf fault) → CountsReading before now result
counted before now fault (Ok answer) counts told untold =
    steady before now fault counts (λ failed. none-some told.0 (sym (ap told_of failed) ∙ told.1))
counted before now fault (Err ReadFailed) counts told untold = subst (λ (f : DocFault). CountsLoad {X = Document} before now (Err f)) untold counts
counted before now fault (Err NoMemory) counts told untold = steady before now fault counts untold

pub returns-clause-counted : goal.returns-clause-counted
returns-clause-counted g c = counted (g.S.Shelf.read_faults c.args.shelf.now) (g.S.Shelf.read_faults c.load.new.shelf) c.in-Err.fault c.refuse.result c.in-Err.ensures.counted c.refuse.ensures.told c.refuse.ensures.untold
