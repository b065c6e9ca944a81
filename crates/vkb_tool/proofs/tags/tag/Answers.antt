use Rattle.std.proofs.Common.{◌≡◌, ℕ, List, Option, Some, IfSome, IfOk, Result, Ok, Err, sym, subst}
use Rattle.std.proofs.lemmas.Option.{IfSome_then}
use Rattle.vkb_outside.specs.Shelf.{Files}
use Rattle.doc_tree.specs.Answer.{told_of}
use Rattle.doc_tree.specs.Fault.{Fault as DocumentFault}
use Rattle.doc_tree.specs.declared.fault.DocFault.{DocFault}
use Rattle.vkb_tool.specs.declared.answer.Answer.{Answer}
use Rattle.vkb_tool.specs.declared.answer.Trouble.{Trouble}
use Rattle.vkb_tool.specs.declared.status.Status.TheVariants.{Refused}
use Rattle.vkb_tool.specs.declared.words.Request.TheVariants.{Tag}
use Rattle.vkb_tool.specs.Answer.{effect_of}
use Rattle.vkb_tool.specs.Fault.{InDocument}
use Rattle.vkb_tool.specs.Outcome.{Effect, Outcome, most_text, refused, writes_alone}
use Rattle.vkb_tool.specs.Report.{document_fault_line}
use Rattle.vkb_tool.specs.Tagging.{ReadsFiles, TellsOfTags}
use Rattle.vkb_tool.specs.Tags.{read_fault}
use Rattle.vkb_tool.specs.Words.{Spells}
use Rattle.vkb_tool.proofs.TagsLemmas.{tags_held, tags_told}
use Rattle.vkb_tool.proofs.tags.tag.Goals as goal

pub returns-in_ok-tell-in-Ok-clause-outcome : goal.returns-in_ok-tell-in-Ok-clause-outcome
returns-in_ok-tell-in-Ok-clause-outcome g c =
    IfSome_then (g.S.Shelf.holds c.args.shelf.now) c.in-Ok.ensures.read (λ files read words spelled.
    tags_told c.pages_are_one.ensures.some words files c.args.first c.args.names.now c.in-Ok.texts.items (effect_of c.in_ok-tell-in-Ok.field-0) spelled read.0 read.1
    (subst (λ (texts : List (List ℕ)). TellsOfTags c.args.names.now texts c.args.first (effect_of c.in_ok-tell-in-Ok.field-0)) c.as_slice.ensures.value c.in_ok-tell-in-Ok.ensures.told))

pub returns-in_ok-tell-in-Ok-clause-held : goal.returns-in_ok-tell-in-Ok-clause-held
returns-in_ok-tell-in-Ok-clause-held g c =
    tags_held c.pages_are_one.ensures.some (g.S.Shelf.holds c.args.shelf.now) c.args.first c.args.names.now c.in-Ok.texts.items (effect_of c.in_ok-tell-in-Ok.field-0) c.in-Ok.ensures.read
    (subst (λ (texts : List (List ℕ)). TellsOfTags c.args.names.now texts c.args.first (effect_of c.in_ok-tell-in-Ok.field-0)) c.as_slice.ensures.value c.in_ok-tell-in-Ok.ensures.told)

-- what a refusal comes to
refusal : (held : Option Files) (first : ℕ) (names : List (List ℕ)) (fault : DocFault) (result : Result Answer Trouble) → IfSome held (λ files. ReadsFiles files most_text names (Err fault))
    → IfOk result (λ answer. (named : DocumentFault) × (told_of fault ≡ Some named) × (effect_of answer ≡ writes_alone Refused (document_fault_line named)))
    → IfOk result (λ answer. IfSome held (λ files. (words : List (List ℕ)) → Spells words (Tag first names) → Outcome words files (effect_of answer)))
refusal held first names fault (Err trouble) read told = tt
refusal held first names fault (Ok answer) read told =
    IfSome_then held read (λ files reads words spelled.
    let is : read_fault files most_text names ≡ Some told.0 = subst (λ (named : Option DocumentFault). IfSome named (λ f. read_fault files most_text names ≡ Some f)) told.1 reads in
    subst (λ (e : Effect). Outcome words files e) (sym told.2) (refused (Tag first names) (InDocument told.0) spelled is))

pub returns-in-Err-clause-outcome : goal.returns-in-Err-clause-outcome
returns-in-Err-clause-outcome g c = refusal (g.S.Shelf.holds c.args.shelf.now) c.args.first c.args.names.now c.in-Err.fault c.refuse.result c.in-Err.ensures.read c.refuse.ensures.told
