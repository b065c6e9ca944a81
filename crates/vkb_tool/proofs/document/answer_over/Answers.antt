use Rattle.std.proofs.Common.{◌≡◌, List, ℕ, Option, Some, None, IfSome, IfOk, Result, Ok, Err, refl, subst}
use Rattle.std.proofs.lemmas.Option.{IfSome_then}
use Rattle.vkb_outside.specs.Shelf.{Files}
use Rattle.reg_registry.specs.Rows.{Rows}
use Rattle.vkb_tool.specs.declared.answer.Answer.{Answer}
use Rattle.vkb_tool.specs.declared.answer.Trouble.{Trouble}
use Rattle.vkb_tool.specs.declared.document.Task.{Task}
use Rattle.vkb_tool.specs.Answer.{effect_of}
use Rattle.vkb_tool.specs.Asked.{request_of}
use Rattle.vkb_tool.specs.Check.{Carries, IsOwn}
use Rattle.vkb_tool.specs.Registry.{IsRegistry}
use Rattle.vkb_tool.proofs.OutcomeLemmas.{refused_registry}
use Rattle.vkb_tool.proofs.document.answer_over.Goals as goal

module _ (task : Task) (name root api : List ℕ) (always : List (List ℕ)) (r : Rows) (answer : Answer) where
  -- what the answer is over any registry that was read
  abbrev AnswersOwn : Files → Type 0
  AnswersOwn files = (registry : Option (List ℕ)) (word : List ℕ) → IsOwn files registry word (Some r) → Carries (request_of task registry root word always) files (effect_of answer)

  -- and over this one
  abbrev AnswersNamed : Files → Type 0
  AnswersNamed files = Carries (request_of task (Some name) root api always) files (effect_of answer)

  named_own : (held : Option Files) → IfSome held (λ files. IsRegistry (files name) api r) → IfSome held AnswersOwn → IfSome held AnswersNamed
  named_own None read told = tt
  named_own (Some files) read told = λ words spelled. told (Some name) api (r, refl, read) words spelled

-- the answer over the registry that was read
over_registry : (task : Task) (held now : Option Files) → now ≡ held → (name root api : List ℕ) (always : List (List ℕ)) (r : Rows) (result : Result Answer Trouble) → IfSome held (λ files. IsRegistry (files name) api r)
    → IfOk result (λ answer. IfSome now (AnswersOwn task name root api always r answer)) → IfOk result (λ answer. IfSome held (AnswersNamed task name root api always r answer))
over_registry task held now same name root api always r (Err trouble) read told = tt
over_registry task held now same name root api always r (Ok answer) read told =
    named_own task name root api always r answer held read (subst (λ (h : Option Files). IfSome h (AnswersOwn task name root api always r answer)) same told)

pub returns-in-Ok-clause-outcome : goal.returns-in-Ok-clause-outcome
returns-in-Ok-clause-outcome g c =
    over_registry c.args.task.now (g.S.Shelf.holds c.args.shelf.now) (g.S.Shelf.holds c.read_registry.new.shelf) c.in-Ok.ensures.kept c.args.file.now c.args.root.now c.args.api.now c.args.always.now c.in-Ok.registry c.answer_with.result
    c.in-Ok.ensures.read c.answer_with.ensures.outcome

pub returns-in_ok-refuse_registry-in-Err-Faulty-clause-outcome : goal.returns-in_ok-refuse_registry-in-Err-Faulty-clause-outcome
returns-in_ok-refuse_registry-in-Err-Faulty-clause-outcome g c =
    let read = rw c.in-Err-Faulty.field-0-is at c.in-Err-Faulty.ensures.read in
    IfSome_then (g.S.Shelf.holds c.args.shelf.now) read (λ files is words spelled.
    refused_registry c.args.task.now words files c.args.file.now c.args.root.now c.args.api.now c.args.always.now c.in-Err-Faulty.fault (effect_of c.in_ok-refuse_registry-in-Err-Faulty.field-0) spelled is
    c.in_ok-refuse_registry-in-Err-Faulty.ensures)
