use Rattle.std.proofs.Common.{◌≡◌, List, ℕ, Option, None, IfSome, IfOk, Result, Ok, Err, refl, sym, subst}
use Rattle.std.proofs.lemmas.Option.{IfSome_then}
use Rattle.vkb_outside.specs.Shelf.{Files}
use Rattle.vkb_tool.specs.declared.answer.Answer.{Answer}
use Rattle.vkb_tool.specs.declared.answer.Trouble.{Trouble}
use Rattle.vkb_tool.specs.declared.document.Task.{Task}
use Rattle.vkb_tool.specs.Answer.{effect_of}
use Rattle.vkb_tool.specs.Asked.{request_of}
use Rattle.vkb_tool.specs.Check.{Carries, IsOwn}
use Rattle.vkb_tool.proofs.document.answer_on.Goals as goal

-- the answer where no registry is named
over_none : (task : Task) (held : Option Files) (file : Option (List ℕ)) (root api : List ℕ) (always : List (List ℕ)) (result : Result Answer Trouble) → file ≡ None
    → IfOk result (λ answer. IfSome held (λ files. (registry : Option (List ℕ)) (word : List ℕ) → IsOwn files registry word None → Carries (request_of task registry root word always) files (effect_of answer)))
    → IfOk result (λ answer. IfSome held (λ files. Carries (request_of task file root api always) files (effect_of answer)))
over_none task held file root api always (Err trouble) none told = tt
over_none task held file root api always (Ok answer) none told =
    IfSome_then held told (λ files tells words spelled. tells file api (subst (λ (f : Option (List ℕ)). IsOwn files f api None) (sym none) refl) words spelled)

pub returns-in-None-clause-outcome : goal.returns-in-None-clause-outcome
returns-in-None-clause-outcome g c =
    over_none c.args.task.now (g.S.Shelf.holds c.args.shelf.now) c.args.registry.now c.args.root.now c.args.api.now c.args.always.now c.answer_with.result c.in-None.is c.answer_with.ensures.outcome
