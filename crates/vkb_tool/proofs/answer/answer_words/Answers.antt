use Rattle.std.proofs.Common.{Some, None, Option, IfSome, subst, sym}
use Rattle.vkb_outside.specs.Shelf.{Files}
use Rattle.vkb_tool.specs.Answer.{effect_of}
use Rattle.vkb_tool.specs.Outcome.{Effect, Outcome, misplaced}
use Rattle.vkb_tool.specs.Words.{items_of}
use Rattle.vkb_tool.proofs.answer.answer_words.Goals as goal

-- what holds of all files holds of those that are told
told_all : (files : Option Files) (P : Files → Type 0) → ((f : Files) → P f) → IfSome files P
told_all None P all = tt
told_all (Some f) P all = all f

pub returns-in_ok-misplaced-in-Err-Usage-clause-outcome : goal.returns-in_ok-misplaced-in-Err-Usage-clause-outcome
returns-in_ok-misplaced-in-Err-Usage-clause-outcome g c =
    let words = items_of c.args.words.now in
    let answer = c.in_ok-misplaced-in-Err-Usage.field-0 in
    let told = c.in_ok-misplaced-in-Err-Usage.ensures in
    let position = c.in-Err-Usage.position in
    told_all (g.S.Shelf.holds c.args.shelf.now) (λ files. Outcome words files (effect_of answer)) (λ files.
    subst (λ (e : Effect). Outcome words files e) (sym told) (misplaced position (rw c.in-Err-Usage.field-0-is at c.in-Err-Usage.ensures.misplaced)))
