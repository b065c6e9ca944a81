use Rattle.std.proofs.Common.{refl}
use Rattle.std.proofs.lemmas.Option.{IfSome_then}
use Rattle.vkb_tool.specs.Answer.{effect_of}
use Rattle.vkb_tool.specs.Words.{items_of}
use Rattle.vkb_tool.proofs.EndingsLemmas.{after_answering, delivered_all, delivered_always, is_complete}
use Rattle.vkb_tool.proofs.program.run.Goals as goal

pub returns-in-Ok-clause-ends : goal.returns-in-Ok-clause-ends
returns-in-Ok-clause-ends g c =
    let told = c.in-Ok.ensures in
    delivered_all (g.S.Shelf.holds c.args.shelf.now) (items_of c.args.words.now) (effect_of c.in-Ok.answer) c.deliver.result _ _ refl told.outcome
    (after_answering (effect_of c.in-Ok.answer) c.deliver.result _ _ _ told.kept refl told.counted told.puts refl c.deliver.ensures)

pub returns-in-Ok-clause-complete : goal.returns-in-Ok-clause-complete
returns-in-Ok-clause-complete g c =
    IfSome_then (g.S.Shelf.holds c.args.shelf.now) (returns-in-Ok-clause-ends g c) (λ files ending. is_complete (items_of c.args.words.now) files c.deliver.result _ _ ending)

pub returns-in-Ok-clause-always : goal.returns-in-Ok-clause-always
returns-in-Ok-clause-always g c =
    let told = c.in-Ok.ensures in
    delivered_always (items_of c.args.words.now) c.in-Ok.answer c.deliver.result _ _ told.words
    (after_answering (effect_of c.in-Ok.answer) c.deliver.result _ _ _ told.kept refl told.counted told.puts refl c.deliver.ensures)
