use Rattle.std.proofs.lemmas.Option.{IfSome_then}
use Rattle.vkb_tool.specs.Answer.{effect_of}
use Rattle.vkb_tool.proofs.HeaderLemmas.{header_refused, header_told}
use Rattle.vkb_tool.proofs.header.header.Goals as goal

pub returns-in_ok-tell-in-Ok-clause-outcome : goal.returns-in_ok-tell-in-Ok-clause-outcome
returns-in_ok-tell-in-Ok-clause-outcome g c =
    IfSome_then (g.S.Shelf.holds c.args.shelf.now) c.in-Ok.ensures.read (λ files is words spelled.
    header_told c.one_answer.ensures c.answers_are_one.ensures files c.args.file.now c.args.api.now c.args.names.now words c.in-Ok.registry (effect_of c.in_ok-tell-in-Ok.field-0) spelled is c.in_ok-tell-in-Ok.ensures.told)

pub returns-in_ok-refuse_registry-in-Err-Faulty-clause-outcome : goal.returns-in_ok-refuse_registry-in-Err-Faulty-clause-outcome
returns-in_ok-refuse_registry-in-Err-Faulty-clause-outcome g c =
    let read = rw c.in-Err-Faulty.field-0-is at c.in-Err-Faulty.ensures.read in
    IfSome_then (g.S.Shelf.holds c.args.shelf.now) read (λ files is words spelled.
    header_refused c.one_answer.ensures c.answers_are_one.ensures files c.args.file.now c.args.api.now c.args.names.now words c.in-Err-Faulty.fault (effect_of c.in_ok-refuse_registry-in-Err-Faulty.field-0) spelled is
    c.in_ok-refuse_registry-in-Err-Faulty.ensures)
