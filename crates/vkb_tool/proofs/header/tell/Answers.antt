use Rattle.vkb_tool.proofs.ChoiceLemmas.{told_chosen, told_wrong}
use Rattle.vkb_tool.specs.Declaring.{TellsHeader}
use Rattle.vkb_tool.proofs.header.tell.Goals as goal

pub returns-in-Ok-clause-told : goal.returns-in-Ok-clause-told
returns-in-Ok-clause-told c =
    told_chosen c.args.registry.now c.args.names.now (TellsHeader c.args.registry.now) c.in-Ok.choice.chosen.items c.declare.result c.in-Ok.ensures.choice c.declare.ensures.told

pub returns-in-Err-clause-told : goal.returns-in-Err-clause-told
returns-in-Err-clause-told c =
    told_wrong c.args.registry.now c.args.names.now (TellsHeader c.args.registry.now) c.refuse_choice.result (c.refuse_choice.ensures.told c.args.names.now c.in-Err.ensures.fault)
