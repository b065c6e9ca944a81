use Rattle.doc_tree.specs.Loaded.{flat_of}
use Rattle.vkb_tool.specs.Declaring.{TellsText}
use Rattle.vkb_tool.proofs.ChoiceLemmas.{told_chosen, told_wrong}
use Rattle.vkb_tool.proofs.build.tell.Goals as goal

pub returns-in-Ok-clause-told : goal.returns-in-Ok-clause-told
returns-in-Ok-clause-told c =
    told_chosen c.args.registry.now c.args.names.now (TellsText c.args.always.now c.args.registry.now (flat_of c.args.text.now.bytes c.args.document.now)) c.in-Ok.choice.chosen.items c.write_text.result
    c.in-Ok.ensures.choice c.write_text.ensures.told

pub returns-in-Err-clause-told : goal.returns-in-Err-clause-told
returns-in-Err-clause-told c =
    told_wrong c.args.registry.now c.args.names.now (TellsText c.args.always.now c.args.registry.now (flat_of c.args.text.now.bytes c.args.document.now)) c.refuse_choice.result
    (c.refuse_choice.ensures.told c.args.names.now c.in-Err.ensures.fault)
