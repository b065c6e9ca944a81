use Rattle.std.proofs.Common.{Ok, Err}
use Rattle.reg_rows.specs.declared.fault.RowFault.TheVariants as row
use Rattle.vkb_tool.proofs.RegistryLemmas.{rows_come_to}
use Rattle.vkb_tool.proofs.registry.registry_of.Goals as goal

pub returns-in-Ok-clause-read : goal.returns-in-Ok-clause-read
returns-in-Ok-clause-read c = rows_come_to c.args.bytes.now c.args.api.now c.args.tree.now (Ok c.in-Ok.registry) c.requires.tree c.requires.small c.in-Ok.ensures.answer

pub returns-in-Err-Bad-clause-read : goal.returns-in-Err-Bad-clause-read
returns-in-Err-Bad-clause-read c =
    rows_come_to c.args.bytes.now c.args.api.now c.args.tree.now (Err (row.Bad c.in-Err-Bad.code c.in-Err-Bad.at c.in-Err-Bad.word)) c.requires.tree c.requires.small (rw c.in-Err-Bad.field-0-is at c.in-Err-Bad.ensures.answer)

pub returns-in-Err-NoFeature-clause-read : goal.returns-in-Err-NoFeature-clause-read
returns-in-Err-NoFeature-clause-read c =
    rows_come_to c.args.bytes.now c.args.api.now c.args.tree.now (Err row.NoFeature) c.requires.tree c.requires.small (rw c.in-Err-NoFeature.field-0-is at c.in-Err-NoFeature.ensures.answer)

pub returns-in-Err-NamingCycle-clause-read : goal.returns-in-Err-NamingCycle-clause-read
returns-in-Err-NamingCycle-clause-read c =
    rows_come_to c.args.bytes.now c.args.api.now c.args.tree.now (Err (row.NamingCycle c.in-Err-NamingCycle.names)) c.requires.tree c.requires.small (rw c.in-Err-NamingCycle.field-0-is at c.in-Err-NamingCycle.ensures.answer)
