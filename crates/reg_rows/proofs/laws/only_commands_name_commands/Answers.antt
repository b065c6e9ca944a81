use Rattle.reg_rows.proofs.CommandLemmas.{only-commands}
use Rattle.reg_rows.proofs.laws.only_commands_name_commands.Goals as goal

pub returns : goal.returns
returns c = only-commands c.declarations_rise.ensures c.only_commands_mention_commands.ensures
