use Rattle.reg_forms.proofs.LawLemmas.{only-commands}
use Rattle.reg_forms.proofs.laws.only_commands_mention_commands.Goals as goal

pub returns : goal.returns
returns c = only-commands
