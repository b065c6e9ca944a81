use Rattle.vkb_tool.proofs.WholeLemmas.{headers_whole}
use Rattle.vkb_tool.proofs.laws.headers_are_whole.Goals as goal

pub returns : goal.returns
returns c = headers_whole c.closures_are_closed.ensures c.orders_have_all.ensures c.only_commands_name_commands.ensures
