use Rattle.std.proofs.Common.{length}
use Rattle.vkb_tool.proofs.HeaderLemmas.{order_within}
use Rattle.vkb_tool.proofs.header.declare.Goals as goal

pub header-requires-clause-held : goal.header-requires-clause-held
header-requires-clause-held c =
    rw c.as_slice.ensures.value
    (order_within c.args.registry.now.rows c.in_ok-names.names c.in_ok-order.order.items (length c.args.registry.now.names) c.in_ok-names.ensures.count c.in_ok-order.ensures)
