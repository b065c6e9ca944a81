use Rattle.std.proofs.Common.{true, false}
use Rattle.reg_rows.proofs.ListingLemmas.{lists-found}
use Rattle.reg_rows.proofs.building.uses.find_uses.Goals as goal

pub returns : goal.returns
returns c = record {
  always_are = c.in_ok-always_there.ensures;
  required_are = lists-found (λ blocks. blocks.items) c.args.tables.now true c.in_ok-block_lists.field-0.items c.in_ok-block_lists.ensures;
  removed_are = lists-found (λ blocks. blocks.items) c.args.tables.now false c.in_ok-block_lists-2.field-0.items c.in_ok-block_lists-2.ensures;
}
