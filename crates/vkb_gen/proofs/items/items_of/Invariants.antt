use Rattle.std.proofs.Common.{◌≡◌, ◌-◌, map}
use Rattle.std.specs.List.{range_with_len}
use Rattle.vkb_gen.specs.Draws.{state_after}
use Rattle.vkb_gen.specs.Items.{draws_before, item_of}
use Rattle.vkb_gen.proofs.items.items_of.Given as goal

-- the items so far, and the state behind their draws
abbrev pub invariant-loop-number : goal.invariant-loop-number
invariant-loop-number l = record {
  made : l.items.items ≡ map (item_of l.seed) (range_with_len 1 (l.number - 1));
  state : l.draws.state ≡ state_after l.seed (draws_before l.number);
}
