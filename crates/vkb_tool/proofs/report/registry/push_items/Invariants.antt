use Rattle.std.proofs.Common.{◌≡◌, ◌++◌, codes, take}
use Rattle.std.specs.List.{flat_map}
use Rattle.vkb_tool.proofs.report.registry.push_items.Given as goal

-- the items so far stand behind the text
abbrev pub invariant-loop-item : goal.invariant-loop-item
invariant-loop-item l = l.text.items ≡ l.fn.text.items ++ flat_map (λ item. codes " " ++ item) (take l.item-index l.items)
