use Rattle.std.proofs.Common.{◌≡◌, length}
use Rattle.vkb_tool.proofs.tests.yardstick.put_links.Given as goal

abbrev pub decreases-loop-mark : goal.decreases-loop-mark
decreases-loop-mark l = length l.marks.left

-- the marks are those of the line
abbrev pub invariant-loop-mark : goal.invariant-loop-mark
invariant-loop-mark l = l.marks.line ≡ l.bytes
