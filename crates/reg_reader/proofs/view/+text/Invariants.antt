use Rattle.std.proofs.Common.{◌≡◌, ◌++◌, take}
use Rattle.reg_reader.specs.Views.{text_in}
use Rattle.reg_reader.specs.Shown.{content_of}
use Rattle.reg_reader.proofs.view.+text.Given as goal

-- the text so far is that of the nodes so far
abbrev pub invariant-put_text-loop-node : goal.invariant-put_text-loop-node
invariant-put_text-loop-node l = l.text.items ≡ l.fn.text.items ++ text_in (content_of l.bytes (take l.node-index l.nodes))
