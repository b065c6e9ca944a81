use Rattle.std.proofs.Common.{take}
use Rattle.vkb_formula.specs.Trees.{PutsTrees}
use Rattle.vkb_formula.proofs.pool.+put_nodes.Given as goal

-- the parts so far were put
abbrev pub invariant-put_parts-loop-part : goal.invariant-put_parts-loop-part
invariant-put_parts-loop-part l = PutsTrees l.fn.pool l.pool (take l.part-index l.parts) l.roots.items
