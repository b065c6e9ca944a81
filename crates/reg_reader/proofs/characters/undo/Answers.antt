use Rattle.std.proofs.Common.{arith, ◌∙◌, None, []}
use Rattle.reg_reader.proofs.CharactersLemmas.{start-undone, step-undone, characters-undone, undone-value, part-le, part-within}
use Rattle.reg_reader.proofs.characters.undo.Goals as goal

pub put_byte-requires-clause-within : goal.put_byte-requires-clause-within
put_byte-requires-clause-within c = part-within c.args.bytes.now c.args.part c.loop-n.n c.requires.part (omega arith) (omega arith)

pub loop-n-preserved : goal.loop-n-preserved
loop-n-preserved c =
    step-undone c.args.bytes.now c.args.part.from c.loop-n.n c.loop-n.reference _ c.loop-n.text.items _ (omega arith) c.loop-n.invariant c.in_ok-reference.ensures.open c.in_ok-reference.ensures.text c.in_ok-reference.ensures.place

pub returns-clause-meaning : goal.returns-clause-meaning
returns-clause-meaning c =
    characters-undone c.args.bytes.now c.args.part c.loop-n.n c.loop-n.reference c.loop-n.text.items
    (omega (arith, part-le c.args.bytes.now c.args.part c.requires.part)) c.loop-n.invariant

pub returns-clause-value : goal.returns-clause-value
returns-clause-value c =
    undone-value c.args.bytes.now c.args.part c.loop-n.n c.loop-n.reference c.loop-n.text.items
    (omega (arith, part-le c.args.bytes.now c.args.part c.requires.part)) c.loop-n.invariant

pub returns-then-part-clause-meaning : goal.returns-then-part-clause-meaning
returns-then-part-clause-meaning c = λ stop text chars.
    c.new.ensures.items
    ∙ characters-undone c.args.bytes.now c.args.part c.args.part.from None [] c.if-part.true (start-undone c.args.bytes.now c.args.part.from) stop text chars

pub plain_end-plain-requires-clause-order : goal.plain_end-plain-requires-clause-order
plain_end-plain-requires-clause-order c = part-le c.args.bytes.now c.args.part c.requires.part
