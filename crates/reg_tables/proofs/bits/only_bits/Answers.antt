use Rattle.std.proofs.Common.{filter, map, map-id, ap, sym, ◌∙◌}
use Rattle.std.proofs.lemmas.Iterator.Consumers.{YieldsList-end}
use Rattle.std.proofs.lemmas.Iterator.Adapters.{YieldsList-from_vec}
use Rattle.reg_tables.specs.Bits.{Atom, atom_of, is_bit}
use Rattle.reg_tables.specs.Lists.{firsts}
use Rattle.reg_tables.proofs.BitLemmas.{bit-dropped, none-put}
use Rattle.reg_tables.proofs.bits.only_bits.Goals as goal

pub loop-bit-init : goal.loop-bit-init
loop-bit-init c = none-put c.new-seen.result c.new-bits.result.items c.new-seen.ensures c.new-bits.ensures.items

pub loop-bit-preserved : goal.loop-bit-preserved
loop-bit-preserved c =
    bit-dropped c.args.tables.now c.loop-bit.yielded c.in-Some.bit c.loop-bit.seen c.loop-bit.bits.items
    (ap (is_bit c.args.tables.now) (sym c.as_slice.ensures) ∙ sym c.is_bit.ensures ∙ c.if-is_bit.false) c.loop-bit.invariant

pub returns : goal.returns
returns c =
    let given = c.into_iter-bit-iterator.ensures.into_iter_gives in
    let all = YieldsList-end (YieldsList-from_vec c.args.named.items given.0 (given.1 ∙ c.args.named.ok.0)) c.loop-bit.yielded c.loop-bit.bit-iterator c.loop-bit.yielded_by c.next.result c.next.new.self c.in-None.is c.next.ensures.steps in
    c.loop-bit.invariant.bits_are
    ∙ ap (λ bits. firsts (λ (atom : Atom). atom.1) (filter (λ (atom : Atom). is_bit c.args.tables.now atom.1) (map atom_of bits))) (sym (map-id c.loop-bit.yielded) ∙ all.0)
