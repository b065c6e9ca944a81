use Rattle.std.proofs.Common.{[], ◌∷◌, ◌++◌, map, ap, subst, sym, take, ◌∙◌}
use Rattle.std.proofs.lemmas.List.{append-nil, take_all}
use Rattle.reg_tables.specs.Bits.{atom_of}
use Rattle.reg_tables.specs.Counts.{IsCounted}
use Rattle.reg_tables.proofs.CountLemmas.{next-named}
use Rattle.reg_tables.proofs.limits.count_bits.Goals as goal

pub loop-bit-init : goal.loop-bit-init
loop-bit-init c = λ named h. subst (λ all. IsCounted all c.args.counted.now.names c.args.counted.now.past) (sym (append-nil named)) h

pub loop-bit-preserved : goal.loop-bit-preserved
loop-bit-preserved c = λ named h.
    subst (λ all. IsCounted all c.put.new.self.names c.put.new.self.past)
    (ap (λ name. (named ++ map atom_of (take c.loop-bit.bit-index c.args.bits.now)) ++ (c.bit-item.result.place, name) ∷ []) c.as_slice.ensures
    ∙ next-named atom_of named c.args.bits.now c.loop-bit.bit-index c.bit-item.result c.loop-bit-test.true c.bit-item.is)
    (c.in_ok-put.ensures _ (c.loop-bit.invariant named h))

pub returns : goal.returns
returns c = λ named h.
    subst (λ bits. IsCounted (named ++ map atom_of bits) c.loop-bit.counted.names c.loop-bit.counted.past)
    (take_all c.loop-bit.bit-index c.args.bits.now c.loop-bit-test.false)
    (c.loop-bit.invariant named h)
