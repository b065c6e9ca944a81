use Rattle.std.proofs.Common.{◌+◌, ◌∷◌, drop, map, refl, sym, ap, ◌∙◌}
use Rattle.vkb_formula.specs.Names.{most_names}
use Rattle.reg_rows.specs.BuiltParts.{with_names}
use Rattle.reg_rows.proofs.WithNamesLemmas.{put-last, put-next, room-next}
use Rattle.reg_rows.proofs.building.names.put_bits.Goals as goal

pub put_name-requires : goal.put_name-requires
put_name-requires c =
    room-next (map (λ bit. bit.name)) c.args.bits.now _ refl _ _ _ c.loop-bit.invariant _ c.loop-bit-test.true c.bit-item.is
    _ (ap (λ name. name ∷ map (λ bit. bit.name) (drop (c.loop-bit.bit-index + 1) c.args.bits.now)) (sym c.as_slice.ensures)) most_names c.requires

pub loop-bit-preserved : goal.loop-bit-preserved
loop-bit-preserved c =
    ap (λ names. with_names names (map (λ bit. bit.name) (drop (c.loop-bit.bit-index + 1) c.args.bits.now))) c.in_ok-put_name.ensures
    ∙ put-next (map (λ bit. bit.name)) c.args.bits.now _ refl _ _ _ c.loop-bit.invariant _ c.loop-bit-test.true c.bit-item.is
    _ (ap (λ name. name ∷ map (λ bit. bit.name) (drop (c.loop-bit.bit-index + 1) c.args.bits.now)) (sym c.as_slice.ensures))

pub returns : goal.returns
returns c = put-last (map (λ bit. bit.name)) c.args.bits.now _ refl _ _ _ c.loop-bit.invariant c.loop-bit-test.false refl
