use Rattle.std.proofs.Common.{[], ◌++◌, map, filter, is_none, is_some, refl, arith}
use Rattle.reg_tables.specs.Bits.{atom_of}
use Rattle.reg_tables.proofs.CountLemmas.{count-options, few-put, past-put}
use Rattle.reg_tables.proofs.limits.put_options.Goals as goal

pub returns-then-bits-options : goal.returns-then-bits-options
returns-then-bits-options c =
    let count = count-options (λ o. o.version) (λ o. (o.place, o.name)) atom_of c.args.options.now c.args.bits.now in
    few-put c.args.faults.now.items
    (map (λ o. (o.place, o.name)) (filter (λ o. is_some o.version) c.args.options.now) ++ map (λ o. (o.place, o.name)) (filter (λ o. is_none o.version) c.args.options.now) ++ map atom_of c.args.bits.now)
    (omega arith)

pub returns : goal.returns
returns c =
    past-put c.put_past.result c.args.faults.now.items c.put_past.new.faults.items _ _ c.count_bits.new.counted.names c.count_bits.new.counted.past refl
    (c.in_ok-count_bits.ensures _ (c.in_ok-count_extensions.ensures _ (c.in_ok-count_features.ensures [] c.new-counted.ensures))) c.put_past.ensures
