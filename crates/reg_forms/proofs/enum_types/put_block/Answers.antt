use Rattle.std.proofs.Common.{◌≡◌, ◌++◌, true, codes}
use Rattle.reg_reader.specs.Views.{elements_in}
use Rattle.reg_forms.specs.Attributes.{is_named}
use Rattle.reg_forms.specs.EnumTypes.{rows_of}
use Rattle.reg_forms.proofs.ReadingLemmas.{part_read, rows_among, rows_among-counted}
use Rattle.reg_forms.proofs.enum_types.put_block.Goals as goal

pub loop-next-preserved-in-Continue-1 : goal.loop-next-preserved-in-Continue-1
loop-next-preserved-in-Continue-1 c = λ rows names.
    let api = c.args.api.now in
    let e = c.in-Some.next in
    let is_so : is_named (codes "type") e ≡ true = cc in
    part_read (rows_of api e) (rows_among api c.loop-next.ahead) (rows_among api c.next.new.self) (rows ++ rows_among api (elements_in c.args.block.now.content)) c.loop-next.enums c.loop-next.others c.put_type.new.enums c.put_type.new.others (rows_among-counted api e c.loop-next.ahead c.next.new.self c.in-Some.ensures.first is_so) c.in_ok-put_type.ensures (c.loop-next.invariant rows names)
