use Rattle.std.proofs.Common.{◌≡◌, true, codes}
use Rattle.reg_reader.specs.Views.{elements_in}
use Rattle.reg_forms.specs.Attributes.{is_named}
use Rattle.reg_forms.specs.EnumTypes.{rows_in}
use Rattle.reg_forms.proofs.ReadingLemmas.{part_read, rows_among_blocks, rows_among_blocks-counted}
use Rattle.reg_forms.proofs.enum_types.enum_types.Goals as goal

pub loop-next-preserved-in-Continue-1 : goal.loop-next-preserved-in-Continue-1
loop-next-preserved-in-Continue-1 c =
    let api = c.args.api.now in
    let e = c.in-Some.next in
    let is_so : is_named (codes "types") e ≡ true = cc in
    part_read (rows_in api e) (rows_among_blocks api c.loop-next.ahead) (rows_among_blocks api c.next.new.self) (rows_among_blocks api (elements_in c.args.root.now.content)) c.loop-next.enums c.loop-next.others c.put_block.new.enums c.put_block.new.others (rows_among_blocks-counted api e c.loop-next.ahead c.next.new.self c.in-Some.ensures.first is_so) c.in_ok-put_block.ensures c.loop-next.invariant
