use Rattle.std.proofs.Common.{sym, ◌∙◌}
use Rattle.reg_forms.proofs.EnumTypeLemmas.{put_enum, put_other}
use Rattle.reg_forms.proofs.enum_types.put_row.Goals as goal

pub returns-in_ok-put_unless : goal.returns-in_ok-put_unless
returns-in_ok-put_unless c = λ rows row named is_so.
    put_enum rows row c.args.name.now c.args.enums.now c.args.others.now _ named (is_so ∙ sym c.in_ok-is_enum.ensures ∙ c.if-branch.true) c.in_ok-put_unless.ensures

pub returns-in_ok-put_unless-2 : goal.returns-in_ok-put_unless-2
returns-in_ok-put_unless-2 c = λ rows row named is_so.
    put_other rows row c.args.name.now c.args.enums.now c.args.others.now _ named (is_so ∙ sym c.in_ok-is_enum.ensures ∙ c.if-branch.false) c.in_ok-put_unless-2.ensures
