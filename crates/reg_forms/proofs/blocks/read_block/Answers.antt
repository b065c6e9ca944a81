use Rattle.std.proofs.Common.{sym, ap, ◌∙◌}
use Rattle.reg_forms.specs.Enums.{is_held}
use Rattle.reg_forms.specs.Forms.{with_items}
use Rattle.reg_forms.proofs.OptionLemmas.{block_none}
use Rattle.reg_forms.proofs.blocks.read_block.Goals as goal

pub returns : goal.returns
returns c =
    ap (with_items c.args.draft.now) (sym (block_none c.args.api.now (is_held c.args.enum_types.now) c.args.number c.args.element.now
    (sym c.in_ok-counts.ensures ∙ c.if-not-branch.false) (sym c.is_named.ensures ∙ c.if-is_named.false) (sym c.is_named-2.ensures ∙ c.if-is_named-2.false)))
