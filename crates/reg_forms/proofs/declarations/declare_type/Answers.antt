use Rattle.std.proofs.Common.{sym, ap, ◌∙◌}
use Rattle.reg_forms.specs.Declarations.{type_row}
use Rattle.reg_forms.specs.Forms.{with_items}
use Rattle.reg_forms.specs.Parts.{part_faults}
use Rattle.reg_forms.proofs.DeclarationLemmas.{type_items-plain}
use Rattle.reg_forms.proofs.DeclareLemmas.{put_declared}
use Rattle.reg_forms.proofs.declarations.declare_type.Goals as goal

pub returns : goal.returns
returns c =
    let api = c.args.api.now in
    let e = c.args.element.now in
    let kind = c.args.kind in
    put_declared c.args.draft.now _ _ (part_faults api kind e) c.in_ok-row.row (type_row api kind e c.args.name) c.in_ok-parts.ensures.faults c.in_ok-row.ensures c.in_ok-declare.ensures
    ∙ ap (with_items c.args.draft.now) (sym (type_items-plain api e c.requires.counted kind c.requires.kind c.args.name c.requires.plain c.requires.named))
