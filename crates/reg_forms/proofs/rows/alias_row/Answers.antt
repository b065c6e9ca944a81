use Rattle.reg_forms.proofs.DeclareLemmas.{type_row-alias}
use Rattle.reg_forms.proofs.rows.alias_row.Goals as goal

pub returns : goal.returns
returns c = λ api.
    let is_row = type_row-alias api c.args.element.now c.args.kind c.args.name c.args.alias c.requires in
    cc (is_row, c.in_ok-mentions.ensures, c.in_ok-returned.ensures, c.in_ok-bits.ensures, c.in_ok-extends.ensures)
