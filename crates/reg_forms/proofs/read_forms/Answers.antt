use Rattle.std.proofs.Common.{◌≡◌, sym, ap, ◌∙◌}
use Rattle.std.specs.Prelude.{[], codes}
use Rattle.reg_reader.specs.Views.{elements_in}
use Rattle.reg_forms.specs.Enums.{is_held}
use Rattle.reg_forms.specs.Forms.{children_items, forms_of, with_item, with_items}
use Rattle.reg_forms.specs.Items.{bad_at}
use Rattle.reg_forms.proofs.FormLemmas.{forms_astray, forms_whole}
use Rattle.reg_forms.proofs.FormSizeLemmas.{said-small}
use Rattle.reg_forms.proofs.read_forms.Goals as goal

pub returns-then-not-is_named : goal.returns-then-not-is_named
returns-then-not-is_named c =
    let said : c.finish.result ≡ forms_of c.args.api.now c.args.root.now =
    c.finish.ensures ∙ c.in_ok-put_wrong.ensures
    ∙ ap (λ forms. with_item forms (bad_at c.args.root.now (codes "registry"))) c.new-draft.ensures
    ∙ forms_astray c.args.api.now c.args.root.now (sym c.is_named.ensures ∙ c.if-not-is_named.true) in
    record { forms = said; small = said-small c.args.api.now c.args.root.now c.finish.result said }

pub returns : goal.returns
returns c =
    let said : c.finish-2.result ≡ forms_of c.args.api.now c.args.root.now =
    c.finish-2.ensures ∙ c.in_ok-read_children.ensures
    ∙ ap (λ forms. with_items forms (children_items c.args.api.now (is_held c.in_ok-enum_types.enum_types) [] (elements_in c.args.root.now.content))) c.new-draft.ensures
    ∙ forms_whole c.args.api.now c.args.root.now (is_held c.in_ok-enum_types.enum_types) (sym c.is_named.ensures ∙ c.if-not-is_named.false) c.in_ok-enum_types.ensures in
    record { forms = said; small = said-small c.args.api.now c.args.root.now c.finish-2.result said }
