use Rattle.std.proofs.Common.{subst, arith}
use Rattle.reg_registry.specs.Naming.{most_bytes}
use Rattle.reg_reader.specs.Views.{Element}
use Rattle.reg_reader.specs.Views.{element_size}
use Rattle.reg_forms.specs.Forms.{forms_of}
use Rattle.reg_forms.specs.declared.forms.Forms.{Forms}
use Rattle.reg_rows.specs.Answer.{IsAnswer}
use Rattle.reg_rows.proofs.AcceptLemmas.{same-root, small-more}
use Rattle.reg_rows.proofs.rows.Goals as goal

pub accept-requires : goal.accept-requires
accept-requires c =
    small-more (element_size c.root-root.result) most_bytes c.in_ok-forms.forms (omega (arith, c.root-root.ensures.size, c.requires.small)) c.in_ok-forms.ensures.small

pub returns : goal.returns
returns c = record {
  answer = λ root shown.
      subst (λ (r : Element). IsAnswer (forms_of c.args.api.now r) c.accept.result) (same-root _ c.root-root.result root c.root-root.ensures.node shown)
      (subst (λ (f : Forms). IsAnswer f c.accept.result) c.in_ok-forms.ensures.forms c.accept.ensures);
}
