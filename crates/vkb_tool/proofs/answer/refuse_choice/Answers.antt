use Rattle.std.proofs.Common.{◌≡◌, ℕ, List, [], slice_index_or, refl, sym, ap, ◌∙◌, subst}
use Rattle.std.proofs.lemmas.Option.{get_or_from_slice_get}
use Rattle.reg_permit.specs.Choices.{IsChoiceFault}
use Rattle.reg_permit.specs.declared.choosing.ChoiceFault.{ChoiceFault}
use Rattle.vkb_tool.specs.declared.status.Status.TheVariants.{Refused}
use Rattle.vkb_tool.specs.Fault.{NotPermitted, UnknownOption}
use Rattle.vkb_tool.specs.Outcome.{writes_alone}
use Rattle.vkb_tool.specs.Report.{fault_line}
use Rattle.vkb_tool.proofs.answer.refuse_choice.Goals as goal

pub returns-in_ok-output-in-UnknownOption-clause-told : goal.returns-in_ok-output-in-UnknownOption-clause-told
returns-in_ok-output-in-UnknownOption-clause-told c = λ names is. record {
  fault = UnknownOption c.in-UnknownOption.word;
  first = subst (λ (fault : ChoiceFault). IsChoiceFault c.args.registry.now names fault) c.in-UnknownOption.is is;
  told = c.written.ensures ∙ ap (writes_alone Refused) c.in_ok-output-in-UnknownOption.ensures ∙ ap (λ (word : List ℕ). writes_alone Refused (fault_line (UnknownOption word))) c.as_slice.ensures;
}

pub returns-in_ok-output-in-NotPermitted-clause-told : goal.returns-in_ok-output-in-NotPermitted-clause-told
returns-in_ok-output-in-NotPermitted-clause-told c =
    let options = c.args.registry.now.options in
    let id = c.in-NotPermitted.option in
    let name : slice_index_or options id.0 [] ≡ c.name.result.now =
    ap (λ (os : List (List ℕ)). slice_index_or os id.0 []) (sym c.options.ensures) ∙ get_or_from_slice_get c.options.result.now id.0 c.name.result.now [] c.name.ensures.held in
    λ names is. record {
      fault = NotPermitted (slice_index_or options id.0 []);
      first = (id, subst (λ (fault : ChoiceFault). IsChoiceFault c.args.registry.now names fault) c.in-NotPermitted.is is, refl);
      told = c.written-in-NotPermitted.ensures ∙ ap (writes_alone Refused) c.in_ok-output-in-NotPermitted.ensures ∙ ap (λ (option : List ℕ). writes_alone Refused (fault_line (NotPermitted option))) (sym name);
    }
