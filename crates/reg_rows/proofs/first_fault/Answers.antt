use Rattle.std.proofs.Common.{◌≡◌, ◌++◌, List, [], ap, sym, subst, ◌∙◌}
use Rattle.std.specs.List.{flat_map}
use Rattle.std.specs.Option.{MatchOption}
use Rattle.reg_forms.specs.declared.forms.Fault.{Fault}
use Rattle.reg_forms.specs.declared.forms.Forms.{Forms}
use Rattle.reg_tables.specs.Words.{AreReadings, AreWords}
use Rattle.reg_tables.specs.Wrong.{bad_text, limits_in, wrong_values_in}
use Rattle.reg_rows.specs.Faults.{IsFirst, duplicates_in, unknowns_in}
use Rattle.reg_rows.proofs.first_fault.Goals as goal

pub put_bad_texts-requires : goal.put_bad_texts-requires
put_bad_texts-requires c = subst (λ (f : Forms). AreWords f c.args.words.now) (sym c.forms-2.ensures) c.requires.words

pub put_wrong_values-requires : goal.put_wrong_values-requires
put_wrong_values-requires c = c.requires.values

pub returns : goal.returns
returns c readings are =
    subst (λ (faults : List Fault). MatchOption c.first_of.result (faults ≡ []) (IsFirst faults))
    (c.in_ok-put_limits.ensures readings (c.requires.bits readings are)
    ∙ ap (λ (faults : List Fault). faults ++ limits_in c.args.tables.now readings) (c.in_ok-put_wrong_values.ensures
    ∙ ap (λ (faults : List Fault). faults ++ wrong_values_in c.args.tables.now) (c.in_ok-put_unknowns.ensures
    ∙ ap (λ (faults : List Fault). faults ++ unknowns_in c.args.tables.now) (c.in_ok-put_duplicates.ensures
    ∙ ap (λ (faults : List Fault). faults ++ duplicates_in c.args.tables.now)
    (c.in_ok-put_bad_texts.ensures readings (subst (λ (f : Forms). AreReadings f readings) (sym c.forms-2.ensures) are)
    ∙ ap (λ (faults : List Fault). faults ++ flat_map bad_text readings) (c.in_ok-faults.ensures ∙ ap (λ (f : Forms). f.faults) c.forms.ensures))))))
    c.first_of.ensures
