use Rattle.std.proofs.Common.{◌≡◌, ◌≤◌, List, ℕ, [], ◌++◌, length, map, refl, sym, subst, ap, ◌∙◌, arith}
use Rattle.vkb_formula.specs.Names.{AreDifferent, most_names}
use Rattle.reg_tables.specs.Tables.{extensions_in, features_in}
use Rattle.reg_tables.specs.declared.bits.Bit.{Bit}
use Rattle.reg_rows.specs.Built.{AreOptions}
use Rattle.reg_rows.specs.BuiltParts.{with_names}
use Rattle.reg_rows.specs.Rows.{option_names}
use Rattle.reg_forms.specs.declared.forms.Forms.{Forms}
use Rattle.reg_rows.proofs.OptionLemmas.{option_names-parts}
use Rattle.reg_rows.proofs.WithNamesLemmas.{with_names-append, with_names-different, with_names-grow}
use Rattle.reg_rows.proofs.building.names.option_names.Goals as goal

-- all names are put in
all_put : (features extensions bits all table more whole : List (List ℕ)) → all ≡ (features ++ extensions) ++ bits → AreDifferent all → table ≡ with_names [] features → more ≡ with_names table extensions → whole ≡ with_names more bits → whole ≡ all
all_put features extensions bits all table more whole parts differ t m w =
    w ∙ ap (λ names. with_names names bits) (m ∙ ap (λ names. with_names names extensions) t ∙ sym (with_names-append features extensions []))
    ∙ sym (with_names-append (features ++ extensions) bits [])
    ∙ with_names-different ((features ++ extensions) ++ bits) [] (subst AreDifferent parts differ) ∙ sym parts

module _ (f : Forms) (bits : List Bit) (are : AreOptions f bits) where
  whole : with_names (with_names (with_names [] (map (λ o. o.name) (features_in f))) (map (λ o. o.name) (extensions_in f))) (map (λ bit. bit.name) bits) ≡ option_names f are.readings
  whole =
      all_put (map (λ o. o.name) (features_in f)) (map (λ o. o.name) (extensions_in f)) (map (λ bit. bit.name) bits) _ _ _ _ (option_names-parts f are.readings bits are.bits_are) are.differ refl refl refl

  -- each table on the way has room for what comes
  room_for_features : length (with_names [] (map (λ o. o.name) (features_in f))) ≤ most_names
  room_for_features =
      let features = with_names [] (map (λ o. o.name) (features_in f)) in
      let extensions = with_names features (map (λ o. o.name) (extensions_in f)) in
      omega (arith, are.few, ap length whole, with_names-grow (map (λ o. o.name) (extensions_in f)) features, with_names-grow (map (λ bit. bit.name) bits) extensions)

  room_for_extensions : length (with_names (with_names [] (map (λ o. o.name) (features_in f))) (map (λ o. o.name) (extensions_in f))) ≤ most_names
  room_for_extensions =
      let extensions = with_names (with_names [] (map (λ o. o.name) (features_in f))) (map (λ o. o.name) (extensions_in f)) in
      omega (arith, are.few, ap length whole, with_names-grow (map (λ bit. bit.name) bits) extensions)

  room_for_bits : length (with_names (with_names (with_names [] (map (λ o. o.name) (features_in f))) (map (λ o. o.name) (extensions_in f))) (map (λ bit. bit.name) bits)) ≤ most_names
  room_for_bits = subst (λ names. length names ≤ most_names) (sym whole) are.few

pub put_features-requires : goal.put_features-requires
put_features-requires c =
    subst (λ names. length (with_names names (map (λ o. o.name) (features_in c.forms.result.now))) ≤ most_names) (sym c.new-names.ensures) (
    subst (λ f. length (with_names [] (map (λ o. o.name) (features_in f))) ≤ most_names) (sym c.forms.ensures) (room_for_features c.args.tables.now c.args.bits.now c.requires)
    )

pub put_extensions-requires : goal.put_extensions-requires
put_extensions-requires c =
    let features = c.in_ok-put_features.ensures ∙ ap (λ names. with_names names (map (λ o. o.name) (features_in c.forms.result.now))) c.new-names.ensures ∙ ap (λ f. with_names [] (map (λ o. o.name) (features_in f))) c.forms.ensures in
    subst (λ names. length (with_names names (map (λ o. o.name) (extensions_in c.forms-2.result.now))) ≤ most_names) (sym features) (
    subst (λ f. length (with_names (with_names [] (map (λ o. o.name) (features_in c.args.tables.now))) (map (λ o. o.name) (extensions_in f))) ≤ most_names) (sym c.forms-2.ensures) (room_for_extensions c.args.tables.now c.args.bits.now c.requires)
    )

pub put_bits-requires : goal.put_bits-requires
put_bits-requires c =
    let features = c.in_ok-put_features.ensures ∙ ap (λ names. with_names names (map (λ o. o.name) (features_in c.forms.result.now))) c.new-names.ensures ∙ ap (λ f. with_names [] (map (λ o. o.name) (features_in f))) c.forms.ensures in
    let extensions = c.in_ok-put_extensions.ensures ∙ ap (λ f. with_names c.put_features.new.names (map (λ o. o.name) (extensions_in f))) c.forms-2.ensures ∙ ap (λ names. with_names names (map (λ o. o.name) (extensions_in c.args.tables.now))) features in
    subst (λ names. length (with_names names (map (λ bit. bit.name) c.args.bits.now)) ≤ most_names) (sym extensions) (room_for_bits c.args.tables.now c.args.bits.now c.requires)

pub returns : goal.returns
returns c = λ readings are.
    let features = c.in_ok-put_features.ensures ∙ ap (λ names. with_names names (map (λ o. o.name) (features_in c.forms.result.now))) c.new-names.ensures ∙ ap (λ f. with_names [] (map (λ o. o.name) (features_in f))) c.forms.ensures in
    let extensions = c.in_ok-put_extensions.ensures ∙ ap (λ f. with_names c.put_features.new.names (map (λ o. o.name) (extensions_in f))) c.forms-2.ensures in
    all_put (map (λ o. o.name) (features_in c.args.tables.now)) (map (λ o. o.name) (extensions_in c.args.tables.now)) (map (λ bit. bit.name) c.args.bits.now) _ _ _ _ (option_names-parts c.args.tables.now c.requires.readings c.args.bits.now c.requires.bits_are) c.requires.differ features extensions c.in_ok-put_bits.ensures
    ∙ ap (option_names c.args.tables.now) (sym (c.requires.only readings are))
