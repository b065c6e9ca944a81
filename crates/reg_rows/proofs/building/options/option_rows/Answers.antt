use Rattle.std.proofs.Common.{◌≡◌, ◌++◌, [], List, map, sym, subst, ap, ◌∙◌}
use Rattle.std.proofs.lemmas.List.{map-append}
use Rattle.reg_tables.specs.Bits.{bits_of}
use Rattle.reg_tables.specs.Tables.{extensions_in, features_in}
use Rattle.reg_tables.specs.Words.{AreReadings}
use Rattle.reg_rows.specs.Rows.{bit_row, option_names, option_row}
use Rattle.reg_rows.proofs.building.options.option_rows.Goals as goal

-- what stands in the text, and behind it the bits
put_behind : {O X : Type 0} (row_of : O → X) (features extensions : List O) (bits none some more all : List X) → none ≡ [] → some ≡ none ++ map row_of features → more ≡ some ++ map row_of extensions → all ≡ more ++ bits → all ≡ map row_of (features ++ extensions) ++ bits
put_behind row_of features extensions bits none some more all n s m a =
    a ∙ ap (λ rows. rows ++ bits) (m ∙ ap (λ rows. rows ++ map row_of extensions) (s ∙ ap (λ rows. rows ++ map row_of features) n) ∙ sym (map-append row_of features extensions))

pub returns : goal.returns
returns c = λ readings are.
    let f = c.args.tables.now in
    let rows = option_row c.args.options.now readings in
    put_behind rows (features_in f) (extensions_in f) (map (bit_row c.args.names.now) (bits_of f readings)) _ _ _ _ c.new-rows.ensures.items
    (c.in_ok-put_features.ensures readings (subst (λ g. AreReadings g readings) (sym c.forms.ensures) are) ∙ ap (λ g. c.new-rows.result.items ++ map rows (features_in g)) c.forms.ensures)
    (c.in_ok-put_extensions.ensures readings (subst (λ g. AreReadings g readings) (sym c.forms-2.ensures) are) ∙ ap (λ g. c.put_features.new.rows.items ++ map rows (extensions_in g)) c.forms-2.ensures)
    (c.in_ok-put_bits.ensures ∙ ap (λ atoms. c.put_extensions.new.rows.items ++ map (bit_row c.args.names.now) atoms) (c.requires.bits.bits_are ∙ ap (bits_of f) (sym (c.requires.bits.only readings are))))
    ∙ ap (λ options. map (option_row options readings) (features_in f ++ extensions_in f) ++ map (bit_row c.args.names.now) (bits_of f readings)) (c.requires.options readings are)
    ∙ ap (λ names. map (option_row (option_names f readings) readings) (features_in f ++ extensions_in f) ++ map (bit_row names) (bits_of f readings)) c.requires.names
