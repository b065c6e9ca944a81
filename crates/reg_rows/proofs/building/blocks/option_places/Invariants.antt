use Rattle.std.proofs.Common.{◌≡◌, ℕ, ◌+◌, ◌<◌, filter, get_or, is_none, is_some, length, take}
use Rattle.reg_tables.specs.Tables.{features_in}
use Rattle.reg_rows.specs.Rows.{option_place}
use Rattle.reg_rows.proofs.building.blocks.option_places.Given as goal

abbrev pub invariant-loop-option : goal.invariant-loop-option
invariant-loop-option l = record {
  features : l.features ≡ length (filter (λ o. is_some o.version) (take l.option-index l.forms.options));
  extensions : l.extensions ≡ length (features_in l.forms) + length (filter (λ o. is_none o.version) (take l.option-index l.forms.options));
  each_has_one : length l.places.items ≡ l.option-index;
  are : (place : ℕ) → place < l.option-index → get_or l.places.items place 0 ≡ option_place l.forms place;
}
