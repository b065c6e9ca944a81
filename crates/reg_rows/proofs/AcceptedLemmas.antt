-- What follows for a registry that is accepted: its names fit, its options differ, and its rows are sound.
use Rattle.std.proofs.Common.{◌≡◌, ◌<◌, ◌≤◌, ℕ, List, All, length, map, slice_index_or, sym, subst, ◌∙◌, arith}
use Rattle.std.proofs.lemmas.List.{length-map}
use Rattle.std.proofs.lemmas.List.Elements.{All-map}
use Rattle.vkb_formula.specs.Names.{most_names}
use Rattle.reg_registry.specs.Naming.{AreSound, IsOnCircle, IsSoundRow, most_bytes}
use Rattle.reg_forms.specs.Sizes.{AreSmall}
use Rattle.reg_forms.specs.declared.forms.Forms.{Forms}
use Rattle.reg_tables.specs.Bits.{Readings, atom_of, bits_of}
use Rattle.reg_tables.specs.declared.bits.Bit.{Bit}
use Rattle.reg_rows.specs.Answer.{AreReadOnce, IsAccepted}
use Rattle.reg_rows.specs.Built.{AreOptions}
use Rattle.reg_rows.specs.Rows.{declared_in, names_in, option_names, row_of, rows_of}
use Rattle.reg_rows.proofs.ApartLemmas.{apart-different, firsts-apart}
use Rattle.reg_rows.proofs.NumberLemmas.{numbers-differ}
use Rattle.reg_rows.proofs.SoundNameLemmas.{names-few, options-apart, options-few, options-named}
use Rattle.reg_rows.proofs.SoundOptionLemmas.{all-blocks-sound, blocks-count, options-sound, rows-count}
use Rattle.reg_rows.proofs.SoundRowLemmas.{names-named, names-short, names-there, rows-sound}

-- no name is past the limit
pub few-names : (f : Forms) (readings : Readings) → IsAccepted f readings → length (names_in f) ≤ most_names
few-names f readings accepted = names-few f readings accepted

pub are-options : (f : Forms) (readings : Readings) (bits : List Bit) → AreSmall most_bytes f → AreReadOnce f → IsAccepted f readings
    → map atom_of bits ≡ bits_of f readings → AreOptions f bits
are-options f readings bits small once accepted bits-are = record {
  readings = readings;
  are_readings = accepted.read;
  only = λ other read. once readings other accepted.read read;
  bits_are = bits-are;
  differ = apart-different (option_names f readings) (options-apart f readings accepted small);
  few = options-few f readings accepted small;
}

-- what rows name is there
pub named-within : (f : Forms) → All (λ row. All (λ id. id.0 < length (map (row_of f) (declared_in f))) row.named) (map (row_of f) (declared_in f))
named-within f =
    let counts = length-map (declared_in f) (row_of f) ∙ sym (length-map (declared_in f) (λ d. d.name)) in
    subst (λ count. All (λ row. All (λ id. id.0 < count) row.named) (map (row_of f) (declared_in f))) (sym counts)
    (All-map (λ row. All (λ id. id.0 < length (names_in f)) row.named) (row_of f) (declared_in f)
    (λ k d h. names-there f (slice_index_or (declared_in f) k d)))

pub are-sound : (f : Forms) (readings : Readings) → AreSmall most_bytes f → IsAccepted f readings
    → ((place : ℕ) → IsOnCircle (map (row_of f) (declared_in f)) place → ⊥) → AreSound (rows_of f readings)
are-sound f readings small accepted no-circle = record {
  rows_count = length-map (declared_in f) (row_of f) ∙ sym (length-map (declared_in f) (λ d. d.name));
  options_count = rows-count f readings;
  names_named = names-named f small;
  options_named = options-named f readings accepted small;
  names_short = names-short f small;
  names_few = names-few f readings accepted;
  options_few = options-few f readings accepted small;
  names_differ = apart-different (names_in f) (firsts-apart (λ d. d.name) f.declarations);
  options_differ = apart-different (option_names f readings) (options-apart f readings accepted small);
  numbers_differ = numbers-differ f readings small.numbers_differ;
  blocks_few = omega (arith, blocks-count f readings, small.blocks);
  each_row = subst (λ count. All (IsSoundRow (length (names_in f)) count) (map (row_of f) (declared_in f))) (sym (blocks-count f readings)) (rows-sound f small);
  each_option = options-sound f readings;
  each_block = all-blocks-sound f readings small;
  no_circle = no-circle;
}
