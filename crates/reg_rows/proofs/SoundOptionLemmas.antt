-- The options and blocks of a registry are sound: what they name is there, and no formula reaches past the options.
use Rattle.std.proofs.Common.{◌≡◌, ◌≤◌, ◌<◌, ◌+◌, ℕ, suc, Bool, true, false, ◌==◌, ◌&&◌, cond, List, [], ◌∷◌, ◌++◌, length, map, filter, find, take, slice_get, slice_index_or, All, Some, is_some, is_none, refl, sym, ap, subst, arith, inl, inr}
use Rattle.std.specs.List.{filter_map}
use Rattle.std.specs.Option.{option_map_or}
use Rattle.std.specs.Str.{bytes_eq}
use Rattle.std.proofs.lemmas.Bool.{and_parts, both_ways, cond_both, not_from_false}
use Rattle.std.proofs.lemmas.List.{length-append, length-map}
use Rattle.std.proofs.lemmas.List.Elements.{All-append, All-cons, All-head, All-map, All-nil, All-tail, All-weaker}
use Rattle.std.proofs.lemmas.Option.{slice_get_cases}
use Rattle.vkb_formula.specs.Names.{place_of}
use Rattle.reg_registry.specs.Naming.{IsSoundBlock, IsSoundOption, most_bytes}
use Rattle.reg_registry.specs.Rows.{id_at}
use Rattle.reg_forms.specs.Sizes.{AreSmall}
use Rattle.reg_forms.specs.declared.forms.BlockForm.{BlockForm}
use Rattle.reg_forms.specs.declared.forms.Declaration.{Declaration}
use Rattle.reg_forms.specs.declared.forms.EntryForm.{EntryForm}
use Rattle.reg_forms.specs.declared.forms.Forms.{Forms}
use Rattle.reg_forms.specs.declared.forms.OptionForm.{OptionForm}
use Rattle.reg_tables.specs.Bits.{Atom, Readings, bits_of, has_member, is_bit, is_member_name, is_struct_kind, last_declared, member_in, options_of, owner_in}
use Rattle.reg_tables.specs.Lists.{firsts}
use Rattle.reg_tables.specs.Tables.{declaration_of, extensions_in, features_in}
use Rattle.reg_rows.specs.Lists.{each_number}
use Rattle.reg_rows.specs.Rows.{bit_row, block_row, block_rows, listed_at, names_in, option_names, option_place, option_row, option_rows_of}
use Rattle.reg_rows.proofs.ListLemmas.{all-filter_map, fewer-before, length-filter-le, length-filter_map, length-numbers}
use Rattle.reg_rows.proofs.OnceLemmas.{ids-once}
use Rattle.reg_rows.proofs.SizedLemmas.{formula-depends}
use Rattle.reg_rows.proofs.SoundNameLemmas.{bits-are-bits}
use Rattle.reg_rows.proofs.WithinLemmas.{IsThere, always-within, formula-within, known-within, numbers-there, place-within}

-- where a declaration is found there is a name
found-some : (ds : List Declaration) (test : Declaration → Bool) (found : Declaration → Bool) → option_map_or found (find test ds) false ≡ true → 0 < length (map (λ d. d.name) (firsts (λ d. d.name) ds))
found-some [] test found e = absurd (both_ways false refl e)
found-some (d ∷ more) test found e = omega arith

abbrev offered : OptionForm → Atom
offered o = (o.place, o.name)

module _ (f : Forms) where
  bit-declared : (name : List ℕ) → is_bit f name ≡ true → 0 < length (names_in f)
  bit-declared name e =
      found-some f.declarations (λ d. bytes_eq (owner_in name) d.name)
      (λ d. is_struct_kind d.kind && option_map_or (has_member (member_in name)) (last_declared f d) false)
      (and_parts (is_member_name name) (option_map_or (λ d. is_struct_kind d.kind && option_map_or (has_member (member_in name)) (last_declared f d) false) (declaration_of f (owner_in name)) false) e).1

  listed-there : (place : ℕ) → All (IsThere (names_in f)) (listed_at f place)
  listed-there place =
      let entries = filter (λ entry. entry.block == place) f.entries in
      numbers-there (names_in f) (filter_map (λ entry. place_of entry.mention.name (names_in f)) entries)
      (all-filter_map (λ (entry : EntryForm). place_of entry.mention.name (names_in f)) (λ place. place < length (names_in f)) (λ entry. place-within (names_in f) entry.mention.name) entries)

  abbrev listed-places : ℕ → List ℕ
  listed-places place = filter_map (λ entry. place_of entry.mention.name (names_in f)) (filter (λ entry. entry.block == place) f.entries)

  -- no block lists more than there are entries
  listed-few : (place : ℕ) → length (listed_at f place) ≤ length f.entries
  listed-few place =
      let entries = filter (λ entry. entry.block == place) f.entries in
      let places = filter_map (λ entry. place_of entry.mention.name (names_in f)) entries in
      omega (
        arith,
        length-filter-le (λ entry. entry.block == place) f.entries,
        length-filter_map (λ (entry : EntryForm). place_of entry.mention.name (names_in f)) entries,
        length-numbers places,
        length-map (each_number places) id_at,
      )

  module _ (readings : Readings) where
    options-count : length (option_names f readings) ≡ length (features_in f) + length (extensions_in f) + length (bits_of f readings)
    options-count =
        omega (
          arith,
          length-map (options_of f readings) (λ (atom : Atom). atom.1),
          length-append (map offered (features_in f) ++ map offered (extensions_in f)) (bits_of f readings),
          length-append (map offered (features_in f)) (map offered (extensions_in f)),
          length-map (features_in f) offered,
          length-map (extensions_in f) offered,
        )

    pub rows-count : length (option_rows_of f readings) ≡ length (option_names f readings)
    rows-count =
        omega (
          arith,
          options-count,
          length-append (map (option_row (option_names f readings) readings) (features_in f ++ extensions_in f)) (map (bit_row (names_in f)) (bits_of f readings)),
          length-map (features_in f ++ extensions_in f) (option_row (option_names f readings) readings),
          length-append (features_in f) (extensions_in f),
          length-map (bits_of f readings) (bit_row (names_in f)),
        )

    option-sound : (o : OptionForm) → IsSoundOption (length (names_in f)) (length (option_names f readings)) (option_row (option_names f readings) readings o)
    option-sound o = record {
      reach = formula-within (option_names f readings) readings o.depends;
      depends = formula-depends (option_names f readings) readings o.depends;
      bit = tt;
    }

    bit-sound : (atom : Atom) → is_bit f atom.1 ≡ true → IsSoundOption (length (names_in f)) (length (option_names f readings)) (bit_row (names_in f) atom)
    bit-sound atom e = record {
      reach = always-within (length (option_names f readings));
      depends = inl refl;
      bit = known-within (names_in f) (owner_in atom.1) (bit-declared atom.1 e);
    }

    pub options-sound : All (IsSoundOption (length (names_in f)) (length (option_names f readings))) (option_rows_of f readings)
    options-sound =
        All-append (IsSoundOption (length (names_in f)) (length (option_names f readings)))
        (map (option_row (option_names f readings) readings) (features_in f ++ extensions_in f)) (map (bit_row (names_in f)) (bits_of f readings))
        (All-map (IsSoundOption (length (names_in f)) (length (option_names f readings))) (option_row (option_names f readings) readings) (features_in f ++ extensions_in f)
        (λ k o h. option-sound (slice_index_or (features_in f ++ extensions_in f) k o)))
        (All-map (IsSoundOption (length (names_in f)) (length (option_names f readings))) (bit_row (names_in f)) (bits_of f readings)
        (All-weaker (λ (atom : Atom). is_bit f atom.1 ≡ true) (λ atom. IsSoundOption (length (names_in f)) (length (option_names f readings)) (bit_row (names_in f) atom)) bit-sound (bits_of f readings)
        (bits-are-bits f readings)))

    -- what stands in the text at a place, as an option
    owner-at : (place : ℕ) (o : OptionForm) → slice_get f.options place ≡ Some o → option_place f place < length (option_names f readings)
    owner-at place o e =
        subst (λ found. option_map_or (λ o. cond (is_some o.version) (length (filter (λ other. is_some other.version) (take place f.options)))
        (length (features_in f) + length (filter (λ other. is_none other.version) (take place f.options)))) found 0 < length (option_names f readings)) (sym e)
        (cond_both (is_some o.version) (length (filter (λ other. is_some other.version) (take place f.options))) (length (features_in f) + length (filter (λ other. is_none other.version) (take place f.options)))
        (λ place. place < length (option_names f readings))
        (λ feature. omega (arith, options-count, fewer-before (λ other. is_some other.version) f.options place o e feature))
        (λ extension. omega (arith, options-count, fewer-before (λ other. is_none other.version) f.options place o e (not_from_false (is_some o.version) extension))))

    owner-within : (place : ℕ) → place < length f.options → option_place f place < length (option_names f readings)
    owner-within place h =
        elim (slice_get_cases f.options place).1 [
          | inl (o, within, there, same) ↦ owner-at place o there
          | inr (past, none) ↦ absurd (omega arith)
        ]

    module _ (small : AreSmall most_bytes f) where
      block-sound : (place : ℕ) (b : BlockForm) → b.owner < length f.options → IsSoundBlock (length (names_in f)) (length (option_names f readings)) (block_row f readings place b)
      block-sound place b h = record {
        owner = owner-within b.owner h;
        reach = formula-within (option_names f readings) readings b.depends;
        depends = formula-depends (option_names f readings) readings b.depends;
        lists = listed-there place;
        lists_short = omega (arith, listed-few place, small.entries);
        lists_once = ids-once (listed-places place);
      }

      blocks-sound : (place : ℕ) (bs : List BlockForm) → All (λ b. b.owner < length f.options) bs → All (IsSoundBlock (length (names_in f)) (length (option_names f readings))) (block_rows f readings place bs)
      blocks-sound place [] h = All-nil (IsSoundBlock (length (names_in f)) (length (option_names f readings)))
      blocks-sound place (b ∷ more) h =
          All-cons (IsSoundBlock (length (names_in f)) (length (option_names f readings))) (block_row f readings place b) (block_rows f readings (place + 1) more)
          (block-sound place b (All-head (λ b. b.owner < length f.options) b more h))
          (blocks-sound (place + 1) more (All-tail (λ b. b.owner < length f.options) b more h))

      pub all-blocks-sound : All (IsSoundBlock (length (names_in f)) (length (option_names f readings))) (block_rows f readings 0 f.blocks)
      all-blocks-sound = blocks-sound 0 f.blocks small.each_block

    length-blocks : (place : ℕ) (bs : List BlockForm) → length (block_rows f readings place bs) ≡ length bs
    length-blocks place [] = refl
    length-blocks place (b ∷ more) = ap suc (length-blocks (place + 1) more)

    pub blocks-count : length (block_rows f readings 0 f.blocks) ≡ length f.blocks
    blocks-count = length-blocks 0 f.blocks
