-- The rows of a registry are sound: what they name is there, and nothing in them is too long.
use Rattle.std.proofs.Common.{◌≡◌, ◌≤◌, ◌<◌, ◌+◌, ℕ, zero, suc, Bool, true, false, not, cond, List, [], ◌∷◌, length, map, filter, find, slice_index_or, All, Option, Some, None, codes, is_some, option_map, arith}
use Rattle.std.specs.List.{filter_map}
use Rattle.std.specs.Option.{IfSome, option_and_then, option_map_or}
use Rattle.std.specs.Str.{bytes_eq}
use Rattle.std.proofs.lemmas.Bool.{cond_both}
use Rattle.std.proofs.lemmas.List.{length-append, length-map}
use Rattle.std.proofs.lemmas.List.Elements.{All-filter, All-head, All-map, All-nil, All-tail, All-weaker}
use Rattle.vkb_formula.specs.Names.{place_of}
use Rattle.reg_registry.specs.Words.{is_name}
use Rattle.reg_registry.specs.Naming.{IsShort, IsSoundEnumerant, IsSoundMember, IsSoundRow, most_bytes}
use Rattle.reg_registry.specs.Rows.{id_at, id_of}
use Rattle.reg_forms.specs.Declarations.{is_enum_row}
use Rattle.reg_forms.specs.Sizes.{AreSmall, IsSmallDeclaration, IsSmallMember}
use Rattle.reg_forms.specs.declared.forms.Declaration.{Declaration}
use Rattle.reg_forms.specs.declared.forms.EnumForm.{EnumForm}
use Rattle.reg_forms.specs.declared.forms.Forms.{Forms}
use Rattle.reg_forms.specs.declared.forms.MemberForm.{MemberForm}
use Rattle.reg_tables.specs.Lists.{firsts}
use Rattle.reg_tables.specs.Tables.{enumerant_of, is_mask64, shape_of}
use Rattle.reg_tables.specs.Values.{alias_of, last_in, last_of, next_of, within}
use Rattle.reg_rows.specs.Lists.{each_number}
use Rattle.reg_rows.specs.Rows.{blocks_with, declared_in, enumerant_row, lists_value, member_row, mentioned, named_of, names_in, row_of, values_of}
use Rattle.reg_rows.proofs.ApartLemmas.{all-firsts, length-firsts}
use Rattle.reg_rows.proofs.ListLemmas.{all-filter_map, all-numbers, length-filter-le, length-filter_map, length-numbers}
use Rattle.reg_rows.proofs.OnceLemmas.{ids-once}
use Rattle.reg_rows.proofs.WithinLemmas.{IsThere, id-within, known-within, named-by, numbers-there, place-within}

found-each : {X : Type 0} (P : X → Type 0) (test : X → Bool) (xs : List X) → All P xs → IfSome (find test xs) P
found-each P test [] each = tt
found-each P test (x ∷ xs) each =
    cond_both (test x) (Some x) (find test xs) (λ found. IfSome found P) (λ passes. All-head P x xs each) (λ fails. found-each P test xs (All-tail P x xs each))

-- the name has the form of one, and isn't too long
abbrev pub IsShortName : EnumForm → Type 0
IsShortName e = (is_name e.name ≡ true) × (length e.name ≤ most_bytes)

within-short : (of : List ℕ) (o : Option EnumForm) → IfSome o IsShortName → IfSome (option_and_then (within of) o) IsShortName
within-short of None short = tt
within-short of (Some e) short = cond_both (bytes_eq of e.of) (Some e) None (λ kept. IfSome kept IsShortName) (λ same. short) (λ other. tt)

end-named : (alias : Bool) (last : Option EnumForm) → IfSome last IsShortName → IfSome (cond alias (option_map (λ last. last.name) last) None) IsShort
end-named true None short = tt
end-named true (Some e) short = short.1
end-named false last short = tt

next-or : (again : EnumForm → Option EnumForm) (e : EnumForm) (next : Option EnumForm) → ((other : EnumForm) → IsShortName other → IfSome (again other) IsShortName)
    → IsShortName e → IfSome next IsShortName → IfSome (option_map_or again next (Some e)) IsShortName
next-or again e None each short others = short
next-or again e (Some next) each short others = each next others

module _ (f : Forms) where
  -- what a row names is there
  pub names-there : (d : Declaration) → All (IsThere (names_in f)) (named_of f d)
  names-there d =
      let others = filter (λ name. not (bytes_eq d.name name)) (mentioned f d) in
      numbers-there (names_in f) (filter_map (λ name. place_of name (names_in f)) others)
      (all-filter_map (λ name. place_of name (names_in f)) (λ place. place < length (names_in f)) (place-within (names_in f)) others)

  length-mentioned : (d : Declaration) → length (mentioned f d) ≤ length d.mentions + 1
  length-mentioned d =
      let flags = cond_both (is_mask64 (shape_of f d)) (codes "VkFlags64" ∷ []) [] (λ names. length names ≤ 1) (λ t. omega arith) (λ t. omega arith) in
      omega (arith, flags, length-append (map (λ m. m.name) d.mentions) (cond (is_mask64 (shape_of f d)) (codes "VkFlags64" ∷ []) []), length-map d.mentions (λ m. m.name))

  length-named : (d : Declaration) → length (named_of f d) ≤ length d.mentions + 1
  length-named d =
      let others = filter (λ name. not (bytes_eq d.name name)) (mentioned f d) in
      let places = filter_map (λ name. place_of name (names_in f)) others in
      omega (
        arith,
        length-mentioned d,
        length-filter-le (λ name. not (bytes_eq d.name name)) (mentioned f d),
        length-filter_map (λ name. place_of name (names_in f)) others,
        length-numbers places,
        length-map (each_number places) id_at,
      )

  -- where a row stands there is a name
  pub some-name : (k : ℕ) → k < length (declared_in f) → 0 < length (names_in f)
  some-name k h = omega (arith, h, length-map (declared_in f) (λ d. d.name))

  module _ (small : AreSmall most_bytes f) where
    named-short : (name : Option (List ℕ)) → IfSome (option_and_then (enumerant_of f) name) IsShortName
    named-short None = tt
    named-short (Some name) = found-each IsShortName (λ e. bytes_eq name e.name) f.enumerants small.each_enumerant

    next-short : (e : EnumForm) → IfSome (next_of f e) IsShortName
    next-short e = within-short e.of (option_and_then (enumerant_of f) (alias_of e)) (named-short (alias_of e))

    -- the end of a chain of aliases
    last-short : (n : ℕ) (e : EnumForm) → IsShortName e → IfSome (last_in n f e) IsShortName
    last-short zero e short = tt
    last-short (suc n) e short = next-or (last_in n f) e (next_of f e) (last-short n) short (next-short e)

    member-sound : 0 < length (names_in f) → (m : MemberForm) → IsSmallMember most_bytes m → IsSoundMember (length (names_in f)) (member_row (names_in f) m)
    member-sound some m h = record {
      base = known-within (names_in f) m.base some;
      name_short = h.name;
      text_short = h.text;
      values_short = h.values;
      len_short = h.len;
      stars_few = h.stars;
    }

    blocks-there : (adds : Bool) (name : List ℕ) → All (λ place. place < length f.blocks) (blocks_with f adds name)
    blocks-there adds name =
        let listed = filter (lists_value f adds name) f.entries in
        all-numbers (λ place. place < length f.blocks) (map (λ entry. entry.block) listed)
        (All-map (λ place. place < length f.blocks) (λ entry. entry.block) listed
        (All-filter (lists_value f adds name) (λ entry. entry.block < length f.blocks) f.entries small.each_entry))

    blocks-short : (adds : Bool) (name : List ℕ) → IsShort (blocks_with f adds name)
    blocks-short adds name =
        let listed = filter (lists_value f adds name) f.entries in
        omega (arith, length-numbers (map (λ entry. entry.block) listed), length-map listed (λ entry. entry.block), length-filter-le (lists_value f adds name) f.entries, small.entries)

    enumerant-sound : (e : EnumForm) → IsShortName e → IsSoundEnumerant (length f.blocks) (enumerant_row f e)
    enumerant-sound e h = record {
      required = blocks-there true e.name;
      removed = blocks-there false e.name;
      name_short = h.1;
      end_short = end-named (is_some (alias_of e)) (last_of f e) (last-short (length f.enumerants + 1) e h);
      required_short = blocks-short true e.name;
      removed_short = blocks-short false e.name;
    }

    module _ (d : Declaration) where
      abbrev rows : List EnumForm
      rows = filter (λ e. bytes_eq d.name e.of) (firsts (λ e. e.name) f.enumerants)

      values-sound : All (IsSoundEnumerant (length f.blocks)) (values_of f d)
      values-sound =
          cond_both (is_enum_row d) (map (enumerant_row f) rows) [] (All (IsSoundEnumerant (length f.blocks)))
          (λ t. All-map (IsSoundEnumerant (length f.blocks)) (enumerant_row f) rows
          (All-weaker IsShortName (λ e. IsSoundEnumerant (length f.blocks) (enumerant_row f e)) enumerant-sound rows
          (All-filter (λ e. bytes_eq d.name e.of) IsShortName (firsts (λ e. e.name) f.enumerants)
          (all-firsts (λ e. e.name) IsShortName [] f.enumerants small.each_enumerant))))
          (λ t. All-nil (IsSoundEnumerant (length f.blocks)))

      values-short : IsShort (values_of f d)
      values-short =
          cond_both (is_enum_row d) (map (enumerant_row f) rows) [] IsShort
          (λ t. omega (arith, length-map rows (enumerant_row f), length-filter-le (λ e. bytes_eq d.name e.of) (firsts (λ e. e.name) f.enumerants), length-firsts (λ e. e.name) [] f.enumerants, small.enumerants))
          (λ t. omega arith)

      pub row-sound : 0 < length (names_in f) → IsSmallDeclaration most_bytes d → IsSoundRow (length (names_in f)) (length f.blocks) (row_of f d)
      row-sound some h = record {
        alias = named-by (names_in f) d.alias;
        bits = named-by (names_in f) d.bits;
        extends = all-filter_map (id_of (names_in f)) (IsThere (names_in f)) (id-within (names_in f)) d.extends;
        named = names-there d;
        members =
            All-map (IsSoundMember (length (names_in f))) (member_row (names_in f)) d.members
            (All-weaker (IsSmallMember most_bytes) (λ m. IsSoundMember (length (names_in f)) (member_row (names_in f) m)) (member-sound some) d.members h.each_member);
        values = values-sound;
        text_short = h.text;
        result_short = h.result;
        members_short = omega (arith, length-map d.members (member_row (names_in f)), h.members);
        extends_short = omega (arith, length-filter_map (id_of (names_in f)) d.extends, h.extends);
        values_short = values-short;
        named_short = omega (arith, length-named d, h.mentions);
        named_once = ids-once (filter_map (λ name. place_of name (names_in f)) (filter (λ name. not (bytes_eq d.name name)) (mentioned f d)));
      }

    small-declared : All (IsSmallDeclaration most_bytes) (declared_in f)
    small-declared = all-firsts (λ d. d.name) (IsSmallDeclaration most_bytes) [] f.declarations small.each_declaration

    pub rows-sound : All (IsSoundRow (length (names_in f)) (length f.blocks)) (map (row_of f) (declared_in f))
    rows-sound =
        All-map (IsSoundRow (length (names_in f)) (length f.blocks)) (row_of f) (declared_in f)
        (λ k d h. row-sound (slice_index_or (declared_in f) k d) (some-name k h) (small-declared k d h))

    pub names-named : All (λ name. is_name name ≡ true) (names_in f)
    names-named =
        All-map (λ name. is_name name ≡ true) (λ d. d.name) (declared_in f)
        (All-weaker (IsSmallDeclaration most_bytes) (λ d. is_name d.name ≡ true) (λ d h. h.named) (declared_in f) small-declared)

    pub names-short : All IsShort (names_in f)
    names-short =
        All-map IsShort (λ d. d.name) (declared_in f)
        (All-weaker (IsSmallDeclaration most_bytes) (λ d. IsShort d.name) (λ d h. h.name) (declared_in f) small-declared)
